-- A save is asked for exactly where a wiki is changed by the answer, and a text to transform is one of a save.
use Rattle.std.proofs.Common.{◌≡◌, Bool, true, false, cond, ℕ, List, Some, None, refl}
use Rattle.wk_request_rules.specs.Requests.{Ask, edit, delete, parse, expand_text, backlinks, embedded, members, changes, revisions, tokens, site_info, Request, asks_to_save, edited_text, text_to_transform}
use Rattle.wk_request.specs.Asked.{asked_of, save_of, read_of, list_of, site_of}
use Rattle.wk_request.specs.declared.asked.Asked.{Asked}
use Rattle.wk_request.specs.declared.asked.Asked.TheVariants as one
use Rattle.wk_request.specs.declared.asked.SaveAsked.{SaveAsked}
use Rattle.wk_request.specs.declared.asked.SaveAsked.TheVariants.{Edit, Delete}
use Rattle.wk_request.specs.declared.asked.ReadAsked.{ReadAsked}
use Rattle.wk_request.specs.declared.asked.ReadAsked.TheVariants.{Page, Text}
use Rattle.wk_request.specs.declared.asked.ListAsked.{ListAsked}
use Rattle.wk_request.specs.declared.asked.ListAsked.TheVariants.{Backlinks, Embedded, Members, Changes, Revisions}
use Rattle.wk_request.specs.declared.asked.SiteAsked.{SiteAsked}
use Rattle.wk_request.specs.declared.asked.SiteAsked.TheVariants.{Tokens, Info}

pub save-saves : (asked : SaveAsked) → asks_to_save (save_of asked) ≡ true
save-saves (Edit asked) = refl
save-saves (Delete title base) = refl

pub read-saves-none : (asked : ReadAsked) → asks_to_save (read_of asked) ≡ false
read-saves-none (Page page) = refl
read-saves-none (Text text title) = refl

pub list-saves-none : (asked : ListAsked) → asks_to_save (list_of asked) ≡ false
list-saves-none (Backlinks listing) = refl
list-saves-none (Embedded listing) = refl
list-saves-none (Members listing) = refl
list-saves-none (Changes listing) = refl
list-saves-none (Revisions listing content) = refl

pub site-saves-none : (asked : SiteAsked) → asks_to_save (site_of asked) ≡ false
site-saves-none Tokens = refl
site-saves-none Info = refl

-- what is no save asks for none
pub other-saves-none : (asked : Asked) → ((save : SaveAsked) → asked ≡ one.Save save → ⊥) → asks_to_save (asked_of asked) ≡ false
other-saves-none (one.Save save) other = absurd (other save refl)
other-saves-none (one.Read read) other = read-saves-none read
other-saves-none (one.List list) other = list-saves-none list
other-saves-none (one.Site site) other = site-saves-none site

-- what asks for no save gives no text to transform
reads-give-none : (flag : Bool) (ask : Ask) → asks_to_save ask ≡ false → cond flag (edited_text ask) None ≡ None
reads-give-none false ask reads = refl
reads-give-none true (edit asked) reads = absurd cc
reads-give-none true (delete title base) reads = refl
reads-give-none true (parse page) reads = refl
reads-give-none true (expand_text text page) reads = refl
reads-give-none true (backlinks listing) reads = refl
reads-give-none true (embedded listing) reads = refl
reads-give-none true (members listing) reads = refl
reads-give-none true (changes listing) reads = refl
reads-give-none true (revisions listing content) reads = refl
reads-give-none true tokens reads = refl
reads-give-none true site_info reads = refl

pub read-transforms-none : (request : Request) → asks_to_save request.ask ≡ false → text_to_transform request ≡ None
read-transforms-none request reads = reads-give-none request.subst request.ask reads

-- a text to transform is one of a save
gives-saves : (flag : Bool) (ask : Ask) (text : List ℕ) → cond flag (edited_text ask) None ≡ Some text → asks_to_save ask ≡ true
gives-saves false ask text is = absurd (let none : None ≡ Some text = is in cc)
gives-saves true (edit asked) text is = refl
gives-saves true (delete title base) text is = refl
gives-saves true (parse page) text is = absurd (let none : None ≡ Some text = is in cc)
gives-saves true (expand_text given page) text is = absurd (let none : None ≡ Some text = is in cc)
gives-saves true (backlinks listing) text is = absurd (let none : None ≡ Some text = is in cc)
gives-saves true (embedded listing) text is = absurd (let none : None ≡ Some text = is in cc)
gives-saves true (members listing) text is = absurd (let none : None ≡ Some text = is in cc)
gives-saves true (changes listing) text is = absurd (let none : None ≡ Some text = is in cc)
gives-saves true (revisions listing content) text is = absurd (let none : None ≡ Some text = is in cc)
gives-saves true tokens text is = absurd (let none : None ≡ Some text = is in cc)
gives-saves true site_info text is = absurd (let none : None ≡ Some text = is in cc)

pub transform-saves : (request : Request) (text : List ℕ) → text_to_transform request ≡ Some text → asks_to_save request.ask ≡ true
transform-saves request text is = gives-saves request.subst request.ask text is
