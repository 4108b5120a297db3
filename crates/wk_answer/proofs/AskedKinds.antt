-- Which of what is asked is a save, and which has a text to be transformed.
use Rattle.std.proofs.Common.{◌≡◌, ℕ, Bool, true, false, cond, List, Option, Some, None, refl}
use Rattle.wk_revs.specs.declared.edit.Edit.{Edit as EditValue}
use Rattle.wk_request_rules.specs.Requests.{asks_to_save, edited_text}
use Rattle.wk_request.specs.Asked.{ask_of, asked_of, list_of, read_of, save_of, site_of}
use Rattle.wk_request.specs.declared.request.Ask.{Ask as AskValue}
use Rattle.wk_request.specs.declared.request.Ask.TheVariants as value
use Rattle.wk_request.specs.declared.asked.Asked.{Asked}
use Rattle.wk_request.specs.declared.asked.Asked.TheVariants.{Save, Read, List as Lists, Site}
use Rattle.wk_request.specs.declared.asked.SaveAsked.{SaveAsked}
use Rattle.wk_request.specs.declared.asked.SaveAsked.TheVariants.{Edit, Delete}
use Rattle.wk_request.specs.declared.asked.ReadAsked.{ReadAsked}
use Rattle.wk_request.specs.declared.asked.ReadAsked.TheVariants.{Page, Text}
use Rattle.wk_request.specs.declared.asked.ListAsked.{ListAsked}
use Rattle.wk_request.specs.declared.asked.ListAsked.TheVariants.{Backlinks, Embedded, Members, Changes, Revisions}
use Rattle.wk_request.specs.declared.asked.SiteAsked.{SiteAsked}
use Rattle.wk_request.specs.declared.asked.SiteAsked.TheVariants.{Tokens, Info}

pub save-saves : (asked : SaveAsked) → asks_to_save (save_of asked) ≡ true
save-saves (Edit asked) = refl
save-saves (Delete title base) = refl

read-no-save : (asked : ReadAsked) → asks_to_save (read_of asked) ≡ false
read-no-save (Page page) = refl
read-no-save (Text text title) = refl

list-no-save : (asked : ListAsked) → asks_to_save (list_of asked) ≡ false
list-no-save (Backlinks listing) = refl
list-no-save (Embedded listing) = refl
list-no-save (Members listing) = refl
list-no-save (Changes listing) = refl
list-no-save (Revisions listing content) = refl

site-no-save : (asked : SiteAsked) → asks_to_save (site_of asked) ≡ false
site-no-save Tokens = refl
site-no-save Info = refl

-- what isn't among the saves asks for none
pub others-no-save : (asked : Asked) → ((s : SaveAsked) → asked ≡ Save s → ⊥) → asks_to_save (asked_of asked) ≡ false
others-no-save (Save s) not_save = absurd (not_save s refl)
others-no-save (Read asked) not_save = read-no-save asked
others-no-save (Lists asked) not_save = list-no-save asked
others-no-save (Site asked) not_save = site-no-save asked

-- what has a text to be transformed is an edit
pub transforms-edit : (flag : Bool) (asked : AskValue) (saved : List ℕ) → ((e : EditValue) → asked ≡ value.Edit e → ⊥) → cond flag (edited_text (ask_of asked)) None ≡ Some saved → ⊥
transforms-edit false asked saved not_edit e = let none : None ≡ Some saved = e in cc
transforms-edit true (value.Edit asked) saved not_edit e = not_edit asked refl
transforms-edit true (value.Delete title base) saved not_edit e = let none : None ≡ Some saved = e in cc
transforms-edit true (value.Parse page) saved not_edit e = let none : None ≡ Some saved = e in cc
transforms-edit true (value.Expand text title) saved not_edit e = let none : None ≡ Some saved = e in cc
transforms-edit true (value.Backlinks listing) saved not_edit e = let none : None ≡ Some saved = e in cc
transforms-edit true (value.Embedded listing) saved not_edit e = let none : None ≡ Some saved = e in cc
transforms-edit true (value.Members listing) saved not_edit e = let none : None ≡ Some saved = e in cc
transforms-edit true (value.Changes listing) saved not_edit e = let none : None ≡ Some saved = e in cc
transforms-edit true (value.Revisions listing content) saved not_edit e = let none : None ≡ Some saved = e in cc
transforms-edit true value.Tokens saved not_edit e = let none : None ≡ Some saved = e in cc
transforms-edit true value.SiteInfo saved not_edit e = let none : None ≡ Some saved = e in cc

-- a text to be transformed is there where the flag is set
pub flag-set : (flag : Bool) (text : Option (List ℕ)) (saved : List ℕ) → cond flag text None ≡ Some saved → (flag ≡ true) × (text ≡ Some saved)
flag-set false text saved e = absurd (let none : None ≡ Some saved = e in cc)
flag-set true text saved e = (refl, e)
