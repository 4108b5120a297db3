-- A draft of the present world shows what the rules show of the page.
use Rattle.std.proofs.Common.{◌≡◌, ◌≢◌, ℕ, ◌≤◌, true, not, if◌then◌else◌, length, List, Option, None, Some, sym, ap, subst, ◌∙◌}
use Rattle.std.specs.Prelude.{◌==◌, unwrap_or}
use Rattle.std.proofs.lemmas.Bool.{le-ltb, ne_eqb}
use Rattle.wk_text_rules.specs.Marked.{text_of}
use Rattle.wk_text_rules.specs.Titles.{PageTitle}
use Rattle.wk_page_rules.specs.History.{History, current_revision, page_exists, page_number}
use Rattle.wk_page_rules.specs.PageRows.{PageRows}
use Rattle.wk_view_rules.specs.Rows.{rows}
use Rattle.wk_view_rules.specs.Worlds.{Agrees, World, of_world}
use Rattle.wk_wiki_rules.specs.States.{State, world_of}
use Rattle.wk_wiki_rules.specs.Passes.{drafted_in, shown_number}
use Rattle.wk_page_rules.specs.Verdict.{max_text}
use Rattle.wk_answer_rules.specs.Values.{reply_beside}
use Rattle.wk_answer_rules.specs.ApiErrors.{contenttoobig}
use Rattle.wk_answer_rules.specs.Pages.{expand_entries, expanded_in, fails, page_shown, shows, text_shown}
use Rattle.wk_listings.specs.Replied.{value_at}
use Rattle.wk_expand.specs.Drafts.{DraftShown}
use Rattle.wk_live.specs.Drafted.{IsPresent}
use Rattle.wk_revs.specs.Standing.{standing}
use Rattle.wk_revs.specs.declared.standing.Standing.{Standing}

-- the number of a page that exists
pub number-shown : (h : History) (title : PageTitle) (s : Standing) → s ≡ standing h title → s.current ≢ 0 → unwrap_or s.page 0 ≡ shown_number h title
number-shown h title s is some =
    let exists : page_exists h title ≡ true = sym (ap (λ (x : Standing). not (x.current == 0)) is) ∙ ap not (ne_eqb s.current 0 some) in
    ap (λ (x : Standing). unwrap_or x.page 0) is ∙ sym (ap (λ b. if b then unwrap_or (page_number h title) 0 else 0) exists)

pub text-shown : (pages : World) (title : PageTitle) (given : Option (List ℕ)) (d : DraftShown) → IsPresent pages title given d → text_of d.expanded.out ≡ text_shown (drafted_in pages title given)
text-shown pages title given d present = sym (ap text_shown present.drafted)

pub page-shown : (state : State) (title : PageTitle) (number revision : ℕ) (text : List ℕ) (found : PageRows) (d : DraftShown) → IsPresent (world_of state) title None d
    → number ≡ shown_number state.history title → revision ≡ current_revision state.history title → text ≡ text_of d.expanded.out
    → ((pages : World) → Agrees (of_world pages) d.reads → found ≡ rows pages d.page)
    → record { title = title; number = number; revision = revision; text = text; rows = found } ≡ page_shown state title
page-shown state title number revision text found d present of_number of_revision of_text of_rows =
    let texts : text ≡ text_shown (drafted_in (world_of state) title None) = of_text ∙ text-shown (world_of state) title None d present in
    let all : found ≡ rows (world_of state) title = of_rows (world_of state) present.answered ∙ ap (rows (world_of state)) present.page_is in
    λ i. record { title = title; number = of_number i; revision = of_revision i; text = texts i; rows = all i }

pub text-told : (state : State) (title : PageTitle) (text given out : List ℕ) (point : ℕ) (d : DraftShown) → length text ≤ max_text → given ≡ text
    → IsPresent (world_of state) title (Some given) d → out ≡ text_of d.expanded.out → (reply_beside (expand_entries out) point).value ≡ value_at point (expanded_in state text title)
text-told state title text given out point d short given_is present out_is =
    let present_text : IsPresent (world_of state) title (Some text) d = subst (λ t. IsPresent (world_of state) title (Some t) d) given_is present in
    let texts : out ≡ text_shown (drafted_in (world_of state) title (Some text)) = out_is ∙ text-shown (world_of state) title (Some text) d present_text in
    ap (λ t. (reply_beside (expand_entries t) point).value) texts
    ∙ ap (λ b. value_at point (if b then fails contenttoobig else shows (expand_entries (text_shown (drafted_in (world_of state) title (Some text)))))) (sym (le-ltb max_text (length text) short))
