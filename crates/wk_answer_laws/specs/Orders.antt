-- The errors of a save in the order of the table, each with the condition under which it comes.
use Rattle.std.specs.Prelude.{ℕ, ◌+◌, Bool, ◌&&◌, ◌||◌, not, nat_lt, nat_le, List, [], ◌∷◌, length, Option, Some, None, is_none, option_map, if◌then◌else◌}
use Rattle.wk_text_rules.specs.Titles.{PageTitle}
use Rattle.wk_page_rules.specs.History.{History, current_revision, page_exists, page_number, text_bytes}
use Rattle.wk_page_rules.specs.Kept.{kept}
use Rattle.wk_page_rules.specs.Verdict.{EditAsked, MostHeld, body_bytes, max_text, is_conflict, is_journal_full}
use Rattle.wk_page_rules.specs.declared.Limit.TheVariants.{Pages, Revisions, Text}
use Rattle.wk_wiki_rules.specs.States.{State}
use Rattle.wk_wiki_rules.specs.Verdicts.{journal_use}
use Rattle.wk_answer_rules.specs.ApiErrors.{ApiError, contenttoobig, articleexists, missingtitle, editconflict, wikifull, journalfull}

-- the first whose condition holds
abbrev pub first_error : List (Bool × ApiError) → Option ApiError
first_error [] = None
first_error ((holds, error) ∷ later) = let next = first_error later in if holds then Some error else next

-- what an edit of a title is refused for, whatever it would change
abbrev pub errors_of_an_edit : History → EditAsked → PageTitle → List (Bool × ApiError)
errors_of_an_edit h edit title =
    let body = option_map kept edit.body in
    (nat_lt max_text (body_bytes body), contenttoobig)
    ∷ (edit.create_only && page_exists h title, articleexists)
    ∷ ((edit.no_create || is_none body) && not (page_exists h title), missingtitle)
    ∷ (is_conflict edit.base (current_revision h title), editconflict (current_revision h title))
    ∷ []

-- what an edit that changes the page is refused for besides
abbrev pub errors_of_a_change : MostHeld → State → ℕ → EditAsked → PageTitle → List (Bool × ApiError)
errors_of_a_change most state journal edit title =
    let h = state.history in
    (is_none (page_number h title) && nat_le most.pages (length h.pages), wikifull Pages)
    ∷ (nat_le most.revisions (length h.revisions), wikifull Revisions)
    ∷ (nat_lt most.text (text_bytes h + body_bytes (option_map kept edit.body)), wikifull Text)
    ∷ (is_journal_full most (journal_use state journal), journalfull)
    ∷ []
