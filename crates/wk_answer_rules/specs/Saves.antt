-- What is told of a save (MediaWiki's API:Edit and API:Delete; that the revision before is told of both is own).
use Rattle.std.specs.Prelude.{ℕ, ◌+◌, nat_lt, true, List, [], ◌∷◌, codes, Option, Some, None, if◌then◌else◌}
use Rattle.serde_json.specs.Data.{boolean, string}
use Rattle.wk_text_rules.specs.Titles.{PageTitle, shown}
use Rattle.wk_page_rules.specs.Verdict.{EditAsked, MostHeld, Verdict, refuse, no_change, accept, body_bytes, max_text, real_title}
use Rattle.wk_wiki_rules.specs.States.{State}
use Rattle.wk_wiki_rules.specs.Events.{Event}
use Rattle.wk_wiki_rules.specs.Verdicts.{verdict_in, event_of}
use Rattle.wk_wiki_rules.specs.SaveOutcomes.{SaveNumbers, SaveOutcome, created, changed, unchanged, save_outcome, deletion}
use Rattle.wk_answer_rules.specs.Values.{ApiReply, whole, Entries, object_of, reply_beside}
use Rattle.wk_answer_rules.specs.ApiErrors.{ApiError, contenttoobig, invalidtitle, save_error, api_error}
use Rattle.wk_answer_rules.specs.Transforms.{transformed_edit}

-- a reply, and the event that the request makes, if it makes one
pub record Answered : Type 0 where
  pub reply : ApiReply
  pub event : Option Event

-- a reply without an event, at the point that the journal has
abbrev pub shown_at : ℕ → Entries → Answered
shown_at point entries = record { reply = reply_beside entries point; event = None }

abbrev pub failed_at : ℕ → ApiError → Answered
failed_at point error = record { reply = api_error error point; event = None }

-- ---- the values

-- the page, and that all went well
abbrev pub saved_entries : PageTitle → ℕ → Entries
saved_entries title page =
    (codes "pageid", whole page) ∷ (codes "result", string (codes "Success")) ∷ (codes "title", string (shown title)) ∷ []

abbrev pub changed_entries : PageTitle → SaveNumbers → Entries
changed_entries title numbers =
    (codes "newrevid", whole numbers.new) ∷ (codes "oldrevid", whole numbers.old) ∷ saved_entries title numbers.page

-- `new` stands only where the page was missing, `nochange` only where it has the text already
abbrev pub entries_of_edit : SaveOutcome → Entries
entries_of_edit (created title numbers) = (codes "new", boolean true) ∷ changed_entries title numbers
entries_of_edit (changed title numbers) = changed_entries title numbers
entries_of_edit (unchanged title page) = (codes "nochange", boolean true) ∷ saved_entries title page

abbrev pub edit_entries : SaveOutcome → Entries
edit_entries outcome = (codes "edit", object_of (entries_of_edit outcome)) ∷ []

abbrev pub entries_of_deletion : PageTitle → SaveNumbers → Entries
entries_of_deletion title numbers =
    (codes "oldrevid", whole numbers.old) ∷ (codes "revid", whole numbers.new) ∷ (codes "title", string (shown title)) ∷ []

-- a deletion always changes a page that exists, so of the three only the second is met
abbrev pub entries_of_delete : SaveOutcome → Entries
entries_of_delete (created title numbers) = entries_of_deletion title numbers
entries_of_delete (changed title numbers) = entries_of_deletion title numbers
entries_of_delete (unchanged title page) = saved_entries title page

abbrev pub delete_entries : SaveOutcome → Entries
delete_entries outcome = (codes "delete", object_of (entries_of_delete outcome)) ∷ []

-- ---- the answers

-- what is told of an outcome, where there is one
abbrev pub outcome_entries : (SaveOutcome → Entries) → Option SaveOutcome → Entries
outcome_entries entries_of None = []
outcome_entries entries_of (Some outcome) = entries_of outcome

-- By the verdict: a refusal, or that nothing changes; or the save's event, which is in the journal when it is told.
abbrev pub save_answer : (SaveOutcome → Entries) → State → ℕ → ℕ → Verdict → Answered
save_answer entries_of state journal moment (refuse refusal) = failed_at journal (save_error refusal)
save_answer entries_of state journal moment (no_change title) =
    shown_at journal (outcome_entries entries_of (save_outcome state.history (no_change title)))
save_answer entries_of state journal moment (accept title text) = record {
  reply = reply_beside (outcome_entries entries_of (save_outcome state.history (accept title text))) (journal + 1);
  event = event_of (accept title text) moment;
}

abbrev pub edit_answer : MostHeld → State → ℕ → ℕ → EditAsked → Answered
edit_answer most state journal moment edit =
    save_answer edit_entries state journal moment (verdict_in most state journal edit)

-- An edit whose text is transformed: a title that names no page, and a text that is too long as it is given, come first. Then
-- the edit of what the text becomes is judged as any other, in the same state.
abbrev pub subst_answer : MostHeld → State → ℕ → ℕ → EditAsked → Answered
subst_answer most state journal moment edit = elim (real_title edit.title) [
  | None ↦ failed_at journal invalidtitle
  | Some title ↦
      if nat_lt max_text (body_bytes edit.body) then failed_at journal contenttoobig
      else edit_answer most state journal moment (transformed_edit state edit)
]

abbrev pub delete_answer : MostHeld → State → ℕ → ℕ → List ℕ → Option ℕ → Answered
delete_answer most state journal moment title base =
    save_answer delete_entries state journal moment (verdict_in most state journal (deletion title base))
