-- What each request is answered in a state, and the event that it makes (own, in the style of MediaWiki's API:Main page).
use Rattle.std.specs.Prelude.{ℕ, Bool, nat_lt, List, if◌then◌else◌}
use Rattle.wk_page_rules.specs.Verdict.{MostHeld}
use Rattle.wk_wiki_rules.specs.States.{State}
use Rattle.wk_request_rules.specs.Requests.{Ask, edit, delete, parse, expand_text, backlinks, embedded, members, changes, revisions, tokens, site_info, Request, ParsedRequest, valid, invalid}
pub use Rattle.wk_request_rules.specs.Requests.{asks_to_save}
use Rattle.wk_request_rules.specs.Reading.{requested}
use Rattle.wk_answer_rules.specs.ApiErrors.{futurepoint, request_error}
use Rattle.wk_answer_rules.specs.Pages.{ReadAnswer, shows, fails, parse_answer, expand_answer, tokens_entries, site_entries}
use Rattle.wk_answer_rules.specs.Lists.{backlinks_answer, embedded_answer, members_answer, changes_answer, revisions_answer}
use Rattle.wk_answer_rules.specs.Saves.{Answered, shown_at, failed_at, edit_answer, subst_answer, delete_answer}

-- a read makes no event
abbrev pub read_at : ℕ → ReadAnswer → Answered
read_at journal (shows entries) = shown_at journal entries
read_at journal (fails error) = failed_at journal error

-- The answer to what is asked in this state, behind a journal of this length, at this moment.
abbrev pub answer_to_ask : MostHeld → State → ℕ → ℕ → Ask → Answered
answer_to_ask most state journal moment (edit asked) = edit_answer most state journal moment asked
answer_to_ask most state journal moment (delete title base) = delete_answer most state journal moment title base
answer_to_ask most state journal moment (parse page) = read_at journal (parse_answer state page)
answer_to_ask most state journal moment (expand_text text page) = read_at journal (expand_answer state text page)
answer_to_ask most state journal moment (backlinks listing) = read_at journal (backlinks_answer state listing)
answer_to_ask most state journal moment (embedded listing) = read_at journal (embedded_answer state listing)
answer_to_ask most state journal moment (members listing) = read_at journal (members_answer state listing)
answer_to_ask most state journal moment (changes listing) = read_at journal (changes_answer state listing)
answer_to_ask most state journal moment (revisions listing content) = read_at journal (revisions_answer state listing content)
answer_to_ask most state journal moment tokens = shown_at journal tokens_entries
answer_to_ask most state journal moment site_info = shown_at journal (site_entries state)

-- The same where an edit's text is to be transformed; nothing else heeds that.
abbrev pub answer_with_subst : MostHeld → State → ℕ → ℕ → Ask → Answered
answer_with_subst most state journal moment (edit asked) = subst_answer most state journal moment asked
answer_with_subst most state journal moment ask = answer_to_ask most state journal moment ask

-- a request is answered where the journal is as long as its least point
unfoldable pub answer_to_request : MostHeld → State → ℕ → ℕ → Request → Answered
answer_to_request most state journal moment request =
    if nat_lt journal request.least then failed_at journal (futurepoint journal)
    else if request.subst then answer_with_subst most state journal moment request.ask
    else answer_to_ask most state journal moment request.ask

-- The first refusal, else the answer: of parameters, then of the point, then of what is asked.
abbrev pub answer_to_parsed : MostHeld → State → ℕ → ℕ → ParsedRequest → Answered
answer_to_parsed most state journal moment (invalid refusal) = failed_at journal (request_error refusal)
answer_to_parsed most state journal moment (valid request) = answer_to_request most state journal moment request

-- what a query and a body are answered with, posted or not
abbrev pub act : MostHeld → State → ℕ → ℕ → List ℕ → List ℕ → Bool → Answered
act most state journal moment query body posted = answer_to_parsed most state journal moment (requested query body posted)
