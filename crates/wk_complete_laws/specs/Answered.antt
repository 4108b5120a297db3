-- What requests are answered where no store fails and memory doesn't run out (own). A point is the length of a journal.
use Rattle.std.specs.Prelude.{◌≡◌, ℕ, List, [], ◌∷◌, Option, Some, None, IfSome, slice_get}
use Rattle.wk_text_rules.specs.Titles.{PageTitle}
use Rattle.wk_wiki_rules.specs.States.{State}
use Rattle.wk_wiki_rules.specs.Events.{Event}
use Rattle.wk_wiki_rules.specs.Passes.{PassSeen}
use Rattle.wk_request_rules.specs.Requests.{ParsedRequest}
use Rattle.wk_answer_rules.specs.ApiErrors.{api_error, nomemory}
use Rattle.wk_answer_rules.specs.Pages.{page_shown, parse_entries}
use Rattle.wk_answer_rules.specs.Saves.{shown_at}
use Rattle.wk_answer_rules.specs.Values.{ApiReply}
use Rattle.wk_session_rules.specs.Points.{IsStateAt}
use Rattle.wk_session_rules.specs.Replies.{answer_at}

-- the place of the entry behind a point, if there is one
abbrev pub place_of : Option Event → ℕ → List ℕ
place_of None point = []
place_of (Some event) point = point ∷ []

-- The reply is the one of the rules in the state at a point that the pass has seen, no older than what it had seen before; the
-- event that they make, if they make one, is the entry behind that point, and it alone was made.
pub record IsByTheRules (old new : PassSeen) (parsed : ParsedRequest) (moments : List ℕ) (reply : ApiReply) (made : List ℕ) : Type 0 where
  pub at : ℕ
  pub state : State
  pub stands : IsStateAt old new at state
  pub told : reply ≡ (answer_at new state at moments parsed).reply
  pub entry : IfSome (answer_at new state at moments parsed).event (λ event. slice_get new.journal at ≡ Some event)
  pub alone : made ≡ place_of (answer_at new state at moments parsed).event at

-- The reply shows a page, as it is in the state at the point that the reply shows.
pub record ShowsPage (old new : PassSeen) (title : PageTitle) (reply : ApiReply) : Type 0 where
  pub state : State
  pub stands : IsStateAt old new reply.point state
  pub told : reply ≡ (shown_at reply.point (parse_entries (page_shown state title))).reply

-- Memory ran out: the reply says so, at a point that the pass has seen, no older than what it had seen before, and nothing was made.
pub record IsStarved (old new : PassSeen) (reply : ApiReply) (made : List ℕ) : Type 0 where
  pub state : State
  pub stands : IsStateAt old new reply.point state
  pub told : reply ≡ api_error nomemory reply.point
  pub nothing : made ≡ []
