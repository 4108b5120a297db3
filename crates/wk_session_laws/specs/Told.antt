-- What is told of a session (own). A point is the length of a journal, and a place is one less.
use Rattle.std.specs.Prelude.{◌≡◌, ◌⊎◌, ℕ, ◌≤◌, Bool, List, [], ◌∷◌, slice_get, Some}
use Rattle.wk_wiki_rules.specs.States.{State}
use Rattle.wk_wiki_rules.specs.Events.{Event}
use Rattle.wk_wiki_rules.specs.Entries.{is_save}
use Rattle.wk_wiki_rules.specs.Passes.{PassSeen, state_seen}
use Rattle.wk_request_rules.specs.Requests.{Ask}
use Rattle.wk_answer_rules.specs.Answers.{read_at}
use Rattle.wk_answer_rules.specs.ApiErrors.{api_error, nomemory}
use Rattle.wk_answer_rules.specs.Pages.{parse_answer}
use Rattle.wk_answer_rules.specs.Values.{ApiReply}
use Rattle.wk_answer_laws.specs.Substituted.{IsSubstitutedSave}

-- the numbers don't fall, and the first is no less than this one
abbrev pub NeverFall : ℕ → List ℕ → Type 0
NeverFall low [] = Unit {0}
NeverFall low (point ∷ points) = (low ≤ point) × NeverFall point points

-- the entry at this place is a save, or is none
pub record IsEntry (pass : PassSeen) (saves : Bool) (place : ℕ) : Type 0 where
  pub event : Event
  pub there : slice_get pass.journal place ≡ Some event
  pub kind : is_save event ≡ saves

-- each of the places has such an entry
abbrev pub AreEntries : PassSeen → Bool → List ℕ → Type 0
AreEntries pass saves [] = Unit {0}
AreEntries pass saves (place ∷ places) = IsEntry pass saves place × AreEntries pass saves places

-- The entry at this place is the save of what this text becomes in the state at the point before it.
pub record IsTransformed (pass : PassSeen) (ask : Ask) (text : List ℕ) (moment place : ℕ) : Type 0 where
  pub state : State
  pub stands : state_seen pass place ≡ Some state
  pub event : Event
  pub there : slice_get pass.journal place ≡ Some event
  pub saves : IsSubstitutedSave ask state text moment event

-- each of the places has such an entry
abbrev pub AreTransformed : PassSeen → Ask → List ℕ → ℕ → List ℕ → Type 0
AreTransformed pass ask text moment [] = Unit {0}
AreTransformed pass ask text moment (place ∷ places) = IsTransformed pass ask text moment place × AreTransformed pass ask text moment places

-- A page was parsed in the state at the point, or memory was wanting.
pub record IsParsed (pass : PassSeen) (from : ℕ) (page : List ℕ) (reply : ApiReply) : Type 0 where
  pub since : from ≤ reply.point
  pub state : State
  pub stands : state_seen pass reply.point ≡ Some state
  pub told : reply ≡ (read_at reply.point (parse_answer state page)).reply

abbrev pub IsParsedOrStarved : PassSeen → ℕ → List ℕ → ApiReply → Type 0
IsParsedOrStarved pass from page reply = IsParsed pass from page reply ⊎ (reply ≡ api_error nomemory reply.point)
