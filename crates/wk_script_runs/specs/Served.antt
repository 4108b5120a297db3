-- What the lines of a script do to a wiki, the sink, the clock and the points (own).
use Rattle.std.specs.Prelude.{◌≡◌, ℕ, suc, ◌+◌, ◌-◌, ◌^◌, ◌≤◌, min, List, [], ◌∷◌, ◌++◌, map, Option, is_some}
use Rattle.std.specs.Io.KnownBytes.{Appends}
use Rattle.wk_base.specs.Clock.{Ticks}
use Rattle.wk_base.specs.Writing.{AppendsPrefix}
use Rattle.wk_table_rules.specs.Rows.{StoreTables}
use Rattle.wk_core.specs.Seen.{WikiSeen}
use Rattle.wk_answer_rules.specs.ApiErrors.{api_error, storefault}
use Rattle.wk_answer_rules.specs.Values.{ApiReply}
use Rattle.wk_script_rules.specs.WikiScripts.{TicketDraft}
use Rattle.wk_script_rules.specs.Runs.{replies_text}
use Rattle.wk_script_steps.specs.Going.{GoesOnOver}
use Rattle.wk_script_runs.specs.Lives.{Lives}
use Rattle.wk_script_steps.specs.Seen.{Holds, script_of}

-- the clock gives these moments, one after the other
abbrev pub GivesMoments : Option (List ℕ) → Option (List ℕ) → List ℕ → Type 0
GivesMoments left later [] = left ≡ later
GivesMoments left later (moment ∷ moments) = (next : Option (List ℕ)) × Ticks left next moment × GivesMoments next later moments

-- so many of the replies, if not more, tell of a fault of the store
pub data StoreFaults : List ApiReply → ℕ → Type 0 where
  no_replies : StoreFaults [] 0
  one_fault : {reply : ApiReply} {replies : List ApiReply} {n : ℕ} →
      reply ≡ api_error storefault reply.point → StoreFaults replies n → StoreFaults (reply ∷ replies) (suc n)
  passed_over : {reply : ApiReply} {replies : List ApiReply} {n : ℕ} → StoreFaults replies n → StoreFaults (reply ∷ replies) n

-- a count that has risen so often, which stops at the end of its type
abbrev pub risen : ℕ → ℕ → ℕ
risen count n = min (count + n) (2 ^ 64 - 1)

-- Lines were answered by these replies. No more of them tell of a fault of the store than the keeper's count rose.
pub record Served {K : Type 0} (told : K → Option StoreTables) (faults : K → ℕ) (old new : WikiSeen K) (drafts after : List TicketDraft)
    (lines : List (Option (List ℕ))) (left later : Option (List ℕ)) (replies : List ApiReply) : Type 0 where
  pub moments : List ℕ
  pub lives : Lives (is_some (told old.keeper)) old.start.limits (script_of old drafts) lines moments replies (script_of new after)
  pub given : GivesMoments left later moments
  pub holds : Holds new.state after
  pub goes : GoesOnOver told faults old new
  pub failed : (n : ℕ) → StoreFaults replies n → risen (faults old.keeper) n ≤ faults new.keeper

-- the points of replies
abbrev pub points_of : List ApiReply → List ℕ
points_of replies = map (λ reply. reply.point) replies

-- Lines were answered, their points put to the others, and the sink took all of the answers.
pub record Writes {K : Type 0} (told : K → Option StoreTables) (faults : K → ℕ) (old new : WikiSeen K) (drafts after : List TicketDraft)
    (lines : List (Option (List ℕ))) (left later taken more_taken : Option (List ℕ)) (points more_points : List ℕ) : Type 0 where
  pub replies : List ApiReply
  pub served : Served told faults old new drafts after lines left later replies
  pub written : Appends taken more_taken (replies_text replies)
  pub points_are : more_points ≡ points ++ points_of replies

-- the same, but that the sink took a prefix of the answers
pub record WritesInPart {K : Type 0} (told : K → Option StoreTables) (faults : K → ℕ) (old new : WikiSeen K) (drafts after : List TicketDraft)
    (lines : List (Option (List ℕ))) (left later taken more_taken : Option (List ℕ)) (points more_points : List ℕ) : Type 0 where
  pub replies : List ApiReply
  pub served : Served told faults old new drafts after lines left later replies
  pub written : AppendsPrefix taken more_taken (replies_text replies)
  pub points_are : more_points ≡ points ++ points_of replies
