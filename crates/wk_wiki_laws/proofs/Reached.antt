-- What holds of each state that calls with full limits reach.
use Rattle.std.proofs.Common.{◌≡◌, sym, subst}
use Rattle.wk_table_rules.specs.GoodStore.{IsGood}
use Rattle.wk_wiki_rules.specs.States.{State}
use Rattle.wk_wiki_rules.specs.Tables.{tables_of, state_of}
use Rattle.wk_wiki_rules.specs.Lives.{reopened, opened}
use Rattle.wk_wiki_rules.specs.Soundness.{IsSound}
use Rattle.wk_wiki_laws.specs.Reached.{IsReached, empty, loaded, stepped, restarted}
use Rattle.wk_wiki_laws.specs.Kept.{IsKept}
use Rattle.wk_wiki_laws.proofs.Sound.{IsSound-reopened}
use Rattle.wk_wiki_laws.proofs.KeptStates.{IsKept-none, IsKept-step, IsKept-reopened, IsGood-kept}
use Rattle.wk_wiki_laws.proofs.GoodJobs.{IsKept-opened}
use Rattle.wk_wiki_laws.proofs.ReadBack.{state-back, opened-is}

pub IsKept-reached : (state : State) → IsReached state → IsKept state
IsKept-reached state empty = IsKept-none
IsKept-reached state (loaded tables good) = IsKept-opened tables good
IsKept-reached state (stepped {most = most} {state = before} {journal = journal} {event = event} served reached full made done) =
    IsKept-step most served before state journal event full made done (IsKept-reached before reached)
IsKept-reached state (restarted {state = before} reached) = IsKept-reopened before (IsKept-reached before reached)

pub IsGood-reached : (state : State) → IsReached state → IsGood (tables_of state)
IsGood-reached state reached = IsGood-kept state (IsKept-reached state reached)

pub state_of-reached : (state : State) → IsReached state → state_of (tables_of state) ≡ reopened state
state_of-reached state reached = state-back state (IsKept-reached state reached)

pub opened-reached : (state : State) → IsReached state → opened (tables_of state) ≡ reopened state
opened-reached state reached = opened-is state (IsKept-reached state reached)

pub IsSound-reached : (state : State) → IsReached state → IsSound state → IsSound (opened (tables_of state))
IsSound-reached state reached sound = subst IsSound (sym (opened-reached state reached)) (IsSound-reopened state sound)
