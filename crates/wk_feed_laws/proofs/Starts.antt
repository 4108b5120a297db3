-- The states that a feed can begin with.
use Rattle.std.proofs.Common.{◌≡◌, cond, eqb, refl, ◌∙◌, arith}
use Rattle.wk_table_rules.specs.Rows.{StoreTables}
use Rattle.wk_table_rules.specs.GoodStore.{IsGood}
use Rattle.wk_wiki_rules.specs.States.{State, no_state}
use Rattle.wk_wiki_rules.specs.Lives.{all_refreshed, opened, reopened}
use Rattle.wk_wiki_rules.specs.Tables.{state_of}
use Rattle.wk_wiki_laws.specs.Kept.{IsKept}
use Rattle.wk_wiki_laws.proofs.GoodJobs.{IsKept-opened}
use Rattle.wk_wiki_laws.proofs.KeptStates.{IsGood-kept, IsKept-none, IsKept-reopened}
use Rattle.wk_wiki_laws.proofs.ReadBack.{opened-is}
use Rattle.wk_wiki_laws.proofs.StoresOpened.{reopened-again}
use Rattle.wk_feed_laws.specs.Fits.{CanStart, HasNumbers}

can-start : (from : State) → IsKept from → reopened from ≡ from → HasNumbers from → CanStart from
can-start from kept again numbers = record { good = IsGood-kept from kept; opened = opened-is from kept ∙ again; numbers = numbers }

pub can-none : CanStart no_state
can-none = can-start no_state IsKept-none refl (record { moments = tt; few = omega arith })

pub can-opened : (tables : StoreTables) → IsGood tables → HasNumbers (opened tables) → CanStart (opened tables)
can-opened tables good numbers = can-start (opened tables) (IsKept-opened tables good) (reopened-again (cond (eqb tables.version 1) (all_refreshed (state_of tables)) (state_of tables))) numbers

pub can-reopened : (state : State) → IsKept state → HasNumbers (reopened state) → CanStart (reopened state)
can-reopened state kept numbers = can-start (reopened state) (IsKept-reopened state kept) (reopened-again state) numbers
