use Rattle.std.proofs.Common.{◌≡◌, ◌-◌, ℕ, zero, suc, false, eqb, refl, arith, ◌∷◌, []}
use Rattle.std.specs.Prelude.{slice_get, unwrap_or}
use Rattle.std.proofs.lemmas.Bool.{ne_eqb}
use Rattle.wk_page_rules.specs.declared.Reach.TheVariants.{Both}
use Rattle.wk_page_rules.specs.PageRows.{no_rows, names}
use Rattle.wk_wiki_rules.specs.StateComputing.{computing}
use Rattle.wk_wiki_laws.specs.FanRuns.{ends, goes_on}
use Rattle.wk_examples.specs.Queues.{fan}
use Rattle.wk_examples.specs.Stores.{title_t}
use Rattle.wk_examples.specs.Wikis.{users_13}
use Rattle.wk_examples.proofs.runs.fans_that_serve.Goals as goal

pub returns-clause-first : goal.returns-clause-first
returns-clause-first c = refl

pub returns-clause-cursor : goal.returns-clause-cursor
unfolding computing
returns-clause-cursor c = refl

pub returns-clause-one_below : goal.returns-clause-one_below
unfolding computing
returns-clause-one_below c = refl

pub returns-clause-one_above : goal.returns-clause-one_above
unfolding computing
returns-clause-one_above c = refl

behind : (k : ℕ) → names (unwrap_or (slice_get users_13.stored (suc (suc (suc k)))) no_rows) title_t Both ≡ false
unfolding computing
behind zero = refl
behind (suc k) = refl

pub returns-clause-none_above : goal.returns-clause-none_above
returns-clause-none_above c page low =
    let positive : eqb page 0 ≡ false = ne_eqb page 0 (λ none. omega (arith, none, low)) in
    let place : page - 1 ≡ suc (suc (suc (page - 4))) = omega (arith, low) in
    rw (positive, place) (behind (page - 4))

pub returns-clause-run : goal.returns-clause-run
unfolding computing
returns-clause-run c =
    goes_on {next = users_13} {fan = fan 5 title_t Both 0} {pages = 3 ∷ []} refl refl refl
    (ends {fan = fan 5 title_t Both 2} refl refl refl)
