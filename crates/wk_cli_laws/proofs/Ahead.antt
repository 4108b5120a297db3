-- How many pages all fan jobs have still to serve.
use Rattle.std.proofs.Common.{ℕ, ◌-◌, ◌*◌, ◌≤◌, List, [], ◌∷◌, length, arith}
use Rattle.std.proofs.Math.Nat.{suc-mul}
use Rattle.std.proofs.lemmas.List.Sums.{sum_by-cons}
use Rattle.std.specs.Prelude.{sum_by}
use Rattle.wk_wiki_rules.specs.Jobs.{FanEntry}
use Rattle.wk_wiki_rules.specs.States.{State}
use Rattle.wk_wiki_laws.specs.Numbers.{pages_ahead}

ahead : (pages : ℕ) (fans : List FanEntry) → sum_by (λ (fan : FanEntry). pages - fan.cursor) fans ≤ length fans * pages
ahead pages [] = omega arith
ahead pages (fan ∷ fans) =
    let one_more = sum_by-cons (λ (fan : FanEntry). pages - fan.cursor) fan fans in
    let product = suc-mul (length fans) pages in
    omega (arith, one_more, product, ahead pages fans)

pub pages-ahead : (state : State) → pages_ahead state ≤ length state.jobs.fans * length state.history.pages
pages-ahead state = ahead (length state.history.pages) state.jobs.fans
