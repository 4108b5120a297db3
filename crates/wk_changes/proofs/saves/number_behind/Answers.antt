use Rattle.std.proofs.Common.{◌≡◌, ℕ, ◌+◌, true, false, ap}
use Rattle.wk_wiki_rules.specs.Jobs.{has_refresh}
use Rattle.wk_changes.proofs.HeldJob.{has-is}
use Rattle.wk_changes.proofs.saves.number_behind.Goals as goal

pub returns-then-is_some : goal.returns-then-is_some
returns-then-is_some c =
    let is = has-is c.args.jobs.now.lists c.args.page in
    let has : has_refresh c.args.jobs.now.lists c.args.page ≡ true = cc in
    rw has c.next_number.ensures.next

pub returns-else-is_some : goal.returns-else-is_some
returns-else-is_some c =
    let is = has-is c.args.jobs.now.lists c.args.page in
    let has : has_refresh c.args.jobs.now.lists c.args.page ≡ false = cc in
    rw has (ap (λ (n : ℕ). n + 1) c.next_number-else-is_some.ensures.next)
