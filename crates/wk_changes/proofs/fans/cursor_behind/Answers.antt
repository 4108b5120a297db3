use Rattle.std.proofs.Common.{ℕ, Option, None, unwrap_or, ap, sym}
use Rattle.wk_changes.proofs.Served.{last-got}
use Rattle.wk_changes.proofs.fans.cursor_behind.Goals as goal

pub returns-in-Some : goal.returns-in-Some
returns-in-Some c = sym (ap (λ (last : Option ℕ). unwrap_or last c.args.cursor) (last-got None c.args.served.now c.in-Some.page.now (sym c.in-Some.ensures.value)))
