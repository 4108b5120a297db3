use Rattle.std.proofs.Common.{[], true}
use Rattle.wk_request_rules.specs.Reading.{requested}
use Rattle.wk_script.proofs.Acting.{declined}
use Rattle.wk_script.proofs.api.api.Goals as goal

pub returns-in-Err : goal.returns-in-Err
returns-in-Err g c =
    declined _ _ c.args.wiki.now c.args.tickets.now.items _ (requested c.args.query.now [] true) c.in-Err.refusal c.declined.result
    c.requires.holds c.in-Err.ensures.err (rw c.point.ensures at c.declined.ensures)
