use Rattle.std.proofs.Common.{◌≡◌, rules, true}
use Rattle.wk_sqltables.proofs.Inside.{on_ok}
use Rattle.wk_sqlkeeper.specs.Rising.{change_rises}
use Rattle.wk_sqlkeeper.proofs.RisingLists.{change_is_ordered}
use Rattle.wk_sqlkeeper.proofs.changes.make_change.Goals as goal

pub returns-clause-made : goal.returns-clause-made
returns-clause-made g c clean =
    let rising : change_rises c.args.change.now ≡ true = search rules in
    on_ok c.make_change.result (c.make_change.ensures.made clean) (λ makes. makes (change_is_ordered c.args.change.now rising))
