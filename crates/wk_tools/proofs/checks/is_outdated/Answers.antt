use Rattle.wk_tools.proofs.Outdated.{outdated-is}
use Rattle.wk_tools.proofs.checks.is_outdated.Goals as goal

pub returns : goal.returns
returns c = outdated-is c.args.live.now.state c.args.page c.args.title.now c.in_ok-present.present c.are_stored.result c.in_ok-present.ensures c.are_stored.ensures
