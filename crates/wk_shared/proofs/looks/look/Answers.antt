use Rattle.wk_shared.proofs.LookLaws.{looked}
use Rattle.wk_shared.proofs.looks.look.Goals as goal

pub returns-clause-looked : goal.returns-clause-looked
returns-clause-looked g c = (
  c.take-held.result.value.state,
  looked c.args.shared.now c.args.pass.now c.take-held.new.pass c.take-held.result.value c.take-held.ensures.taken c.requires.turn c.give.new.pass c.give.ensures,
)
