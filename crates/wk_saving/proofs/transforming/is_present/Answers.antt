use Rattle.wk_saving.proofs.TransformAnswers.{made-now}
use Rattle.wk_saving.proofs.transforming.is_present.Goals as goal

pub returns-clause-present : goal.returns-clause-present
returns-clause-present c current =
    made-now c.args.live.now.state c.args.made.now.saved c.args.made.now.text c.args.made.now.reads c.text-text.ensures.everywhere c.reads-reads.ensures.seen c.requires
    (c.is_current.ensures.current current)
