use Rattle.std.proofs.Common.{arith}
use Rattle.wk_index.proofs.NamedLaws.{found-more}
use Rattle.wk_index.proofs.named.add_titles.Goals as goal

pub loop-title-preserved : goal.loop-title-preserved
loop-title-preserved c = (
  found-more c.args.titles.now c.loop-title.title-index c.title-item.result c.args.page c.loop-title.named c.add_title.new.named (omega arith) c.title-item.is
      c.in_ok-add_title.ensures.there c.in_ok-add_title.ensures.kept c.loop-title.invariant.0,
  λ title page before. c.in_ok-add_title.ensures.kept title page (c.loop-title.invariant.1 title page before),
)
