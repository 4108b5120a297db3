use Rattle.std.proofs.Common.{arith}
use Rattle.wk_index.proofs.NamedLaws.{pages-more}
use Rattle.wk_index.proofs.named.add_each.Goals as goal

pub loop-page-preserved : goal.loop-page-preserved
loop-page-preserved c = (
  pages-more c.args.pages.now c.loop-page.page-index c.args.title.now c.loop-page.named c.add_title.new.named (omega arith)
      c.in_ok-add_title.ensures.there c.in_ok-add_title.ensures.kept c.loop-page.invariant.0,
  λ title page before. c.in_ok-add_title.ensures.kept title page (c.loop-page.invariant.1 title page before),
)
