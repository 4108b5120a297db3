use Rattle.wk_index.proofs.GatheredLaws.{AddsGathered-kept}
use Rattle.wk_index.proofs.gathered.both.Goals as goal

pub returns : goal.returns
returns c = (
  AddsGathered-kept c.args.first.now c.in_ok-named.named c.add_to.new.named c.in_ok-add_to.ensures.kept c.in_ok-named.ensures,
  c.in_ok-add_to.ensures.there,
)
