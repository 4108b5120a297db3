use Rattle.std.proofs.Common.{◌≡◌, true, sym, subst, arith}
use Rattle.std.proofs.lemmas.Grind.{common_steps}
use Rattle.wk_index.specs.Places.{GathersTitles, gathers}
use Rattle.wk_index.proofs.GatheredLaws.{targets-push}
use Rattle.wk_index.proofs.load.targets.Goals as goal

pub loop-row-preserved : goal.loop-row-preserved
loop-row-preserved c = (
  grind (arith, common_steps),
  subst (λ l. GathersTitles l c.args.page c.add_page.new.titles) (sym c.in_ok-push.ensures.items)
      (targets-push c.loop-row.titles.items c.in_ok-title.title c.args.page c.loop-row.gathered c.add_page.new.titles c.loop-row.invariant.1 c.in_ok-title.ensures.kept
      (subst (λ t. gathers c.add_page.new.titles t c.args.page ≡ true) (sym c.in_ok-title.ensures.title) c.in_ok-title.ensures.there)),
  λ title page before. c.in_ok-title.ensures.kept title page (c.loop-row.invariant.2 title page before),
  c.in_ok-title.ensures.titled,
)
