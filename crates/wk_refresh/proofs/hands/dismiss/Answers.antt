use Rattle.std.proofs.Common.{◌∙◌, arith}
use Rattle.std.proofs.lemmas.List.{length_push}
use Rattle.wk_refresh.proofs.DrainLaws.{back-more, refusal-more}
use Rattle.wk_refresh.proofs.hands.dismiss.Goals as goal

pub dismissing-preserved : goal.dismissing-preserved
dismissing-preserved g c = (
  back-more _ c.args.workers.now.items c.dismissing.workers.items c.push_reserved.new.self.items c.dismissing.yielded c.in-Some.hand c.dismissing.invariant.0 c.push_reserved.ensures.items,
  (let a = c.push_reserved.ensures.len in let b = c.dismissing.invariant.1 in let l = length_push c.dismissing.yielded c.in-Some.hand in omega (arith, a, b, l)),
  c.push_reserved.ensures.capacity ∙ c.dismissing.invariant.2,
  refusal-more _ c.dismissing.yielded c.in-Some.hand c.dismissing.first c.earlier-first.result c.dismissing.invariant.3 c.earlier-first.ensures,
)
