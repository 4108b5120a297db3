use Rattle.std.proofs.Common.{refl, arith}
use Rattle.wk_tree.specs.Matching.{as_run}
use Rattle.wk_tree.proofs.MeetingLemmas.{closing-kept, rest-is}
use Rattle.wk_tree.proofs.matching.make_plain.Goals as goal

pub returns : goal.returns
returns c = λ seen k fits. record {
  keeps = closing-kept (as_run c.args.run) seen c.saturating_sub.result c.args.run.count c.saturating_sub.ensures refl c.in_ok-push.ensures.items k;
  left_is = rest-is c.args.run 0 0 refl (omega arith) fits;
  fits = omega arith;
}
