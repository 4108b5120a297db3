use Rattle.std.proofs.Common.{refl, arith}
use Rattle.wk_examples.specs.Computing.{computing}
use Rattle.wk_examples.proofs.laws.a_redirect.Goals as goal

pub returns : goal.returns
unfolding computing
returns c = record {
  met = record {
    real = refl;
    closed = refl;
    shallow = omega arith;
    there = refl;
    redirects = refl;
    target_closed = refl;
    target_there = refl;
    affordable = omega arith;
  };
}
