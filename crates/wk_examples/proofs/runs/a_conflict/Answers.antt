use Rattle.std.proofs.Common.{refl, lit≤, arith, ◌≡◌, true, false}
use Rattle.wk_wiki_rules.specs.StateComputing.{computing}
use Rattle.wk_examples.specs.Stores.{title_a}
use Rattle.wk_examples.proofs.runs.a_conflict.Goals as goal

pub returns : goal.returns
unfolding computing
returns c = record {
  title = title_a;
  base = 0;
  passes = record {
    valid = refl;
    small = lit≤ tt;
    missing = λ only. absurd (let e : false ≡ true = only in cc);
    there = λ only. absurd (let e : false ≡ true = only in cc);
    deleted = λ none. absurd cc;
  };
  named = refl;
  now = refl;
  other = λ same. absurd (omega (arith, same));
}
