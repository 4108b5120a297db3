use Rattle.std.proofs.Common.{map, sym, subst, arith}
use Rattle.std.specs.List.{IsDistinct}
use Rattle.wk_text_rules.specs.Titles.{title_eq}
use Rattle.wk_wiki_rules.specs.Jobs.{FanEntry}
use Rattle.wk_jobs.proofs.fans.Fans.new.Goals as goal

pub invariant_of-result : goal.invariant_of-result
unfolding IsDistinct
invariant_of-result c = record {
  one = subst (λ jobs. IsDistinct title_eq (map (λ (job : FanEntry). job.title) jobs)) (sym c.new.ensures.items) tt;
  room = omega (arith, c.new.ensures.len);
}
