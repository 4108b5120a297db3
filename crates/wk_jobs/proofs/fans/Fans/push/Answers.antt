use Rattle.std.proofs.Common.{◌≡◌, false, sym, ap, ◌∙◌, subst, arith}
use Rattle.std.specs.List.{list_any}
use Rattle.wk_text_rules.specs.Titles.{title_eq}
use Rattle.wk_jobs.proofs.FanLists.{TitlesApart, TitlesApart-pushed}
use Rattle.wk_jobs.proofs.fans.Fans.push.Goals as goal

pub invariant_of-self : goal.invariant_of-self
invariant_of-self c =
    let none : list_any (λ other. title_eq other.title c.args.job.title) c.self.inside.jobs.items ≡ false = ap (λ f. list_any (λ other. title_eq other.title c.args.job.title) f.jobs) c.self.view_is ∙ c.requires.none in
    record {
      one = subst TitlesApart (sym c.push_reserved.ensures.items) (TitlesApart-pushed c.self.inside.jobs.items c.args.job none c.self.invariant.one);
      room = omega (arith, c.push_reserved.ensures.len, c.push_reserved.ensures.capacity, c.self.invariant.room, ap (λ f. f.spare) c.self.view_is, c.requires.room);
    }
