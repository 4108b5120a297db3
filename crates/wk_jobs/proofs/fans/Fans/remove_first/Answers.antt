use Rattle.std.proofs.Common.{◌<◌, length, sym, ◌∙◌, subst, arith}
use Rattle.wk_jobs.proofs.FanLists.{TitlesApart, TitlesApart-behind, removed-first}
use Rattle.wk_jobs.proofs.fans.Fans.remove_first.Goals as goal

pub invariant_of-self : goal.invariant_of-self
invariant_of-self c =
    let some : 0 < length c.self.inside.jobs.items = subst (λ f. 0 < length f.jobs) (sym c.self.view_is) c.requires in
    record {
      one = subst TitlesApart (sym (c.remove.ensures.items ∙ removed-first c.self.inside.jobs.items some)) (TitlesApart-behind c.self.inside.jobs.items c.self.invariant.one);
      room = omega (arith, c.remove.ensures.len, c.remove.ensures.capacity, c.self.invariant.room);
    }
