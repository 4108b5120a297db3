use Rattle.std.proofs.Common.{◌≡◌, length, map, sym, ap, ◌∙◌, subst}
use Rattle.std.proofs.lemmas.List.{length-map}
use Rattle.wk_wiki_rules.specs.Jobs.{set_anew}
use Rattle.wk_jobs.proofs.FanLists.{TitlesApart, TitlesApart-anew}
use Rattle.wk_jobs.proofs.Written.{items-written}
use Rattle.wk_jobs.proofs.fans.Fans.restart.Goals as goal

pub invariant_of-self : goal.invariant_of-self
invariant_of-self c =
    let anew = set_anew c.args.title.now c.args.reach in
    let jobs = c.self.inside.jobs.items in
    let written : c.restart_title.new.jobs ≡ map anew jobs = c.restart_title.ensures.jobs ∙ ap (map anew) c.deref_mut.ensures.value in
    let items = items-written c.self.inside.jobs c.restart_title.new.jobs (ap length written ∙ length-map jobs anew) in
    record {
      one = subst TitlesApart (sym (items ∙ written)) (TitlesApart-anew jobs c.args.title.now c.args.reach c.self.invariant.one);
      room = c.self.invariant.room;
    }
