use Rattle.std.proofs.Common.{Bool, set, sym, ap, ◌∙◌}
use Rattle.std.proofs.lemmas.List.Quantifiers.{position-Some}
use Rattle.wk_text_rules.specs.Titles.{PageTitle, title_eq}
use Rattle.wk_wiki_rules.specs.Jobs.{FanEntry}
use Rattle.wk_jobs.proofs.FanLists.{anew-none, anew-set}
use Rattle.wk_jobs.proofs.Places.{position-absent, position-found}
use Rattle.wk_jobs.proofs.fans.restart_title.Goals as goal

abbrev is_of : PageTitle → FanEntry → Bool
is_of title job = title_eq job.title title

pub returns-in-Some-clause-jobs : goal.returns-in-Some-clause-jobs
returns-in-Some-clause-jobs c =
    let jobs = c.args.jobs.now in
    let at = position-Some (is_of c.args.title.now) jobs c.in-Some.place c.index-jobs-place.result (sym c.in-Some.ensures) in
    ap (set jobs c.in-Some.place) c.restart.ensures
    ∙ anew-set c.args.title.now c.args.reach jobs c.in-Some.place c.index-jobs-place.result at.0 at.1 at.2 c.requires

pub returns-in-Some-clause-there : goal.returns-in-Some-clause-there
returns-in-Some-clause-there c = sym (position-found (is_of c.args.title.now) c.args.jobs.now c.in-Some.place c.in-Some.ensures)

pub returns-in-None-clause-jobs : goal.returns-in-None-clause-jobs
returns-in-None-clause-jobs c = sym (anew-none c.args.title.now c.args.reach c.args.jobs.now (position-absent (is_of c.args.title.now) c.args.jobs.now c.in-None.ensures))

pub returns-in-None-clause-there : goal.returns-in-None-clause-there
returns-in-None-clause-there c = sym (position-absent (is_of c.args.title.now) c.args.jobs.now c.in-None.ensures)
