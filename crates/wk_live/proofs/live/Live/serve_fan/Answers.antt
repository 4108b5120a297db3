use Rattle.std.proofs.Common.{◌≡◌, ◌<◌, None, Some, ap, sym, subst, ◌∙◌, List, length}
use Rattle.std.specs.List.{last_or}
use Rattle.wk_wiki_rules.specs.Jobs.{FanEntry, JobLists}
use Rattle.wk_wiki_laws.proofs.Fanned.{fans-all_queued}
use Rattle.wk_live.specs.Fanned.{first_fan_served, jobs_served}
use Rattle.wk_live.specs.HeldState.{HeldState}
use Rattle.wk_live.proofs.FanLaws.{fan-served}
use Rattle.wk_live.proofs.live.Live.serve_fan.Goals as goal

pub serve_first-requires : goal.serve_first-requires
serve_first-requires c =
    subst (λ (lists : JobLists). 0 < length lists.fans) (sym c.queue_all.ensures)
    (subst (λ (fans : List FanEntry). 0 < length fans) (sym (fans-all_queued c.self.inside.jobs.lists c.args.served.now))
    (subst (λ (h : HeldState). 0 < length h.state.jobs.fans) (sym c.self.view_is) c.requires.there))

pub returns-clause-fanned : goal.returns-clause-fanned
returns-clause-fanned c = λ most next.
    let served = c.args.served.now in
    let is : c.serve_first.new.jobs.lists ≡ jobs_served c.args.self.now.state.jobs c.args.served.now c.args.is_last =
    c.serve_first.ensures
    ∙ (ap (λ (lists : JobLists). first_fan_served lists (last_or None served) c.args.is_last) c.queue_all.ensures
    ∙ ap (λ (h : HeldState). jobs_served h.state.jobs served c.args.is_last) c.self.view_is) in
    fan-served c.args.self.now.state most served c.args.is_last c.requires.there next ∙ ap (λ lists. Some lists) (sym is)
