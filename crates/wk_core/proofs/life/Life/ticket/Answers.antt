use Rattle.std.proofs.Common.{◌≡◌, Some, None, sym, ap, ◌∙◌}
use Rattle.wk_wiki_rules.specs.Jobs.{page_held_by}
use Rattle.wk_wiki_rules.specs.States.{page_at}
use Rattle.wk_jobs.specs.HeldJobs.{HeldJobs}
use Rattle.wk_revs.specs.Revs.{Stored}
use Rattle.wk_core.specs.LifeInside.{held}
use Rattle.wk_core.proofs.RefreshFacts.{held-page}
use Rattle.wk_core.proofs.life.Life.ticket.Goals as goal

pub unreachable-requires : goal.unreachable-requires
unreachable-requires c =
    let holds = sym (c.in-Some.ensures ∙ ap (λ (j : HeldJobs). page_held_by j.lists c.args.number) c.jobs.ensures) in
    let there = held-page (held c.self.inside).life c.self.invariant.life c.args.number c.in-Some.page holds in
    let none = c.in_default-page_at.ensures ∙ ap (λ (r : Stored). page_at r.history c.in-Some.page) c.revs.ensures in
    let e : None ≡ Some there.0 = none ∙ there.1 in
    cc
