use Rattle.std.proofs.Common.{◌≡◌, Some, None, sym, ap, ◌∙◌}
use Rattle.wk_wiki_rules.specs.Jobs.{first_queued}
use Rattle.wk_wiki_rules.specs.States.{page_at}
use Rattle.wk_jobs.specs.HeldJobs.{HeldJobs}
use Rattle.wk_revs.specs.Revs.{Stored}
use Rattle.wk_core.specs.LifeInside.{held}
use Rattle.wk_core.proofs.RefreshFacts.{first-page}
use Rattle.wk_core.proofs.life.Life.title_to_claim.Goals as goal

pub unreachable-requires : goal.unreachable-requires
unreachable-requires c =
    let first = sym (c.in-Some.ensures ∙ ap (λ (j : HeldJobs). first_queued j.lists) c.jobs.ensures) in
    let there = first-page (held c.self.inside).life c.self.invariant.life c.in-Some.page first in
    let none = c.in_default-page_at.ensures ∙ ap (λ (r : Stored). page_at r.history c.in-Some.page) c.revs.ensures in
    let e : None ≡ Some there.0 = none ∙ there.1 in
    cc
