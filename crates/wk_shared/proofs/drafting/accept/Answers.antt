use Rattle.std.proofs.Common.{subst}
use Rattle.wk_expand.specs.Drafts.{DraftShown, IsDraft}
use Rattle.wk_shared.proofs.AnswerLaws.{accepted}
use Rattle.wk_shared.proofs.LookLaws.{not-false}
use Rattle.wk_shared.proofs.drafting.accept.Goals as goal

pub returns-clause-read : goal.returns-clause-read
returns-clause-read g c =
    let found = c.look_behind-found.ensures.looked in
    accepted c.args.shared.now c.args.pass.now c.look_behind-found.new.pass found.0 c.requires.since.0 c.args.draft c.look_behind-found.result.point c.look_behind-found.result.id found.1
    (subst (λ (d : DraftShown). IsDraft d.page d.given d.expanded d.reads) c.draft-made.ensures c.page-page.ensures.everywhere) c.requires.since.1 (found.3.none_stale (not-false c.look_behind-found.result.current c.if-not-found.false)) c.look_behind-found.ensures.point found.2
