use Rattle.std.proofs.Common.{ap}
use Rattle.wk_serving.proofs.Sharing.{came-back, not-shared}
use Rattle.wk_serving.proofs.serves.serve_wiki.Goals as goal

pub returns-in-Ok-clause-wiki : goal.returns-in-Ok-clause-wiki
returns-in-Ok-clause-wiki g c =
    came-back c.args.wiki c.finish.result c.in-Ok.shared.start c.in-Ok.pass.seen c.serve_shared-end.new.pass.seen c.in-Ok.ensures.start (ap (λ p. p.seen) c.in-Ok.ensures.pass)
    c.serve_shared-end.ensures.seen c.finish.ensures.start c.finish.ensures.seen

pub returns-in-Err-clause-wiki : goal.returns-in-Err-clause-wiki
returns-in-Err-clause-wiki g c = not-shared c.args.wiki c.in-Err.wiki c.in-Err.ensures.refused
