use Rattle.std.proofs.Common.{subst}
use Rattle.std.specs.Prelude.{IfOk}
use Rattle.wk_wiki_rules.specs.States.{world_of}
use Rattle.wk_expand.specs.Steps.{given_text}
use Rattle.wk_live.specs.Drafted.{IsPresent}
use Rattle.wk_shared.proofs.AnswerLaws.{drafted-present}
use Rattle.wk_shared.proofs.drafting.drafted_held.Goals as goal

pub returns-in-Ok-clause-read : goal.returns-in-Ok-clause-read
returns-in-Ok-clause-read g c =
    let found = c.draft_held-draft.ensures in
    drafted-present c.args.shared.now c.args.pass.now c.draft_held-draft.new.pass found.0 c.args.title.now (given_text c.args.root.now) c.in-Ok.draft c.point-point.result c.draft_held-draft.result.1 found.1
    (subst (λ r. IfOk r (IsPresent (world_of found.0) c.args.title.now (given_text c.args.root.now))) c.in-Ok.is found.3) c.point-point.ensures.length found.2
