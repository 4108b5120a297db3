use Rattle.std.proofs.lemmas.Result.{IfOk-weaker}
use Rattle.serde_json.specs.View.{view}
use Rattle.wk_probe_wiki.proofs.Acted.{refusal_is_acted}
use Rattle.wk_probe_wiki.proofs.replies.reply.Goals as goal

-- src/replies.rt:18:1
pub returns-in-Err-clause-acted : goal.returns-in-Err-clause-acted
returns-in-Err-clause-acted g c =
    let told = rw c.point.ensures at c.refused_reply.ensures _ c.in-Err.ensures.err in
    IfOk-weaker c.refused_reply.result _ _
    (λ v r. refusal_is_acted g.K.Keeper.told g.K.Keeper.faults c.args.wiki.now c.args.now _ (view v) r) told
