use Rattle.std.proofs.Common.{refl, ap, ◌∙◌, ◌++◌, ◌∷◌, []}
use Rattle.wk_http.specs.Requests.{message_in}
use Rattle.wk_shared.specs.Calls.{MayFail}
use Rattle.wk_session.proofs.Replying.{nothing-replied, serves-with}
use Rattle.wk_session.proofs.serving.serve_one.Goals as goal

pub returns-in-Err-clause-served : goal.returns-in-Err-clause-served
returns-in-Err-clause-served g c = (nothing-replied _ _ _ _ c.args.points.now.items _ refl, c.reserve.ensures.items)

pub returns-in-Ok-clause-served : goal.returns-in-Ok-clause-served
returns-in-Ok-clause-served g c =
    serves-with c.args.shared.now (MayFail c.args.shared.now.start) c.args.worker.now.reader.pass c.reply_to.new.worker.reader.pass c.step-refresh.new.worker.reader.pass
    (message_in c.args.message.now) _ _ c.args.points.now.items _ c.args.refreshes.now.items _ c.step-refresh.result c.point.result _
    c.in-Ok.ensures.replied c.step-refresh.ensures c.point.ensures
    (c.push_reserved.ensures.items ∙ ap (λ l. l ++ (c.point.result, c.step-refresh.result) ∷ []) c.reserve.ensures.items)
