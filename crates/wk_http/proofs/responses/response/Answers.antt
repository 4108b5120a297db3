use Rattle.std.proofs.Common.{◌≡◌, List, ℕ, ◌++◌, append_assoc, ap, ◌∙◌}
use Rattle.std.proofs.lemmas.Result.{IfOk-weaker}
use Rattle.wk_wire_rules.specs.Responses.{response}
use Rattle.wk_http.proofs.ResponseLemmas.{response_from}
use Rattle.wk_http.proofs.responses.response.Goals as goal

pub returns-clause-ok : goal.returns-clause-ok
returns-clause-ok c =
    let both : c.as_bytes.result.now ++ c.body_sent-body.result.now ≡ response c.args.status c.args.body.now c.args.close =
    response_from c.args.status c.args.body.now c.args.close _ _ _ _ _ _ c.reason.ensures c.type_line.ensures c.close_line.ensures
    c.body_sent-body.ensures c.in_ok-head.ensures c.as_bytes.ensures.value in
    IfOk-weaker c.append_both.result _ _
    (λ done is. is ∙ (append_assoc c.args.into.now.items c.as_bytes.result.now c.body_sent-body.result.now
    ∙ ap (λ (t : List ℕ). c.args.into.now.items ++ t) both)) c.append_both.ensures.ok
