use Rattle.std.proofs.Common.{◌≡◌, subst}
use Rattle.std.specs.Prelude.{IfErr, IfOk}
use Rattle.wk_http.specs.Requests.{message_in}
use Rattle.wk_request.specs.Asked.{request_asked}
use Rattle.wk_request.specs.Refusals.{Refuses}
use Rattle.wk_request_rules.specs.Reading.{requested}
use Rattle.wk_request_rules.specs.Requests.{ParsedRequest, valid}
use Rattle.wk_session_rules.specs.Replies.{asked}
use Rattle.wk_sending.proofs.asking.request_in.Goals as goal

pub returns-clause-ok : goal.returns-clause-ok
returns-clause-ok c =
    let same : requested c.deref.result.now c.deref-2.result.now c.is_post-posted.result ≡ asked (message_in c.args.message.now) =
    λ i. requested (c.deref.ensures.value i) (c.deref-2.ensures.value i) (c.is_post-posted.ensures i) in
    subst (λ (p : ParsedRequest). IfOk c.of.result (λ request. p ≡ valid (request_asked request))) same c.of.ensures.ok

pub returns-clause-err : goal.returns-clause-err
returns-clause-err c =
    let same : requested c.deref.result.now c.deref-2.result.now c.is_post-posted.result ≡ asked (message_in c.args.message.now) =
    λ i. requested (c.deref.ensures.value i) (c.deref-2.ensures.value i) (c.is_post-posted.ensures i) in
    subst (λ (p : ParsedRequest). IfErr c.of.result (λ refusal. Refuses p refusal)) same c.of.ensures.err
