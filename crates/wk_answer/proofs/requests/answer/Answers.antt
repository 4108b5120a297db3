use Rattle.std.proofs.Common.{◌≡◌, true, false, length, sym, ap, ◌∙◌, subst}
use Rattle.std.specs.Prelude.{IfOk}
use Rattle.serde_json.specs.View.{view}
use Rattle.wk_request_rules.specs.Requests.{Ask, asks_to_save}
use Rattle.wk_request.specs.Asked.{ask_of, request_asked}
use Rattle.wk_answer_rules.specs.Answers.{answer_to_ask}
use Rattle.wk_answer.proofs.AskedKinds.{save-saves}
use Rattle.wk_answer.proofs.ReadFacts.{early-told, reached-told}
use Rattle.wk_answer.proofs.requests.answer.Goals as goal

pub returns-then-is_early : goal.returns-then-is_early
returns-then-is_early g c moment =
    early-told c.args.wiki.now.start.limits c.args.wiki.now.state (length c.args.wiki.now.journal) moment c.point-point.result (request_asked c.args.request.now) (view c.in_ok-future_point.field-0)
    c.point-point.ensures (sym c.is_early.ensures ∙ c.if-is_early.true) c.in_ok-future_point.ensures

-- a save isn't asked for
pub unreachable-requires : goal.unreachable-requires
unreachable-requires g c =
    let saves : asks_to_save (ask_of c.args.request.now.ask) ≡ true = ap asks_to_save (sym c.in-Save.ensures) ∙ save-saves c.in-Save.field-0 in
    let both : true ≡ false = sym saves ∙ c.requires in
    absurd cc

pub returns-in-Read : goal.returns-in-Read
returns-in-Read g c moment =
    let limits = c.args.wiki.now.start.limits in
    reached-told view limits c.args.wiki.now.state c.live-live.result.now.state (length c.args.wiki.now.journal) moment c.point-point.result (request_asked c.args.request.now) c.read_answer.result
    c.requires c.live-live.ensures c.point-point.ensures (sym c.is_early.ensures ∙ c.if-is_early.false)
    (subst (λ (ask : Ask). IfOk c.read_answer.result (λ v. view v ≡ (answer_to_ask limits c.live-live.result.now.state c.point-point.result moment ask).reply.value)) c.in-Read.ensures (c.read_answer.ensures limits moment))

pub returns-in-List : goal.returns-in-List
returns-in-List g c moment =
    let limits = c.args.wiki.now.start.limits in
    reached-told view limits c.args.wiki.now.state c.live-live.result.now.state (length c.args.wiki.now.journal) moment c.point-point.result (request_asked c.args.request.now) c.list_answer.result
    c.requires c.live-live.ensures c.point-point.ensures (sym c.is_early.ensures ∙ c.if-is_early.false)
    (subst (λ (ask : Ask). IfOk c.list_answer.result (λ v. view v ≡ (answer_to_ask limits c.live-live.result.now.state c.point-point.result moment ask).reply.value)) c.in-List.ensures (c.list_answer.ensures limits moment))

pub returns-in-Site : goal.returns-in-Site
returns-in-Site g c moment =
    let limits = c.args.wiki.now.start.limits in
    reached-told view limits c.args.wiki.now.state c.live-live.result.now.state (length c.args.wiki.now.journal) moment c.point-point.result (request_asked c.args.request.now) c.site_answer.result
    c.requires c.live-live.ensures c.point-point.ensures (sym c.is_early.ensures ∙ c.if-is_early.false)
    (subst (λ (ask : Ask). IfOk c.site_answer.result (λ v. view v ≡ (answer_to_ask limits c.live-live.result.now.state c.point-point.result moment ask).reply.value)) c.in-Site.ensures (c.site_answer.ensures limits moment))
