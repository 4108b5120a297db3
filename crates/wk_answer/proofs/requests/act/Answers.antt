use Rattle.std.proofs.Common.{◌≡◌, length, false, sym, ap, ◌∙◌, subst, cond}
use Rattle.std.specs.Prelude.{nat_lt, IfOk}
use Rattle.serde_json.specs.View.{view}
use Rattle.wk_request_rules.specs.Requests.{Ask, asks_to_save}
use Rattle.wk_request.specs.Asked.{request_asked}
use Rattle.wk_answer_rules.specs.Saves.{Answered}
use Rattle.wk_answer_rules.specs.Answers.{answer_to_ask, answer_to_request, answer_with_subst}
use Rattle.wk_answer_laws.proofs.Points.{request-none}
use Rattle.wk_saving.specs.Saved.{IsActed}
use Rattle.wk_saving.proofs.SaveAnswers.{read-acted}
use Rattle.wk_answer.proofs.AskedKinds.{others-no-save, save-saves}
use Rattle.wk_answer.proofs.EarlyAnswers.{early-acted}
use Rattle.wk_answer.proofs.ReadFacts.{reached-flag}
use Rattle.wk_answer.proofs.requests.act.Goals as goal

pub answer-requires : goal.answer-requires
answer-requires g c = ap asks_to_save (sym c.asked.ensures) ∙ others-no-save c.asked.result c.in_default.not-Save

pub returns-in_default-clause-acted : goal.returns-in_default-clause-acted
returns-in_default-clause-acted g c =
    let wiki = c.args.wiki.now in
    read-acted g.K.Keeper.told g.K.Keeper.faults wiki view (answer_to_request wiki.start.limits wiki.state (length wiki.journal) c.args.now (request_asked c.args.request.now)) c.answer.result
    (request-none wiki.start.limits wiki.state (length wiki.journal) c.args.now (request_asked c.args.request.now)
    (ap asks_to_save (sym c.asked.ensures) ∙ others-no-save c.asked.result c.in_default.not-Save)) (c.answer.ensures c.args.now)

pub returns-then-is_early-clause-acted : goal.returns-then-is_early-clause-acted
returns-then-is_early-clause-acted g c =
    early-acted g.K.Keeper.told g.K.Keeper.faults c.args.wiki.now c.args.wiki.now.start.limits c.args.now c.point-point.result (request_asked c.args.request.now) (view c.in_ok-future_point.field-0)
    c.point-point.ensures (sym c.is_early.ensures ∙ c.if-is_early.true) c.in_ok-future_point.ensures

pub save_substituted-requires : goal.save_substituted-requires
save_substituted-requires g c = record { unsealed = c.requires.unsealed (ap asks_to_save (sym c.in-Save.ensures) ∙ save-saves c.in-Save.asked) }

pub returns-then-request-clause-acted : goal.returns-then-request-clause-acted
returns-then-request-clause-acted g c =
    let wiki = c.args.wiki.now in
    let request = request_asked c.args.request.now in
    let reached : nat_lt (length wiki.journal) request.least ≡ false = subst (λ p. nat_lt p request.least ≡ false) c.point-point.ensures (sym c.is_early.ensures ∙ c.if-is_early.false) in
    let flagged = reached-flag wiki.start.limits wiki.state (length wiki.journal) c.args.now request reached
    ∙ ap (λ b. cond b (answer_with_subst wiki.start.limits wiki.state (length wiki.journal) c.args.now request.ask) (answer_to_ask wiki.start.limits wiki.state (length wiki.journal) c.args.now request.ask)) c.if-request.true in
    subst (λ (answered : Answered). IfOk c.save_substituted.result (λ v. IsActed g.K.Keeper.told g.K.Keeper.faults wiki c.save_substituted.new.wiki answered (view v)))
    (ap (λ (ask : Ask). answer_with_subst wiki.start.limits wiki.state (length wiki.journal) c.args.now ask) c.in-Save.ensures ∙ sym flagged) c.save_substituted.ensures.acted

pub save_asked-requires : goal.save_asked-requires
save_asked-requires g c = record { unsealed = c.requires.unsealed (ap asks_to_save (sym c.in-Save.ensures) ∙ save-saves c.in-Save.asked) }

pub returns-clause-acted : goal.returns-clause-acted
returns-clause-acted g c =
    let wiki = c.args.wiki.now in
    let request = request_asked c.args.request.now in
    let reached : nat_lt (length wiki.journal) request.least ≡ false = subst (λ p. nat_lt p request.least ≡ false) c.point-point.ensures (sym c.is_early.ensures ∙ c.if-is_early.false) in
    let plain = reached-flag wiki.start.limits wiki.state (length wiki.journal) c.args.now request reached
    ∙ ap (λ b. cond b (answer_with_subst wiki.start.limits wiki.state (length wiki.journal) c.args.now request.ask) (answer_to_ask wiki.start.limits wiki.state (length wiki.journal) c.args.now request.ask)) c.if-request.false in
    subst (λ (answered : Answered). IfOk c.save_asked.result (λ v. IsActed g.K.Keeper.told g.K.Keeper.faults wiki c.save_asked.new.wiki answered (view v)))
    (ap (λ (ask : Ask). answer_to_ask wiki.start.limits wiki.state (length wiki.journal) c.args.now ask) c.in-Save.ensures ∙ sym plain) c.save_asked.ensures.acted
