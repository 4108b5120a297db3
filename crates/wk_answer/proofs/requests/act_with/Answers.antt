use Rattle.std.proofs.Common.{◌≡◌, Some, length, true, false, sym, ap, ◌∙◌, subst, cond}
use Rattle.std.specs.Prelude.{nat_lt, IfOk, IfSome}
use Rattle.serde_json.specs.View.{view}
use Rattle.wk_request_rules.specs.Requests.{edited_text}
use Rattle.wk_request.specs.Asked.{ask_of, request_asked}
use Rattle.wk_request.specs.declared.request.Ask.{Ask}
use Rattle.wk_answer_rules.specs.Saves.{Answered}
use Rattle.wk_answer_rules.specs.Answers.{answer_to_ask, answer_with_subst}
use Rattle.wk_saving.specs.Saved.{IsActed}
use Rattle.wk_answer.proofs.EarlyAnswers.{early-acted}
use Rattle.wk_answer.proofs.AskedKinds.{flag-set, transforms-edit}
use Rattle.wk_answer.proofs.ReadFacts.{reached-flag}
use Rattle.wk_answer.proofs.requests.act_with.Goals as goal

pub returns-then-is_early-clause-acted : goal.returns-then-is_early-clause-acted
returns-then-is_early-clause-acted g c =
    early-acted g.K.Keeper.told g.K.Keeper.faults c.args.wiki.now c.args.wiki.now.start.limits c.args.now c.point-point.result (request_asked c.args.request.now) (view c.in_ok-future_point.field-0)
    c.point-point.ensures (sym c.is_early.ensures ∙ c.if-is_early.true) c.in_ok-future_point.ensures

-- a text to be transformed is that of an edit
pub unreachable-requires : goal.unreachable-requires
unreachable-requires g c =
    transforms-edit c.args.request.now.subst c.args.request.now.ask c.args.made.now.saved c.in_default.not-Edit c.requires.asked

pub edit_with-requires-clause-body : goal.edit_with-requires-clause-body
edit_with-requires-clause-body g c =
    let text : edited_text (ask_of c.args.request.now.ask) ≡ Some c.args.made.now.saved = (flag-set c.args.request.now.subst (edited_text (ask_of c.args.request.now.ask)) c.args.made.now.saved c.requires.asked).1 in
    sym (ap (λ (asked : Ask). edited_text (ask_of asked)) c.in-Edit.is) ∙ text

pub returns-clause-acted : goal.returns-clause-acted
returns-clause-acted g c =
    let wiki = c.args.wiki.now in
    let request = request_asked c.args.request.now in
    let set : request.subst ≡ true = (flag-set c.args.request.now.subst (edited_text (ask_of c.args.request.now.ask)) c.args.made.now.saved c.requires.asked).0 in
    let reached : nat_lt (length wiki.journal) request.least ≡ false = subst (λ p. nat_lt p request.least ≡ false) c.point-point.ensures (sym c.is_early.ensures ∙ c.if-is_early.false) in
    let flagged = reached-flag wiki.start.limits wiki.state (length wiki.journal) c.args.now request reached
    ∙ (ap (λ b. cond b (answer_with_subst wiki.start.limits wiki.state (length wiki.journal) c.args.now request.ask) (answer_to_ask wiki.start.limits wiki.state (length wiki.journal) c.args.now request.ask)) set
    ∙ ap (λ (asked : Ask). answer_with_subst wiki.start.limits wiki.state (length wiki.journal) c.args.now (ask_of asked)) c.in-Edit.is) in
    subst (λ (answered : Answered). IfOk c.edit_with.result (λ answer. IfSome answer (λ v. IsActed g.K.Keeper.told g.K.Keeper.faults wiki c.edit_with.new.wiki answered (view v))))
    (sym flagged) c.edit_with.ensures.acted
