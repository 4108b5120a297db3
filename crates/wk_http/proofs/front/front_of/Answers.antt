use Rattle.std.proofs.Common.{◌≡◌, List, ℕ, ◌++◌, length, drop, Ok, ap, subst, ◌∙◌, arith, length-take, take-append-drop}
use Rattle.std.proofs.lemmas.Result.{IfOk-weaker}
use Rattle.httparse.specs.declared.Error.{Error}
use Rattle.httparse.specs.declared.Status.{Status}
use Rattle.httparse.specs.declared.spans.RequestSpans.{RequestSpans}
use Rattle.httparse.specs.Outcome.{OnPartial}
use Rattle.wk_http.specs.Front.{IsFront}
use Rattle.httparse.specs.Grammar.{HasNoRequest, MayBecomeRequest}
use Rattle.wk_wire_rules.specs.Messages.{most_head, EndsWithinTarget}
use Rattle.wk_http.proofs.FrontLemmas.{can_begin_in_window, can_begin_within_window}
use Rattle.wk_http.proofs.TargetLemmas.{target_has_no_head}
use Rattle.wk_http.proofs.front.front_of.Goals as goal

pub without_head-requires-clause-none : goal.without_head-requires-clause-none
without_head-requires-clause-none c =
    subst HasNoRequest c.window-window.ensures
    (target_has_no_head c.window-window.result.now (c.ends_within_target.ensures.0 c.if-ends_within_target.true))

pub without_head-requires-clause-open : goal.without_head-requires-clause-open
without_head-requires-clause-open c = λ short.
    can_begin_within_window c.args.bytes.now
    (subst EndsWithinTarget c.window-window.ensures (c.ends_within_target.ensures.0 c.if-ends_within_target.true)) short

pub at_head-requires-clause-short : goal.at_head-requires-clause-short
at_head-requires-clause-short c = omega (arith, ap length c.window-window.ensures, length-take most_head c.args.bytes.now)

pub without_head-requires-in-Ok-Partial-clause-open : goal.without_head-requires-in-Ok-Partial-clause-open
without_head-requires-in-Ok-Partial-clause-open c =
    let may : MayBecomeRequest c.window-window.result.now =
    subst (λ (s : Status RequestSpans). OnPartial {E = Error} (Ok s) (MayBecomeRequest c.window-window.result.now)) c.in-Ok-Partial.field-0-is c.in-Ok-Partial.ensures.unfinished in
    λ short. can_begin_in_window c.args.bytes.now (subst MayBecomeRequest c.window-window.ensures may) short

pub returns-in-Ok-Complete : goal.returns-in-Ok-Complete
returns-in-Ok-Complete c =
    let whole : c.window-window.result.now ++ drop most_head c.args.bytes.now ≡ c.args.bytes.now =
    ap (λ (t : List ℕ). t ++ drop most_head c.args.bytes.now) c.window-window.ensures ∙ take-append-drop most_head c.args.bytes.now in
    IfOk-weaker c.at_head.result _ (IsFront c.args.bytes.now)
    (λ front is. subst (λ (t : List ℕ). IsFront t front) whole (is (drop most_head c.args.bytes.now))) c.at_head.ensures
