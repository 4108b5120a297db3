use Rattle.std.proofs.Common.{◌≡◌, ◌≢◌, List, ℕ, ◌/◌, ap, subst, Ok, Err, drop, length, ◌∙◌}
use Rattle.httparse.specs.declared.Error.{Error}
use Rattle.httparse.specs.declared.Error.TheVariants.{TooManyHeaders}
use Rattle.httparse.specs.declared.Status.{Status}
use Rattle.httparse.specs.declared.spans.RequestSpans.{RequestSpans}
use Rattle.httparse.specs.Grammar.{MayBecomeRequest, NeverHasRequest, ReadsRequest}
use Rattle.httparse.specs.Outcome.{OnPartial, IfComplete}
use Rattle.httparse.specs.Spans.{IsRequestOf, RequestExceeds, RequestOverflows}
use Rattle.wk_wire_rules.specs.Heads.{most_headers}
use Rattle.wk_wire_rules.specs.Messages.{EndsWithinTarget}
use Rattle.wk_http.proofs.FrontLemmas.{many_in_window, bad_with_room, can_begin_in_window}
use Rattle.wk_http.proofs.front.in_room.Goals as goal

pub without_head-requires-clause-open : goal.without_head-requires-clause-open
without_head-requires-clause-open c =
    let may : MayBecomeRequest c.args.window.now =
    subst (λ (s : Status RequestSpans). OnPartial {E = Error} (Ok s) (MayBecomeRequest c.args.window.now)) c.in-Ok-Partial.field-0-is c.in-Ok-Partial.ensures.unfinished in
    λ short. can_begin_in_window c.args.bytes.now (subst MayBecomeRequest c.requires.window may) short

pub returns-in-Ok-Complete : goal.returns-in-Ok-Complete
returns-in-Ok-Complete c =
    let found : IsRequestOf c.args.window.now c.parse_request.new.headers c.in-Ok-Complete.field-0-0 =
    subst (λ (s : Status RequestSpans). IfComplete {E = Error} (Ok s) (IsRequestOf c.args.window.now c.parse_request.new.headers))
    c.in-Ok-Complete.field-0-is c.in-Ok-Complete.ensures.complete in
    let rest = drop c.in-Ok-Complete.field-0-0.len c.args.window.now in
    many_in_window c.args.bytes.now found.0 rest (subst (RequestOverflows most_headers) c.requires.window c.requires.many)
    (subst (λ (t : List ℕ). ReadsRequest t found.0 rest) c.requires.window found.1.reads)

pub returns-in-Err : goal.returns-in-Err
returns-in-Err c =
    let never : c.in-Err.field-0 ≢ TooManyHeaders → NeverHasRequest c.args.window.now = c.in-Err.ensures.invalid in
    let exceeds : c.in-Err.field-0 ≡ TooManyHeaders → RequestExceeds (length c.args.headers.now) c.args.window.now =
    λ many. c.in-Err.ensures.too_many (ap Err many) in
    bad_with_room c.args.bytes.now (length c.args.headers.now) c.in-Err.field-0
    (c.requires.room ∙ ap (λ (w : List ℕ). length w / 3) c.requires.window)
    (subst (λ (t : List ℕ). ¬ (EndsWithinTarget t)) c.requires.window c.requires.target)
    (λ other. subst NeverHasRequest c.requires.window (never other))
    (λ many. subst (RequestExceeds (length c.args.headers.now)) c.requires.window (exceeds many))
