use Rattle.std.proofs.Common.{◌≤◌, ℕ, List, Ok, length, subst, arith}
use Rattle.std.proofs.lemmas.Bool.Decides.{nat_tests}
use Rattle.std.proofs.lemmas.List.{drop_all}
use Rattle.httparse.specs.declared.Error.{Error}
use Rattle.httparse.specs.declared.Status.{Status}
use Rattle.httparse.specs.declared.spans.RequestSpans.{RequestSpans}
use Rattle.httparse.specs.Grammar.{ReadsRequest}
use Rattle.httparse.specs.Outcome.{IfComplete}
use Rattle.httparse.specs.Spans.{IsRequestOf}
use Rattle.wk_http.proofs.places.is_head.Goals as goal

pub returns-in-Ok-Complete : goal.returns-in-Ok-Complete
returns-in-Ok-Complete c = λ holds.
    let bytes : List ℕ = c.args.bytes.now in
    let found = subst (λ (s : Status RequestSpans). IfComplete {E = Error} (Ok s) (IsRequestOf bytes c.parse_request.new.headers)) c.in-Ok-Complete.field-0-is c.in-Ok-Complete.ensures.complete in
    let all : length bytes ≤ c.in-Ok-Complete.head.len = grind (arith, nat_tests) in
    (found.0, subst (λ (t : List ℕ). ReadsRequest bytes found.0 t) (drop_all c.in-Ok-Complete.head.len bytes all) found.1.reads)
