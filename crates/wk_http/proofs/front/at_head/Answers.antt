use Rattle.std.proofs.Common.{◌≡◌, Some, ap, sym, subst, ◌∙◌, take}
use Rattle.httparse.specs.Spans.{span_bytes}
use Rattle.wk_wire_rules.specs.Heads.{method_of, refusal_of}
use Rattle.wk_http.specs.Fields.{fields_in, IsJudged}
use Rattle.wk_http.proofs.AcceptedLemmas.{refused_at}
use Rattle.wk_http.proofs.front.at_head.Goals as goal

pub returns-in-Refused : goal.returns-in-Refused
returns-in-Refused c =
    let method : c.method_of-method.result ≡ method_of (span_bytes c.args.window.now c.args.head.now.method) =
    c.method_of-method.ensures ∙ ap method_of c.of.ensures in
    let judged : refusal_of c.method_of-method.result (fields_in c.args.window.now (take c.args.head.now.headers c.args.headers.now)) ≡ Some c.in-Refused.status =
    subst (IsJudged c.method_of-method.result (fields_in c.args.window.now (take c.args.head.now.headers c.args.headers.now))) c.in-Refused.is c.in_ok-status.ensures in
    λ more. refused_at c.args.window.now c.args.headers.now c.args.head.now c.requires.short c.requires.within c.requires.reads more c.in-Refused.status
    (ap (λ m. refusal_of m (fields_in c.args.window.now (take c.args.head.now.headers c.args.headers.now))) (sym method) ∙ judged)
