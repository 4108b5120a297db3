use Rattle.std.proofs.Common.{◌≡◌, ◌+◌, [], ◌∷◌, ◌++◌, true, false, refl, sym, ap, ◌∙◌}
use Rattle.std.specs.List.{list_any}
use Rattle.std.proofs.lemmas.Bool.{le-ltb, lt-ltb}
use Rattle.wk_text_rules.specs.Titles.{PageTitle, title_eq}
use Rattle.wk_view_rules.specs.Expand.{by_existence, existence_output}
use Rattle.wk_expand.specs.declared.state.Expander.{Expander}
use Rattle.std.proofs.lemmas.Result.{err_from_is_err_and}
use Rattle.wk_view_rules.specs.Expansions.{answer_to, ◌>>=◌}
use Rattle.wk_view_rules.specs.declared.Kind.TheVariants.{Exists}
use Rattle.wk_expand.specs.Answers.{answer_of}
use Rattle.wk_expand.proofs.ReadLaws.{answer-comes}
use Rattle.wk_expand.proofs.ExistsLaws.{by_answer, by_test, existence-asks, full-comes, new-comes, new-stops, tested-comes, tested-one}
use Rattle.wk_expand.proofs.RunLaws.{comes-bind, comes-in, comes-on, comes-out, leads-err, leads-on}
use Rattle.wk_expand.proofs.state.Expander.tested_existence.Goals as goal

pub returns-then-is_tested-clause-leads : goal.returns-then-is_tested-clause-leads
returns-then-is_tested-clause-leads c =
    λ inner viewed frame parts.
    let tested : list_any (title_eq c.args.title.now) c.args.self.now.tested.items ≡ true =
    ap (list_any (title_eq c.args.title.now)) (sym c.deref.ensures.value) ∙ sym c.is_tested.ensures ∙ c.if-is_tested.true
    in
    leads-on c.args.seen.now (existence_output inner viewed frame c.args.title.now parts) (by_existence inner viewed frame c.args.title.now parts) c.args.self.now c.args.self.now (by_test inner viewed frame parts) c.existence.result c.existence.new.self
    (tested-comes inner viewed frame c.args.seen.now c.args.self.now c.args.title.now parts tested)
    (c.existence.ensures.leads inner viewed frame parts)

pub returns-then-self-ge-MOST_TESTS-clause-leads : goal.returns-then-self-ge-MOST_TESTS-clause-leads
returns-then-self-ge-MOST_TESTS-clause-leads c =
    λ inner viewed frame parts.
    let untested : list_any (title_eq c.args.title.now) c.args.self.now.tested.items ≡ false =
    ap (list_any (title_eq c.args.title.now)) (sym c.deref.ensures.value) ∙ sym c.is_tested.ensures ∙ c.if-is_tested.false
    in
    full-comes inner viewed frame c.args.seen.now c.args.self.now c.args.title.now parts untested (le-ltb c.args.self.now.counts.exists 100 c.if-self-ge-MOST_TESTS.true)

pub returns-in_err-answer-clause-leads : goal.returns-in_err-answer-clause-leads
returns-in_err-answer-clause-leads c =
    λ inner viewed frame parts.
    let untested : list_any (title_eq c.args.title.now) c.args.self.now.tested.items ≡ false =
    ap (list_any (title_eq c.args.title.now)) (sym c.deref.ensures.value) ∙ sym c.is_tested.ensures ∙ c.if-is_tested.false
    in
    let seen = c.args.seen.now in
    let title = c.args.title.now in
    let s = c.args.self.now in
    let whole = existence_output inner viewed frame title parts in
    let next = by_answer inner viewed frame parts in
    let p = err_from_is_err_and c.from_residual.result c.from_residual.ensures.1 in
    let stop = c.in_err-answer.field-0.0 in
    leads-err seen whole s (by_test inner viewed frame parts) c.from_residual.result s stop p.0 p.1 p.2
    (new-stops inner viewed frame seen s title parts stop untested (lt-ltb s.counts.exists 100 c.if-self-ge-MOST_TESTS.false) c.in_err-answer.ensures.missing)

pub returns-clause-leads : goal.returns-clause-leads
returns-clause-leads c =
    λ inner viewed frame parts.
    let untested : list_any (title_eq c.args.title.now) c.args.self.now.tested.items ≡ false =
    ap (list_any (title_eq c.args.title.now)) (sym c.deref.ensures.value) ∙ sym c.is_tested.ensures ∙ c.if-is_tested.false
    in
    let seen = c.args.seen.now in
    let title = c.args.title.now in
    let s = c.args.self.now in
    let after : Expander = record s {
      counts = record s.counts { exists = s.counts.exists + 1 };
      tested = c.push.new.self;
    } in
    let noted : Expander = record after { reads = c.note.new.self } in
    let titles : after.tested.items ≡ s.tested.items ++ title ∷ [] =
    c.in_ok-push.ensures.items ∙ ap (λ (t : PageTitle). s.tested.items ++ t ∷ []) c.in_ok-share.ensures
    in
    let whole = existence_output inner viewed frame title parts in
    let one = by_existence inner viewed frame title parts in
    let next = by_answer inner viewed frame parts in
    let answer = answer_of c.in_ok-answer.answer in
    comes-out seen whole (next answer) (by_test inner viewed frame parts c.is_there.result) s noted (ap (by_test inner viewed frame parts) (sym c.is_there.ensures))
    (comes-on seen whole one (next answer) s after noted
    (new-comes inner viewed frame seen s after title parts untested (lt-ltb s.counts.exists 100 c.if-self-ge-MOST_TESTS.false) refl refl refl (tested-one s after title refl titles))
    (comes-in seen one (answer_to title Exists >>= next) (next answer) after noted (existence-asks inner viewed frame title parts)
    (comes-bind seen (answer_to title Exists) next after answer noted
    (answer-comes seen title Exists answer after noted c.in_ok-answer.ensures.answer refl refl c.in_ok-note.ensures refl))))
