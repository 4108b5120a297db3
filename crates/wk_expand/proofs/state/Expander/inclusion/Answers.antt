use Rattle.std.proofs.Common.{◌≡◌, false, None, length, sym, subst, refl, ◌∙◌}
use Rattle.std.specs.Bool.{nat_le}
use Rattle.std.proofs.lemmas.Result.{err_from_is_err_and}
use Rattle.wk_text_rules.specs.Titles.{is_virtual}
use Rattle.wk_view_rules.specs.Expand.{inclusion, included_text}
use Rattle.wk_view_rules.specs.Expansions.{most_depth}
use Rattle.wk_view_rules.specs.Frames.{is_within}
use Rattle.wk_view_rules.specs.Texts.{loop_error, link_text, depth_error}
use Rattle.wk_expand.specs.Answers.{answer_of}
use Rattle.wk_expand.specs.Inclusions.{found_rest}
use Rattle.wk_expand.specs.Running.{ComesTo}
use Rattle.wk_expand.specs.declared.answer.Answer.{Answer}
use Rattle.wk_expand.specs.declared.answer.Answer.TheVariants.{Page}
use Rattle.wk_expand.proofs.RunLaws.{comes-on, gives-here, gives-then, leads-err, frame-same, same-on}
use Rattle.wk_expand.proofs.InclusionLaws.{inclusion-virtual, inclusion-loop, inclusion-deep, inclusion-comes, inclusion-stops, by_text}
use Rattle.wk_expand.proofs.state.Expander.inclusion.Goals as goal

pub returns-then-is_virtual-clause-finds : goal.returns-then-is_virtual-clause-finds
returns-then-is_virtual-clause-finds c =
    λ viewed frame is inner parts.
    gives-here c.args.seen.now (inclusion inner viewed frame c.args.title.now parts) c.args.self.now (link_text c.args.title.now) c.in_ok-link_text.field-0
    (inclusion-virtual inner viewed frame c.args.title.now parts (sym c.is_virtual.ensures ∙ c.if-is_virtual.true))
    c.in_ok-link_text.ensures

pub returns-then-is_within-clause-finds : goal.returns-then-is_within-clause-finds
returns-then-is_within-clause-finds c =
    λ viewed frame is inner parts.
    gives-here c.args.seen.now (inclusion inner viewed frame c.args.title.now parts) c.args.self.now (loop_error c.args.title.now) c.in_ok-loop_error.field-0
    (inclusion-loop inner viewed frame c.args.title.now parts (sym c.is_virtual.ensures ∙ c.if-is_virtual.false) (sym (c.is_within.ensures frame is.shows) ∙ c.if-is_within.true))
    c.in_ok-loop_error.ensures

pub returns-then-is_deep-clause-finds : goal.returns-then-is_deep-clause-finds
returns-then-is_deep-clause-finds c =
    λ viewed frame is inner parts.
    gives-here c.args.seen.now (inclusion inner viewed frame c.args.title.now parts) c.args.self.now (depth_error c.args.title.now) c.in_ok-depth_error.field-0
    (inclusion-deep inner viewed frame c.args.title.now parts (sym c.is_virtual.ensures ∙ c.if-is_virtual.false) (sym (c.is_within.ensures frame is.shows) ∙ c.if-is_within.false) (sym (c.is_deep.ensures frame is.shows) ∙ c.if-is_deep.true))
    c.in_ok-depth_error.ensures

pub returns-in_err-text-clause-finds : goal.returns-in_err-text-clause-finds
returns-in_err-text-clause-finds c =
    λ viewed frame is inner parts.
    let real : is_virtual c.args.title.now ≡ false = sym c.is_virtual.ensures ∙ c.if-is_virtual.false in
    let outside : is_within frame c.args.title.now ≡ false = sym (c.is_within.ensures frame is.shows) ∙ c.if-is_within.false in
    let shallow : nat_le most_depth (length frame) ≡ false = sym (c.is_deep.ensures frame is.shows) ∙ c.if-is_deep.false in
    let p = err_from_is_err_and c.from_residual-in_err-text.result c.from_residual-in_err-text.ensures.1 in
    leads-err c.args.seen.now (inclusion inner viewed frame c.args.title.now parts) c.args.self.now (found_rest inner viewed frame c.args.title.now parts) c.from_residual-in_err-text.result c.answer.new.self c.in_err-text.field-0.0 p.0 p.1 p.2
    (inclusion-stops inner viewed frame c.args.title.now parts c.args.seen.now c.args.self.now c.in_err-text.field-0.0 real outside shallow c.in_err-text.ensures.leads)

pub returns-in_ok-included_text-in-Page-Some-clause-finds : goal.returns-in_ok-included_text-in-Page-Some-clause-finds
returns-in_ok-included_text-in-Page-Some-clause-finds c =
    λ viewed frame is inner parts.
    let real : is_virtual c.args.title.now ≡ false = sym c.is_virtual.ensures ∙ c.if-is_virtual.false in
    let outside : is_within frame c.args.title.now ≡ false = sym (c.is_within.ensures frame is.shows) ∙ c.if-is_within.false in
    let shallow : nat_le most_depth (length frame) ≡ false = sym (c.is_deep.ensures frame is.shows) ∙ c.if-is_deep.false in
    let target = by_text inner viewed frame c.args.title.now parts in
    let whole = inclusion inner viewed frame c.args.title.now parts in
    let come = inclusion-comes inner viewed frame c.args.title.now parts c.args.seen.now c.args.self.now c.answer.new.self (answer_of c.in_ok-text.field-0) real outside shallow c.in_ok-text.ensures.leads in
    let some = subst (λ o. ComesTo c.args.seen.now whole c.args.self.now (target (answer_of (Page o))) c.answer.new.self) c.in-Page-Some.field-0-is
    (subst (λ (a : Answer). ComesTo c.args.seen.now whole c.args.self.now (target (answer_of a)) c.answer.new.self) c.in-Page-Some.is come)
    in
    comes-on c.args.seen.now whole (included_text inner viewed frame c.args.title.now c.in-Page-Some.text parts) (found_rest inner viewed frame c.args.title.now parts c.in_ok-included_text-in-Page-Some.field-0) c.args.self.now c.answer.new.self c.included_text.new.self some
    (c.in_ok-included_text-in-Page-Some.ensures.finds c.args.seen.now viewed frame (frame-same c.args.self.now c.answer.new.self viewed frame c.in_ok-text.ensures.leads.same is) inner parts)

pub returns-in_ok-included_text-in-Page-Some-clause-same : goal.returns-in_ok-included_text-in-Page-Some-clause-same
returns-in_ok-included_text-in-Page-Some-clause-same c = same-on c.args.self.now c.answer.new.self c.included_text.new.self c.in_ok-text.ensures.leads.same c.in_ok-included_text-in-Page-Some.ensures.same

pub returns-in_ok-link_text-in-Page-None-clause-finds : goal.returns-in_ok-link_text-in-Page-None-clause-finds
returns-in_ok-link_text-in-Page-None-clause-finds c =
    λ viewed frame is inner parts.
    let real : is_virtual c.args.title.now ≡ false = sym c.is_virtual.ensures ∙ c.if-is_virtual.false in
    let outside : is_within frame c.args.title.now ≡ false = sym (c.is_within.ensures frame is.shows) ∙ c.if-is_within.false in
    let shallow : nat_le most_depth (length frame) ≡ false = sym (c.is_deep.ensures frame is.shows) ∙ c.if-is_deep.false in
    let target = by_text inner viewed frame c.args.title.now parts in
    let whole = inclusion inner viewed frame c.args.title.now parts in
    let come = inclusion-comes inner viewed frame c.args.title.now parts c.args.seen.now c.args.self.now c.answer.new.self (answer_of c.in_ok-text.field-0) real outside shallow c.in_ok-text.ensures.leads in
    let none : ComesTo c.args.seen.now whole c.args.self.now (target (answer_of (Page None))) c.answer.new.self =
    subst (λ o. ComesTo c.args.seen.now whole c.args.self.now (target (answer_of (Page o))) c.answer.new.self) c.in-Page-None.field-0-is
    (subst (λ (a : Answer). ComesTo c.args.seen.now whole c.args.self.now (target (answer_of a)) c.answer.new.self) c.in-Page-None.is come)
    in
    gives-then c.args.seen.now whole (target (answer_of (Page None))) c.args.self.now c.answer.new.self (link_text c.args.title.now) c.in_ok-link_text-in-Page-None.field-0 none refl c.in_ok-link_text-in-Page-None.ensures

pub returns-in_ok-link_text-in-Exists-clause-finds : goal.returns-in_ok-link_text-in-Exists-clause-finds
returns-in_ok-link_text-in-Exists-clause-finds c =
    λ viewed frame is inner parts.
    let real : is_virtual c.args.title.now ≡ false = sym c.is_virtual.ensures ∙ c.if-is_virtual.false in
    let outside : is_within frame c.args.title.now ≡ false = sym (c.is_within.ensures frame is.shows) ∙ c.if-is_within.false in
    let shallow : nat_le most_depth (length frame) ≡ false = sym (c.is_deep.ensures frame is.shows) ∙ c.if-is_deep.false in
    let target = by_text inner viewed frame c.args.title.now parts in
    let whole = inclusion inner viewed frame c.args.title.now parts in
    let come = inclusion-comes inner viewed frame c.args.title.now parts c.args.seen.now c.args.self.now c.answer.new.self (answer_of c.in_ok-text.field-0) real outside shallow c.in_ok-text.ensures.leads in
    let other = subst (λ (a : Answer). ComesTo c.args.seen.now whole c.args.self.now (target (answer_of a)) c.answer.new.self) c.in-Exists.is come in
    gives-then c.args.seen.now whole _ c.args.self.now c.answer.new.self (link_text c.args.title.now) c.in_ok-link_text-in-Exists.field-0 other refl c.in_ok-link_text-in-Exists.ensures
