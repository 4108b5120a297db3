use Rattle.std.proofs.Common.{◌≡◌, false, None, sym, subst, refl, ◌∙◌}
use Rattle.std.proofs.lemmas.Result.{err_from_is_err_and}
use Rattle.wk_view_rules.specs.Expand.{included, redirected}
use Rattle.wk_text_rules.specs.Titles.{PageTitle}
use Rattle.wk_view_rules.specs.Frames.{is_within}
use Rattle.wk_view_rules.specs.Texts.{loop_error, link_text}
use Rattle.wk_expand.specs.Answers.{answer_of}
use Rattle.wk_expand.specs.Inclusions.{found_rest}
use Rattle.wk_expand.specs.Running.{ComesTo}
use Rattle.wk_expand.specs.declared.answer.Answer.{Answer}
use Rattle.wk_expand.specs.declared.answer.Answer.TheVariants.{Page}
use Rattle.wk_expand.proofs.RunLaws.{gives-here, gives-then, leads-err}
use Rattle.wk_expand.proofs.InclusionLaws.{redirected-loop, redirected-comes, redirected-stops, by_target}
use Rattle.wk_expand.proofs.state.Expander.redirected.Goals as goal

pub returns-then-is_within-clause-finds : goal.returns-then-is_within-clause-finds
returns-then-is_within-clause-finds c =
    λ viewed frame is inner parts.
    gives-here c.args.seen.now (redirected inner viewed frame c.args.title.now c.args.target.now parts) c.args.self.now (loop_error c.args.target.now) c.in_ok-loop_error.field-0
    (redirected-loop inner viewed frame c.args.title.now parts c.args.target.now (sym (c.is_within.ensures frame is.shows) ∙ c.if-is_within.true))
    c.in_ok-loop_error.ensures

pub returns-in_err-text-clause-finds : goal.returns-in_err-text-clause-finds
returns-in_err-text-clause-finds c =
    λ viewed frame is inner parts.
    let outside : is_within frame c.args.target.now ≡ false = sym (c.is_within.ensures frame is.shows) ∙ c.if-is_within.false in
    let p = err_from_is_err_and c.from_residual-in_err-text.result c.from_residual-in_err-text.ensures.1 in
    leads-err c.args.seen.now (redirected inner viewed frame c.args.title.now c.args.target.now parts) c.args.self.now (found_rest inner viewed frame c.args.title.now parts) c.from_residual-in_err-text.result c.answer.new.self c.in_err-text.field-0.0 p.0 p.1 p.2
    (redirected-stops inner viewed frame c.args.title.now parts c.args.seen.now c.args.self.now c.args.target.now c.in_err-text.field-0.0 outside c.in_err-text.ensures.leads)

pub returns-in_ok-share-in-Page-Some-clause-finds : goal.returns-in_ok-share-in-Page-Some-clause-finds
returns-in_ok-share-in-Page-Some-clause-finds c =
    λ viewed frame is inner parts.
    let outside : is_within frame c.args.target.now ≡ false = sym (c.is_within.ensures frame is.shows) ∙ c.if-is_within.false in
    let target = by_target inner viewed frame c.args.title.now parts c.args.target.now in
    let whole = redirected inner viewed frame c.args.title.now c.args.target.now parts in
    let come = redirected-comes inner viewed frame c.args.title.now parts c.args.seen.now c.args.self.now c.answer.new.self c.args.target.now (answer_of c.in_ok-text.field-0) outside c.in_ok-text.ensures.leads in
    let some = subst (λ o. ComesTo c.args.seen.now whole c.args.self.now (target (answer_of (Page o))) c.answer.new.self) c.in-Page-Some.field-0-is
    (subst (λ (a : Answer). ComesTo c.args.seen.now whole c.args.self.now (target (answer_of a)) c.answer.new.self) c.in-Page-Some.is come)
    in
    subst (λ (t : PageTitle). ComesTo c.args.seen.now whole c.args.self.now (included inner viewed frame c.args.title.now t c.in-Page-Some.text parts) c.answer.new.self) (sym c.in_ok-share-in-Page-Some.ensures) some

pub returns-in_ok-link_text-in-Page-None-clause-finds : goal.returns-in_ok-link_text-in-Page-None-clause-finds
returns-in_ok-link_text-in-Page-None-clause-finds c =
    λ viewed frame is inner parts.
    let outside : is_within frame c.args.target.now ≡ false = sym (c.is_within.ensures frame is.shows) ∙ c.if-is_within.false in
    let target = by_target inner viewed frame c.args.title.now parts c.args.target.now in
    let whole = redirected inner viewed frame c.args.title.now c.args.target.now parts in
    let come = redirected-comes inner viewed frame c.args.title.now parts c.args.seen.now c.args.self.now c.answer.new.self c.args.target.now (answer_of c.in_ok-text.field-0) outside c.in_ok-text.ensures.leads in
    let none : ComesTo c.args.seen.now whole c.args.self.now (target (answer_of (Page None))) c.answer.new.self =
    subst (λ o. ComesTo c.args.seen.now whole c.args.self.now (target (answer_of (Page o))) c.answer.new.self) c.in-Page-None.field-0-is
    (subst (λ (a : Answer). ComesTo c.args.seen.now whole c.args.self.now (target (answer_of a)) c.answer.new.self) c.in-Page-None.is come)
    in
    gives-then c.args.seen.now whole (target (answer_of (Page None))) c.args.self.now c.answer.new.self (link_text c.args.title.now) c.in_ok-link_text-in-Page-None.field-0 none refl c.in_ok-link_text-in-Page-None.ensures

pub returns-in_ok-link_text-in-Exists-clause-finds : goal.returns-in_ok-link_text-in-Exists-clause-finds
returns-in_ok-link_text-in-Exists-clause-finds c =
    λ viewed frame is inner parts.
    let outside : is_within frame c.args.target.now ≡ false = sym (c.is_within.ensures frame is.shows) ∙ c.if-is_within.false in
    let target = by_target inner viewed frame c.args.title.now parts c.args.target.now in
    let whole = redirected inner viewed frame c.args.title.now c.args.target.now parts in
    let come = redirected-comes inner viewed frame c.args.title.now parts c.args.seen.now c.args.self.now c.answer.new.self c.args.target.now (answer_of c.in_ok-text.field-0) outside c.in_ok-text.ensures.leads in
    let other = subst (λ (a : Answer). ComesTo c.args.seen.now whole c.args.self.now (target (answer_of a)) c.answer.new.self) c.in-Exists.is come in
    gives-then c.args.seen.now whole _ c.args.self.now c.answer.new.self (link_text c.args.title.now) c.in_ok-link_text-in-Exists.field-0 other refl c.in_ok-link_text-in-Exists.ensures
