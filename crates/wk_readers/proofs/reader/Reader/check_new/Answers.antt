use Rattle.std.proofs.Common.{◌≡◌, None, subst}
use Rattle.std.specs.Prelude.{IfSome}
use Rattle.wk_cache.specs.declared.kept.Kept.{Kept}
use Rattle.wk_shared.specs.Looks.{IsPresentRead}
use Rattle.wk_shared.specs.Sought.{kept_read}
use Rattle.wk_readers.proofs.ReaderLaws.{knows-looked, right-behind, right-present, taken-told}
use Rattle.wk_readers.proofs.reader.Reader.check_new.Goals as goal

pub invariant_of-self : goal.invariant_of-self
invariant_of-self g c = record {
  right = right-behind c.self.inside.pass c.self.inside.cache c.args.self.now c.self.view_is c.self.invariant.right c.args.shared.now c.look_new-found.new.pass c.requires.turn c.look_new-found.ensures.looked.1.read;
  knows = knows-looked c.args.shared.now c.self.inside.pass c.look_new-found.new.pass c.look_new-found.ensures.looked.0 c.look_new-found.result.1.idle c.look_new-found.ensures.looked.1 c.look_new-found.ensures.looked.2;
}

pub invariant_of-self-in-Some : goal.invariant_of-self-in-Some
invariant_of-self-in-Some g c = record {
  right = right-behind c.self.inside.pass c.self.inside.cache c.args.self.now c.self.view_is c.self.invariant.right c.args.shared.now c.look_new-found.new.pass c.requires.turn c.look_new-found.ensures.looked.1.read;
  knows = knows-looked c.args.shared.now c.self.inside.pass c.look_new-found.new.pass c.look_new-found.ensures.looked.0 c.look_new-found.result.1.idle c.look_new-found.ensures.looked.1 c.look_new-found.ensures.looked.2;
}

pub invariant_of-self-in-None : goal.invariant_of-self-in-None
invariant_of-self-in-None g c = record {
  right = right-behind c.self.inside.pass c.self.inside.cache c.args.self.now c.self.view_is c.self.invariant.right c.args.shared.now c.look_new-found.new.pass c.requires.turn c.look_new-found.ensures.looked.1.read;
  knows = knows-looked c.args.shared.now c.self.inside.pass c.look_new-found.new.pass c.look_new-found.ensures.looked.0 c.look_new-found.result.1.idle c.look_new-found.ensures.looked.1 c.look_new-found.ensures.looked.2;
}

pub take_in-requires-clause-right : goal.take_in-requires-clause-right
take_in-requires-clause-right g c =
    let kept = subst (λ o. IfSome o (λ (k : Kept). IsPresentRead c.args.shared.now c.look_new-found.new.pass c.args.title.now None (kept_read k) × (k.uses ≡ 0))) c.in-Some.is c.look_new-found.ensures.kept in
    right-present c.args.shared.now c.look_new-found.new.pass c.args.title.now None (kept_read c.in-Some.found) c.look_new-found.ensures.looked.1.read.turn kept.0

pub take_in-requires-clause-own_text : goal.take_in-requires-clause-own_text
take_in-requires-clause-own_text g c =
    (subst (λ o. IfSome o (λ (k : Kept). IsPresentRead c.args.shared.now c.look_new-found.new.pass c.args.title.now None (kept_read k) × (k.uses ≡ 0))) c.in-Some.is c.look_new-found.ensures.kept).0.given_is

pub returns-in-Some-clause-check : goal.returns-in-Some-clause-check
returns-in-Some-clause-check g c =
    let kept = subst (λ o. IfSome o (λ (k : Kept). IsPresentRead c.args.shared.now c.look_new-found.new.pass c.args.title.now None (kept_read k) × (k.uses ≡ 0))) c.in-Some.is c.look_new-found.ensures.kept in
    taken-told c.self.inside.pass c.self.inside.cache c.args.self.now c.self.view_is c.args.shared.now c.args.title.now c.look_new-found.new.pass c.look_new-found.result.1.point c.look_new-found.ensures.point c.args.least c.if-point-least.false
    c.in-Some.found kept.0 c.take_in.new.self c.take_in.result c.take_in.ensures.read c.take_in.ensures.pass c.take_in.ensures.kept
