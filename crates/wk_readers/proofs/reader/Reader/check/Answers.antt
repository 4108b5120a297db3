use Rattle.std.proofs.Common.{◌≡◌, None, refl, subst}
use Rattle.wk_view_rules.specs.Worlds.{IsSeen}
use Rattle.wk_wiki_rules.specs.States.{world_of}
use Rattle.wk_wiki_rules.specs.Staleness.{first_stale}
use Rattle.wk_expand.specs.Drafts.{DraftShown}
use Rattle.wk_shared.specs.Sought.{IsLookedFor, kept_read}
use Rattle.wk_readers.proofs.ReaderLaws.{current-told, knows-looked, right-behind, right-marked, right-present, taken-told}
use Rattle.wk_readers.proofs.reader.Reader.check.Goals as goal

pub invariant_of-self : goal.invariant_of-self
invariant_of-self g c = record {
  right = right-behind c.self.inside.pass c.self.inside.cache c.args.self.now c.self.view_is c.self.invariant.right c.args.shared.now c.look_for-sought.new.pass c.requires.free.turn c.look_for-sought.ensures.looked.1.read;
  knows = knows-looked c.args.shared.now c.self.inside.pass c.look_for-sought.new.pass c.look_for-sought.ensures.looked.0 c.look_for-sought.result.1.idle c.look_for-sought.ensures.looked.1 c.look_for-sought.ensures.looked.3;
}

pub invariant_of-self-in-Shared : goal.invariant_of-self-in-Shared
invariant_of-self-in-Shared g c = record {
  right = right-behind c.self.inside.pass c.self.inside.cache c.args.self.now c.self.view_is c.self.invariant.right c.args.shared.now c.look_for-sought.new.pass c.requires.free.turn c.look_for-sought.ensures.looked.1.read;
  knows = knows-looked c.args.shared.now c.self.inside.pass c.look_for-sought.new.pass c.look_for-sought.ensures.looked.0 c.look_for-sought.result.1.idle c.look_for-sought.ensures.looked.1 c.look_for-sought.ensures.looked.3;
}

pub invariant_of-self-in-Nothing-1 : goal.invariant_of-self-in-Nothing-1
invariant_of-self-in-Nothing-1 g c = record {
  right = right-behind c.self.inside.pass c.self.inside.cache c.args.self.now c.self.view_is c.self.invariant.right c.args.shared.now c.look_for-sought.new.pass c.requires.free.turn c.look_for-sought.ensures.looked.1.read;
  knows = knows-looked c.args.shared.now c.self.inside.pass c.look_for-sought.new.pass c.look_for-sought.ensures.looked.0 c.look_for-sought.result.1.idle c.look_for-sought.ensures.looked.1 c.look_for-sought.ensures.looked.3;
}

pub invariant_of-self-in-Own : goal.invariant_of-self-in-Own
invariant_of-self-in-Own g c =
    let looked = c.look_for-sought.ensures.looked in
    let seen = subst (λ (d : DraftShown). IsSeen d.reads) c.draft-made.ensures c.reads-reads.ensures.seen in
    let own = subst (λ s. IsLookedFor c.args.shared.now c.look_for-sought.new.pass looked.0 c.args.title.now c.draft-made.result.now s) c.in-Own.is looked.2 in
    let none = subst (λ (d : DraftShown). first_stale (world_of looked.0) d.reads ≡ None) c.draft-made.ensures own in
    record {
      right = right-marked c.self.inside.pass c.self.inside.cache c.args.self.now c.self.view_is c.self.invariant.right c.args.shared.now c.requires.free.turn c.args.title.now c.args.kept c.requires.entry c.look_for-sought.new.pass looked.0 looked.1
          c.look_for-sought.result.1.point c.look_for-sought.ensures.point seen none c.set.new.self c.set.ensures;
      knows = knows-looked c.args.shared.now c.self.inside.pass c.look_for-sought.new.pass c.look_for-sought.ensures.looked.0 c.look_for-sought.result.1.idle c.look_for-sought.ensures.looked.1 c.look_for-sought.ensures.looked.3;
    }

pub returns-in-Own-clause-check : goal.returns-in-Own-clause-check
returns-in-Own-clause-check g c =
    let looked = c.look_for-sought.ensures.looked in
    let seen = subst (λ (d : DraftShown). IsSeen d.reads) c.draft-made.ensures c.reads-reads.ensures.seen in
    let own = subst (λ s. IsLookedFor c.args.shared.now c.look_for-sought.new.pass looked.0 c.args.title.now c.draft-made.result.now s) c.in-Own.is looked.2 in
    let none = subst (λ (d : DraftShown). first_stale (world_of looked.0) d.reads ≡ None) c.draft-made.ensures own in
    current-told c.self.inside.pass c.self.inside.cache c.args.self.now c.self.view_is c.self.invariant.right c.args.shared.now c.requires.free.turn c.args.title.now c.args.kept c.requires.entry c.look_for-sought.new.pass looked.0 looked.1
    c.look_for-sought.result.1.point c.look_for-sought.ensures.point seen none c.set.new.self c.set.ensures c.args.least c.if-point-least.false _ refl

pub take_in-requires-clause-right : goal.take_in-requires-clause-right
take_in-requires-clause-right g c =
    let looked = c.look_for-sought.ensures.looked in
    let found = subst (λ s. IsLookedFor c.args.shared.now c.look_for-sought.new.pass looked.0 c.args.title.now c.draft-made.result.now s) c.in-Shared.is looked.2 in
    right-present c.args.shared.now c.look_for-sought.new.pass c.args.title.now None (kept_read c.in-Shared.found) looked.1.read.turn found.0

pub take_in-requires-clause-own_text : goal.take_in-requires-clause-own_text
take_in-requires-clause-own_text g c =
    let looked = c.look_for-sought.ensures.looked in
    (subst (λ s. IsLookedFor c.args.shared.now c.look_for-sought.new.pass looked.0 c.args.title.now c.draft-made.result.now s) c.in-Shared.is looked.2).0.given_is

pub returns-in-Shared-clause-check : goal.returns-in-Shared-clause-check
returns-in-Shared-clause-check g c =
    let looked = c.look_for-sought.ensures.looked in
    let found = subst (λ s. IsLookedFor c.args.shared.now c.look_for-sought.new.pass looked.0 c.args.title.now c.draft-made.result.now s) c.in-Shared.is looked.2 in
    taken-told c.self.inside.pass c.self.inside.cache c.args.self.now c.self.view_is c.args.shared.now c.args.title.now c.look_for-sought.new.pass c.look_for-sought.result.1.point c.look_for-sought.ensures.point c.args.least c.if-point-least.false
    c.in-Shared.found found.0 c.take_in.new.self c.take_in.result c.take_in.ensures.read c.take_in.ensures.pass c.take_in.ensures.kept
