-- A pass that has looked at the wiki.
use Rattle.std.proofs.Common.{◌≡◌, Bool, true, false, not, List, Some, None, refl, sym, ap, ◌∙◌, subst}
use mathlib.Core.List.{IsPrefix}
use Rattle.wk_wiki_rules.specs.Events.{Event}
use Rattle.wk_wiki_rules.specs.Starts.{Start}
use Rattle.wk_life_laws.specs.Runs.{IsRun}
use Rattle.wk_core.specs.Seen.{WikiSeen}
use Rattle.wk_turn.specs.Told.{Begun, IsOf, Story}
use Rattle.wk_turn.proofs.Lists.{prefix_self, prefix_trans}
use Rattle.wk_shared.specs.Calls.{IsFree}
use Rattle.wk_shared.specs.Looks.{HasLooked, HasRead, IsTakenToLook}

abbrev pub Pass : Type 0
Pass = Story Start Event

module _ {K : Type 0} (shared : Begun Start) (old mid : Pass) (wiki : WikiSeen K) (taken : IsTakenToLook shared old mid wiki) (of : IsOf shared old) where
  pub mid-turn : IsOf shared mid
  mid-turn = (ap (λ (p : Pass). p.turn) taken.pass ∙ of.0, ap (λ (p : Pass). p.start) taken.pass ∙ of.1)

  pub mid-held : mid.held ≡ Some wiki.journal
  mid-held = ap (λ (p : Pass). p.held) taken.pass

  module _ (new : Pass) (back : new ≡ record mid { seen = wiki.journal; held = None }) where
    whole : new ≡ record old { seen = wiki.journal; held = None }
    whole = back ∙ ap (λ (p : Pass). let q : Pass = record p { seen = wiki.journal; held = None } in q) taken.pass

    pub seen-is : new.seen ≡ wiki.journal
    seen-is = ap (λ (p : Pass). p.seen) whole

    pub looked : HasLooked shared old new wiki.state
    looked = record {
      read = record {
        turn = (ap (λ (p : Pass). p.turn) whole ∙ of.0, ap (λ (p : Pass). p.start) whole ∙ of.1);
        free = ap (λ (p : Pass). p.held) whole;
        seen = subst (IsPrefix old.seen) (sym seen-is) taken.seen;
        own = ap (λ (p : Pass). p.own) whole;
      };
      run = subst (λ (j : List Event). IsRun shared.start j wiki.state) (sym seen-is) taken.run;
    }

  -- where the wiki is given back as another that is seen as the same
  module _ (new : Pass) (after : WikiSeen K) (same : after ≡ wiki) (back : new ≡ record mid { seen = after.journal; held = None }) where
    back-as : new ≡ record mid { seen = wiki.journal; held = None }
    back-as = back ∙ ap (λ (w : WikiSeen K). let p : Pass = record mid { seen = w.journal; held = None } in p) same

    pub seen-as : new.seen ≡ wiki.journal
    seen-as = seen-is new back-as

    pub looked-as : HasLooked shared old new wiki.state
    looked-as = looked new back-as

pub read-none : (shared : Begun Start) (pass : Pass) → IsFree shared pass → HasRead shared pass pass
read-none shared pass is = record { turn = is.turn; free = is.free; seen = prefix_self pass.seen; own = λ i. pass.own }

pub read-both : (shared : Begun Start) (one two three : Pass) → HasRead shared one two → HasRead shared two three → HasRead shared one three
read-both shared one two three first later = record {
  turn = later.turn;
  free = later.free;
  seen = prefix_trans one.seen two.seen three.seen first.seen later.seen;
  own = later.own ∙ first.own;
}

-- what a test tells whose opposite failed
pub not-false : (b : Bool) → not b ≡ false → b ≡ true
not-false true e = refl
not-false false e = absurd (let x : true ≡ false = e in cc)
