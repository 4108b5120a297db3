-- A pass that has looked at a replica.
use Rattle.std.proofs.Common.{◌≡◌, [], Some, None, refl, sym, ap, ◌∙◌, subst, append-nil}
use mathlib.Core.List.{IsPrefix}
use Rattle.wk_wiki_rules.specs.Events.{Event}
use Rattle.wk_session_rules.specs.Points.{GoesOn}
use Rattle.wk_turn.specs.Told.{Begun, IsOf, Story}
use Rattle.wk_turn.proofs.Lists.{prefix_self, prefix_trans}
use Rattle.wk_replica.specs.Replicas.{ReplicaBegun, ReplicaSeen}
use Rattle.wk_replica_reads.specs.Looks.{HasRead, IsFree, IsHeld, seen_by}

abbrev pub Pass : Type 0
Pass = Story ReplicaBegun Event

module _ (shared : Begun ReplicaBegun) (old mid : Pass) (replica : ReplicaSeen) (taken : IsHeld shared old mid replica) where
  pub mid-turn : IsOf shared old → IsOf shared mid
  mid-turn of = (ap (λ (p : Pass). p.turn) taken.pass ∙ of.0, ap (λ (p : Pass). p.start) taken.pass ∙ of.1)

  pub mid-held : mid.held ≡ Some replica.journal
  mid-held = ap (λ (p : Pass). p.held) taken.pass

  -- given back as it was taken
  module _ (new : Pass) (back : new ≡ record mid { seen = replica.journal; held = None }) where
    whole : new ≡ record old { seen = replica.journal; held = None }
    whole = back ∙ ap (λ (p : Pass). let q : Pass = record p { seen = replica.journal; held = None } in q) taken.pass

    pub seen-is : new.seen ≡ replica.journal
    seen-is = ap (λ (p : Pass). p.seen) whole

    pub looked : IsOf shared old → HasRead shared old new
    looked of = record {
      turn = (ap (λ (p : Pass). p.turn) whole ∙ of.0, ap (λ (p : Pass). p.start) whole ∙ of.1);
      free = ap (λ (p : Pass). p.held) whole;
      seen = subst (IsPrefix old.seen) (sym seen-is) taken.seen;
      own = ap (λ (p : Pass). p.own) whole;
    }

  -- given back as another that is seen as the same
  module _ (new : Pass) (after : ReplicaSeen) (same : after ≡ replica) (back : new ≡ record mid { seen = after.journal; held = None }) where
    back-as : new ≡ record mid { seen = replica.journal; held = None }
    back-as = back ∙ ap (λ (r : ReplicaSeen). let p : Pass = record mid { seen = r.journal; held = None } in p) same

    pub seen-as : new.seen ≡ replica.journal
    seen-as = seen-is new back-as

    pub looked-as : IsOf shared old → HasRead shared old new
    looked-as of = looked new back-as of

-- ---- looks one behind the other

pub read-none : (shared : Begun ReplicaBegun) (pass : Pass) → IsFree shared pass → HasRead shared pass pass
read-none shared pass is = record { turn = is.turn; free = is.free; seen = prefix_self pass.seen; own = refl }

pub read-both : (shared : Begun ReplicaBegun) (one two three : Pass) → HasRead shared one two → HasRead shared two three → HasRead shared one three
read-both shared one two three first later = record {
  turn = later.turn;
  free = later.free;
  seen = prefix_trans one.seen two.seen three.seen first.seen later.seen;
  own = later.own ∙ first.own;
}

pub read-free : (shared : Begun ReplicaBegun) (old new : Pass) → HasRead shared old new → IsFree shared new
read-free shared old new read = record { turn = read.turn; free = read.free }

pub read-goes : (shared : Begun ReplicaBegun) (old new : Pass) → HasRead shared old new → GoesOn (seen_by shared old) (seen_by shared new) []
read-goes shared old new read = record { start = refl; seen = read.seen; own = read.own ∙ sym (append-nil old.own) }
