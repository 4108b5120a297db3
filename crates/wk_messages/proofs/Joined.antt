-- One read after others.
use Rattle.std.proofs.Common.{◌≡◌, ◌≢◌, ℕ, ◌+◌, List, [], ◌++◌, length, refl, sym, ap, ◌∙◌, subst, append_assoc, append-nil, length-append, arith}
use Rattle.std.proofs.KnownBytes.{Consumes-kept, Consumes-nil, Consumes-trans}
use Rattle.std.specs.Io.KnownBytes.{Consumes, Keeps}
use Rattle.std.specs.Prelude.{Option}
use Rattle.wk_wire_rules.specs.Heads.{Message}
use Rattle.wk_wire_rules.specs.Messages.{IsMessage, IsOpen}
use Rattle.wk_messages.specs.Reading.{Gives, HoldsNone, Reading, ReadsOn, StopsAt}
use Rattle.wk_http.specs.declared.report.SessionEnd.{SessionEnd}

counted_on : (a b c : ℕ) (read more : List ℕ) → b ≡ a + length read → c ≡ b + length more → c ≡ a + length (read ++ more)
counted_on a b c read more first second = omega (arith, length-append read more, first, second)

pub reads_nothing : (r : Reading) (x : Option (List ℕ)) → ReadsOn r r x x
reads_nothing r x = record { read = []; consumed = Consumes-nil x; counted = omega arith; left = sym (append-nil r.left) }

pub reads_on : (a b c : Reading) (x y z : Option (List ℕ)) → ReadsOn a b x y → ReadsOn b c y z → ReadsOn a c x z
reads_on a b c x y z first second = record {
  read = first.read ++ second.read;
  consumed = Consumes-trans x y z first.read second.read first.consumed second.consumed;
  counted = counted_on a.total b.total c.total first.read second.read first.counted second.counted;
  left = second.left ∙ (ap (λ (t : List ℕ). t ++ second.read) first.left ∙ append_assoc a.left first.read second.read);
}

-- what is left behind reads
all_left : (a b : Reading) (x y : Option (List ℕ)) (first : ReadsOn a b x y) (more : List ℕ) → b.left ++ more ≡ a.left ++ (first.read ++ more)
all_left a b x y first more = ap (λ (t : List ℕ). t ++ more) first.left ∙ append_assoc a.left first.read more

pub stops_after : (a b c : Reading) (x y z : Option (List ℕ)) (end : SessionEnd) → ReadsOn a b x y → StopsAt b c y z end → StopsAt a c x z end
stops_after a b c x y z end first second = record {
  read = first.read ++ second.read;
  consumed = Consumes-trans x y z first.read second.read first.consumed second.consumed;
  counted = counted_on a.total b.total c.total first.read second.read first.counted second.counted;
  holds = subst (λ (t : List ℕ). HoldsNone t z c.total end) (all_left a b x y first second.read) second.holds;
}

-- the reading stops where it is
pub stops_here : (a : Reading) (left : List ℕ) (total : ℕ) (x y : Option (List ℕ)) (end : SessionEnd) → ReadsOn a (record { left = left; total = total }) x y →
    (later : List ℕ) → HoldsNone left y total end → StopsAt a (record { left = later; total = total }) x y end
stops_here a left total x y end reads later holds = record {
  read = reads.read;
  consumed = reads.consumed;
  counted = reads.counted;
  holds = subst (λ (t : List ℕ). HoldsNone t y total end) reads.left holds;
}

pub gives_here : (a : Reading) (left : List ℕ) (total : ℕ) (x y : Option (List ℕ)) (message : Message) → ReadsOn a (record { left = left; total = total }) x y →
    (later : List ℕ) → IsMessage left message later → Gives a (record { left = later; total = total }) x y message
gives_here a left total x y message reads later is = record {
  read = reads.read;
  consumed = reads.consumed;
  counted = reads.counted;
  is = subst (λ (t : List ℕ). IsMessage t message later) reads.left is;
}

-- nothing was read
pub stops_unread : (left : List ℕ) (total : ℕ) (x y : Option (List ℕ)) (end : SessionEnd) → Consumes x y [] → HoldsNone left y total end →
    StopsAt (record { left = left; total = total }) (record { left = left; total = total }) x y end
stops_unread left total x y end consumed holds = record {
  read = [];
  consumed = consumed;
  counted = omega arith;
  holds = subst (λ (t : List ℕ). HoldsNone t y total end) (sym (append-nil left)) holds;
}
