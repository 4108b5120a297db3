-- What a door has given, and what is left, behind one accept more.
use Rattle.std.proofs.Common.{◌≡◌, ℕ, suc, ◌+◌, ◌-◌, true, List, length, Option, Some, None, refl, ap, ◌∙◌, arith}
use Rattle.std.specs.Prelude.{◌==◌}
use Rattle.wk_door.specs.Told.{DoorCounts, DoorTold, IsAccepted, counts_of}
use Rattle.wk_door.specs.Entrances.{HasLeft, after_giving, is_emptied}

abbrev Counts : Type 0
Counts = Option (List ℕ) × (ℕ × ℕ)

first : (a b : Counts) → ◌≡◌ {A = Option Counts} (Some a) (Some b) → a ≡ b
first a b is = cc

-- so many are left behind one more
left-after : (xs rest : ℕ) (left count : ℕ) → xs ≡ left - count → xs ≡ suc rest → rest ≡ left - (count + 1)
left-after xs rest left count is one = omega (arith, is, one)

module _ {L : Type 0} where
  pub given-one : (before : Option DoorCounts) (door later : Option (DoorTold L)) (link : L) (count : ℕ) → counts_of door ≡ after_giving before count → IsAccepted door later (Some link) → counts_of later ≡ after_giving before (count + 1)
  given-one None None later link count is accepted = ap counts_of accepted
  given-one None (Some door) later link count is accepted = absurd (let e : Some (door.address, (door.given, length door.left)) ≡ None = is in cc)
  given-one (Some b) None later link count is accepted = absurd (let e : None ≡ Some (b.0, (b.1.0 + count, b.1.1 - count)) = is in cc)
  given-one (Some b) (Some door) later link count is accepted =
      let same = first (door.address, (door.given, length door.left)) (b.0, (b.1.0 + count, b.1.1 - count)) is in
      let address : door.address ≡ b.0 = ap (λ (c : Counts). c.0) same in
      let given : door.given + 1 ≡ b.1.0 + (count + 1) = let e = ap (λ (c : Counts). c.1.0) same in omega (arith, e) in
      let left : length accepted.0 ≡ b.1.1 - (count + 1) = left-after (length door.left) (length accepted.0) b.1.1 count (ap (λ (c : Counts). c.1.1) same) (ap length accepted.1) in
      ap counts_of accepted.2 ∙ rw (address, given, left) refl

  pub left-one : (before : Option DoorCounts) (door later : Option (DoorTold L)) (link : L) (count : ℕ) → counts_of door ≡ after_giving before count → IsAccepted door later (Some link) → HasLeft before count → HasLeft before (count + 1)
  left-one None door later link count is accepted left = left
  left-one (Some b) None later link count is accepted left = absurd (let e : None ≡ Some (b.0, (b.1.0 + count, b.1.1 - count)) = is in cc)
  left-one (Some b) (Some door) later link count is accepted left =
      let same = first (door.address, (door.given, length door.left)) (b.0, (b.1.0 + count, b.1.1 - count)) is in
      let now : length door.left ≡ b.1.1 - count = ap (λ (c : Counts). c.1.1) same in
      let one : length door.left ≡ suc (length accepted.0) = ap length accepted.1 in
      omega (arith, now, one)

  -- none was left, and nothing changed
  pub empty-same : (door later : Option (DoorTold L)) → IsAccepted door later None → counts_of later ≡ counts_of door
  empty-same None later accepted = absurd accepted
  empty-same (Some door) later accepted = ap counts_of accepted.1

  pub empty-now : (door later : Option (DoorTold L)) → IsAccepted door later None → is_emptied (counts_of later) ≡ true
  empty-now None later accepted = absurd accepted
  empty-now (Some door) later accepted =
      ap (λ (d : Option (DoorTold L)). is_emptied (counts_of d)) accepted.1 ∙ ap (λ (l : List L). length l == 0) accepted.0
