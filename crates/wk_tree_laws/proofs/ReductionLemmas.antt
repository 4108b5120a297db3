-- The rewriting as a whole: what it keeps, that it ends without closing runs, and that one more step before it is
-- nothing to it.
use Rattle.std.proofs.Common.{◌≡◌, ℕ, zero, suc, ◌+◌, ◌<◌, ◌≤◌, List, ◌∷◌, ◌++◌, replicate, Option, Some, None, refl, ap, sym, subst, ◌∙◌, arith, append_assoc, le_refl}
use Rattle.std.proofs.lemmas.Grind.{flat_map-append}
use Rattle.std.proofs.lemmas.List.Sums.{sum_by-append, sum_by-cons}
use Rattle.wk_tree_laws.proofs.PieceLemmas.{all-append, all-front, all-back, piece_source, pieces_source, IsSound, AreSound, HaveNoClosing, leftmost_closing-none, leftmost_closing-first, ByClosing, without, parted, by_closing}
use Rattle.wk_tree_laws.proofs.StepLemmas.{Keeps, answered-keeps}
use Rattle.wk_tree_rules.specs.Reduction.{Run, Piece, closing, closing_delimiter, AtClosing, answered, step, steps, closing_delimiters, reduced}

-- ---- one step

pub step-none : (pieces : List Piece) → HaveNoClosing pieces → step pieces ≡ pieces
unfolding step
step-none pieces none = ap (λ (found : Option AtClosing). elim found [ None ↦ pieces | Some at ↦ answered at.before at.run ++ at.behind ]) (leftmost_closing-none pieces none)

pub step-parted : (before : List Piece) (run : Run) (behind : List Piece) → HaveNoClosing before → step (before ++ closing run ∷ behind) ≡ answered before run ++ behind
unfolding step
step-parted before run behind none = ap (λ (found : Option AtClosing). elim found [ None ↦ before ++ closing run ∷ behind | Some at ↦ answered at.before at.run ++ at.behind ]) (leftmost_closing-first before run behind none)

-- what a step keeps
pub record KeepsAll (pieces result : List Piece) : Type 0 where
  pub source : pieces_source result ≡ pieces_source pieces
  pub sound : AreSound result
  pub fewer : closing_delimiters result ≤ closing_delimiters pieces

module _ (before : List Piece) (run : Run) (behind : List Piece) (none : HaveNoClosing before) (sound : AreSound (before ++ closing run ∷ behind)) where
  before-sound : AreSound before
  before-sound = all-front IsSound before (closing run ∷ behind) sound

  run-long : 2 ≤ run.count
  run-long = (all-back IsSound before (closing run ∷ behind) sound).0

  behind-sound : AreSound behind
  behind-sound = (all-back IsSound before (closing run ∷ behind) sound).1

  answer : Keeps before run (answered before run)
  answer = answered-keeps before run before-sound none run-long

  answered-source : pieces_source (answered before run ++ behind) ≡ pieces_source (before ++ closing run ∷ behind)
  answered-source =
      flat_map-append piece_source (answered before run) behind
      ∙ ap (λ t. t ++ pieces_source behind) answer.source
      ∙ append_assoc (pieces_source before) (replicate run.count (closing_delimiter run.delimiters)) (pieces_source behind)
      ∙ sym (flat_map-append piece_source before (closing run ∷ behind))

  pub parted-fewer : closing_delimiters (step (before ++ closing run ∷ behind)) < closing_delimiters (before ++ closing run ∷ behind)
  parted-fewer =
      let fewer : closing_delimiters (answered before run) < run.count = answer.fewer in
      rw step-parted (simp (sum_by-append, sum_by-cons) (omega arith))

  parted-keeps : KeepsAll (before ++ closing run ∷ behind) (step (before ++ closing run ∷ behind))
  parted-keeps = record {
    source = ap pieces_source (step-parted before run behind none) ∙ answered-source;
    sound = subst AreSound (sym (step-parted before run behind none)) (all-append IsSound (answered before run) behind answer.sound behind-sound);
    fewer = let h : closing_delimiters (step (before ++ closing run ∷ behind)) < closing_delimiters (before ++ closing run ∷ behind) = parted-fewer in omega arith;
  }

none-keeps : (pieces : List Piece) → HaveNoClosing pieces → AreSound pieces → KeepsAll pieces (step pieces)
none-keeps pieces none sound = record {
  source = ap pieces_source (step-none pieces none);
  sound = subst AreSound (sym (step-none pieces none)) sound;
  fewer = subst (λ t. closing_delimiters t ≤ closing_delimiters pieces) (sym (step-none pieces none)) (le_refl (closing_delimiters pieces));
}

by_closing-keeps : {pieces : List Piece} → ByClosing pieces → AreSound pieces → KeepsAll pieces (step pieces)
by_closing-keeps {pieces = pieces} (without none) sound = none-keeps pieces none sound
by_closing-keeps (parted before run behind none) sound = parted-keeps before run behind none sound

pub step-keeps : (pieces : List Piece) → AreSound pieces → KeepsAll pieces (step pieces)
step-keeps pieces sound = by_closing-keeps (by_closing pieces) sound

-- ---- all steps

pub steps-keeps : (n : ℕ) (pieces : List Piece) → AreSound pieces → KeepsAll pieces (steps n pieces)
unfolding steps
steps-keeps zero pieces sound = record { source = refl; sound = sound; fewer = le_refl (closing_delimiters pieces) }
steps-keeps (suc n) pieces sound =
    let now = step-keeps pieces sound in
    let later = steps-keeps n (step pieces) now.sound in
    record { source = later.source ∙ now.source; sound = later.sound; fewer = omega (arith, later.fewer, now.fewer) }

pub steps-none : (n : ℕ) (pieces : List Piece) → HaveNoClosing pieces → steps n pieces ≡ pieces
unfolding steps
steps-none zero pieces none = refl
steps-none (suc n) pieces none = ap (steps n) (step-none pieces none) ∙ steps-none n pieces none

-- with enough steps no closing run is left
module _ (n : ℕ) (again : (pieces : List Piece) → AreSound pieces → closing_delimiters pieces ≤ n → HaveNoClosing (steps n pieces)) where
  ends-by : {pieces : List Piece} → ByClosing pieces → AreSound pieces → closing_delimiters pieces ≤ suc n → HaveNoClosing (steps (suc n) pieces)
  unfolding steps
  ends-by {pieces = pieces} (without none) sound few = subst HaveNoClosing (sym (steps-none (suc n) pieces none)) none
  ends-by (parted before run behind none) sound few =
      again (step (before ++ closing run ∷ behind)) (parted-keeps before run behind none sound).sound
      (omega (arith, parted-fewer before run behind none sound))

ends-at-once : {pieces : List Piece} → ByClosing pieces → AreSound pieces → closing_delimiters pieces ≤ 0 → HaveNoClosing pieces
ends-at-once (without none) sound few = none
ends-at-once (parted before run behind none) sound few =
    let long : 2 ≤ run.count = run-long before run behind none sound in
    let total : closing_delimiters (before ++ closing run ∷ behind) ≡ closing_delimiters before + (run.count + closing_delimiters behind) = simp (sum_by-append, sum_by-cons) in
    absurd (omega arith)

pub steps-end : (n : ℕ) (pieces : List Piece) → AreSound pieces → closing_delimiters pieces ≤ n → HaveNoClosing (steps n pieces)
unfolding steps
steps-end zero pieces sound few = ends-at-once (by_closing pieces) sound few
steps-end (suc n) pieces sound few = ends-by n (steps-end n) (by_closing pieces) sound few

pub reduced-end : (pieces : List Piece) → AreSound pieces → HaveNoClosing (reduced pieces)
unfolding reduced
reduced-end pieces sound = steps-end (closing_delimiters pieces) pieces sound (le_refl (closing_delimiters pieces))

pub reduced-keeps : (pieces : List Piece) → AreSound pieces → KeepsAll pieces (reduced pieces)
unfolding reduced
reduced-keeps pieces sound = steps-keeps (closing_delimiters pieces) pieces sound
