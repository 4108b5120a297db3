-- What the source of an atom is, by its kind.
use Rattle.std.proofs.Common.{◌≡◌, ℕ, suc, ◌-◌, ◌≤◌, ◌==◌, List, [], ◌∷◌, ◌++◌, length, take, drop, replicate, codes, Option, Some, None, refl, ap, sym, subst, ◌∙◌, ⊎_elim, arith, take-append-drop}
use Rattle.std.proofs.lemmas.List.{length-replicate}
use Rattle.std.specs.List.{prefix_len, AllByRecursion}
use Rattle.wk_text_rules.specs.Shapes.{Shape, exactly, run_of, ◌or_else◌, first_that_fits}
use Rattle.wk_tree_laws.proofs.ShapeLemmas.{exactly-fits, and_then-fits, or_else-fits, take-prefix_len, part-is}
use Rattle.wk_tree_laws.proofs.SpanLemmas.{spans-all}
use Rattle.wk_tree_rules.specs.Atoms.{Atom, atoms, atom_at, atom_shapes, run_of_delimiters}
use Rattle.wk_tree_rules.specs.Reduction.{Delimiter, delimiters_of, opening_delimiter, closing_delimiter}
use Rattle.wk_tree_rules.specs.declared.AtomKind.{AtomKind}
use Rattle.wk_tree_rules.specs.declared.AtomKind.TheVariants.{LineComment, Comment, Sealed, Ignored, Tag, Open, Close, Bar, Equals, Byte}
use Rattle.wk_tree_rules.specs.declared.Mode.{Mode}

-- a run of two or more of the delimiter that its first byte shows
pub record IsRun (delimiter : Delimiter → ℕ) (source : List ℕ) : Type 0 where
  pub long : 2 ≤ length source
  pub delimiters : replicate (length source) (delimiter (delimiters_of source)) ≡ source

-- what the source of an atom is, where its kind fixes it
abbrev pub IsSourceOf : AtomKind → List ℕ → Type 0
IsSourceOf LineComment source = Unit {0}
IsSourceOf Comment source = Unit {0}
IsSourceOf Sealed source = Unit {0}
IsSourceOf Ignored source = Unit {0}
IsSourceOf Tag source = Unit {0}
IsSourceOf Open source = IsRun opening_delimiter source
IsSourceOf Close source = IsRun closing_delimiter source
IsSourceOf Bar source = source ≡ codes "|"
IsSourceOf Equals source = source ≡ codes "="
IsSourceOf Byte source = Unit {0}

-- each shape that fits gives P with its value
abbrev pub EachFit : {K X : Type 0} → (K × List X → Type 0) → List (K × Shape X) → List X → Type 0
EachFit P [] text = Unit {0}
EachFit {K} {X} P (alternative ∷ alternatives) text = ((rest : List X) → alternative.1 text ≡ Some rest → P (alternative.0, rest)) × EachFit P alternatives text

pub first_that_fits-each : {K X : Type 0} (P : K × List X → Type 0) (alternatives : List (K × Shape X)) (otherwise : K × List X) (text : List X) → P otherwise → EachFit P alternatives text → P (first_that_fits alternatives otherwise text)
first_that_fits-each P [] otherwise text p each = p
first_that_fits-each P (alternative ∷ alternatives) otherwise text p each =
    let later = first_that_fits alternatives otherwise text in
    (elim (alternative.1 text) as (λ r. alternative.1 text ≡ r → P (elim r [ Some rest ↦ (alternative.0, rest) | None ↦ later ])) [
      | Some rest ↦ λ e. each.0 rest e
      | None ↦ λ e. first_that_fits-each P alternatives otherwise text p each.1
    ]) refl

-- what an atom covers at a place where a shape fits with `part`
abbrev pub covered : ℕ → List ℕ → List ℕ → List ℕ
covered b bs rest = take (suc (length bs - length rest)) (b ∷ bs)

delimiter-covered : (delimiter : ℕ) (b : ℕ) (bs rest : List ℕ) → run_of_delimiters delimiter (b ∷ bs) ≡ Some rest → (k : ℕ) × (covered b bs rest ≡ delimiter ∷ delimiter ∷ replicate k delimiter)
delimiter-covered delimiter b bs rest e =
    let fits = and_then-fits (exactly (delimiter ∷ delimiter ∷ [])) (run_of (λ x. x == delimiter)) (b ∷ bs) rest e in
    let mid : List ℕ = fits.0 in
    let k : ℕ = prefix_len (λ x. x == delimiter) mid in
    let front : b ∷ bs ≡ delimiter ∷ delimiter ∷ mid = exactly-fits (delimiter ∷ delimiter ∷ []) (b ∷ bs) mid fits.1 in
    let last : drop k mid ≡ rest = cc (fits.2) in
    let parted : mid ≡ replicate k delimiter ++ rest =
    sym (take-append-drop k mid) ∙ ap (λ t. t ++ drop k mid) (take-prefix_len delimiter mid) ∙ ap (λ t. replicate k delimiter ++ t) last in
    (k, part-is b bs (delimiter ∷ delimiter ∷ replicate k delimiter) rest (front ∙ ap (λ t. delimiter ∷ delimiter ∷ t) parted) (omega arith))

run-long : (delimiter k : ℕ) → 2 ≤ length (delimiter ∷ delimiter ∷ replicate k delimiter)
run-long delimiter k = omega arith

open-braces : (k : ℕ) → IsRun opening_delimiter (123 ∷ 123 ∷ replicate k 123)
open-braces k = record { long = run-long 123 k; delimiters = ap (λ n. 123 ∷ 123 ∷ replicate n 123) (length-replicate k 123) }

open-brackets : (k : ℕ) → IsRun opening_delimiter (91 ∷ 91 ∷ replicate k 91)
open-brackets k = record { long = run-long 91 k; delimiters = ap (λ n. 91 ∷ 91 ∷ replicate n 91) (length-replicate k 91) }

close-braces : (k : ℕ) → IsRun closing_delimiter (125 ∷ 125 ∷ replicate k 125)
close-braces k = record { long = run-long 125 k; delimiters = ap (λ n. 125 ∷ 125 ∷ replicate n 125) (length-replicate k 125) }

close-brackets : (k : ℕ) → IsRun closing_delimiter (93 ∷ 93 ∷ replicate k 93)
close-brackets k = record { long = run-long 93 k; delimiters = ap (λ n. 93 ∷ 93 ∷ replicate n 93) (length-replicate k 93) }

module _ (b : ℕ) (bs rest : List ℕ) where
  run-covered : (side : Delimiter → ℕ) (delimiter : ℕ) → ((k : ℕ) → IsRun side (delimiter ∷ delimiter ∷ replicate k delimiter)) → run_of_delimiters delimiter (b ∷ bs) ≡ Some rest → IsRun side (covered b bs rest)
  run-covered side delimiter is_run e =
      let c = delimiter-covered delimiter b bs rest e in
      subst (λ source. IsRun side source) (sym c.1) (is_run c.0)

  open-covered : (run_of_delimiters 123 or_else run_of_delimiters 91) (b ∷ bs) ≡ Some rest → IsRun opening_delimiter (covered b bs rest)
  open-covered e =
      ⊎_elim (run-covered opening_delimiter 123 open-braces) (run-covered opening_delimiter 91 open-brackets)
      (or_else-fits (run_of_delimiters 123) (run_of_delimiters 91) (b ∷ bs) rest e)

  close-covered : (run_of_delimiters 125 or_else run_of_delimiters 93) (b ∷ bs) ≡ Some rest → IsRun closing_delimiter (covered b bs rest)
  close-covered e =
      ⊎_elim (run-covered closing_delimiter 125 close-braces) (run-covered closing_delimiter 93 close-brackets)
      (or_else-fits (run_of_delimiters 125) (run_of_delimiters 93) (b ∷ bs) rest e)

  byte-covered : (byte : ℕ) → exactly (byte ∷ []) (b ∷ bs) ≡ Some rest → covered b bs rest ≡ byte ∷ []
  byte-covered byte e = part-is b bs (byte ∷ []) rest (exactly-fits (byte ∷ []) (b ∷ bs) rest e) (omega arith)

atom_at-source : (mode : Mode) (before : Option ℕ) (b : ℕ) (bs : List ℕ) → IsSourceOf (atom_at mode before (b ∷ bs)).0 (covered b bs (atom_at mode before (b ∷ bs)).1)
atom_at-source mode before b bs =
    first_that_fits-each (λ (found : AtomKind × List ℕ). IsSourceOf found.0 (covered b bs found.1)) (atom_shapes mode before) (Byte, bs) (b ∷ bs) tt
    (λ _ _. tt, (λ _ _. tt, (λ _ _. tt, (λ _ _. tt, (λ _ _. tt, (open-covered b bs, (close-covered b bs, (λ rest e. byte-covered b bs rest 124 e, (λ rest e. byte-covered b bs rest 61 e, tt)))))))))

-- the source of each atom of a text is what its kind says
pub atoms-sources : (mode : Mode) (text : List ℕ) → AllByRecursion (λ (a : Atom). IsSourceOf a.kind a.source) (atoms mode text)
unfolding atoms
atoms-sources mode text = spans-all (atom_at mode) IsSourceOf (atom_at-source mode) text
