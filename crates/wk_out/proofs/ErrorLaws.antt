-- Where a word stands in an output in plain bytes one after the other.
use Rattle.std.proofs.Common.{◌≡◌, ℕ, ◌<◌, ◌↔◌, ◌⊎◌, inl, inr, if◌then◌else◌, Bool, true, false, not, ◌&&◌, ◌||◌, eqb, List, [], ◌∷◌, ◌++◌, length, drop, Option, Some, None, is_some, codes, option_map, refl, sym, ap, ◌∙◌, subst, arith}
use Rattle.std.specs.List.{starts_with}
use Rattle.std.specs.Str.Iter.{HasSubslice}
use Rattle.std.proofs.lemmas.Bool.Decides.{Decides-eqb}
use Rattle.std.proofs.lemmas.Slice.Eq.{starts_is}
use Rattle.wk_text_rules.specs.Marked.{MarkedByte, has_error, plain, sealed, all_plain, all_sealed, marked_eq}
use Rattle.wk_text_rules.specs.Shapes.{word_by, split_at_nearest}
use Rattle.wk_out.specs.Runs.{AreMaximal, BeginsOtherwise, joined, marked}

-- an output that doesn't begin with a plain byte
abbrev pub NoPlainStart : List MarkedByte → Type 0
NoPlainStart [] = Unit {0}
NoPlainStart (plain b ∷ out) = ⊥
NoPlainStart (sealed b ∷ out) = Unit {0}

no_plain_start-run : (sealed : Bool) (text : List ℕ) (rest : List MarkedByte) → sealed ≡ true → 0 < length text → NoPlainStart (marked sealed text ++ rest)
no_plain_start-run true [] rest e some = absurd (omega arith)
no_plain_start-run true (b ∷ text) rest e some = tt
no_plain_start-run false text rest e some = cc

-- what follows a plain run
pub no_plain_start : (runs : List (List ℕ × Bool)) → BeginsOtherwise false runs → AreMaximal runs → NoPlainStart (joined runs)
no_plain_start [] e h = tt
no_plain_start (run ∷ runs) e h = no_plain_start-run run.1 run.0 (joined runs) e h.0

-- A plain word stands at the front of plain bytes before such an output where it stands at the front of those bytes.
-- The test of two marked bytes is `same` of their bytes where both are plain, and fails where the text's is sealed.
module _ (same : ℕ → ℕ → Bool) (test : MarkedByte → MarkedByte → Bool) (both : (a b : ℕ) → test (plain a) (plain b) ≡ same a b) (not_sealed : (a b : ℕ) → test (plain a) (sealed b) ≡ false) where
  pub starts_with-plain : (word text : List ℕ) (rest : List MarkedByte) → NoPlainStart rest → starts_with test (all_plain text ++ rest) (all_plain word) ≡ starts_with same text word
  starts_with-plain [] text rest h = refl
  starts_with-plain (c ∷ word) [] [] h = refl
  starts_with-plain (c ∷ word) [] (plain b ∷ out) h = absurd h
  starts_with-plain (c ∷ word) [] (sealed b ∷ out) h = rw (not_sealed c b) refl
  starts_with-plain (c ∷ word) (b ∷ text) rest h = rw (both c b) (ap (λ t. same c b && t) (starts_with-plain word text rest h))

  pub starts_with-sealed : (c b : ℕ) (word : List ℕ) (rest : List MarkedByte) → starts_with test (sealed b ∷ rest) (all_plain (c ∷ word)) ≡ false
  starts_with-sealed c b word rest = rw (not_sealed c b) refl

-- ---- whether a word stands somewhere

abbrev finds : {X : Type 0} → (X → X → Bool) → List X → List X → Bool
finds same word text = is_some (split_at_nearest (word_by same word) text)

word_fits : {X : Type 0} (test : Bool) (rest : List X) → is_some (if test then Some rest else None) ≡ test
word_fits true rest = refl
word_fits false rest = refl

further : {X : Type 0} (x : X) (here : Option (List X)) (later : Option (List X × List X)) →
    is_some {T = List X × List X} (elim here [ Some rest ↦ Some ([], rest) | None ↦ option_map (λ found. (x ∷ found.0, found.1)) later ]) ≡ is_some here || is_some later
further x (Some rest) later = refl
further x None (Some found) = refl
further x None None = refl

finds-cons : {X : Type 0} (same : X → X → Bool) (word : List X) (x : X) (xs : List X) → finds same word (x ∷ xs) ≡ starts_with same (x ∷ xs) word || finds same word xs
unfolding split_at_nearest
finds-cons same word x xs =
    further x (word_by same word (x ∷ xs)) (split_at_nearest (word_by same word) xs)
    ∙ ap (λ b. b || finds same word xs) (word_fits (starts_with same (x ∷ xs) word) (drop (length word) (x ∷ xs)))

finds-nil : {X : Type 0} (same : X → X → Bool) (c : X) (word : List X) → finds same (c ∷ word) [] ≡ false
unfolding split_at_nearest
finds-nil same c word = refl

or-assoc : (a b c : Bool) → a || (b || c) ≡ (a || b) || c
or-assoc true b c = refl
or-assoc false b c = refl

pub holds-plain : (c : ℕ) (word text : List ℕ) (rest : List MarkedByte) → NoPlainStart rest →
    finds marked_eq (all_plain (c ∷ word)) (all_plain text ++ rest) ≡ finds eqb (c ∷ word) text || finds marked_eq (all_plain (c ∷ word)) rest
holds-plain c word [] rest h = rw (finds-nil eqb c word) refl
holds-plain c word (b ∷ text) rest h =
    finds-cons marked_eq (all_plain (c ∷ word)) (plain b) (all_plain text ++ rest)
    ∙ ap (λ t. t || finds marked_eq (all_plain (c ∷ word)) (all_plain text ++ rest)) (starts_with-plain eqb marked_eq (λ _ _. refl) (λ _ _. refl) (c ∷ word) (b ∷ text) rest h)
    ∙ ap (λ t. starts_with eqb (b ∷ text) (c ∷ word) || t) (holds-plain c word text rest h)
    ∙ or-assoc (starts_with eqb (b ∷ text) (c ∷ word)) (finds eqb (c ∷ word) text) (finds marked_eq (all_plain (c ∷ word)) rest)
    ∙ ap (λ t. t || finds marked_eq (all_plain (c ∷ word)) rest) (sym (finds-cons eqb (c ∷ word) b text))

pub holds-sealed : (c : ℕ) (word text : List ℕ) (rest : List MarkedByte) →
    finds marked_eq (all_plain (c ∷ word)) (all_sealed text ++ rest) ≡ finds marked_eq (all_plain (c ∷ word)) rest
holds-sealed c word [] rest = refl
holds-sealed c word (b ∷ text) rest =
    finds-cons marked_eq (all_plain (c ∷ word)) (sealed b) (all_sealed text ++ rest)
    ∙ ap (λ t. t || finds marked_eq (all_plain (c ∷ word)) (all_sealed text ++ rest)) (starts_with-sealed eqb marked_eq (λ _ _. refl) (λ _ _. refl) c b word (all_sealed text ++ rest))
    ∙ holds-sealed c word text rest

-- the first of the runs, and the others
first_run : (c : ℕ) (word : List ℕ) (sealed : Bool) (text : List ℕ) (runs : List (List ℕ × Bool)) → BeginsOtherwise sealed runs → AreMaximal runs →
    finds marked_eq (all_plain (c ∷ word)) (marked sealed text ++ joined runs) ≡ (not sealed && finds eqb (c ∷ word) text) || finds marked_eq (all_plain (c ∷ word)) (joined runs)
first_run c word true text runs other h = holds-sealed c word text (joined runs)
first_run c word false text runs other h = holds-plain c word text (joined runs) (no_plain_start runs other h)

pub holds-run : (c : ℕ) (word : List ℕ) (run : List ℕ × Bool) (runs : List (List ℕ × Bool)) → AreMaximal (run ∷ runs) →
    finds marked_eq (all_plain (c ∷ word)) (joined (run ∷ runs)) ≡ (not run.1 && finds eqb (c ∷ word) run.0) || finds marked_eq (all_plain (c ∷ word)) (joined runs)
holds-run c word run runs h = first_run c word run.1 run.0 runs h.1 h.2

pub holds-none : (c : ℕ) (word : List ℕ) → finds marked_eq (all_plain (c ∷ word)) [] ≡ false
holds-none c word = finds-nil marked_eq (plain c) (all_plain word)

-- ---- a word in a text

or-true : (a b : Bool) → b ≡ true → a || b ≡ true
or-true true b e = refl
or-true false b e = e

or-cases : (a b : Bool) → a || b ≡ true → (a ≡ true) ⊎ (b ≡ true)
or-cases true b e = inl refl
or-cases false b e = inr e

starts-true : (word text rest : List ℕ) → text ≡ word ++ rest → starts_with eqb text word ≡ true
starts-true word text rest e = (starts_is {E = eqb} Decides-eqb text word (starts_with eqb text word) refl).1 rest e

finds-there : (c : ℕ) (word before after : List ℕ) → finds eqb (c ∷ word) (before ++ (c ∷ (word ++ after))) ≡ true
finds-there c word [] after =
    finds-cons eqb (c ∷ word) c (word ++ after)
    ∙ ap (λ t. t || finds eqb (c ∷ word) (word ++ after)) (starts-true (c ∷ word) (c ∷ (word ++ after)) after refl)
finds-there c word (b ∷ before) after =
    finds-cons eqb (c ∷ word) b (before ++ (c ∷ (word ++ after)))
    ∙ or-true (starts_with eqb (b ∷ (before ++ (c ∷ (word ++ after)))) (c ∷ word)) (finds eqb (c ∷ word) (before ++ (c ∷ (word ++ after)))) (finds-there c word before after)

found-cons : (c : ℕ) (word : List ℕ) (b : ℕ) (text : List ℕ) → (finds eqb (c ∷ word) text ≡ true → HasSubslice text (c ∷ word)) →
    (starts_with eqb (b ∷ text) (c ∷ word) ≡ true) ⊎ (finds eqb (c ∷ word) text ≡ true) → HasSubslice (b ∷ text) (c ∷ word)
found-cons c word b text further (inl here) =
    ([], drop (length (c ∷ word)) (b ∷ text), (starts_is {E = eqb} Decides-eqb (b ∷ text) (c ∷ word) (starts_with eqb (b ∷ text) (c ∷ word)) refl).0 here)
found-cons c word b text further (inr later) = let found = further later in (b ∷ found.0, found.1, ap (λ (t : List ℕ). b ∷ t) found.2)

there-found : (c : ℕ) (word text : List ℕ) → finds eqb (c ∷ word) text ≡ true → HasSubslice text (c ∷ word)
there-found c word [] e = let none = finds-nil eqb c word in cc
there-found c word (b ∷ text) e =
    found-cons c word b text (there-found c word text)
    (or-cases (starts_with eqb (b ∷ text) (c ∷ word)) (finds eqb (c ∷ word) text) (sym (finds-cons eqb (c ∷ word) b text) ∙ e))

same_truth : (a b : Bool) → (a ≡ true → b ≡ true) → (b ≡ true → a ≡ true) → a ≡ b
same_truth true true f g = refl
same_truth true false f g = sym (f refl)
same_truth false true f g = g refl
same_truth false false f g = refl

-- a test that is true just where the word stands in the text
pub contains-finds : (r : Bool) (c : ℕ) (word text : List ℕ) → (r ≡ true) ↔ HasSubslice text (c ∷ word) → r ≡ finds eqb (c ∷ word) text
contains-finds r c word text is =
    same_truth r (finds eqb (c ∷ word) text)
    (λ e. let found = is.0 e in subst (λ (t : List ℕ). finds eqb (c ∷ word) t ≡ true) (sym found.2) (finds-there c word found.0 found.1))
    (λ e. is.1 (there-found c word text e))

-- ---- errors, run by run

abbrev shows : Bool → List ℕ → Bool
shows is_sealed text = not is_sealed && finds eqb (codes "class=\"error\"") text

-- the first run shows an error, or the others do
error-first : (runs others : List (List ℕ × Bool)) (run : List ℕ × Bool) → runs ≡ run ∷ others → AreMaximal runs →
    AreMaximal others × (has_error (joined runs) ≡ shows run.1 run.0 || has_error (joined others))
error-first runs others run e h =
    let maximal : AreMaximal (run ∷ others) = subst AreMaximal e h in
    (maximal.2, ap (λ rs. has_error (joined rs)) e ∙ holds-run 99 (codes "lass=\"error\"") run others maximal)

pub error-further : (runs others : List (List ℕ × Bool)) (run : List ℕ × Bool) (out : List MarkedByte) → runs ≡ run ∷ others →
    AreMaximal runs × (has_error (joined runs) ≡ has_error out) → false ≡ shows run.1 run.0 → AreMaximal others × (has_error (joined others) ≡ has_error out)
error-further runs others run out e h none =
    let first = error-first runs others run e h.0 in
    (first.0, ap (λ b. b || has_error (joined others)) none ∙ sym first.1 ∙ h.1)

pub error-here : (runs others : List (List ℕ × Bool)) (run : List ℕ × Bool) (out : List MarkedByte) → runs ≡ run ∷ others →
    AreMaximal runs × (has_error (joined runs) ≡ has_error out) → true ≡ shows run.1 run.0 → true ≡ has_error out
error-here runs others run out e h here =
    let first = error-first runs others run e h.0 in
    ap (λ b. b || has_error (joined others)) here ∙ sym first.1 ∙ h.1

pub error-nowhere : (runs : List (List ℕ × Bool)) (out : List MarkedByte) → runs ≡ [] → has_error (joined runs) ≡ has_error out → false ≡ has_error out
error-nowhere runs out e h = sym (holds-none 99 (codes "lass=\"error\"")) ∙ ap (λ rs. has_error (joined rs)) (sym e) ∙ h
