-- Squeezing a text, one character after the other.
use Rattle.std.proofs.Common.{◌≡◌, ℕ, Bool, true, false, ◌&&◌, ◌||◌, ◌==◌, nat_lt, List, [], ◌∷◌, ◌++◌, length, filter, if◌then◌else◌, refl, sym, ap, ◌∙◌, inl, inr, lt-ltb, arith}
use Rattle.std.proofs.lemmas.Bool.{cases_Bool}
use Rattle.std.proofs.lemmas.List.{append-nil}
use Rattle.std.specs.List.{join_with_byte, slice_split, onto_first}
use Rattle.wk_text_rules.specs.Titles.{squeezed}

abbrev pub is_space : ℕ → Bool
is_space c = c == 32 || c == 95

-- What is added for the rest of a text, where something was added before or not, and where a space came last or not.
abbrev pub squeezed_from : Bool → Bool → List ℕ → List ℕ
squeezed_from started after_space [] = []
squeezed_from started after_space (c ∷ cs) =
    let skipped = squeezed_from started true cs in
    let kept = c ∷ squeezed_from true false cs in
    if is_space c then skipped else (if after_space && started then 95 ∷ kept else kept)

abbrev words_of : List (List ℕ) → List (List ℕ)
words_of parts = filter (λ word. nat_lt 0 (length word)) parts

-- words that follow another word
abbrev further : List (List ℕ) → List ℕ
further [] = []
further (word ∷ words) = 95 ∷ join_with_byte 95 (word ∷ words)

abbrev first_of : List (List ℕ) → List ℕ
first_of [] = []
first_of (part ∷ parts) = part

abbrev rest_of : List (List ℕ) → List (List ℕ)
rest_of [] = []
rest_of (part ∷ parts) = parts

join-cons : (word : List ℕ) (words : List (List ℕ)) → join_with_byte 95 (word ∷ words) ≡ word ++ further words
join-cons word [] = sym (append-nil word)
join-cons word (next ∷ words) = refl

onto_first-parts : (c : ℕ) (parts : List (List ℕ)) → onto_first c parts ≡ (c ∷ first_of parts) ∷ rest_of parts
onto_first-parts c [] = refl
onto_first-parts c (part ∷ parts) = refl

words_of-cons : (c : ℕ) (word : List ℕ) (parts : List (List ℕ)) → words_of ((c ∷ word) ∷ parts) ≡ (c ∷ word) ∷ words_of parts
words_of-cons c word parts = let some : nat_lt 0 (length (c ∷ word)) ≡ true = lt-ltb 0 (length (c ∷ word)) (omega arith) in rw some refl

-- what squeezing adds from here on, by the words from here on
record FromHere (cs : List ℕ) : Type 0 where
  at_start : (after_space : Bool) → squeezed_from false after_space cs ≡ join_with_byte 95 (words_of (slice_split is_space cs))
  between_words : squeezed_from true true cs ≡ further (words_of (slice_split is_space cs))
  within_word : squeezed_from true false cs ≡ first_of (slice_split is_space cs) ++ further (words_of (rest_of (slice_split is_space cs)))

at_space : (c : ℕ) (cs : List ℕ) → is_space c ≡ true → FromHere cs → FromHere (c ∷ cs)
at_space c cs space later =
    record {
      at_start = λ after_space. rw space (later.at_start true);
      between_words = rw space later.between_words;
      within_word = rw space later.between_words;
    }

at_other : (c : ℕ) (cs : List ℕ) → is_space c ≡ false → FromHere cs → FromHere (c ∷ cs)
at_other c cs other later =
    let parts = onto_first-parts c (slice_split is_space cs) in
    let kept = ap (λ l. c ∷ l) later.within_word in
    let joined = kept ∙ sym (join-cons (c ∷ first_of (slice_split is_space cs)) (words_of (rest_of (slice_split is_space cs)))) in
    let words = words_of-cons c (first_of (slice_split is_space cs)) (rest_of (slice_split is_space cs)) in
    record {
      at_start = elim [ true ↦ rw (other, parts, words) joined | false ↦ rw (other, parts, words) joined ];
      between_words = rw (other, parts, words) (ap (λ l. 95 ∷ l) joined);
      within_word = rw (other, parts) kept;
    }

from_here : (cs : List ℕ) → FromHere cs
from_here [] = record { at_start = λ _. refl; between_words = refl; within_word = refl }
from_here (c ∷ cs) = elim (cases_Bool (is_space c)) [
  | inl space ↦ at_space c cs space (from_here cs)
  | inr other ↦ at_other c cs other (from_here cs)
]

pub squeezed-from_start : (cs : List ℕ) → squeezed cs ≡ squeezed_from false false cs
squeezed-from_start cs = sym ((from_here cs).at_start false)
