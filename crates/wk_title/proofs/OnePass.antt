-- What one pass over a text of ASCII leaves.
use Rattle.std.proofs.Common.{◌≡◌, ℕ, suc, ◌+◌, ◌<◌, ◌≤◌, Bool, true, false, not, ◌&&◌, ◌||◌, ◌==◌, nat_lt, lt-ltb, List, [], ◌∷◌, ◌++◌, take, drop, length, get_or, refl, sym, ap, subst, ◌∙◌, append_assoc, length-append, arith}
use Rattle.std.proofs.lemmas.Bool.Decides.{nat_tests}
use Rattle.std.proofs.lemmas.List.{append-nil, drop_all, drop_more, length-take-le}
use Rattle.std.proofs.lemmas.List.Folds.{list_all-append, list_any-append}
use Rattle.std.specs.List.{before_first, prefix_len, list_all, list_any}
use Rattle.wk_text_rules.specs.Titles.{is_colon}
use Rattle.wk_title.specs.Ascii.{gap, is_plain, is_sound, IsSqueezed}
use Rattle.wk_title.proofs.Squeeze.{is_space, squeezed_from, squeezed-from_start}

abbrev pub is_hash : ℕ → Bool
is_hash c = c == 35

-- what the pass has left when it comes to the rest of the text
pub record IsPassed (text rest words : List ℕ) (is_further has_colon is_dubious : Bool) : Type 0 where
  pub further : is_further ≡ true → (length words == 0) ≡ false
  pub words_so_far : words ++ squeezed_from (not (length words == 0)) is_further (before_first is_hash rest) ≡ squeezed_from false false (before_first is_hash text)
  pub colon : list_any is_colon words ≡ has_colon
  pub sound : list_all is_sound words ≡ not is_dubious

pub passed-start : (text : List ℕ) → IsPassed text text [] false false false
passed-start text = record { further = λ h. cc; words_so_far = refl; colon = refl; sound = refl }

before_first-hash : (rest : List ℕ) → before_first is_hash (35 ∷ rest) ≡ []
before_first-hash rest = refl

later : (c n : ℕ) (rest : List ℕ) → take (1 + n) (c ∷ rest) ≡ c ∷ take n rest
later c n rest = let e : 1 + n ≡ suc n = omega arith in rw e refl

before_first-other : (c : ℕ) (rest : List ℕ) → is_hash c ≡ false → before_first is_hash (c ∷ rest) ≡ c ∷ before_first is_hash rest
before_first-other c rest other = rw (other, later c (prefix_len (λ x. not (is_hash x)) rest) rest) refl

pub passed-end : (text words : List ℕ) (is_further has_colon is_dubious : Bool) → IsPassed text [] words is_further has_colon is_dubious → IsSqueezed text words has_colon is_dubious
passed-end text words is_further has_colon is_dubious p =
    record {
      words_are = sym (append-nil words) ∙ p.words_so_far ∙ sym (squeezed-from_start (before_first is_hash text));
      colon = p.colon;
      sound = p.sound;
    }

pub passed-hash : (text rest words : List ℕ) (is_further has_colon is_dubious : Bool) → IsPassed text (35 ∷ rest) words is_further has_colon is_dubious → IsSqueezed text words has_colon is_dubious
passed-hash text rest words is_further has_colon is_dubious p =
    record {
      words_are = sym (append-nil words) ∙ p.words_so_far ∙ sym (squeezed-from_start (before_first is_hash text));
      colon = p.colon;
      sound = p.sound;
    }

space-is_no_hash : (c : ℕ) → is_space c ≡ true → is_hash c ≡ false
space-is_no_hash c space = grind (arith, nat_tests)

-- a space before the first word is nothing
space-before_first_word : (cs : List ℕ) → squeezed_from false true cs ≡ squeezed_from false false cs
space-before_first_word [] = refl
space-before_first_word (c ∷ cs) = refl

some_word : (w : ℕ) (words : List ℕ) → (length (w ∷ words) == 0) ≡ false
some_word w words = grind (arith, nat_tests)

within_some : (w : ℕ) (words : List ℕ) → nat_lt 0 (length (w ∷ words)) ≡ true
within_some w words = lt-ltb 0 (length (w ∷ words)) (omega arith)

space-step : (words : List ℕ) (is_further : Bool) (c : ℕ) (front : List ℕ) → is_space c ≡ true →
    squeezed_from (not (length words == 0)) is_further (c ∷ front) ≡ squeezed_from (not (length words == 0)) (nat_lt 0 (length words)) front
space-step [] is_further c front space = rw space (space-before_first_word front)
space-step (w ∷ words) is_further c front space = rw (space, within_some w words) refl

space-further : (words : List ℕ) → nat_lt 0 (length words) ≡ true → (length words == 0) ≡ false
space-further [] h = cc
space-further (w ∷ words) h = some_word w words

pub passed-space : (text : List ℕ) (c : ℕ) (rest words : List ℕ) (is_further has_colon is_dubious : Bool) → is_space c ≡ true →
    IsPassed text (c ∷ rest) words is_further has_colon is_dubious → IsPassed text rest words (nat_lt 0 (length words)) has_colon is_dubious
passed-space text c rest words is_further has_colon is_dubious space p =
    let front = before_first-other c rest (space-is_no_hash c space) in
    let same = space-step words is_further c (before_first is_hash rest) space in
    record {
      further = space-further words;
      words_so_far = ap (λ l. words ++ l) (sym same ∙ ap (squeezed_from (not (length words == 0)) is_further) (sym front)) ∙ p.words_so_far;
      colon = p.colon;
      sound = p.sound;
    }

-- the words with one more byte
abbrev with_byte : List ℕ → Bool → ℕ → List ℕ
with_byte words is_further c = (words ++ gap is_further) ++ c ∷ []

with_byte-some : (words : List ℕ) (is_further : Bool) (c : ℕ) → (length (with_byte words is_further c) == 0) ≡ false
with_byte-some words is_further c =
    let more : 0 < length (with_byte words is_further c) = omega (arith, length-append {A = ℕ}) in
    grind (arith, nat_tests)

gap-step : (words : List ℕ) (is_further : Bool) (c : ℕ) (front : List ℕ) → is_space c ≡ false → (is_further ≡ true → (length words == 0) ≡ false) →
    gap is_further ++ c ∷ squeezed_from true false front ≡ squeezed_from (not (length words == 0)) is_further (c ∷ front)
gap-step words true c front other further = rw (other, further refl) refl
gap-step words false c front other further = rw other refl

squeezed_from-byte : (words : List ℕ) (is_further : Bool) (c : ℕ) (front : List ℕ) → is_space c ≡ false → (is_further ≡ true → (length words == 0) ≡ false) →
    with_byte words is_further c ++ squeezed_from true false front ≡ words ++ squeezed_from (not (length words == 0)) is_further (c ∷ front)
squeezed_from-byte words is_further c front other further =
    append_assoc (words ++ gap is_further) (c ∷ []) (squeezed_from true false front)
    ∙ append_assoc words (gap is_further) (c ∷ squeezed_from true false front)
    ∙ ap (λ l. words ++ l) (gap-step words is_further c front other further)

gap-colon : (is_further : Bool) → list_any is_colon (gap is_further) ≡ false
gap-colon true = refl
gap-colon false = refl

gap-sound : (is_further : Bool) → list_all is_sound (gap is_further) ≡ true
gap-sound true = refl
gap-sound false = refl

or-false : (a : Bool) → (a || false) ≡ a
or-false true = refl
or-false false = refl

or-true : (a : Bool) → (a || true) ≡ true
or-true true = refl
or-true false = refl

or_false : (a b : Bool) → ((a || false) || (b || false)) ≡ (a || b)
or_false true b = refl
or_false false true = refl
or_false false false = refl

and_true : (a b : Bool) → ((not a && true) && (b && true)) ≡ not (a || not b)
and_true true b = refl
and_true false true = refl
and_true false false = refl

with_byte-colon : (words : List ℕ) (is_further : Bool) (c : ℕ) (has_colon : Bool) → list_any is_colon words ≡ has_colon → list_any is_colon (with_byte words is_further c) ≡ (has_colon || is_colon c)
with_byte-colon words is_further c has_colon h =
    list_any-append is_colon (words ++ gap is_further) (c ∷ [])
    ∙ ap (λ b. b || (is_colon c || false)) (list_any-append is_colon words (gap is_further))
    ∙ rw (h, gap-colon is_further) (or_false has_colon (is_colon c))

with_byte-sound : (words : List ℕ) (is_further : Bool) (c : ℕ) (is_dubious : Bool) → list_all is_sound words ≡ not is_dubious → list_all is_sound (with_byte words is_further c) ≡ not (is_dubious || not (is_sound c))
with_byte-sound words is_further c is_dubious h =
    list_all-append is_sound (words ++ gap is_further) (c ∷ [])
    ∙ ap (λ b. b && (is_sound c && true)) (list_all-append is_sound words (gap is_further))
    ∙ rw (h, gap-sound is_further) (and_true is_dubious (is_sound c))

pub passed-byte : (text : List ℕ) (c : ℕ) (rest words : List ℕ) (is_further has_colon is_dubious : Bool) →
    is_space c ≡ false → is_hash c ≡ false → IsPassed text (c ∷ rest) words is_further has_colon is_dubious →
    IsPassed text rest (with_byte words is_further c) false (has_colon || is_colon c) (is_dubious || not (is_sound c))
passed-byte text c rest words is_further has_colon is_dubious other no_hash p =
    let front = before_first-other c rest no_hash in
    let step = squeezed_from-byte words is_further c (before_first is_hash rest) other p.further in
    record {
      further = λ h. with_byte-some words is_further c;
      words_so_far =
          ap (λ b. with_byte words is_further c ++ squeezed_from (not b) false (before_first is_hash rest)) (with_byte-some words is_further c)
          ∙ step ∙ ap (λ l. words ++ squeezed_from (not (length words == 0)) is_further l) (sym front) ∙ p.words_so_far;
      colon = with_byte-colon words is_further c has_colon p.colon;
      sound = with_byte-sound words is_further c is_dubious p.sound;
    }

-- a plain byte
pub record IsPlainByte (c : ℕ) : Type 0 where
  pub no_space : is_space c ≡ false
  pub no_hash : is_hash c ≡ false
  pub no_colon : is_colon c ≡ false
  pub sound : is_sound c ≡ true

pub plain_byte : (c : ℕ) → is_plain c ≡ true → IsPlainByte c
plain_byte c plain =
    record {
      no_space = grind (arith, nat_tests);
      no_hash = grind (arith, nat_tests);
      no_colon = grind (arith, nat_tests);
      sound = grind (arith, nat_tests);
    }

neither : (c : ℕ) → is_plain c ≡ false → is_space c ≡ false → is_colon c ≡ false → is_sound c ≡ false
neither c no_plain no_space no_colon =
    let no_underscore : (c == 95) ≡ false = grind (arith, nat_tests) in
    rw (no_plain, no_colon, no_underscore) refl

-- ---- the same by the bytes and the lengths that the loop has

rest_is : {text words : List ℕ} {at : ℕ} {is_further has_colon is_dubious : Bool} → at < length text →
    IsPassed text (drop at text) words is_further has_colon is_dubious → IsPassed text (get_or text at 0 ∷ drop (at + 1) text) words is_further has_colon is_dubious
rest_is {text} {words} {at} {is_further} {has_colon} {is_dubious} within p =
    subst (λ rest. IsPassed text rest words is_further has_colon is_dubious) (drop_more text at 0 within) p

pub loop-hash : (text words : List ℕ) (at : ℕ) (is_further has_colon is_dubious : Bool) → at < length text → get_or text at 0 ≡ 35 →
    IsPassed text (drop at text) words is_further has_colon is_dubious → IsSqueezed text words has_colon is_dubious
loop-hash text words at is_further has_colon is_dubious within hash p =
    passed-hash text (drop (at + 1) text) words is_further has_colon is_dubious
    (subst (λ c. IsPassed text (c ∷ drop (at + 1) text) words is_further has_colon is_dubious) hash (rest_is within p))

pub loop-end : (text words : List ℕ) (at : ℕ) (is_further has_colon is_dubious : Bool) → length text ≤ at →
    IsPassed text (drop at text) words is_further has_colon is_dubious → IsSqueezed text words has_colon is_dubious
loop-end text words at is_further has_colon is_dubious outside p =
    passed-end text words is_further has_colon is_dubious
    (subst (λ rest. IsPassed text rest words is_further has_colon is_dubious) (drop_all at text outside) p)

pub loop-space : (text into : List ℕ) (at len : ℕ) (is_further has_colon is_dubious : Bool) → at < length text → len ≤ length into → is_space (get_or text at 0) ≡ true →
    IsPassed text (drop at text) (take len into) is_further has_colon is_dubious → IsPassed text (drop (at + 1) text) (take len into) (nat_lt 0 len) has_colon is_dubious
loop-space text into at len is_further has_colon is_dubious within fits space p =
    subst (λ n. IsPassed text (drop (at + 1) text) (take len into) (nat_lt 0 n) has_colon is_dubious) (length-take-le len into fits)
    (passed-space text (get_or text at 0) (drop (at + 1) text) (take len into) is_further has_colon is_dubious space (rest_is within p))

pub loop-byte : (text into new : List ℕ) (at len new_len : ℕ) (is_further has_colon is_dubious : Bool) → at < length text →
    is_space (get_or text at 0) ≡ false → is_hash (get_or text at 0) ≡ false →
    take new_len new ≡ (take len into ++ gap is_further) ++ get_or text at 0 ∷ [] →
    IsPassed text (drop at text) (take len into) is_further has_colon is_dubious →
    IsPassed text (drop (at + 1) text) (take new_len new) false (has_colon || is_colon (get_or text at 0)) (is_dubious || not (is_sound (get_or text at 0)))
loop-byte text into new at len new_len is_further has_colon is_dubious within no_space no_hash words p =
    subst (λ ws. IsPassed text (drop (at + 1) text) ws false (has_colon || is_colon (get_or text at 0)) (is_dubious || not (is_sound (get_or text at 0)))) (sym words)
    (passed-byte text (get_or text at 0) (drop (at + 1) text) (take len into) is_further has_colon is_dubious no_space no_hash (rest_is within p))

pub loop-plain : (text into new : List ℕ) (at len new_len : ℕ) (is_further has_colon is_dubious : Bool) → at < length text →
    is_plain (get_or text at 0) ≡ true → take new_len new ≡ (take len into ++ gap is_further) ++ get_or text at 0 ∷ [] →
    IsPassed text (drop at text) (take len into) is_further has_colon is_dubious →
    IsPassed text (drop (at + 1) text) (take new_len new) false has_colon is_dubious
loop-plain text into new at len new_len is_further has_colon is_dubious within plain words p =
    let byte = plain_byte (get_or text at 0) plain in
    let next = loop-byte text into new at len new_len is_further has_colon is_dubious within byte.no_space byte.no_hash words p in
    let colon : (has_colon || is_colon (get_or text at 0)) ≡ has_colon = rw byte.no_colon (or-false has_colon) in
    let dubious : (is_dubious || not (is_sound (get_or text at 0))) ≡ is_dubious = rw byte.sound (or-false is_dubious) in
    rw (colon, dubious) at next

pub loop-colon : (text into new : List ℕ) (at len new_len : ℕ) (is_further has_colon is_dubious : Bool) → at < length text →
    get_or text at 0 ≡ 58 → take new_len new ≡ (take len into ++ gap is_further) ++ get_or text at 0 ∷ [] →
    IsPassed text (drop at text) (take len into) is_further has_colon is_dubious →
    IsPassed text (drop (at + 1) text) (take new_len new) false true is_dubious
loop-colon text into new at len new_len is_further has_colon is_dubious within is words p =
    let next =
    loop-byte text into new at len new_len is_further has_colon is_dubious within (ap is_space is) (ap is_hash is) words p in
    let colon : (has_colon || is_colon (get_or text at 0)) ≡ true = ap (λ c. has_colon || is_colon c) is ∙ or-true has_colon in
    let dubious : (is_dubious || not (is_sound (get_or text at 0))) ≡ is_dubious = ap (λ c. is_dubious || not (is_sound c)) is ∙ or-false is_dubious in
    rw (colon, dubious) at next

-- a byte that is neither plain nor any of those that the loop knows
pub loop-dubious : (text into new : List ℕ) (at len new_len : ℕ) (is_further has_colon is_dubious : Bool) → at < length text →
    is_plain (get_or text at 0) ≡ false → is_space (get_or text at 0) ≡ false → is_hash (get_or text at 0) ≡ false →
    is_colon (get_or text at 0) ≡ false →
    take new_len new ≡ (take len into ++ gap is_further) ++ get_or text at 0 ∷ [] →
    IsPassed text (drop at text) (take len into) is_further has_colon is_dubious →
    IsPassed text (drop (at + 1) text) (take new_len new) false has_colon true
loop-dubious text into new at len new_len is_further has_colon is_dubious within no_plain no_space no_hash no_colon words p =
    let next = loop-byte text into new at len new_len is_further has_colon is_dubious within no_space no_hash words p in
    let colon : (has_colon || is_colon (get_or text at 0)) ≡ has_colon = rw no_colon (or-false has_colon) in
    let unsound = neither (get_or text at 0) no_plain no_space no_colon in
    let dubious : (is_dubious || not (is_sound (get_or text at 0))) ≡ true = rw unsound (or-true is_dubious) in
    rw (colon, dubious) at next

pub length-put : (at len new_len : ℕ) (is_further : Bool) → len ≤ at → (is_further ≡ true → len + 1 ≤ at) → (is_further ≡ false → new_len ≡ len + 1) → new_len ≤ len + 2 → new_len ≤ at + 1
length-put at len new_len true fits fits_after one two = omega (arith, fits_after refl)
length-put at len new_len false fits fits_after one two = omega (arith, one refl)
