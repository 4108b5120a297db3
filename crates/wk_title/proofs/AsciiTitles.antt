-- Titles of texts of ASCII, whose characters are their bytes.
use Rattle.std.proofs.Common.{◌≡◌, ℕ, ℤ, ◌+◌, ◌-◌, ◌≤◌, Bool, true, false, not, ◌&&◌, ◌||◌, ◌==◌, nat_lt, nat_le, List, [], ◌∷◌, ◌++◌, take, drop, length, filter, chars, encode_utf8_all, refl, sym, ap, ◌∙◌, inl, inr, arith, IsAscii, Option, Some, None}
use Rattle.std.proofs.lemmas.Bool.{cases_Bool, cases_lt, and_parts, and_from}
use Rattle.std.proofs.lemmas.Bool.Decides.{nat_tests}
use Rattle.std.proofs.lemmas.List.{drop-drop, drop-take, drop_all, drop_at, take_at, length-drop, length-take-le, take-append-drop}
use Rattle.std.proofs.lemmas.List.Folds.{list_all-append}
use Rattle.std.proofs.lemmas.Str.{chars-IsAscii, encodes-IsAscii}
use Rattle.std.proofs.lemmas.Str.Ascii.{IsAscii-nil, IsAscii-cons}
use Rattle.std.specs.Char.{is_ascii, to_ascii_uppercase}
use Rattle.std.specs.Option.{option_and_then}
use Rattle.std.specs.List.{before_first, after_first, position_or_len, prefix_len, list_all, list_any, slice_split, onto_first, starts_with}
use borrow.Author.Tests.{ltb-true}
use Rattle.wk_text_rules.specs.Titles.{is_colon, is_underscore, is_direction_mark, is_forbidden, to_nfc, without_fragment, after_leading_colon, after_namespace, without_leading_underscores, prefix_of, namespace_called, capitalized, holds, begins_with_tildes, begins_with_percent_code, begins_with_character_reference, has_dot_part, is_legal_key, normal}
use Rattle.wk_title.specs.Ascii.{is_sound, IsSqueezed, IsAsciiKey}
use Rattle.wk_title.specs.Legal.{is_dot_part}
use Rattle.wk_title.proofs.NormalLemmas.{placed_key_from, title_from, none_from}
use Rattle.wk_title.proofs.OnePass.{is_hash}
use Rattle.wk_title.proofs.Squeeze.{is_space, squeezed_from, squeezed-from_start}

-- ---- what passes a test, in parts

all_parts : (p : ℕ → Bool) (n : ℕ) (xs : List ℕ) → list_all p xs ≡ true → (list_all p (take n xs) ≡ true) × (list_all p (drop n xs) ≡ true)
all_parts p n xs all = and_parts _ _ (sym (list_all-append p (take n xs) (drop n xs)) ∙ ap (list_all p) (take-append-drop n xs) ∙ all)

ascii-squeezed_from : (started is_further : Bool) (cs : List ℕ) → list_all is_ascii cs ≡ true → list_all is_ascii (squeezed_from started is_further cs) ≡ true
ascii-squeezed_from started is_further [] ascii = refl
ascii-squeezed_from started is_further (c ∷ cs) ascii =
    let parts = and_parts (is_ascii c) (list_all is_ascii cs) ascii in
    let kept : list_all is_ascii (c ∷ squeezed_from true false cs) ≡ true = and_from _ _ parts.0 (ascii-squeezed_from true false cs parts.1) in
    elim (cases_Bool (is_space c)) [
      | inl space ↦ rw space (ascii-squeezed_from started true cs parts.1)
      | inr other ↦ elim (cases_Bool (is_further && started)) [
        | inl further ↦ rw (other, further) kept
        | inr first ↦ rw (other, first) kept
      ]
    ]

ascii-uppercase : (c : ℕ) → is_ascii c ≡ true → is_ascii (to_ascii_uppercase c) ≡ true
ascii-uppercase c ascii = grind (arith, nat_tests)

sound-uppercase : (c : ℕ) → is_sound c ≡ true → is_sound (to_ascii_uppercase c) ≡ true
sound-uppercase c sound = grind (arith, nat_tests)

ascii-capitalized : (cs : List ℕ) → list_all is_ascii cs ≡ true → list_all is_ascii (capitalized cs) ≡ true
ascii-capitalized [] ascii = refl
ascii-capitalized (c ∷ cs) ascii = let parts = and_parts (is_ascii c) (list_all is_ascii cs) ascii in and_from _ _ (ascii-uppercase c parts.0) parts.1

sound-capitalized : (cs : List ℕ) → list_all is_sound cs ≡ true → list_all is_sound (capitalized cs) ≡ true
sound-capitalized [] sound = refl
sound-capitalized (c ∷ cs) sound = let parts = and_parts (is_sound c) (list_all is_sound cs) sound in and_from _ _ (sound-uppercase c parts.0) parts.1

length-capitalized : (cs : List ℕ) → length (capitalized cs) ≡ length cs
length-capitalized [] = refl
length-capitalized (c ∷ cs) = refl

-- ---- ASCII is its own characters, and its own normal form

pub IsAscii-from : (bs : List ℕ) → list_all is_ascii bs ≡ true → IsAscii bs
IsAscii-from [] ascii = IsAscii-nil
IsAscii-from (b ∷ bs) ascii = let parts = and_parts (is_ascii b) (list_all is_ascii bs) ascii in IsAscii-cons b bs (ltb-true _ _ parts.0) (IsAscii-from bs parts.1)

pub encoded-ascii : (cs : List ℕ) → list_all is_ascii cs ≡ true → encode_utf8_all cs ≡ cs
encoded-ascii cs ascii = encodes-IsAscii cs (IsAscii-from cs ascii)

to_nfc-ascii : (cs : List ℕ) → list_all is_ascii cs ≡ true → to_nfc cs ≡ cs
unfolding to_nfc
to_nfc-ascii cs ascii = rw ascii refl

no_mark : (c : ℕ) → is_ascii c ≡ true → not (is_direction_mark c) ≡ true
no_mark c ascii = grind (arith, nat_tests)

no_marks : (cs : List ℕ) → list_all is_ascii cs ≡ true → filter (λ c. not (is_direction_mark c)) cs ≡ cs
no_marks [] ascii = refl
no_marks (c ∷ cs) ascii = let parts = and_parts (is_ascii c) (list_all is_ascii cs) ascii in rw (no_mark c parts.0) (ap (λ l. c ∷ l) (no_marks cs parts.1))

front-ascii : (text : List ℕ) → list_all is_ascii text ≡ true → list_all is_ascii (before_first is_hash text) ≡ true
front-ascii text ascii = (all_parts is_ascii (position_or_len is_hash text) text ascii).0

without_fragment-ascii : (text : List ℕ) → list_all is_ascii text ≡ true → without_fragment (chars text) ≡ before_first is_hash text
without_fragment-ascii text ascii =
    let front = front-ascii text ascii in
    ap without_fragment (chars-IsAscii text (IsAscii-from text ascii)) ∙ ap to_nfc (no_marks (before_first is_hash text) front)
    ∙ to_nfc-ascii (before_first is_hash text) front

-- ---- a text without a colon

or_parts_false : (a b : Bool) → (a || b) ≡ false → (a ≡ false) × (b ≡ false)
or_parts_false true b h = cc
or_parts_false false b h = (refl, h)

or_false_from : (a b : Bool) → a ≡ false → b ≡ false → (a || b) ≡ false
or_false_from true b first second = cc
or_false_from false b first second = second

starts-colon : (c : ℕ) (cs : List ℕ) → starts_with (λ a b. a == b) (c ∷ cs) (58 ∷ []) ≡ is_colon c
starts-colon c cs = grind (arith, nat_tests)

no_start : (cs : List ℕ) → list_any is_colon cs ≡ false → starts_with (λ a b. a == b) cs (58 ∷ []) ≡ false
no_start [] none = refl
no_start (c ∷ cs) none = starts-colon c cs ∙ (or_parts_false (is_colon c) (list_any is_colon cs) none).0

pub placed-without_colon : (ns : ℤ) (cs : List ℕ) → list_any is_colon cs ≡ false → (ns, cs) ≡ after_namespace (after_leading_colon (ns, cs))
placed-without_colon ns cs none =
    let leading : after_leading_colon (ns, cs) ≡ (ns, cs) = rw (no_start cs none) refl in
    let whole : after_namespace (ns, cs) ≡ (ns, cs) = rw (none, after_namespace) refl in
    sym (ap after_namespace leading ∙ whole)

-- ---- what is left of the words is an end of them

abbrev IsEnd : List ℕ → List ℕ → Type 0
IsEnd cs rest = (k : ℕ) × (rest ≡ drop k cs)

end-after : (cs : List ℕ) (n : ℕ) (rest : List ℕ) → IsEnd cs rest → IsEnd cs (drop n rest)
end-after cs n rest end = (end.0 + n, ap (drop n) end.1 ∙ drop-drop n end.0 cs)

end-leading_colon : (ns : ℤ) (cs : List ℕ) → IsEnd cs (after_leading_colon (ns, cs)).1
end-leading_colon ns cs = elim (cases_Bool (starts_with (λ a b. a == b) cs (58 ∷ []))) [
  | inl colon ↦ rw colon (end-after cs (prefix_len is_underscore (drop 1 cs)) (drop 1 cs) (1, refl))
  | inr none ↦ rw none (0, refl)
]

end-found : (cs rest : List ℕ) (ns : ℤ) (found : Option ℤ) → IsEnd cs rest →
    IsEnd cs (elim found as (λ x. ℤ × List ℕ) [ None ↦ (ns, rest) | Some other ↦ (other, without_leading_underscores (after_first is_colon rest)) ]).1
end-found cs rest ns None end = end
end-found cs rest ns (Some other) end =
    end-after cs (prefix_len is_underscore (after_first is_colon rest)) (after_first is_colon rest) (end-after cs (position_or_len is_colon rest + 1) rest end)

end-namespace : (cs : List ℕ) (ns : ℤ) (rest : List ℕ) → IsEnd cs rest → IsEnd cs (after_namespace (ns, rest)).1
end-namespace cs ns rest end = end-found cs rest ns (option_and_then namespace_called (prefix_of rest)) end

end-length : (cs rest : List ℕ) → IsEnd cs rest → (length rest ≤ length cs) × (drop (length cs - length rest) cs ≡ rest)
end-length cs rest end =
    let long : length rest ≡ length cs - end.0 = ap length end.1 ∙ length-drop end.0 cs in
    elim (cases_lt end.0 (length cs)) [
      | inl within ↦
          let start : length cs - length rest ≡ end.0 = omega (arith, long) in
          (omega (arith, long), ap (λ k. drop k cs) start ∙ sym end.1)
      | inr outside ↦
          (omega (arith, long), drop_all (length cs - length rest) cs (omega (arith, long)) ∙ sym (drop_all end.0 cs outside) ∙ sym end.1)
    ]

key_start-end : (words : List ℕ) (default_ns ns : ℤ) (rest : List ℕ) → (ns, rest) ≡ after_namespace (after_leading_colon (default_ns, words)) →
    (length rest ≤ length words) × (drop (length words - length rest) words ≡ rest)
key_start-end words default_ns ns rest placed =
    let leading = after_leading_colon (default_ns, words) in
    let end = end-namespace words leading.0 leading.1 (end-leading_colon default_ns words) in
    end-length words rest (end.0, ap (λ p. p.1) placed ∙ end.1)

-- the same by the numbers and the lists that the calls were given
pub key_start-from : (words given : List ℕ) (default_ns given_ns asked given_asked ns : ℤ) (behind rest : List ℕ) → given ≡ words → given_ns ≡ default_ns → given_asked ≡ asked →
    (asked, behind) ≡ after_leading_colon (given_ns, given) → (ns, rest) ≡ after_namespace (given_asked, behind) →
    (length rest ≤ length words) × ((ns, drop (length words - length rest) words) ≡ after_namespace (after_leading_colon (default_ns, words)))
key_start-from words given default_ns given_ns asked given_asked ns behind rest words_same default_same asked_same leading placed =
    let asked_from : (asked, behind) ≡ after_leading_colon (default_ns, words) =
    leading ∙ ap (λ n. after_leading_colon (n, given)) default_same ∙ ap (λ cs. after_leading_colon (default_ns, cs)) words_same in
    let placed_from : (ns, rest) ≡ after_namespace (after_leading_colon (default_ns, words)) = placed ∙ ap (λ n. after_namespace (n, behind)) asked_same ∙ ap after_namespace asked_from in
    let end = key_start-end words default_ns ns rest placed_from in
    (end.0, ap (λ cs. (ns, cs)) end.1 ∙ placed_from)

-- ---- a key of sound bytes

sound-forbidden : (c : ℕ) → is_sound c ≡ true → is_forbidden c ≡ false
sound-forbidden c sound = grind (arith, nat_tests)

no_forbidden : (cs : List ℕ) → list_all is_sound cs ≡ true → list_any is_forbidden cs ≡ false
no_forbidden [] sound = refl
no_forbidden (c ∷ cs) sound =
    let parts = and_parts (is_sound c) (list_all is_sound cs) sound in
    rw (sound-forbidden c parts.0) (no_forbidden cs parts.1)

record IsOther (c : ℕ) : Type 0 where
  no_tilde : (c == 126) ≡ false
  no_percent : (c == 37) ≡ false
  no_ampersand : (c == 38) ≡ false
  no_dot : (c == 46) ≡ false

sound-other : (c : ℕ) → is_sound c ≡ true → IsOther c
sound-other c sound =
    record { no_tilde = grind (arith, nat_tests); no_percent = grind (arith, nat_tests); no_ampersand = grind (arith, nat_tests); no_dot = grind (arith, nat_tests) }

and_first : (a b : Bool) → a ≡ false → (a && b) ≡ false
and_first true b h = cc
and_first false b h = refl

begins-tildes : (c : ℕ) (cs : List ℕ) → (c == 126) ≡ false → begins_with_tildes (c ∷ cs) ≡ false
begins-tildes c cs other = let first : (126 == c) ≡ false = grind (arith, nat_tests) in and_first _ _ first

begins-percent : (c : ℕ) (cs : List ℕ) → (c == 37) ≡ false → begins_with_percent_code (c ∷ cs) ≡ false
begins-percent c [] other = refl
begins-percent c (d ∷ []) other = refl
begins-percent c (d ∷ e ∷ cs) other = rw other refl

begins-reference : (c : ℕ) (cs : List ℕ) → (c == 38) ≡ false → begins_with_character_reference (c ∷ cs) ≡ false
begins-reference c cs other = rw other refl

no_tildes : (cs : List ℕ) → list_all is_sound cs ≡ true → holds begins_with_tildes cs ≡ false
no_tildes [] sound = refl
no_tildes (c ∷ cs) sound =
    let parts = and_parts (is_sound c) (list_all is_sound cs) sound in
    rw (begins-tildes c cs (sound-other c parts.0).no_tilde) (no_tildes cs parts.1)

no_percent_code : (cs : List ℕ) → list_all is_sound cs ≡ true → holds begins_with_percent_code cs ≡ false
no_percent_code [] sound = refl
no_percent_code (c ∷ cs) sound =
    let parts = and_parts (is_sound c) (list_all is_sound cs) sound in
    rw (begins-percent c cs (sound-other c parts.0).no_percent) (no_percent_code cs parts.1)

no_reference : (cs : List ℕ) → list_all is_sound cs ≡ true → holds begins_with_character_reference cs ≡ false
no_reference [] sound = refl
no_reference (c ∷ cs) sound =
    let parts = and_parts (is_sound c) (list_all is_sound cs) sound in
    rw (begins-reference c cs (sound-other c parts.0).no_ampersand) (no_reference cs parts.1)

-- no part of a text without dots is a dot
no_dot_onto : (c : ℕ) (parts : List (List ℕ)) → (c == 46) ≡ false → list_any is_dot_part parts ≡ false → list_any is_dot_part (onto_first c parts) ≡ false
no_dot_onto c [] other none = rw other refl
no_dot_onto c (part ∷ parts) other none =
    let first : is_dot_part (c ∷ part) ≡ false = rw other refl in
    or_false_from _ _ first (or_parts_false (is_dot_part part) (list_any is_dot_part parts) none).1

no_dot_part : (cs : List ℕ) → list_all is_sound cs ≡ true → has_dot_part cs ≡ false
no_dot_part [] sound = refl
no_dot_part (c ∷ cs) sound =
    let parts = and_parts (is_sound c) (list_all is_sound cs) sound in
    elim (cases_Bool (c == 47)) [
      | inl slash ↦ rw slash (no_dot_part cs parts.1)
      | inr other ↦ rw other (no_dot_onto c (slice_split (λ c. c == 47) cs) (sound-other c parts.0).no_dot (no_dot_part cs parts.1))
    ]

sound-ascii : (c : ℕ) → is_sound c ≡ true → is_ascii c ≡ true
sound-ascii c sound = grind (arith, nat_tests)

sound-all_ascii : (cs : List ℕ) → list_all is_sound cs ≡ true → list_all is_ascii cs ≡ true
sound-all_ascii [] sound = refl
sound-all_ascii (c ∷ cs) sound =
    let parts = and_parts (is_sound c) (list_all is_sound cs) sound in and_from _ _ (sound-ascii c parts.0) (sound-all_ascii cs parts.1)

and_trues : (a b c : Bool) → (a && b && c && true && true && true && true && true) ≡ ((a && b) && c)
and_trues true true true = refl
and_trues true true false = refl
and_trues true false c = refl
and_trues false b c = refl

pub is_legal_key_of_sound : (cs : List ℕ) → list_all is_sound cs ≡ true →
    is_legal_key cs ≡ ((nat_lt 0 (length cs) && nat_le (length cs) 255) && not (starts_with (λ a b. a == b) cs (58 ∷ [])))
is_legal_key_of_sound cs sound =
    rw (encoded-ascii cs (sound-all_ascii cs sound), no_forbidden cs sound, no_tildes cs sound, no_percent_code cs sound, no_reference cs sound, no_dot_part cs sound)
    (and_trues (nat_lt 0 (length cs)) (nat_le (length cs) 255) (not (starts_with (λ a b. a == b) cs (58 ∷ []))))

-- ---- the key that the pass leaves

pub ascii_key-from : (text words key : List ℕ) (default_ns ns : ℤ) (start : ℕ) (has_colon is_dubious : Bool) → list_all is_ascii text ≡ true → IsSqueezed text words has_colon is_dubious →
    (ns, drop start words) ≡ after_namespace (after_leading_colon (default_ns, words)) → key ≡ capitalized (drop start words) → IsAsciiKey text default_ns ns key is_dubious
ascii_key-from text words key default_ns ns start has_colon is_dubious ascii pass placed key_is =
    let front = without_fragment-ascii text ascii in
    let words_ascii : list_all is_ascii words ≡ true =
    ap (list_all is_ascii) (pass.words_are ∙ squeezed-from_start (before_first is_hash text)) ∙ ascii-squeezed_from false false (before_first is_hash text) (front-ascii text ascii) in
    let key_ascii : list_all is_ascii (capitalized (drop start words)) ≡ true = ascii-capitalized (drop start words) (all_parts is_ascii start words words_ascii).1 in
    record {
      placed =
          placed_key_from text default_ns (before_first is_hash text) words (after_leading_colon (default_ns, words)) (ns, drop start words) (capitalized (drop start words)) key
          (sym front) pass.words_are refl placed refl (key_is ∙ sym (to_nfc-ascii (capitalized (drop start words)) key_ascii));
      ascii = ap (list_all is_ascii) key_is ∙ key_ascii;
      sound = λ h.
          let words_sound : list_all is_sound words ≡ true = pass.sound ∙ ap not h in
          ap (list_all is_sound) key_is ∙ sound-capitalized (drop start words) (all_parts is_sound start words words_sound).1;
    }

-- where the key stands after the first letter was raised
pub key-raised : (into post key : List ℕ) (start len : ℕ) → start ≤ len → len ≤ length into → key ≡ capitalized (take (len - start) (drop start into)) →
    take (len - start) (drop start (take start into ++ (key ++ post))) ≡ capitalized (drop start (take len into))
key-raised into post key start len in_order within key_is =
    let sum : start + (len - start) ≡ len = omega arith in
    let same : drop start (take len into) ≡ take (len - start) (drop start into) = ap (λ n. drop start (take n into)) (sym sum) ∙ drop-take start (len - start) into in
    let long : length key ≡ len - start = ap length key_is ∙ length-capitalized (take (len - start) (drop start into)) ∙ length-take-le (len - start) (drop start into) (omega (arith, length-drop start into)) in
    ap (take (len - start)) (drop_at (take start into) (key ++ post) start (length-take-le start into (omega arith)))
    ∙ take_at key post (len - start) long ∙ key_is ∙ ap capitalized (sym same)

pub ascii-named : (text : List ℕ) (default_ns ns : ℤ) (key : List ℕ) (is_dubious : Bool) → IsAsciiKey text default_ns ns key is_dubious → is_legal_key key ≡ true →
    normal text default_ns ≡ Some (record { ns = ns; key = key })
ascii-named text default_ns ns key is_dubious found legal =
    let encoded : normal text default_ns ≡ Some (record { ns = ns; key = encode_utf8_all key }) = title_from text default_ns ns key found.placed legal in
    rw (encoded-ascii key found.ascii) at encoded

pub ascii-unnamed : (text : List ℕ) (default_ns ns : ℤ) (key : List ℕ) (is_dubious : Bool) → IsAsciiKey text default_ns ns key is_dubious → is_legal_key key ≡ false →
    normal text default_ns ≡ None
ascii-unnamed text default_ns ns key is_dubious found illegal = none_from text default_ns ns key found.placed illegal
