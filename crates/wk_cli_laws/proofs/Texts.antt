-- The texts of pages that are generated are of ASCII, and short.
use Rattle.std.proofs.Common.{◌≡◌, ℕ, ◌+◌, ◌-◌, ◌*◌, ◌/◌, ◌^◌, ◌<◌, ◌≤◌, if◌then◌else◌, true, ◌&&◌, ◌==◌, nat_lt, List, [], ◌∷◌, ◌++◌, length, codes, refl, ◌∙◌, inl, inr, arith, length-append, length-take}
use Rattle.std.proofs.Math.Nat.{mod-le, div-le_self, mod-lt}
use Rattle.std.proofs.lemmas.Bool.{and_from, and_parts, cases_Bool}
use Rattle.std.proofs.lemmas.Fmt.{length-decimal-le}
use Rattle.std.proofs.lemmas.List.Folds.{list_all-append}
use borrow.Author.Tests.{ltb-true}
use Rattle.std.specs.Char.{is_ascii}
use Rattle.std.specs.Fmt.{decimal}
use Rattle.std.specs.List.{fold, list_all, suffix_len}
use Rattle.wk_text_rules.specs.Titles.{to_nfc}
use Rattle.wk_text_rules.specs.Blank.{trimmed_end, is_blank_byte}
use Rattle.wk_page_rules.specs.Kept.{kept, with_newlines}
use Rattle.wk_tool_rules.specs.Generator.{Drawn, draw, field_name, fields, next_seed, page_drawn, page_name, with_field, with_number, with_text}
use Rattle.wk_cli_laws.proofs.Safe.{ascii-safe, chars-safe, digits-of, encode-ascii, safe-digits}

-- a text of ASCII, of so many bytes at most
pub record IsShort (most : ℕ) (text : List ℕ) : Type 0 where
  pub ascii : list_all is_ascii text ≡ true
  pub few : length text ≤ most

pub short-append : (a b : ℕ) (xs ys : List ℕ) → IsShort a xs → IsShort b ys → IsShort (a + b) (xs ++ ys)
short-append a b xs ys front back = record {
  ascii = list_all-append is_ascii xs ys ∙ and_from _ _ front.ascii back.ascii;
  few = omega (arith, length-append xs ys, front.few, back.few);
}

pub short-decimal : (n : ℕ) → n < 2 ^ 64 → IsShort 20 (decimal n)
short-decimal n small = record {
  ascii = ascii-safe (decimal n) (safe-digits (decimal n) (digits-of n small));
  few = length-decimal-le 20 n (omega arith) (omega (arith, small)) small;
}

-- ---- what is kept of such a text

newline-ascii : (c : ℕ) → is_ascii c ≡ true → is_ascii (if c == 13 then 10 else c) ≡ true
newline-ascii c ascii = elim (cases_Bool (c == 13)) [ inl return ↦ rw return refl | inr other ↦ rw other ascii ]

newlines-ascii : (cs : List ℕ) → list_all is_ascii cs ≡ true → list_all is_ascii (with_newlines cs) ≡ true
newlines-ascii [] all = refl
newlines-ascii (c ∷ []) all =
    let parts = and_parts (is_ascii c) true all in
    and_from _ _ (newline-ascii c parts.0) refl
newlines-ascii (c ∷ d ∷ cs) all =
    let parts = and_parts (is_ascii c) (list_all is_ascii (d ∷ cs)) all in
    let later = newlines-ascii (d ∷ cs) parts.1 in
    elim (cases_Bool (c == 13 && d == 10)) [
      | inl pair ↦ rw pair later
      | inr other ↦ rw other (and_from _ _ (newline-ascii c parts.0) later)
    ]

newlines-few : (cs : List ℕ) → length (with_newlines cs) ≤ length cs
newlines-few [] = omega arith
newlines-few (c ∷ []) = omega arith
newlines-few (c ∷ d ∷ cs) =
    let later = newlines-few (d ∷ cs) in
    elim (cases_Bool (c == 13 && d == 10)) [
      | inl pair ↦ rw pair (omega (arith, later))
      | inr other ↦ rw other (omega (arith, later))
    ]

trimmed-few : (cs : List ℕ) → length (trimmed_end cs) ≤ length cs
trimmed-few cs = omega (arith, length-take (length cs - suffix_len is_blank_byte cs) cs)

pub kept-short : (most : ℕ) (text : List ℕ) → IsShort most text → length (kept text) ≤ most
unfolding kept to_nfc
kept-short most text short =
    let lines = with_newlines text in
    let ascii = newlines-ascii text short.ascii in
    let same : kept text ≡ trimmed_end lines = rw (chars-safe text short.ascii, ascii, encode-ascii lines ascii) refl in
    rw same (omega (arith, trimmed-few lines, newlines-few text, short.few))

-- ---- pages

draw-small : (n seed : ℕ) → draw n seed < 2 ^ 32
draw-small n seed = omega (arith, mod-le (next_seed seed / 65536) n, div-le_self (next_seed seed) 65536, mod-lt (seed * 1664525 + 1013904223) {m = 2 ^ 32} (omega arith))

short-at : (n : ℕ) (xs : List ℕ) → list_all is_ascii xs ≡ true → length xs ≡ n → IsShort n xs
short-at n xs ascii is = record { ascii = ascii; few = omega (arith, is) }

short-more : (a b : ℕ) (xs : List ℕ) → a ≤ b → IsShort a xs → IsShort b xs
short-more a b xs more short = record { ascii = short.ascii; few = omega (arith, more, short.few) }

drawn-text : (a b : ℕ) (text : List ℕ) (d : Drawn) → IsShort b text → IsShort a d.text → IsShort (a + b) (with_text text d).text
drawn-text a b text d more short = short-append a b d.text text short more

drawn-number : (a least n : ℕ) (d : Drawn) → least < 2 ^ 32 → IsShort a d.text → IsShort (a + 20) (with_number least n d).text
drawn-number a least n d small short =
    short-append a 20 d.text (decimal (least + draw n d.seed)) short (short-decimal (least + draw n d.seed) (omega (arith, small, draw-small n d.seed)))

short-field : (j : ℕ) → j < 2 ^ 64 → IsShort 21 (field_name j)
short-field j small = short-append 1 20 (102 ∷ []) (decimal j) (short-at 1 (102 ∷ []) refl refl) (short-decimal j small)

field-drawn : (a : ℕ) (d : Drawn) (j : ℕ) → j < 2 ^ 64 → IsShort a d.text → IsShort (a + 44) (with_field d j).text
field-drawn a d j small short = elim (cases_Bool (draw 2 d.seed == 1)) [
  | inl there ↦
      let behind : Drawn = record d { seed = next_seed d.seed } in
      let name = codes "|" ++ field_name j ++ codes "=v" in
      let named : IsShort 24 name =
      short-append 1 23 (codes "|") (field_name j ++ codes "=v") (short-at 1 (codes "|") refl refl)
      (short-append 21 2 (field_name j) (codes "=v") (short-field j small) (short-at 2 (codes "=v") refl refl)) in
      let done = drawn-number (a + 24) 0 100 (with_text name behind) (omega arith) (drawn-text a 24 name behind named short) in
      rw there (short-more (a + 24 + 20) (a + 44) _ (omega arith) done)
  | inr none ↦ rw none (short-more a (a + 44) d.text (omega arith) short)
]

fields-drawn : (a : ℕ) (d : Drawn) (js : List ℕ) → list_all (λ j. nat_lt j 100) js ≡ true → IsShort a d.text → IsShort (a + 44 * length js) (fold with_field d js).text
fields-drawn a d [] all short = short-more a (a + 44 * 0) d.text (omega arith) short
fields-drawn a d (j ∷ js) all short =
    let parts = and_parts (nat_lt j 100) (list_all (λ i. nat_lt i 100) js) all in
    let here = field-drawn a d j (omega (arith, ltb-true j 100 parts.0)) short in
    short-more (a + 44 + 44 * length js) (a + 44 * length (j ∷ js)) _ (omega arith) (fields-drawn (a + 44) (with_field d j) js parts.1 here)

pub short-page : (pages i seed : ℕ) → i < 2 ^ 64 → IsShort 2097152 (page_drawn pages i seed).text
short-page pages i seed small =
    let name = codes "{{Infobox|name=" ++ page_name i in
    let named : Drawn = record { text = name; seed = seed } in
    let begun : IsShort 40 name =
    short-append 15 25 (codes "{{Infobox|name=") (page_name i) (short-at 15 (codes "{{Infobox|name=") refl refl)
    (short-append 5 20 (codes "Page ") (decimal i) (short-at 5 (codes "Page ") refl refl) (short-decimal i small)) in
    let boxed = fold with_field named fields in
    let first : IsShort 524 boxed.text = fields-drawn 40 named fields refl begun in
    let to = codes "}} [[Page " in
    let linked = with_number 1 pages (with_text to boxed) in
    let second : IsShort 554 linked.text = drawn-number 534 1 pages (with_text to boxed) (omega arith) (drawn-text 524 10 to boxed (short-at 10 to refl refl) first) in
    let note = codes "]] {{Note|" in
    let noted = with_number 0 10 (with_text note linked) in
    let third : IsShort 584 noted.text = drawn-number 564 0 10 (with_text note linked) (omega arith) (drawn-text 554 10 note linked (short-at 10 note refl refl) second) in
    let category = codes "}}[[Category:C" in
    let placed = with_number 0 5 (with_text category noted) in
    let fourth : IsShort 618 placed.text = drawn-number 598 0 5 (with_text category noted) (omega arith) (drawn-text 584 14 category noted (short-at 14 category refl refl) third) in
    short-more 620 2097152 _ (omega arith) (drawn-text 618 2 (codes "]]") placed (short-at 2 (codes "]]") refl refl) fourth)
