-- What is kept of a text is kept again unchanged: it has no carriage return, is in Normalization Form C, and doesn't end
-- with a blank byte.
use Rattle.std.proofs.Common.{◌≡◌, ℕ, ◌+◌, ◌-◌, ◌/◌, ◌%◌, ◌≤◌, ◌<◌, true, false, cond, ◌&&◌, ◌==◌, List, [], ◌∷◌, ◌++◌, length, take, reverse, encode_utf8_all, refl, sym, ap, ap₂, ◌∙◌, subst, inl, inr, arith, append_assoc, eq-eqb}
use Rattle.std.specs.Prelude.{chars}
use Rattle.std.specs.Char.{encode_utf8, is_ascii}
use Rattle.std.specs.List.{list_all, prefix_len, suffix_len}
use Rattle.std.proofs.Math.Seq.{take-append_seam}
use Rattle.std.proofs.lemmas.Bool.{and_from, and_parts, cases_Bool, cases_lt, lt-ltb, ltb-true, not-true}
use Rattle.std.proofs.lemmas.Bool.Decides.{nat_tests}
use Rattle.std.proofs.lemmas.List.{append-nil, append_cancel_right, length-append, length-reverse, reverse-append}
use Rattle.std.proofs.lemmas.List.Folds.{prefix_len-append}
use Rattle.ucd_normal.specs.declared.forms.Form.TheVariants.{Nfc}
use Rattle.unicode_normalization.specs.Forms.{nfc}
use Rattle.unicode_normalization.proofs.ComposeLemmas.{list_all-append}
use Rattle.unicode_normalization.proofs.FormsLemmas.{nfc_idem, normalize-ascii_boundary}
use Rattle.wk_text_rules.specs.Blank.{is_blank_byte, trimmed_end}
use Rattle.wk_text_rules.specs.Titles.{to_nfc}
use Rattle.wk_text_rules.proofs.TitleLemmas.{nfc-ascii, to_nfc-is}
use Rattle.wk_page_rules.specs.Kept.{kept, with_newlines}
use Rattle.wk_title_laws.proofs.Chars.{chars-of_numbers}
use Rattle.wk_life_laws.proofs.Returns.{is_other, nfc-lacks}

-- ---- newlines

other-newline : (c : ℕ) → is_other (cond (c == 13) 10 c) ≡ true
other-newline c = elim (cases_Bool (c == 13)) [ inl return ↦ rw return refl | inr other ↦ rw (other, other) refl ]

newlines-lack : (cs : List ℕ) → list_all is_other (with_newlines cs) ≡ true
newlines-lack [] = refl
newlines-lack (c ∷ []) = and_from _ _ (other-newline c) refl
newlines-lack (c ∷ d ∷ cs) = elim (cases_Bool (c == 13 && d == 10)) [
  | inl pair ↦ rw pair (newlines-lack (d ∷ cs))
  | inr alone ↦ rw alone (and_from _ _ (other-newline c) (newlines-lack (d ∷ cs)))
]

newlines-kept : (cs : List ℕ) → list_all is_other cs ≡ true → with_newlines cs ≡ cs
newlines-kept [] all = refl
newlines-kept (c ∷ []) all =
    let other = not-return c (and_parts (is_other c) true all).0 in ap (λ b. cond b 10 c ∷ []) other
  where
    not-return : (d : ℕ) → is_other d ≡ true → (d == 13) ≡ false
    not-return d is = not-true (d == 13) is
newlines-kept (c ∷ d ∷ cs) all =
    let parts = and_parts (is_other c) (list_all is_other (d ∷ cs)) all in
    let other : (c == 13) ≡ false = not-true (c == 13) parts.0 in
    rw other (ap (λ l. c ∷ l) (newlines-kept (d ∷ cs) parts.1))

-- ---- blank bytes at the end

-- the list is empty, or its last byte isn't blank
data EndsSolid (bs : List ℕ) : Type 0 where
  nothing : bs ≡ [] → EndsSolid bs
  with_last : (front : List ℕ) (last : ℕ) → bs ≡ front ++ last ∷ [] → is_blank_byte last ≡ false → EndsSolid bs

prefix-blank : (bs : List ℕ) → list_all is_blank_byte bs ≡ true → prefix_len is_blank_byte bs ≡ length bs
prefix-blank [] all = refl
prefix-blank (b ∷ bs) all =
    let parts = and_parts (is_blank_byte b) (list_all is_blank_byte bs) all in
    let later = prefix-blank bs parts.1 in
    rw parts.0 (omega (arith, later))

reverse-blank : (bs : List ℕ) → list_all is_blank_byte bs ≡ true → list_all is_blank_byte (reverse bs) ≡ true
reverse-blank [] all = refl
reverse-blank (b ∷ bs) all =
    let parts = and_parts (is_blank_byte b) (list_all is_blank_byte bs) all in
    ap (list_all is_blank_byte) (reverse-append (b ∷ []) bs) ∙ list_all-append is_blank_byte (reverse bs) (b ∷ []) (reverse-blank bs parts.1) (and_from _ _ parts.0 refl)

prefix-solid : (bs : List ℕ) → EndsSolid bs → prefix_len is_blank_byte (reverse bs) ≡ 0
prefix-solid bs (nothing none) = ap (λ (l : List ℕ). prefix_len is_blank_byte (reverse l)) none
prefix-solid bs (with_last front last is solid) =
    ap (λ (l : List ℕ). prefix_len is_blank_byte (reverse l)) is
    ∙ (ap (prefix_len is_blank_byte) (reverse-append front (last ∷ [])) ∙ ap (λ b. cond b (1 + prefix_len is_blank_byte (reverse front)) 0) solid)

suffix-is : (bs blank : List ℕ) → EndsSolid bs → list_all is_blank_byte blank ≡ true → suffix_len is_blank_byte (bs ++ blank) ≡ length blank
suffix-is bs blank solid all =
    let whole = prefix-blank (reverse blank) (reverse-blank blank all) in
    let same = eq-eqb (prefix_len is_blank_byte (reverse blank)) (length (reverse blank)) whole in
    let none = prefix-solid bs solid in
    let size = length-reverse blank in
    ap (prefix_len is_blank_byte) (reverse-append bs blank)
    ∙ (prefix_len-append is_blank_byte (reverse blank) (reverse bs)
    ∙ (ap (λ b. cond b (length (reverse blank) + prefix_len is_blank_byte (reverse bs)) (prefix_len is_blank_byte (reverse blank))) same ∙ omega (arith, none, size)))

trimmed-is : (bs blank : List ℕ) → EndsSolid bs → list_all is_blank_byte blank ≡ true → trimmed_end (bs ++ blank) ≡ bs
trimmed-is bs blank solid all =
    let ending = suffix-is bs blank solid all in
    let size = length-append bs blank in
    let count : length (bs ++ blank) - suffix_len is_blank_byte (bs ++ blank) ≡ length bs = omega (arith, ending, size) in
    ap (λ n. take n (bs ++ blank)) count ∙ take-append_seam bs blank

-- ---- characters and bytes

encodes-append : (cs ds : List ℕ) → encode_utf8_all (cs ++ ds) ≡ encode_utf8_all cs ++ encode_utf8_all ds
encodes-append [] ds = refl
encodes-append (c ∷ cs) ds = ap (λ l. encode_utf8 c ++ l) (encodes-append cs ds) ∙ sym (append_assoc (encode_utf8 c) (encode_utf8_all cs) (encode_utf8_all ds))

encode-ascii : (c : ℕ) → c < 128 → encode_utf8 c ≡ c ∷ []
unfolding encode_utf8
encode-ascii c small = grind (arith, nat_tests)

encodes-ascii : (cs : List ℕ) → list_all is_ascii cs ≡ true → encode_utf8_all cs ≡ cs
encodes-ascii [] all = refl
encodes-ascii (c ∷ cs) all =
    let parts = and_parts (is_ascii c) (list_all is_ascii cs) all in
    ap₂ (λ u v. u ++ v) (encode-ascii c (ltb-true c 128 parts.0)) (encodes-ascii cs parts.1)

-- the last byte of a character's bytes
record LastByte (c : ℕ) : Type 0 where
  front : List ℕ
  last : ℕ
  is : encode_utf8 c ≡ front ++ last ∷ []
  high : 128 ≤ last

last-two : (c : ℕ) → 128 ≤ c → c < 2048 → encode_utf8 c ≡ (192 + c / 64) ∷ (128 + c % 64) ∷ []
unfolding encode_utf8
last-two c low high = grind (arith, nat_tests)

last-three : (c : ℕ) → 2048 ≤ c → c < 65536 → encode_utf8 c ≡ (224 + c / 4096) ∷ (128 + c / 64 % 64) ∷ (128 + c % 64) ∷ []
unfolding encode_utf8
last-three c low high = grind (arith, nat_tests)

last-four : (c : ℕ) → 65536 ≤ c → encode_utf8 c ≡ (240 + c / 262144) ∷ (128 + c / 4096 % 64) ∷ (128 + c / 64 % 64) ∷ (128 + c % 64) ∷ []
unfolding encode_utf8
last-four c low = grind (arith, nat_tests)

last-byte : (c : ℕ) → 128 ≤ c → LastByte c
last-byte c low = elim (cases_lt c 2048) [
  | inl two ↦ record { front = (192 + c / 64) ∷ []; last = 128 + c % 64; is = last-two c low two; high = omega arith }
  | inr longer ↦ elim (cases_lt c 65536) [
    | inl three ↦ record { front = (224 + c / 4096) ∷ (128 + c / 64 % 64) ∷ []; last = 128 + c % 64; is = last-three c longer three; high = omega arith }
    | inr four ↦ record { front = (240 + c / 262144) ∷ (128 + c / 4096 % 64) ∷ (128 + c / 64 % 64) ∷ []; last = 128 + c % 64; is = last-four c four; high = omega arith }
  ]
]

high-solid : (b : ℕ) → 128 ≤ b → is_blank_byte b ≡ false
high-solid b low = grind (arith, nat_tests)

blank-ascii : (b : ℕ) → is_blank_byte b ≡ true → is_ascii b ≡ true
blank-ascii b blank = elim (cases_lt b 128) [
  | inl small ↦ lt-ltb b 128 small
  | inr more ↦ absurd (let e : false ≡ true = sym (high-solid b more) ∙ blank in cc)
]

char-solid : (c : ℕ) → is_blank_byte c ≡ false → (before : List ℕ) → EndsSolid (before ++ encode_utf8 c)
char-solid c solid before = elim (cases_lt c 128) [
  | inl small ↦ with_last before c (ap (λ l. before ++ l) (encode-ascii c small)) solid
  | inr more ↦
      let byte = last-byte c more in
      with_last (before ++ byte.front) byte.last (ap (λ l. before ++ l) byte.is ∙ sym (append_assoc before byte.front (byte.last ∷ []))) (high-solid byte.last byte.high)
]

encodes-solid : (cs : List ℕ) → EndsSolid cs → EndsSolid (encode_utf8_all cs)
encodes-solid cs (nothing none) = nothing (ap encode_utf8_all none)
encodes-solid cs (with_last front last is solid) =
    subst EndsSolid (sym (ap encode_utf8_all is ∙ (encodes-append front (last ∷ []) ∙ ap (λ l. encode_utf8_all front ++ l) (append-nil (encode_utf8 last)))))
    (char-solid last solid (encode_utf8_all front))

-- a text is one that doesn't end with a blank byte, and blank bytes
record IsSplit (cs : List ℕ) : Type 0 where
  front : List ℕ
  back : List ℕ
  is : cs ≡ front ++ back
  solid : EndsSolid front
  blank : list_all is_blank_byte back ≡ true

split : (cs : List ℕ) → IsSplit cs
split [] = record { front = []; back = []; is = refl; solid = nothing refl; blank = refl }
split (c ∷ cs) = longer (split cs)
  where
    longer : IsSplit cs → IsSplit (c ∷ cs)
    longer later = by later.solid
      where
        by : EndsSolid later.front → IsSplit (c ∷ cs)
        by (with_last front last is solid) = record {
          front = c ∷ later.front;
          back = later.back;
          is = ap (λ l. c ∷ l) later.is;
          solid = with_last (c ∷ front) last (ap (λ l. c ∷ l) is) solid;
          blank = later.blank;
        }
        by (nothing none) =
            let same : cs ≡ later.back = later.is ∙ ap (λ l. l ++ later.back) none in
            let all : list_all is_blank_byte cs ≡ true = ap (list_all is_blank_byte) same ∙ later.blank in
            elim (cases_Bool (is_blank_byte c)) [
              | inl here ↦ record { front = []; back = c ∷ cs; is = refl; solid = nothing refl; blank = and_from _ _ here all }
              | inr solid ↦ record { front = c ∷ []; back = cs; is = refl; solid = with_last [] c refl solid; blank = all }
            ]

-- ---- kept texts

-- the characters of a text that is kept
record IsKeptAs (bytes cs : List ℕ) : Type 0 where
  is : bytes ≡ encode_utf8_all cs
  lacks : list_all is_other cs ≡ true
  fixed : nfc cs ≡ cs
  solid : EndsSolid cs

front-lacks : (cs ds : List ℕ) → list_all is_other (cs ++ ds) ≡ true → list_all is_other cs ≡ true
front-lacks [] ds all = refl
front-lacks (c ∷ cs) ds all = let parts = and_parts (is_other c) (list_all is_other (cs ++ ds)) all in and_from _ _ parts.0 (front-lacks cs ds parts.1)

front-fixed : (cs ds : List ℕ) → list_all is_ascii ds ≡ true → nfc (cs ++ ds) ≡ cs ++ ds → nfc cs ≡ cs
front-fixed cs [] ascii fixed = ap nfc (sym (append-nil cs)) ∙ (fixed ∙ append-nil cs)
front-fixed cs (d ∷ ds) ascii fixed =
    let parts = and_parts (is_ascii d) (list_all is_ascii ds) ascii in
    let cut : nfc (cs ++ d ∷ ds) ≡ nfc cs ++ d ∷ ds = normalize-ascii_boundary Nfc cs d ds (ltb-true d 128 parts.0) ∙ ap (λ l. nfc cs ++ l) (nfc-ascii (d ∷ ds) ascii) in
    append_cancel_right (nfc cs) cs (d ∷ ds) (sym cut ∙ fixed)

blanks-ascii : (bs : List ℕ) → list_all is_blank_byte bs ≡ true → list_all is_ascii bs ≡ true
blanks-ascii [] all = refl
blanks-ascii (b ∷ bs) all = let parts = and_parts (is_blank_byte b) (list_all is_blank_byte bs) all in and_from _ _ (blank-ascii b parts.0) (blanks-ascii bs parts.1)

kept-as : (text : List ℕ) → (cs : List ℕ) × IsKeptAs (kept text) cs
unfolding kept
kept-as text =
    let newlines = with_newlines (chars text) in
    let whole = to_nfc newlines in
    let parts = split whole in
    let ascii = blanks-ascii parts.back parts.blank in
    let lacks : list_all is_other whole ≡ true = ap (list_all is_other) (to_nfc-is newlines) ∙ nfc-lacks newlines (newlines-lack (chars text)) in
    let fixed : nfc whole ≡ whole = ap nfc (to_nfc-is newlines) ∙ (nfc_idem newlines ∙ sym (to_nfc-is newlines)) in
    let bytes : encode_utf8_all whole ≡ encode_utf8_all parts.front ++ parts.back =
    ap encode_utf8_all parts.is ∙ (encodes-append parts.front parts.back ∙ ap (λ l. encode_utf8_all parts.front ++ l) (encodes-ascii parts.back ascii)) in (
      parts.front,
      record {
        is = ap trimmed_end bytes ∙ trimmed-is (encode_utf8_all parts.front) parts.back (encodes-solid parts.front parts.solid) parts.blank;
        lacks = front-lacks parts.front parts.back (ap (list_all is_other) (sym parts.is) ∙ lacks);
        fixed = front-fixed parts.front parts.back ascii (ap nfc (sym parts.is) ∙ (fixed ∙ parts.is));
        solid = parts.solid;
      },
    )

kept-of : (cs : List ℕ) → list_all is_other cs ≡ true → nfc cs ≡ cs → EndsSolid cs → kept (encode_utf8_all cs) ≡ encode_utf8_all cs
unfolding kept
kept-of cs lacks fixed solid =
    ap (λ l. trimmed_end (encode_utf8_all (to_nfc (with_newlines l)))) (chars-of_numbers cs)
    ∙ (ap (λ l. trimmed_end (encode_utf8_all (to_nfc l))) (newlines-kept cs lacks)
    ∙ (ap (λ l. trimmed_end (encode_utf8_all l)) (to_nfc-is cs ∙ fixed)
    ∙ (ap trimmed_end (sym (append-nil (encode_utf8_all cs))) ∙ trimmed-is (encode_utf8_all cs) [] (encodes-solid cs solid) refl)))

pub kept-again : (text : List ℕ) → kept (kept text) ≡ kept text
kept-again text =
    let spelled = kept-as text in
    let form = spelled.1 in
    ap kept form.is ∙ (kept-of spelled.0 form.lacks form.fixed form.solid ∙ sym form.is)
