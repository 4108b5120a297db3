-- The shown form of a title names it.
use Rattle.std.proofs.Common.{◌≡◌, ℕ, ℤ, pos, suc, ◌+◌, Bool, true, false, not, ◌==◌, List, [], ◌∷◌, ◌++◌, length, drop, filter, chars, encode_utf8, encode_utf8_all, Option, Some, None, refl, sym, ap, ap₂, subst, ◌∙◌, inl, inr, arith, eqb-true, append_assoc}
use Rattle.std.proofs.Math.Bool.{Bool-set}
use Rattle.std.proofs.Math.Logic.{∥∥₁_elim}
use Rattle.std.proofs.lemmas.Bool.{cases_Bool, and_parts, and_from, not-true, false_from_ne_true}
use borrow.Author.Tests.{ltb-true}
use Rattle.std.proofs.lemmas.List.{map-append}
use Rattle.std.proofs.lemmas.Str.{encode_ascii, encodes-append}
use Rattle.std.specs.Char.{is_ascii}
use Rattle.std.specs.Cmp.Lexicographic.{bytes_decides}
use Rattle.std.specs.List.{list_all, after_first, position_or_len}
use Rattle.std.specs.Option.{option_and_then}
use Rattle.std.specs.Ordering.{int_eq}
use Rattle.std.specs.Str.{bytes_eq}
use Rattle.wk_text_rules.specs.Titles.{PageTitle, title_eq, is_colon, is_direction_mark, is_namespace, namespace_name, namespace_called, underscored, with_spaces, to_nfc, without_fragment, squeezed, without_leading_underscores, without_trailing_underscores, prefix_of, after_leading_colon, after_namespace, is_legal_key, normal, shown}
use Rattle.wk_text_rules.proofs.TitleLemmas.{to_nfc-is, nfc-ascii}
use Rattle.wk_title.specs.Normal.{IsNormal}
use Rattle.wk_title.specs.Placed.{placed_key}
use Rattle.wk_title.specs.Shown.{with_space}
use Rattle.wk_title.proofs.NormalLemmas.{title_from, placed_key_from, normal-Some, legal_parts}
use Rattle.wk_title.proofs.SpacesLemmas.{with_spaces-encode, shown-parts, shown_named}
use Rattle.wk_title_laws.proofs.Kept.{parts_colon}
use Rattle.wk_title_laws.proofs.Fixed.{IsFixed, lacks, fixed_join, fixed-with_spaces}
use Rattle.wk_title_laws.proofs.Gaps.{gaps_ok, gaps_ok-append, gaps_ok-weaker, squeezed-with_spaces, without_leading-kept}
use Rattle.wk_title_laws.proofs.Keys.{IsKey, placed_by, after_namespace-by, key_is}
use Rattle.wk_title_laws.proofs.Lists.{filter_all, take_while_all, list_all-weaker}
use Rattle.wk_title_laws.proofs.Names.{is_plain, is_int, int_eq-true, int_eq-same, name_test, name_passes}
use Rattle.wk_title_laws.proofs.Raised.{prefix_at}
use Rattle.wk_title_laws.proofs.Chars.{chars-of_numbers}

-- ---- characters and bytes of the shown form

with_spaces-encodes : (cs : List ℕ) → with_spaces (encode_utf8_all cs) ≡ encode_utf8_all (with_spaces cs)
with_spaces-encodes [] = refl
with_spaces-encodes (c ∷ cs) =
    map-append with_space (encode_utf8 c) (encode_utf8_all cs) ∙ ap₂ (λ u v. u ++ v) (with_spaces-encode c) (with_spaces-encodes cs)

encodes-ascii : (cs : List ℕ) → list_all is_ascii cs ≡ true → encode_utf8_all cs ≡ cs
encodes-ascii [] all = refl
encodes-ascii (c ∷ cs) all =
    let parts = and_parts (is_ascii c) (list_all is_ascii cs) all in
    ap₂ (λ u v. u ++ v) (encode_ascii c (ltb-true c 128 parts.0)) (encodes-ascii cs parts.1)

-- ---- the first two rules keep the shown form

stays_plain : (cs : List ℕ) → IsFixed cs → list_all is_plain cs ≡ true → without_fragment cs ≡ cs
stays_plain cs fixed plain =
    let no_fragment = λ (c : ℕ). not (c == 35) in
    let no_mark = λ (c : ℕ). not (is_direction_mark c) in
    let first = list_all-weaker is_plain no_fragment (λ c h. (and_parts (no_fragment c) (no_mark c) h).0) cs plain in
    let second = list_all-weaker is_plain no_mark (λ c h. (and_parts (no_fragment c) (no_mark c) h).1) cs plain in
    ap (λ l. to_nfc (filter no_mark l)) (take_while_all no_fragment cs first) ∙ ap to_nfc (filter_all no_mark cs second) ∙ to_nfc-is cs ∙ fixed

plain-with_spaces : (cs : List ℕ) → list_all is_plain cs ≡ true → list_all is_plain (with_spaces cs) ≡ true
plain-with_spaces [] all = refl
plain-with_spaces (c ∷ cs) all =
    let parts = and_parts (is_plain c) (list_all is_plain cs) all in
    let first : is_plain (with_space c) ≡ true = elim (cases_Bool (c == 95)) [ inl underscore ↦ rw underscore refl | inr other ↦ rw other parts.0 ] in
    and_from _ _ first (plain-with_spaces cs parts.1)

list_all-append : (p : ℕ → Bool) (xs ys : List ℕ) → list_all p xs ≡ true → list_all p ys ≡ true → list_all p (xs ++ ys) ≡ true
list_all-append p [] ys front back = back
list_all-append p (x ∷ xs) ys front back =
    let parts = and_parts (p x) (list_all p xs) front in and_from _ _ parts.0 (list_all-append p xs ys parts.1 back)

-- ---- no colon in front

no_leading_colon : (c : ℕ) (cs : List ℕ) → (58 == c) ≡ false → (pos 0, c ∷ cs) ≡ after_leading_colon (pos 0, c ∷ cs)
no_leading_colon c cs other = rw other refl

-- ---- in main

in_main : (cs : List ℕ) → IsKey (pos 0) cs → is_legal_key cs ≡ true →
    normal (shown (record { ns = pos 0; key = encode_utf8_all cs })) (pos 0) ≡ Some (record { ns = pos 0; key = encode_utf8_all cs })
in_main cs key legal =
    let text = shown (record { ns = pos 0; key = encode_utf8_all cs }) in
    let bytes : text ≡ encode_utf8_all (with_spaces cs) = shown-parts (record { ns = pos 0; key = encode_utf8_all cs }) ∙ with_spaces-encodes cs in
    let read = ap chars bytes ∙ chars-of_numbers (with_spaces cs) in
    let plain = stays_plain (with_spaces cs) (fixed-with_spaces cs key.fixed) (plain-with_spaces cs key.plain) in
    let placed : (pos 0, cs) ≡ after_namespace (pos 0, cs) = sym (after_namespace-by (pos 0) cs ∙ ap (λ found. placed_by found (pos 0) cs) (key.uncalled refl)) in
    title_from text (pos 0) (pos 0) cs (
    placed_key_from text (pos 0) (with_spaces cs) cs (pos 0, cs) (pos 0, cs) cs cs
    (sym plain ∙ ap without_fragment (sym read)) (sym (squeezed-with_spaces cs key.gaps)) (no_colon_first cs legal) placed
    (sym key.capital) (sym (to_nfc-is cs ∙ key.fixed))
    ) legal
  where
    no_colon_first : (cs : List ℕ) → is_legal_key cs ≡ true → (pos 0, cs) ≡ after_leading_colon (pos 0, cs)
    no_colon_first [] legal = refl
    no_colon_first (c ∷ cs) legal = elim (cases_Bool (58 == c)) [
      | inl colon ↦
          let shape = (legal_parts (c ∷ cs) legal).no_colon in
          let clash : false ≡ true = rw colon at shape in
          cc
      | inr other ↦ no_leading_colon c cs other
    ]

-- ---- under a name

record HasName (ns : ℤ) : Type 0 where
  ascii : list_all is_ascii (namespace_name ns) ≡ true
  plain : list_all is_plain (namespace_name ns) ≡ true
  spaced : with_spaces (underscored (namespace_name ns)) ≡ namespace_name ns
  gaps : gaps_ok false (underscored (namespace_name ns)) ≡ true
  no_colon : lacks 58 (underscored (namespace_name ns)) ≡ true
  called : namespace_called (without_trailing_underscores (underscored (namespace_name ns))) ≡ Some ns
  some : (length (namespace_name ns) == 0) ≡ false

called_from : (ns : ℤ) (found : Option ℤ) → is_int ns found ≡ true → found ≡ Some ns
called_from ns None h = cc
called_from ns (Some n) h = ap Some (int_eq-true n ns h)

has_name : (ns : ℤ) → name_test ns ≡ true → HasName ns
has_name ns test =
    let a = and_parts _ (not (int_eq ns (pos 0))) test in
    let b = and_parts _ (not (length (namespace_name ns) == 0)) a.0 in
    let c = and_parts _ (is_int ns (namespace_called (without_trailing_underscores (underscored (namespace_name ns))))) b.0 in
    let d = and_parts _ (lacks 58 (underscored (namespace_name ns))) c.0 in
    let e = and_parts _ (gaps_ok false (underscored (namespace_name ns))) d.0 in
    let f = and_parts _ (bytes_eq (with_spaces (underscored (namespace_name ns))) (namespace_name ns)) e.0 in
    let g = and_parts (list_all is_ascii (namespace_name ns)) (list_all is_plain (namespace_name ns)) f.0 in
    record {
      ascii = g.0;
      plain = g.1;
      spaced = (bytes_decides _ _).0 f.1;
      gaps = e.1;
      no_colon = d.1;
      called = called_from ns _ c.1;
      some = not-true _ b.1;
    }

first_of_name : (name cs : List ℕ) → lacks 58 name ≡ true → gaps_ok false name ≡ true → (pos 0, name ++ 58 ∷ cs) ≡ after_leading_colon (pos 0, name ++ 58 ∷ cs)
first_of_name [] cs without gaps = cc
first_of_name (c ∷ name) cs without gaps =
    let parts = and_parts (not (c == 58)) (lacks 58 name) without in
    let other : (58 == c) ≡ false = false_from_ne_true _ (λ same. let clash : (58 == 58) ≡ false = subst (λ x. (x == 58) ≡ false) (sym (eqb-true 58 c same)) (not-true _ parts.0) in cc) in
    no_leading_colon c (name ++ 58 ∷ cs) other

after_first_at : (xs ys : List ℕ) → lacks 58 xs ≡ true → after_first is_colon (xs ++ 58 ∷ ys) ≡ ys
after_first_at [] ys without = refl
after_first_at (x ∷ xs) ys without =
    let parts = and_parts (not (x == 58)) (lacks 58 xs) without in
    let count : position_or_len is_colon (x ∷ (xs ++ 58 ∷ ys)) + 1 ≡ suc (position_or_len is_colon (xs ++ 58 ∷ ys) + 1) = rw parts.0 (omega arith) in
    ap (λ n. drop n (x ∷ (xs ++ 58 ∷ ys))) count ∙ after_first_at xs ys parts.1

after_name : (ns : ℤ) (cs : List ℕ) → HasName ns → gaps_ok false cs ≡ true → (ns, cs) ≡ after_namespace (pos 0, underscored (namespace_name ns) ++ 58 ∷ cs)
after_name ns cs name gaps =
    let written = underscored (namespace_name ns) in
    let whole = written ++ 58 ∷ cs in
    let found : option_and_then namespace_called (prefix_of whole) ≡ Some ns = ap (option_and_then namespace_called) (prefix_at written cs name.no_colon) ∙ name.called in
    sym (
    after_namespace-by (pos 0) whole ∙ ap (λ o. placed_by o (pos 0) whole) found
    ∙ ap (λ l. (ns, without_leading_underscores l)) (after_first_at written cs name.no_colon) ∙ ap (λ l. (ns, l)) (without_leading-kept cs gaps)
    )

named : (ns : ℤ) (cs : List ℕ) → HasName ns → IsKey ns cs → is_legal_key cs ≡ true →
    normal (shown (record { ns = ns; key = encode_utf8_all cs })) (pos 0) ≡ Some (record { ns = ns; key = encode_utf8_all cs })
named ns cs name key legal =
    let title : PageTitle = record { ns = ns; key = encode_utf8_all cs } in
    let text = shown title in
    let front = namespace_name ns in
    let written = underscored front in
    let form = front ++ 58 ∷ with_spaces cs in
    let colon_bytes : encode_utf8_all (58 ∷ with_spaces cs) ≡ 58 ∷ encode_utf8_all (with_spaces cs) = ap (λ l. l ++ encode_utf8_all (with_spaces cs)) (encode_ascii 58 (omega arith)) in
    let form_bytes : encode_utf8_all form ≡ front ++ 58 ∷ encode_utf8_all (with_spaces cs) =
    encodes-append front (58 ∷ with_spaces cs) ∙ ap₂ (λ u v. u ++ v) (encodes-ascii front name.ascii) colon_bytes in
    let bytes : text ≡ encode_utf8_all form =
    shown-parts title ∙ ap₂ (λ u v. u ++ v) (shown_named ns front refl name.some) (with_spaces-encodes cs)
    ∙ append_assoc front (58 ∷ []) (encode_utf8_all (with_spaces cs)) ∙ sym form_bytes in
    let read = ap chars bytes ∙ chars-of_numbers form in
    let fixed = fixed_join 58 parts_colon front (with_spaces cs) (nfc-ascii front name.ascii) (fixed-with_spaces cs key.fixed) in
    let plain = stays_plain form fixed (list_all-append is_plain front (58 ∷ with_spaces cs) name.plain (plain-with_spaces cs key.plain)) in
    let gaps = gaps_ok-append false written (58 ∷ cs) name.gaps (gaps_ok-weaker cs key.gaps) in
    let spaced : with_spaces (written ++ 58 ∷ cs) ≡ form = map-append with_space written (58 ∷ cs) ∙ ap (λ l. l ++ 58 ∷ with_spaces cs) name.spaced in
    let words = sym (ap squeezed (sym spaced) ∙ squeezed-with_spaces (written ++ 58 ∷ cs) gaps) in
    title_from text (pos 0) ns cs (
    placed_key_from text (pos 0) form (written ++ 58 ∷ cs) (pos 0, written ++ 58 ∷ cs) (ns, cs) cs cs
    (sym plain ∙ ap without_fragment (sym read)) words (first_of_name written cs name.no_colon name.gaps) (after_name ns cs name key.gaps)
    (sym key.capital) (sym (to_nfc-is cs ∙ key.fixed))
    ) legal

-- ---- the law

by_key : (ns : ℤ) (cs : List ℕ) → IsKey ns cs → is_legal_key cs ≡ true →
    normal (shown (record { ns = ns; key = encode_utf8_all cs })) (pos 0) ≡ Some (record { ns = ns; key = encode_utf8_all cs })
by_key ns cs key legal = elim (cases_Bool (int_eq ns (pos 0))) [
  | inl main ↦
      let same = int_eq-true ns (pos 0) main in
      subst (λ n. normal (shown (record { ns = n; key = encode_utf8_all cs })) (pos 0) ≡ Some (record { ns = n; key = encode_utf8_all cs })) (sym same)
      (in_main cs (subst (λ n. IsKey n cs) same key) legal)
  | inr other ↦ named ns cs (has_name ns (name_passes ns key.namespace other)) key legal
]

pub shown_names : (text : List ℕ) (default_ns : ℤ) (title : PageTitle) → is_namespace default_ns ≡ true → normal text default_ns ≡ Some title → normal (shown title) (pos 0) ≡ Some title
shown_names text default_ns title known names =
    let parts = normal-Some text default_ns title names in
    let placed = placed_key text default_ns in
    let key = key_is text default_ns known parts.0 in
    subst (λ t. normal (shown t) (pos 0) ≡ Some t) (sym parts.1) (by_key placed.0 placed.1 key parts.0)

-- ---- the law for a title that some text names

abbrev is_title : Option PageTitle → PageTitle → Bool
is_title None title = false
is_title (Some other) title = title_eq other title

is_title-true : (found : Option PageTitle) (title : PageTitle) → is_title found title ≡ true → found ≡ Some title
is_title-true None title h = cc
is_title-true (Some other) title h =
    let parts = and_parts (int_eq other.ns title.ns) (bytes_eq other.key title.key) h in
    ap₂ (λ n k. Some (record { ns = n; key = k })) (int_eq-true other.ns title.ns parts.0) ((bytes_decides other.key title.key).0 parts.1)

is_title-same : (title : PageTitle) → is_title (Some title) title ≡ true
is_title-same title = and_from _ _ (int_eq-same title.ns) ((bytes_decides title.key title.key).1 refl)

pub normal_shown : (title : PageTitle) → IsNormal title → normal (shown title) (pos 0) ≡ Some title
normal_shown title some_text =
    is_title-true (normal (shown title) (pos 0)) title (
    ∥∥₁_elim some_text (Bool-set _ _) (λ named.
    let names = shown_names named.0 named.1 title named.2.default_is_namespace named.2.names in
    ap (λ found. is_title found title) names ∙ is_title-same title)
    )

pub normal_namespace : (title : PageTitle) → IsNormal title → is_namespace title.ns ≡ true
normal_namespace title some_text =
    ∥∥₁_elim some_text (Bool-set _ _) (λ named.
    let parts = normal-Some named.0 named.1 title named.2.names in
    ap (λ t. is_namespace t.ns) parts.1 ∙ (key_is named.0 named.1 named.2.default_is_namespace parts.0).namespace)
