-- A title from the key that the first five rules leave.
use Rattle.std.proofs.Common.{◌≡◌, ℕ, ℤ, ◌≤◌, Bool, true, false, not, ◌&&◌, ◌==◌, nat_lt, nat_le, List, [], ◌∷◌, length, chars, encode_utf8_all, Some, None, refl, sym, ap, ◌∙◌, inl, inr, arith}
use Rattle.std.proofs.Math.Bridge.{le_prop}
use Rattle.std.proofs.Math.Logic.{∥∥₁_elim}
use Rattle.std.proofs.lemmas.Bool.{cases_Bool}
use Rattle.std.proofs.lemmas.Bool.Decides.{nat_tests}
use Rattle.std.specs.List.{list_any, starts_with}
use Rattle.std.specs.Str.{IsUtf8}
use Rattle.wk_text_rules.specs.Titles.{PageTitle, without_fragment, squeezed, after_leading_colon, after_namespace, capitalized, to_nfc, holds, is_forbidden, begins_with_tildes, begins_with_percent_code, begins_with_character_reference, has_dot_part, is_namespace, is_legal_key, normal}
use Rattle.wk_title.specs.Normal.{IsNormal}
use Rattle.wk_title.specs.Placed.{placed_key}

pub normal-legal : (text : List ℕ) (default_ns : ℤ) → is_legal_key (placed_key text default_ns).1 ≡ true →
    normal text default_ns ≡ Some (record { ns = (placed_key text default_ns).0; key = encode_utf8_all (placed_key text default_ns).1 })
unfolding normal placed_key
normal-legal text default_ns legal = rw legal refl

pub normal-illegal : (text : List ℕ) (default_ns : ℤ) → is_legal_key (placed_key text default_ns).1 ≡ false → normal text default_ns ≡ None
unfolding normal placed_key
normal-illegal text default_ns illegal = rw illegal refl

pub title_from : (text : List ℕ) (default_ns ns : ℤ) (key : List ℕ) → (ns, key) ≡ placed_key text default_ns → is_legal_key key ≡ true →
    normal text default_ns ≡ Some (record { ns = ns; key = encode_utf8_all key })
title_from text default_ns ns key placed legal =
    let ns_is : ns ≡ (placed_key text default_ns).0 = ap (λ p. p.0) placed in
    let key_is : key ≡ (placed_key text default_ns).1 = ap (λ p. p.1) placed in
    rw (ns_is, key_is) (normal-legal text default_ns (sym (ap is_legal_key key_is) ∙ legal))

pub none_from : (text : List ℕ) (default_ns ns : ℤ) (key : List ℕ) → (ns, key) ≡ placed_key text default_ns → is_legal_key key ≡ false → normal text default_ns ≡ None
none_from text default_ns ns key placed illegal =
    let key_is : key ≡ (placed_key text default_ns).1 = ap (λ p. p.1) placed in
    normal-illegal text default_ns (sym (ap is_legal_key key_is) ∙ illegal)

pub placed_key_from : (text : List ℕ) (default_ns : ℤ) (plain words : List ℕ) (asked placed : ℤ × List ℕ) (raised key : List ℕ) →
    plain ≡ without_fragment (chars text) → words ≡ squeezed plain → asked ≡ after_leading_colon (default_ns, words) →
    placed ≡ after_namespace asked → raised ≡ capitalized placed.1 → key ≡ to_nfc raised → (placed.0, key) ≡ placed_key text default_ns
unfolding placed_key
placed_key_from text default_ns plain words asked placed raised key plain_is words_is asked_is placed_is raised_is key_is =
    let words_from = words_is ∙ ap squeezed plain_is in
    let asked_from = asked_is ∙ ap (λ cs. after_leading_colon (default_ns, cs)) words_from in
    let placed_from = placed_is ∙ ap after_namespace asked_from in
    ap (λ cs. (placed.0, cs)) (key_is ∙ ap to_nfc raised_is) ∙ ap (λ p. (p.0, to_nfc (capitalized p.1))) placed_from

-- ---- the tests that a legal key passes

pub record Hold8 (a b c d e f g h : Bool) : Type 0 where
  pub some : a ≡ true
  pub short : b ≡ true
  pub no_colon : c ≡ true
  pub no_forbidden : d ≡ true
  pub no_tildes : e ≡ true
  pub no_percent_code : f ≡ true
  pub no_reference : g ≡ true
  pub no_dot_part : h ≡ true

hold_8 : (a b c d e f g h : Bool) → (a && b && c && d && e && f && g && h) ≡ true → Hold8 a b c d e f g h
hold_8 false b c d e f g h all = cc
hold_8 true false c d e f g h all = cc
hold_8 true true false d e f g h all = cc
hold_8 true true true false e f g h all = cc
hold_8 true true true true false f g h all = cc
hold_8 true true true true true false g h all = cc
hold_8 true true true true true true false h all = cc
hold_8 true true true true true true true h all =
    record { some = refl; short = refl; no_colon = refl; no_forbidden = refl; no_tildes = refl; no_percent_code = refl; no_reference = refl; no_dot_part = all }

abbrev pub IsLegal : List ℕ → Type 0
IsLegal cs =
    Hold8 (nat_lt 0 (length cs)) (nat_le (length (encode_utf8_all cs)) 255) (not (starts_with (λ a b. a == b) cs (58 ∷ [])))
    (not (list_any is_forbidden cs)) (not (holds begins_with_tildes cs)) (not (holds begins_with_percent_code cs))
    (not (holds begins_with_character_reference cs)) (not (has_dot_part cs))

pub legal_parts : (cs : List ℕ) → is_legal_key cs ≡ true → IsLegal cs
legal_parts cs legal = hold_8 _ _ _ _ _ _ _ _ legal

pub legal_length : (cs : List ℕ) → is_legal_key cs ≡ true → length (encode_utf8_all cs) ≤ 255
legal_length cs legal = let few : nat_le (length (encode_utf8_all cs)) 255 ≡ true = (legal_parts cs legal).short in grind (arith, nat_tests)

-- ---- a title that a text names

pub name_from : (text : List ℕ) (default_ns : ℤ) (title : PageTitle) → IsUtf8 text → is_namespace default_ns ≡ true → normal text default_ns ≡ Some title → IsNormal title
name_from text default_ns title utf8 known names =
    ∣ (text, default_ns, record { text_is_utf8 = utf8; default_is_namespace = known; names = names }) ∣₁

pub normal-Some : (text : List ℕ) (default_ns : ℤ) (title : PageTitle) → normal text default_ns ≡ Some title →
    (is_legal_key (placed_key text default_ns).1 ≡ true) × (title ≡ record { ns = (placed_key text default_ns).0; key = encode_utf8_all (placed_key text default_ns).1 })
normal-Some text default_ns title names = elim (cases_Bool (is_legal_key (placed_key text default_ns).1)) [
  | inl legal ↦ let same = sym names ∙ normal-legal text default_ns legal in (legal, cc)
  | inr illegal ↦ let clash = sym names ∙ normal-illegal text default_ns illegal in cc
]

pub short_key : (title : PageTitle) → IsNormal title → length title.key ≤ 255
short_key title normal_title =
    ∥∥₁_elim normal_title le_prop (λ named.
    let parts = normal-Some named.0 named.1 title named.2.names in
    rw parts.1 (legal_length _ parts.0))
