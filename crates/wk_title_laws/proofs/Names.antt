-- The names of namespaces, tested one by one, and look-ups by a name.
use Rattle.std.proofs.Common.{◌≡◌, ℕ, ℤ, pos, Bool, true, false, not, ◌&&◌, ◌==◌, List, [], ◌∷◌, ◌++◌, length, map, find, option_map, Option, Some, None, refl, sym, ap, ◌∙◌, inl, inr, arith}
use Rattle.std.proofs.lemmas.Bool.{cases_Bool, and_parts, and_from, or_cases, not-true}
use Rattle.std.proofs.lemmas.Bool.Decides.{nat_tests, Decides-int_eq}
use Rattle.std.specs.Char.{is_ascii, to_ascii_lowercase}
use Rattle.std.specs.Cmp.Lexicographic.{bytes_decides}
use Rattle.std.specs.List.{list_all, list_any}
use Rattle.std.specs.Ordering.{int_eq}
use Rattle.std.specs.Str.{bytes_eq}
use Rattle.wk_text_rules.specs.Titles.{named_namespaces, namespace_aliases, is_namespace, namespace_name, namespace_called, is_direction_mark, underscored, same_but_case, with_spaces, without_trailing_underscores}
use Rattle.wk_title.specs.Names.{called_in}
use Rattle.wk_title_laws.proofs.Fixed.{lacks}
use Rattle.wk_title_laws.proofs.Gaps.{gaps_ok}

-- neither `#` nor a direction mark
abbrev pub is_plain : ℕ → Bool
is_plain c = not (c == 35) && not (is_direction_mark c)

abbrev pub is_int : ℤ → Option ℤ → Bool
is_int n None = false
is_int n (Some m) = int_eq m n

pub int_eq-true : (x y : ℤ) → int_eq x y ≡ true → x ≡ y
int_eq-true x y = (Decides-int_eq x y).0

pub int_eq-same : (x : ℤ) → int_eq x x ≡ true
int_eq-same x = (Decides-int_eq x x).1 refl

-- what the law needs of the name of a namespace
abbrev pub name_test : ℤ → Bool
name_test n =
    let name = namespace_name n in
    let written = underscored name in
    list_all is_ascii name && list_all is_plain name && bytes_eq (with_spaces written) name && gaps_ok false written && lacks 58 written
    && is_int n (namespace_called (without_trailing_underscores written)) && not (length name == 0) && not (int_eq n (pos 0))

all_names : list_all (λ entry. name_test entry.0) named_namespaces ≡ true
all_names = refl

listed : (q : ℤ → Bool) (n : ℤ) (table : List (ℤ × List ℕ)) → list_any (λ entry. int_eq n entry.0) table ≡ true → list_all (λ entry. q entry.0) table ≡ true → q n ≡ true
listed q n [] some all = cc
listed q n (x ∷ xs) some all =
    let parts = and_parts (q x.0) (list_all (λ entry. q entry.0) xs) all in
    elim (or_cases (int_eq n x.0) (list_any (λ entry. int_eq n entry.0) xs) some) [
      | inl here ↦ ap q (int_eq-true n x.0 here) ∙ parts.0
      | inr later ↦ listed q n xs later parts.1
    ]

pub name_passes : (n : ℤ) → is_namespace n ≡ true → int_eq n (pos 0) ≡ false → name_test n ≡ true
name_passes n known other = elim (or_cases (int_eq n (pos 0)) (list_any (λ entry. int_eq n entry.0) named_namespaces) known) [
  | inl main ↦ let clash = sym other ∙ main in cc
  | inr named ↦ listed name_test n named_namespaces named all_names
]

-- ---- look-ups

called_passes : (q : ℤ → Bool) (table : List (ℤ × List ℕ)) (written : List ℕ) (n : ℤ) → list_all (λ entry. q entry.0) table ≡ true → called_in table written ≡ Some n → q n ≡ true
called_passes q [] written n all h = cc
called_passes q (x ∷ xs) written n all h =
    let parts = and_parts (q x.0) (list_all (λ entry. q entry.0) xs) all in
    elim (cases_Bool (same_but_case (underscored x.1) written)) [
      | inl same ↦ let here : Some x.0 ≡ Some n = rw same at h in let e : n ≡ x.0 = cc in ap q e ∙ parts.0
      | inr other ↦ called_passes q xs written n parts.1 (rw other at h)
    ]

-- a namespace that is found is one of the table, and not main
pub called_namespace : (written : List ℕ) (n : ℤ) → namespace_called written ≡ Some n → (is_namespace n ≡ true) × (int_eq n (pos 0) ≡ false)
called_namespace written n h =
    let all : list_all (λ entry. is_namespace entry.0 && not (int_eq entry.0 (pos 0))) (named_namespaces ++ namespace_aliases) ≡ true = refl in
    let parts = and_parts (is_namespace n) (not (int_eq n (pos 0))) (called_passes (λ m. is_namespace m && not (int_eq m (pos 0))) (named_namespaces ++ namespace_aliases) written n all h) in
    (parts.0, not-true _ parts.1)

lowercase_ascii : (c : ℕ) → is_ascii (to_ascii_lowercase c) ≡ true → is_ascii c ≡ true
lowercase_ascii c h = grind (arith, nat_tests)

lowercase_all_ascii : (cs : List ℕ) → list_all is_ascii (map to_ascii_lowercase cs) ≡ true → list_all is_ascii cs ≡ true
lowercase_all_ascii [] all = refl
lowercase_all_ascii (c ∷ cs) all =
    let parts = and_parts (is_ascii (to_ascii_lowercase c)) (list_all is_ascii (map to_ascii_lowercase cs)) all in
    and_from _ _ (lowercase_ascii c parts.0) (lowercase_all_ascii cs parts.1)

called_in_ascii : (table : List (ℤ × List ℕ)) (written : List ℕ) (n : ℤ) → list_all (λ entry. list_all is_ascii (map to_ascii_lowercase (underscored entry.1))) table ≡ true → called_in table written ≡ Some n → list_all is_ascii written ≡ true
called_in_ascii [] written n all h = cc
called_in_ascii (x ∷ xs) written n all h =
    let parts = and_parts (list_all is_ascii (map to_ascii_lowercase (underscored x.1))) _ all in
    elim (cases_Bool (same_but_case (underscored x.1) written)) [
      | inl same ↦
          let letters = (bytes_decides (map to_ascii_lowercase (underscored x.1)) (map to_ascii_lowercase written)).0 same in
          lowercase_all_ascii written (ap (list_all is_ascii) (sym letters) ∙ parts.0)
      | inr other ↦ called_in_ascii xs written n parts.1 (rw other at h)
    ]

-- the name of a namespace is of ASCII
pub called_ascii : (written : List ℕ) (n : ℤ) → namespace_called written ≡ Some n → list_all is_ascii written ≡ true
called_ascii written n h =
    let all : list_all (λ entry. list_all is_ascii (map to_ascii_lowercase (underscored entry.1))) (named_namespaces ++ namespace_aliases) ≡ true = refl in
    called_in_ascii (named_namespaces ++ namespace_aliases) written n all h

-- the case of letters doesn't matter
pub called_in_any_case : (xs ys : List ℕ) → map to_ascii_lowercase xs ≡ map to_ascii_lowercase ys → namespace_called xs ≡ namespace_called ys
called_in_any_case xs ys same =
    ap (λ letters. option_map (λ entry. entry.0) (find (λ entry. bytes_eq (map to_ascii_lowercase (underscored entry.1)) letters) (named_namespaces ++ namespace_aliases))) same
