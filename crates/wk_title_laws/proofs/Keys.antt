-- What the key of a title is like.
use Rattle.std.proofs.Common.{◌≡◌, ℕ, ℤ, pos, ◌<◌, ◌≤◌, Bool, true, false, not, ◌&&◌, ◌==◌, List, [], ◌∷◌, ◌++◌, get_or, filter, chars, Option, Some, None, refl, sym, ap, subst, ◌∙◌, inl, inr, arith, eqb-true, lt-ltb}
use Rattle.std.proofs.lemmas.Bool.{cases_Bool, cases_lt, and_parts, and_from, and_cases, not-true, not-false, not_from_false, or_parts, or_from, or_right, false_from_ne_true}
use Rattle.std.proofs.lemmas.Bool.Decides.{nat_tests}
use borrow.Author.Tests.{ltb-true}
use Rattle.std.proofs.lemmas.List.Sums.{split_at_first, passes_at_first}
use Rattle.std.proofs.lemmas.Str.Ascii.{uppercase_is, uppercase_ascii, uppercase-uppercase, lowercase-uppercase}
use Rattle.std.specs.Char.{to_ascii_uppercase}
use Rattle.std.specs.List.{list_all, list_any, before_first, after_first, position_or_len, take_while}
use Rattle.std.specs.Option.{option_and_then}
use Rattle.std.specs.Ordering.{int_eq}
use Rattle.unicode_normalization.specs.Forms.{nfc}
use Rattle.unicode_normalization.proofs.FormsLemmas.{nfc_idem}
use Rattle.wk_text_rules.specs.Titles.{is_colon, is_direction_mark, is_namespace, namespace_called, to_nfc, without_fragment, squeezed, without_leading_underscores, without_trailing_underscores, prefix_of, after_leading_colon, after_namespace, capitalized, is_legal_key}
use Rattle.wk_text_rules.proofs.TitleLemmas.{to_nfc-is}
use Rattle.wk_title.proofs.Colons.{list_any-by_position}
use Rattle.wk_title.proofs.NormalLemmas.{legal_parts}
use Rattle.wk_title.proofs.Squeeze.{is_space, squeezed_from, squeezed-from_start}
use Rattle.wk_title.specs.Placed.{placed_key}
use Rattle.wk_title_laws.proofs.Tables.{is_special}
use Rattle.wk_title_laws.proofs.Kept.{nfc_keeps, parts_colon, parts_underscore, nfc-parted, nfc-begins}
use Rattle.wk_title_laws.proofs.Fixed.{IsFixed, lacks, fixed-nil, fixed_cut, fixed-squeezed}
use Rattle.wk_title_laws.proofs.Gaps.{gaps_ok, IsLoose, loose-squeezed, gaps_ok-rest, gaps_ok-back, loose-without_leading, without_leading-yes, without_leading-no}
use Rattle.wk_title_laws.proofs.Lists.{passes_filter, kept_by_filter, passes_take_while, list_all-back, list_all-both}
use Rattle.wk_title_laws.proofs.Names.{is_plain, called_namespace}
use Rattle.wk_title_laws.proofs.Raised.{gaps-raised, uncalled-raised, IsUncalled, IsRaised}

-- ---- the text after the first two rules

plain_or_special : (c : ℕ) → is_plain c ≡ false → is_special c ≡ true
plain_or_special c h = elim (and_cases (not (c == 35)) (not (is_direction_mark c)) h) [
  | inl fragment ↦ ap is_special (eqb-true c 35 (not-false _ fragment))
  | inr mark ↦ or_right _ (is_direction_mark c) (not-false _ mark)
]

-- a text as the rules after the first two meet it
pub record IsGood (cs : List ℕ) : Type 0 where
  pub fixed : IsFixed cs
  pub plain : list_all is_plain cs ≡ true
  pub loose : IsLoose cs

fixed-to_nfc : (cs : List ℕ) → IsFixed (to_nfc cs)
fixed-to_nfc cs = subst IsFixed (sym (to_nfc-is cs)) (nfc_idem cs)

plain-to_nfc : (cs : List ℕ) → list_all is_plain cs ≡ true → list_all is_plain (to_nfc cs) ≡ true
plain-to_nfc cs all = ap (list_all is_plain) (to_nfc-is cs) ∙ nfc_keeps is_plain plain_or_special cs all

plain-without_fragment : (cs : List ℕ) → list_all is_plain (without_fragment cs) ≡ true
plain-without_fragment cs =
    let no_fragment = λ (c : ℕ). not (c == 35) in
    let no_mark = λ (c : ℕ). not (is_direction_mark c) in
    let kept = take_while no_fragment cs in
    plain-to_nfc (filter no_mark kept) (
    list_all-both no_fragment no_mark (filter no_mark kept) (kept_by_filter no_mark no_fragment kept (passes_take_while no_fragment cs)) (passes_filter no_mark kept)
    )

plain-squeezed_from : (cs : List ℕ) (started after_space : Bool) → list_all is_plain cs ≡ true → list_all is_plain (squeezed_from started after_space cs) ≡ true
plain-squeezed_from [] started after_space all = refl
plain-squeezed_from (c ∷ cs) started after_space all =
    let parts = and_parts (is_plain c) (list_all is_plain cs) all in
    let kept = and_from _ _ parts.0 (plain-squeezed_from cs true false parts.1) in
    elim (cases_Bool (is_space c)) [
      | inl space ↦ rw space (plain-squeezed_from cs started true parts.1)
      | inr other ↦ elim (cases_Bool (after_space && started)) [ inl gap ↦ rw (other, gap) kept | inr none ↦ rw (other, none) kept ]
    ]

good-squeezed : (cs : List ℕ) → IsGood (squeezed (without_fragment cs))
good-squeezed cs =
    let plain = plain-squeezed_from (without_fragment cs) false false (plain-without_fragment cs) in
    record {
      fixed = fixed-squeezed (without_fragment cs) (fixed-to_nfc _);
      plain = ap (list_all is_plain) (squeezed-from_start (without_fragment cs)) ∙ plain;
      loose = loose-squeezed (without_fragment cs);
    }

-- ---- after a colon

fixed-without_leading : (cs : List ℕ) → IsFixed cs → IsFixed (without_leading_underscores cs)
fixed-without_leading [] fixed = fixed
fixed-without_leading (c ∷ cs) fixed = elim (cases_Bool (c == 95)) [
  | inl underscore ↦
      let at : IsFixed ([] ++ 95 ∷ cs) = subst (λ x. IsFixed (x ∷ cs)) (eqb-true c 95 underscore) fixed in
      subst IsFixed (sym (without_leading-yes c cs underscore)) (fixed-without_leading cs (fixed_cut 95 parts_underscore [] cs refl at).1)
  | inr other ↦ subst IsFixed (sym (without_leading-no c cs other)) fixed
]

plain-without_leading : (cs : List ℕ) → list_all is_plain cs ≡ true → list_all is_plain (without_leading_underscores cs) ≡ true
plain-without_leading [] all = refl
plain-without_leading (c ∷ cs) all = elim (cases_Bool (c == 95)) [
  | inl underscore ↦
      ap (list_all is_plain) (without_leading-yes c cs underscore) ∙ plain-without_leading cs (and_parts (is_plain c) (list_all is_plain cs) all).1
  | inr other ↦ ap (list_all is_plain) (without_leading-no c cs other) ∙ all
]

loose_after : (xs ys : List ℕ) → IsLoose (xs ++ 58 ∷ ys) → IsLoose (without_leading_underscores ys)
loose_after [] ys (inl none) = cc
loose_after (x ∷ xs) ys (inl none) = cc
loose_after xs ys (inr gaps) =
    let from_colon = gaps_ok-back false xs (58 ∷ ys) gaps in
    let after = gaps_ok-rest from_colon.0 58 ys from_colon.1 in
    loose-without_leading after.0 ys after.1

good_after : (xs ys : List ℕ) → lacks 58 xs ≡ true → IsGood (xs ++ 58 ∷ ys) → IsGood (without_leading_underscores ys)
good_after xs ys without good =
    record {
      fixed = fixed-without_leading ys (fixed_cut 58 parts_colon xs ys without good.fixed).1;
      plain = plain-without_leading ys (and_parts (is_plain 58) (list_all is_plain ys) (list_all-back is_plain xs (58 ∷ ys) good.plain)).1;
      loose = loose_after xs ys good.loose;
    }

-- ---- the namespace

record IsAsked (asked : ℤ × List ℕ) : Type 0 where
  namespace : is_namespace asked.0 ≡ true
  good : IsGood asked.1

asked_good : (ns : ℤ) (cs : List ℕ) → is_namespace ns ≡ true → IsGood cs → IsAsked (after_leading_colon (ns, cs))
asked_good ns [] known good = record { namespace = known; good = good }
asked_good ns (c ∷ cs) known good = elim (cases_Bool (58 == c)) [
  | inl colon ↦
      let same : c ≡ 58 = sym (eqb-true 58 c colon) in
      subst (λ x. IsAsked (after_leading_colon (ns, x ∷ cs))) (sym same) (
      record { namespace = refl; good = good_after [] cs refl (subst (λ x. IsGood (x ∷ cs)) same good) }
      )
  | inr other ↦
      let stays : after_leading_colon (ns, c ∷ cs) ≡ (ns, c ∷ cs) = rw other refl in
      subst IsAsked (sym stays) (record { namespace = known; good = good })
]

pub record IsPlaced (placed : ℤ × List ℕ) : Type 0 where
  pub namespace : is_namespace placed.0 ≡ true
  pub good : IsGood placed.1
  pub uncalled : int_eq placed.0 (pos 0) ≡ true → IsUncalled placed.1

abbrev pub placed_by : Option ℤ → ℤ → List ℕ → ℤ × List ℕ
placed_by None ns cs = (ns, cs)
placed_by (Some found) ns cs = (found, without_leading_underscores (after_first is_colon cs))

by_cases : (ns : ℤ) (cs : List ℕ) (found : Option ℤ) →
    (elim found as (λ _. ℤ × List ℕ) [ None ↦ (ns, cs) | Some n ↦ (n, without_leading_underscores (after_first is_colon cs)) ]) ≡ placed_by found ns cs
by_cases ns cs None = refl
by_cases ns cs (Some n) = refl

pub after_namespace-by : (ns : ℤ) (cs : List ℕ) → after_namespace (ns, cs) ≡ placed_by (option_and_then namespace_called (prefix_of cs)) ns cs
after_namespace-by ns cs = by_cases ns cs (option_and_then namespace_called (prefix_of cs))

placed_good : (ns : ℤ) (cs : List ℕ) → is_namespace ns ≡ true → IsGood cs → (found : Option ℤ) → option_and_then namespace_called (prefix_of cs) ≡ found → IsPlaced (placed_by found ns cs)
placed_good ns cs known good None is = record { namespace = known; good = good; uncalled = λ _. is }
placed_good ns cs known good (Some n) is = elim (cases_Bool (list_any is_colon cs)) [
  | inr none ↦ let clash : None ≡ Some n = rw none at is in cc
  | inl some ↦
      let called : namespace_called (without_trailing_underscores (before_first is_colon cs)) ≡ Some n = rw some at is in
      let facts = called_namespace (without_trailing_underscores (before_first is_colon cs)) n called in
      let within = ltb-true _ _ (sym (list_any-by_position is_colon cs) ∙ some) in
      let at : get_or cs (position_or_len is_colon cs) 0 ≡ 58 = eqb-true _ 58 (passes_at_first is_colon cs 0 within) in
      let split = split_at_first is_colon cs 0 within ∙ ap (λ x. before_first is_colon cs ++ x ∷ after_first is_colon cs) at in
      record {
        namespace = facts.0;
        good = good_after (before_first is_colon cs) (after_first is_colon cs) (passes_take_while (λ c. not (c == 58)) cs) (subst IsGood split good);
        uncalled = λ main. let clash = sym facts.1 ∙ main in cc;
      }
]

pub placed_is : (text : List ℕ) (ns : ℤ) → is_namespace ns ≡ true → IsPlaced (after_namespace (after_leading_colon (ns, squeezed (without_fragment (chars text)))))
placed_is text ns known =
    let asked = asked_good ns (squeezed (without_fragment (chars text))) known (good-squeezed (chars text)) in
    let from = after_leading_colon (ns, squeezed (without_fragment (chars text))) in
    subst IsPlaced (sym (after_namespace-by from.0 from.1)) (placed_good from.0 from.1 asked.namespace asked.good _ refl)

-- ---- the key

pub record IsKey (ns : ℤ) (cs : List ℕ) : Type 0 where
  pub namespace : is_namespace ns ≡ true
  pub fixed : IsFixed cs
  pub plain : list_all is_plain cs ≡ true
  pub gaps : gaps_ok false cs ≡ true
  pub capital : capitalized cs ≡ cs
  pub uncalled : int_eq ns (pos 0) ≡ true → IsUncalled cs

plain_capital : (c : ℕ) → c < 128 → is_plain c ≡ true → is_plain (to_ascii_uppercase c) ≡ true
plain_capital c small plain = grind (arith, nat_tests)

space_capital : (c : ℕ) → is_space c ≡ false → is_space (to_ascii_uppercase c) ≡ false
space_capital c other = grind (arith, nat_tests)

colon_capital : (c : ℕ) → (c == 58) ≡ false → (to_ascii_uppercase c == 58) ≡ false
colon_capital c other = grind (arith, nat_tests)

begins_capital : (c : ℕ) (rest : List ℕ) → c < 128 → capitalized (nfc (to_ascii_uppercase c ∷ rest)) ≡ nfc (to_ascii_uppercase c ∷ rest)
begins_capital c rest small =
    let b = nfc-begins (to_ascii_uppercase c) rest (uppercase_ascii c small) in
    let first : to_ascii_uppercase b.first ≡ b.first = elim b.like [
      | inl same ↦ ap to_ascii_uppercase same ∙ uppercase-uppercase c ∙ sym same
      | inr high ↦ (uppercase_is b.first).2 (omega arith)
    ] in
    ap capitalized b.is ∙ ap (λ x. x ∷ b.rest) first ∙ sym b.is

first_colon : (rest : List ℕ) → is_legal_key (nfc (58 ∷ rest)) ≡ true → ⊥
first_colon rest legal =
    let parted = nfc-parted 58 parts_colon [] rest ∙ ap (λ l. l ++ 58 ∷ nfc rest) fixed-nil in
    let parts = legal_parts (58 ∷ nfc rest) (ap is_legal_key (sym parted) ∙ legal) in
    let clash : false ≡ true = parts.no_colon in
    cc

raised_key : (ns : ℤ) (c : ℕ) (rest : List ℕ) → IsPlaced (ns, c ∷ rest) → gaps_ok false (c ∷ rest) ≡ true → c < 128 → is_legal_key (nfc (to_ascii_uppercase c ∷ rest)) ≡ true → IsKey ns (nfc (to_ascii_uppercase c ∷ rest))
raised_key ns c rest placed gaps small legal =
    let x = to_ascii_uppercase c in
    let small_x = uppercase_ascii c small in
    let good = placed.good in
    let no_underscore : (c == 95) ≡ false = false_from_ne_true _ (λ underscore. let clash : false ≡ true = rw underscore at gaps in cc) in
    let gap_parts : (not (c == 32) && gaps_ok true rest) ≡ true = rw no_underscore at gaps in
    let gap_rest = and_parts (not (c == 32)) (gaps_ok true rest) gap_parts in
    let no_space = or_from (c == 32) (c == 95) (not-true _ gap_rest.0) no_underscore in
    let no_space_x = space_capital c no_space in
    let no_colon : (c == 58) ≡ false = false_from_ne_true _ (λ colon.
    let same : c ≡ 58 = eqb-true c 58 colon in
    absurd (first_colon rest (subst (λ y. is_legal_key (nfc (to_ascii_uppercase y ∷ rest)) ≡ true) same legal))) in
    let no_colon_x = colon_capital c no_colon in
    let plain_parts = and_parts (is_plain c) (list_all is_plain rest) good.plain in
    let raised : IsRaised c x = record {
      before_ascii = lt-ltb c 128 small;
      after_ascii = small_x;
      before_letter = no_underscore;
      after_letter = (or_parts (x == 32) (x == 95) no_space_x).1;
      same_letter = lowercase-uppercase c;
    } in
    record {
      namespace = placed.namespace;
      fixed = nfc_idem (x ∷ rest);
      plain = nfc_keeps is_plain plain_or_special (x ∷ rest) (and_from _ _ (plain_capital c small plain_parts.0) plain_parts.1);
      gaps = gaps-raised c x [] rest small_x (and_from _ _ (not_from_false _ no_space) refl) (and_from _ _ (not_from_false _ no_space_x) refl) good.fixed gap_rest.1;
      capital = begins_capital c rest small;
      uncalled = λ main.
          uncalled-raised c x [] rest raised (and_from _ _ (not_from_false _ no_colon) refl) (and_from _ _ (not_from_false _ no_colon_x) refl) good.fixed (placed.uncalled main);
    }

high_key : (ns : ℤ) (c : ℕ) (rest : List ℕ) → IsPlaced (ns, c ∷ rest) → gaps_ok false (c ∷ rest) ≡ true → 128 ≤ c → IsKey ns (c ∷ rest)
high_key ns c rest placed gaps high =
    record {
      namespace = placed.namespace;
      fixed = placed.good.fixed;
      plain = placed.good.plain;
      gaps = gaps;
      capital = ap (λ x. x ∷ rest) ((uppercase_is c).2 (omega arith));
      uncalled = placed.uncalled;
    }

key_from : (ns : ℤ) (cs : List ℕ) → IsPlaced (ns, cs) → is_legal_key (to_nfc (capitalized cs)) ≡ true → IsKey ns (to_nfc (capitalized cs))
key_from ns [] placed legal =
    let nothing = to_nfc-is [] ∙ fixed-nil in
    let parts = legal_parts [] (ap is_legal_key (sym nothing) ∙ legal) in
    let clash : false ≡ true = parts.some in
    cc
key_from ns (c ∷ rest) placed legal =
    let gaps : gaps_ok false (c ∷ rest) ≡ true = elim placed.good.loose [ inl none ↦ cc | inr gaps ↦ gaps ] in
    elim (cases_lt c 128) [
      | inl small ↦
          let is = to_nfc-is (to_ascii_uppercase c ∷ rest) in
          subst (IsKey ns) (sym is) (raised_key ns c rest placed gaps small (ap is_legal_key (sym is) ∙ legal))
      | inr high ↦
          let same = (uppercase_is c).2 (omega arith) in
          let is : to_nfc (to_ascii_uppercase c ∷ rest) ≡ c ∷ rest = ap (λ x. to_nfc (x ∷ rest)) same ∙ to_nfc-is (c ∷ rest) ∙ placed.good.fixed in
          subst (IsKey ns) (sym is) (high_key ns c rest placed gaps high)
    ]

pub key_is : (text : List ℕ) (ns : ℤ) → is_namespace ns ≡ true → is_legal_key (placed_key text ns).1 ≡ true → IsKey (placed_key text ns).0 (placed_key text ns).1
unfolding placed_key
key_is text ns known legal = key_from _ _ (placed_is text ns known) legal
