-- What stays of a text in Normalization Form C where its first letter of ASCII is made a capital.
use Rattle.std.proofs.Common.{◌≡◌, ℕ, ℤ, ◌<◌, true, false, not, ◌&&◌, ◌==◌, List, [], ◌∷◌, ◌++◌, map, Option, Some, None, refl, sym, ap, subst, ◌∙◌, inl, inr, arith, append_assoc, eqb-true}
use Rattle.std.proofs.lemmas.Bool.{cases_Bool, and_parts, and_from, not-true, not_from_false, or_from, or_right, cond-true, cond-false}
use Rattle.std.proofs.lemmas.Bool.Decides.{nat_tests}
use borrow.Author.Tests.{ltb-true}
use Rattle.std.proofs.lemmas.List.{append-nil}
use Rattle.std.proofs.lemmas.List.Sums.{AllPass-from_list_all}
use Rattle.std.specs.Char.{is_ascii, to_ascii_lowercase}
use Rattle.std.specs.List.{list_all, list_any, before_first}
use Rattle.std.specs.Option.{option_and_then}
use Rattle.ucd_normal.specs.declared.forms.Form.TheVariants.{Nfd}
use Rattle.unicode_normalization.specs.Forms.{decomposed, nfd, nfc}
use Rattle.unicode_normalization.proofs.ComposeLemmas.{list_all-push}
use Rattle.unicode_normalization.proofs.FormsLemmas.{normalize-Nfd, decomposed-passing, normalize-ascii, nfd-nfc, nfc-nfd}
use Rattle.wk_text_rules.specs.Titles.{is_colon, is_underscore, prefix_of, namespace_called, without_trailing_underscores}
use Rattle.wk_text_rules.proofs.TitleLemmas.{nfc-ascii}
use Rattle.wk_title.proofs.Squeeze.{is_space}
use Rattle.wk_title_laws.proofs.Tables.{is_special}
use Rattle.wk_title_laws.proofs.Kept.{nfc_keeps, parts_colon, parts_underscore, nfc-parted, nfc-begins, starter-ascii, final-ascii}
use Rattle.wk_title_laws.proofs.Fixed.{IsFixed, lacks, lacks_spaces, nfc_lacks, fixed_cut, lacks_from}
use Rattle.wk_title_laws.proofs.Gaps.{gaps_ok, gaps_ok-first_word}
use Rattle.wk_title_laws.proofs.Lists.{take_while_at}
use Rattle.wk_title_laws.proofs.Names.{called_ascii, called_in_any_case}
use Rattle.wk_title_laws.proofs.Trims.{without_trailing-kept, ascii-without_trailing}

space_is_special : (c : ℕ) → not (is_space c) ≡ false → is_special c ≡ true
space_is_special c h = grind (arith, nat_tests)

nfc_lacks_spaces : (cs : List ℕ) → lacks_spaces cs ≡ true → lacks_spaces (nfc cs) ≡ true
nfc_lacks_spaces = nfc_keeps (λ c. not (is_space c)) space_is_special

-- ---- the gaps

gaps_ok-nfc_word : (x : ℕ) (pre ys : List ℕ) → x < 128 → lacks_spaces (x ∷ pre) ≡ true → gaps_ok false (nfc (x ∷ pre) ++ ys) ≡ gaps_ok true ys
gaps_ok-nfc_word x pre ys small without =
    let b = nfc-begins x pre small in
    ap (λ l. gaps_ok false (l ++ ys)) b.is
    ∙ gaps_ok-first_word false b.first b.rest ys (ap lacks_spaces (sym b.is) ∙ nfc_lacks_spaces (x ∷ pre) without)

pub gaps-raised : (c x : ℕ) (pre cs : List ℕ) → x < 128 → lacks_spaces (c ∷ pre) ≡ true → lacks_spaces (x ∷ pre) ≡ true → IsFixed (c ∷ (pre ++ cs)) → gaps_ok true cs ≡ true → gaps_ok false (nfc (x ∷ (pre ++ cs))) ≡ true
gaps-raised c x pre [] small before after fixed gaps =
    ap (λ l. gaps_ok false (nfc (x ∷ l))) (append-nil pre) ∙ ap (gaps_ok false) (sym (append-nil (nfc (x ∷ pre)))) ∙ gaps_ok-nfc_word x pre [] small after
gaps-raised c x pre (d ∷ ds) small before after fixed gaps = elim (cases_Bool (d == 95)) [
  | inl underscore ↦
      let same : d ≡ 95 = eqb-true d 95 underscore in
      let fixed_at : IsFixed ((c ∷ pre) ++ 95 ∷ ds) = subst (λ y. IsFixed ((c ∷ pre) ++ y ∷ ds)) same fixed in
      let gaps_at : gaps_ok true (95 ∷ ds) ≡ true = subst (λ y. gaps_ok true (y ∷ ds) ≡ true) same gaps in
      let back = (fixed_cut 95 parts_underscore (c ∷ pre) ds (lacks_from 95 (c ∷ pre) refl before) fixed_at).1 in
      subst (λ y. gaps_ok false (nfc (x ∷ (pre ++ y ∷ ds))) ≡ true) (sym same) (
      ap (gaps_ok false) (nfc-parted 95 parts_underscore (x ∷ pre) ds ∙ ap (λ l. nfc (x ∷ pre) ++ 95 ∷ l) back)
      ∙ gaps_ok-nfc_word x pre (95 ∷ ds) small after ∙ gaps_at
      )
  | inr other ↦
      let rest : (not (d == 32) && gaps_ok true ds) ≡ true = rw other at gaps in
      let parts = and_parts (not (d == 32)) (gaps_ok true ds) rest in
      let no_space = not_from_false (is_space d) (or_from (d == 32) (d == 95) (not-true _ parts.0) other) in
      let longer = append_assoc pre (d ∷ []) ds in
      subst (λ l. gaps_ok false (nfc (x ∷ l)) ≡ true) longer (
      gaps-raised c x (pre ++ d ∷ []) ds small (list_all-push (λ y. not (is_space y)) (c ∷ pre) d before no_space) (list_all-push (λ y. not (is_space y)) (x ∷ pre) d after no_space)
      (subst (λ l. IsFixed (c ∷ l)) (sym longer) fixed) parts.1
      )
]

-- ---- a text of ASCII with another first letter was that text before

nfd-ascii : (cs : List ℕ) → list_all is_ascii cs ≡ true → nfd cs ≡ cs
nfd-ascii cs ascii = normalize-ascii Nfd cs (λ k d within. ltb-true _ _ (AllPass-from_list_all is_ascii cs ascii k d within))

nfd-first : (x : ℕ) (cs : List ℕ) → x < 128 → nfd (x ∷ cs) ≡ x ∷ decomposed Nfd cs
nfd-first x cs small = normalize-Nfd (x ∷ cs) ∙ decomposed-passing Nfd x cs (final-ascii x small) (starter-ascii x small)

ascii_raised : (c x : ℕ) (cs : List ℕ) → is_ascii c ≡ true → x < 128 → IsFixed (c ∷ cs) → list_all is_ascii (nfc (x ∷ cs)) ≡ true → nfc (x ∷ cs) ≡ x ∷ cs
ascii_raised c x cs first small fixed ascii =
    let parts = decomposed Nfd cs in
    let whole : nfc (x ∷ cs) ≡ x ∷ parts = sym (nfd-ascii (nfc (x ∷ cs)) ascii) ∙ nfd-nfc (x ∷ cs) ∙ nfd-first x cs small in
    let rest_ascii : list_all is_ascii parts ≡ true = (and_parts (is_ascii x) (list_all is_ascii parts) (ap (list_all is_ascii) (sym whole) ∙ ascii)).1 in
    let before : c ∷ cs ≡ c ∷ parts =
    sym fixed ∙ sym (nfc-nfd (c ∷ cs)) ∙ ap nfc (nfd-first c cs (ltb-true c 128 first)) ∙ nfc-ascii (c ∷ parts) (and_from _ _ first rest_ascii) in
    let same : cs ≡ parts = cc in
    whole ∙ ap (λ l. x ∷ l) (sym same)

-- ---- the name before the first colon

pub prefix_at : (xs ys : List ℕ) → lacks 58 xs ≡ true → prefix_of (xs ++ 58 ∷ ys) ≡ Some (without_trailing_underscores xs)
prefix_at xs ys without =
    let has = list_any-at xs ys in
    let before : before_first is_colon (xs ++ 58 ∷ ys) ≡ xs = take_while_at (λ c. not (c == 58)) xs 58 ys without refl in
    cond-true _ _ _ has ∙ ap (λ l. Some (without_trailing_underscores l)) before
  where
    list_any-at : (xs ys : List ℕ) → list_any is_colon (xs ++ 58 ∷ ys) ≡ true
    list_any-at [] ys = refl
    list_any-at (x ∷ xs) ys = or_right (is_colon x) _ (list_any-at xs ys)

lacks-list_any : (xs : List ℕ) → lacks 58 xs ≡ true → list_any is_colon xs ≡ false
lacks-list_any [] without = refl
lacks-list_any (x ∷ xs) without =
    let parts = and_parts (not (x == 58)) (lacks 58 xs) without in or_from _ _ (not-true _ parts.0) (lacks-list_any xs parts.1)

pub prefix_none : (xs : List ℕ) → lacks 58 xs ≡ true → prefix_of xs ≡ None
prefix_none xs without = cond-false _ _ _ (lacks-list_any xs without)

-- no namespace's name stands before the first colon
abbrev pub IsUncalled : List ℕ → Type 0
IsUncalled cs = option_and_then namespace_called (prefix_of cs) ≡ None

-- a letter and its capital
pub record IsRaised (c x : ℕ) : Type 0 where
  pub before_ascii : is_ascii c ≡ true
  pub after_ascii : x < 128
  pub before_letter : is_underscore c ≡ false
  pub after_letter : is_underscore x ≡ false
  pub same_letter : to_ascii_lowercase x ≡ to_ascii_lowercase c

called-raised : (c x : ℕ) (pre : List ℕ) → IsRaised c x → IsFixed (c ∷ pre) → namespace_called (without_trailing_underscores (c ∷ pre)) ≡ None → (found : Option ℤ) → namespace_called (without_trailing_underscores (nfc (x ∷ pre))) ≡ found → found ≡ None
called-raised c x pre r fixed none None is = refl
called-raised c x pre r fixed none (Some n) is =
    let ascii = ascii-without_trailing (nfc (x ∷ pre)) (called_ascii (without_trailing_underscores (nfc (x ∷ pre))) n is) in
    let same = ascii_raised c x pre r.before_ascii r.after_ascii fixed ascii in
    let kept_after = without_trailing-kept x pre r.after_letter in
    let kept_before = without_trailing-kept c pre r.before_letter in
    let rest = without_trailing_underscores pre in
    let letters : map to_ascii_lowercase (x ∷ rest) ≡ map to_ascii_lowercase (c ∷ rest) = ap (λ l. l ∷ map to_ascii_lowercase rest) r.same_letter in
    sym is ∙ ap (λ l. namespace_called (without_trailing_underscores l)) same ∙ ap namespace_called kept_after
    ∙ called_in_any_case (x ∷ rest) (c ∷ rest) letters ∙ ap namespace_called (sym kept_before) ∙ none

pub uncalled-raised : (c x : ℕ) (pre cs : List ℕ) → IsRaised c x → lacks 58 (c ∷ pre) ≡ true → lacks 58 (x ∷ pre) ≡ true → IsFixed (c ∷ (pre ++ cs)) → IsUncalled (c ∷ (pre ++ cs)) → IsUncalled (nfc (x ∷ (pre ++ cs)))
uncalled-raised c x pre [] r before after fixed none =
    let whole = ap (λ l. nfc (x ∷ l)) (append-nil pre) in
    ap (option_and_then namespace_called) (ap prefix_of whole ∙ prefix_none (nfc (x ∷ pre)) (nfc_lacks 58 parts_colon (x ∷ pre) after))
uncalled-raised c x pre (d ∷ ds) r before after fixed none = elim (cases_Bool (d == 58)) [
  | inl colon ↦
      let same : d ≡ 58 = eqb-true d 58 colon in
      let fixed_at : IsFixed ((c ∷ pre) ++ 58 ∷ ds) = subst (λ y. IsFixed ((c ∷ pre) ++ y ∷ ds)) same fixed in
      let none_at : IsUncalled ((c ∷ pre) ++ 58 ∷ ds) = subst (λ y. IsUncalled ((c ∷ pre) ++ y ∷ ds)) same none in
      let front = (fixed_cut 58 parts_colon (c ∷ pre) ds before fixed_at).0 in
      let uncalled = ap (option_and_then namespace_called) (sym (prefix_at (c ∷ pre) ds before)) ∙ none_at in
      subst (λ y. IsUncalled (nfc (x ∷ (pre ++ y ∷ ds)))) (sym same) (
      ap (λ l. option_and_then namespace_called (prefix_of l)) (nfc-parted 58 parts_colon (x ∷ pre) ds)
      ∙ ap (option_and_then namespace_called) (prefix_at (nfc (x ∷ pre)) (nfc ds) (nfc_lacks 58 parts_colon (x ∷ pre) after))
      ∙ called-raised c x pre r front uncalled _ refl
      )
  | inr other ↦
      let no_colon = not_from_false _ other in
      let longer = append_assoc pre (d ∷ []) ds in
      subst (λ l. IsUncalled (nfc (x ∷ l))) longer (
      uncalled-raised c x (pre ++ d ∷ []) ds r (list_all-push (λ y. not (y == 58)) (c ∷ pre) d before no_colon) (list_all-push (λ y. not (y == 58)) (x ∷ pre) d after no_colon)
      (subst (λ l. IsFixed (c ∷ l)) (sym longer) fixed) (subst (λ l. IsUncalled (c ∷ l)) (sym longer) none)
      )
]
