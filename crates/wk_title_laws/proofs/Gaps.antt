-- Texts without spaces, with single underscores and none at the ends.
use Rattle.std.proofs.Common.{◌≡◌, ℕ, Bool, true, false, not, ◌&&◌, ◌==◌, ◌⊎◌, if◌then◌else◌, List, [], ◌∷◌, ◌++◌, refl, sym, ap, ap₂, subst, ◌∙◌, inl, inr, eqb-true, one-add}
use Rattle.std.proofs.lemmas.Bool.{cases_Bool, and_parts, and_from, not-true, or_parts, or_right, or_from}
use Rattle.wk_text_rules.specs.Titles.{is_underscore, with_spaces, squeezed, without_leading_underscores}
use Rattle.wk_title.proofs.Squeeze.{is_space, squeezed_from, squeezed-from_start}
use Rattle.wk_title_laws.proofs.Fixed.{lacks_spaces}

-- The rest of a text, where an underscore may come next or not.
abbrev pub gaps_ok : Bool → List ℕ → Bool
gaps_ok after [] = after
gaps_ok after (c ∷ cs) =
    let at_gap = gaps_ok false cs in
    let at_other = gaps_ok true cs in
    if c == 95 then after && at_gap else not (c == 32) && at_other

abbrev pub IsLoose : List ℕ → Type 0
IsLoose cs = (cs ≡ []) ⊎ (gaps_ok false cs ≡ true)

-- ---- squeezing gives such a text

record SqueezedGaps (cs : List ℕ) : Type 0 where
  within : gaps_ok true (squeezed_from true false cs) ≡ true
  between : gaps_ok true (squeezed_from true true cs) ≡ true
  start : (after_space : Bool) → IsLoose (squeezed_from false after_space cs)

gaps-space : (c : ℕ) (cs : List ℕ) → is_space c ≡ true → SqueezedGaps cs → SqueezedGaps (c ∷ cs)
gaps-space c cs space later =
    record { within = rw space later.between; between = rw space later.between; start = λ after_space. rw space (later.start true) }

gaps_ok-other : (after : Bool) (c : ℕ) (cs : List ℕ) → is_space c ≡ false → gaps_ok after (c ∷ cs) ≡ gaps_ok true cs
gaps_ok-other after c cs other = let parts = or_parts (c == 32) (c == 95) other in rw (parts.1, parts.0) refl

gaps-other : (c : ℕ) (cs : List ℕ) → is_space c ≡ false → SqueezedGaps cs → SqueezedGaps (c ∷ cs)
gaps-other c cs other later =
    let word = λ (after : Bool). gaps_ok-other after c (squeezed_from true false cs) other ∙ later.within in
    record {
      within = rw other (word true);
      between = rw other (word false);
      start = elim [ true ↦ rw other (inr (word false)) | false ↦ rw other (inr (word false)) ];
    }

squeezed_gaps : (cs : List ℕ) → SqueezedGaps cs
squeezed_gaps [] = record { within = refl; between = refl; start = λ after_space. inl refl }
squeezed_gaps (c ∷ cs) = elim (cases_Bool (is_space c)) [
  | inl space ↦ gaps-space c cs space (squeezed_gaps cs)
  | inr other ↦ gaps-other c cs other (squeezed_gaps cs)
]

pub loose-squeezed : (cs : List ℕ) → IsLoose (squeezed cs)
loose-squeezed cs = subst IsLoose (sym (squeezed-from_start cs)) ((squeezed_gaps cs).start false)

-- ---- and keeps one

record KeptBySqueezing (cs : List ℕ) : Type 0 where
  within : gaps_ok true cs ≡ true → squeezed_from true false cs ≡ cs
  between : gaps_ok false cs ≡ true → squeezed_from true true cs ≡ 95 ∷ cs
  start : gaps_ok false cs ≡ true → squeezed_from false false cs ≡ cs

kept-underscore : (c : ℕ) (cs : List ℕ) → (c == 95) ≡ true → KeptBySqueezing cs → KeptBySqueezing (c ∷ cs)
kept-underscore c cs underscore later =
    let space : is_space c ≡ true = or_right (c == 32) (c == 95) underscore in
    let same : c ≡ 95 = eqb-true c 95 underscore in
    record {
      within = λ h. rw space (later.between (rw underscore at h) ∙ ap (λ x. x ∷ cs) (sym same));
      between = λ h. let clash : false ≡ true = rw underscore at h in cc;
      start = λ h. let clash : false ≡ true = rw underscore at h in cc;
    }

kept-other : (c : ℕ) (cs : List ℕ) → (c == 95) ≡ false → KeptBySqueezing cs → KeptBySqueezing (c ∷ cs)
kept-other c cs other later =
    let parts_of = λ (after : Bool) (h : gaps_ok after (c ∷ cs) ≡ true).
    let rest : (not (c == 32) && gaps_ok true cs) ≡ true = rw other at h in and_parts (not (c == 32)) (gaps_ok true cs) rest in
    let no_space = λ (after : Bool) (h : gaps_ok after (c ∷ cs) ≡ true). or_from (c == 32) (c == 95) (not-true _ (parts_of after h).0) other in
    record {
      within = λ h. let space = no_space true h in rw space (ap (λ l. c ∷ l) (later.within (parts_of true h).1));
      between = λ h. let space = no_space false h in rw space (ap (λ l. 95 ∷ c ∷ l) (later.within (parts_of false h).1));
      start = λ h. let space = no_space false h in rw space (ap (λ l. c ∷ l) (later.within (parts_of false h).1));
    }

kept_by_squeezing : (cs : List ℕ) → KeptBySqueezing cs
kept_by_squeezing [] = record { within = λ h. refl; between = λ h. cc; start = λ h. cc }
kept_by_squeezing (c ∷ cs) = elim (cases_Bool (c == 95)) [
  | inl underscore ↦ kept-underscore c cs underscore (kept_by_squeezing cs)
  | inr other ↦ kept-other c cs other (kept_by_squeezing cs)
]

squeezed_from-with_spaces : (cs : List ℕ) (started after_space : Bool) → squeezed_from started after_space (with_spaces cs) ≡ squeezed_from started after_space cs
squeezed_from-with_spaces [] started after_space = refl
squeezed_from-with_spaces (c ∷ cs) started after_space = elim (cases_Bool (c == 95)) [
  | inl underscore ↦
      let same : c ≡ 95 = eqb-true c 95 underscore in
      rw same (squeezed_from-with_spaces cs started true)
  | inr other ↦
      let same : with_spaces (c ∷ cs) ≡ c ∷ with_spaces cs = rw other refl in
      ap (squeezed_from started after_space) same
      ∙ ap₂ (λ skipped kept. if is_space c then skipped else (if after_space && started then 95 ∷ c ∷ kept else c ∷ kept))
      (squeezed_from-with_spaces cs started true) (squeezed_from-with_spaces cs true false)
]

-- spaces in the place of underscores are squeezed to them again
pub squeezed-with_spaces : (cs : List ℕ) → gaps_ok false cs ≡ true → squeezed (with_spaces cs) ≡ cs
squeezed-with_spaces cs gaps = squeezed-from_start (with_spaces cs) ∙ squeezed_from-with_spaces cs false false ∙ (kept_by_squeezing cs).start gaps

-- ---- parts of such a text

pub gaps_ok-append : (after : Bool) (xs ys : List ℕ) → gaps_ok after xs ≡ true → gaps_ok true ys ≡ true → gaps_ok after (xs ++ ys) ≡ true
gaps_ok-append true [] ys front back = back
gaps_ok-append false [] ys front back = cc
gaps_ok-append after (c ∷ cs) ys front back = elim (cases_Bool (c == 95)) [
  | inl underscore ↦
      let parts = and_parts after (gaps_ok false cs) (rw underscore at front) in
      rw underscore (and_from _ _ parts.0 (gaps_ok-append false cs ys parts.1 back))
  | inr other ↦
      let parts = and_parts (not (c == 32)) (gaps_ok true cs) (rw other at front) in
      rw other (and_from _ _ parts.0 (gaps_ok-append true cs ys parts.1 back))
]

pub gaps_ok-weaker : (cs : List ℕ) → gaps_ok false cs ≡ true → gaps_ok true cs ≡ true
gaps_ok-weaker [] h = refl
gaps_ok-weaker (c ∷ cs) h = elim (cases_Bool (c == 95)) [
  | inl underscore ↦ let clash : false ≡ true = rw underscore at h in cc
  | inr other ↦ let rest : (not (c == 32) && gaps_ok true cs) ≡ true = rw other at h in rw other rest
]

pub gaps_ok-word : (xs ys : List ℕ) → lacks_spaces xs ≡ true → gaps_ok true (xs ++ ys) ≡ gaps_ok true ys
gaps_ok-word [] ys without = refl
gaps_ok-word (x ∷ xs) ys without =
    let parts = and_parts (not (is_space x)) (lacks_spaces xs) without in
    gaps_ok-other true x (xs ++ ys) (not-true _ parts.0) ∙ gaps_ok-word xs ys parts.1

pub gaps_ok-first_word : (after : Bool) (x : ℕ) (xs ys : List ℕ) → lacks_spaces (x ∷ xs) ≡ true → gaps_ok after (x ∷ (xs ++ ys)) ≡ gaps_ok true ys
gaps_ok-first_word after x xs ys without =
    let parts = and_parts (not (is_space x)) (lacks_spaces xs) without in
    gaps_ok-other after x (xs ++ ys) (not-true _ parts.0) ∙ gaps_ok-word xs ys parts.1

pub gaps_ok-rest : (after : Bool) (c : ℕ) (cs : List ℕ) → gaps_ok after (c ∷ cs) ≡ true → (b : Bool) × (gaps_ok b cs ≡ true)
gaps_ok-rest after c cs h = elim (cases_Bool (c == 95)) [
  | inl underscore ↦ (false, (and_parts after (gaps_ok false cs) (rw underscore at h)).1)
  | inr other ↦ (true, (and_parts (not (c == 32)) (gaps_ok true cs) (rw other at h)).1)
]

pub gaps_ok-back : (after : Bool) (xs ys : List ℕ) → gaps_ok after (xs ++ ys) ≡ true → (b : Bool) × (gaps_ok b ys ≡ true)
gaps_ok-back after [] ys h = (after, h)
gaps_ok-back after (x ∷ xs) ys h = let rest = gaps_ok-rest after x (xs ++ ys) h in gaps_ok-back rest.0 xs ys rest.1

pub without_leading-yes : (c : ℕ) (cs : List ℕ) → is_underscore c ≡ true → without_leading_underscores (c ∷ cs) ≡ without_leading_underscores cs
without_leading-yes c cs h = rw (h, one-add) refl

pub without_leading-no : (c : ℕ) (cs : List ℕ) → is_underscore c ≡ false → without_leading_underscores (c ∷ cs) ≡ c ∷ cs
without_leading-no c cs h = rw h refl

pub loose-without_leading : (after : Bool) (cs : List ℕ) → gaps_ok after cs ≡ true → IsLoose (without_leading_underscores cs)
loose-without_leading after [] h = inl refl
loose-without_leading after (c ∷ cs) h = elim (cases_Bool (c == 95)) [
  | inl underscore ↦
      let rest = and_parts after (gaps_ok false cs) (rw underscore at h) in
      subst IsLoose (sym (without_leading-yes c cs underscore)) (loose-without_leading false cs rest.1)
  | inr other ↦
      let rest : (not (c == 32) && gaps_ok true cs) ≡ true = rw other at h in
      subst IsLoose (sym (without_leading-no c cs other)) (inr (rw other rest))
]

pub without_leading-kept : (cs : List ℕ) → gaps_ok false cs ≡ true → without_leading_underscores cs ≡ cs
without_leading-kept [] h = refl
without_leading-kept (c ∷ cs) h = elim (cases_Bool (c == 95)) [
  | inl underscore ↦ let clash : false ≡ true = rw underscore at h in cc
  | inr other ↦ without_leading-no c cs other
]
