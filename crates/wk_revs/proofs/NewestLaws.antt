-- The newest revision of a page below a number, as the rules and as the chains have it.
use Rattle.std.proofs.Common.{◌≡◌, ℕ, zero, suc, ◌+◌, ◌-◌, ◌<◌, ◌≤◌, Bool, true, false, cond, ◌&&◌, List, [], ◌∷◌, length, map, get_or, min, Option, Some, None, refl, sym, ap, ◌∙◌, subst, ◌⊎◌, inl, inr, arith, eq-eqb, if◌then◌else◌}
use Rattle.std.specs.Prelude.{◌==◌, nat_lt, filter, option_map}
use Rattle.std.specs.List.{enumerate_from, last_or}
use Rattle.std.proofs.lemmas.Bool.{cases_lt, lt-ltb, true≢false}
use Rattle.std.proofs.lemmas.List.{get_or-map, length-map}
use Rattle.std.specs.Cmp.Derive.{both_true}
use borrow.Author.Tests.{eqb-true, ltb-true}
use Rattle.wk_page_rules.specs.History.{History, Revision}
use Rattle.wk_wiki_rules.specs.Revisions.{is_below, is_of_page, newest_below}
use Rattle.wk_revs.specs.Chains.{last_up_to, newest_up_to, number_or_none}
use Rattle.wk_revs.proofs.ChainLaws.{differs-eqb, up_to-le, up_to-most, up_to-own}

-- ---- the last item that passes a test of its number and itself

module _ {X : Type 0} (t : ℕ × X → Bool) where
  -- the last that passes stands behind so many
  pub record IsLast (k : ℕ) (xs : List X) (d : X) (i : ℕ) : Type 0 where
    pub within : i < length xs
    pub passes : t (k + i, get_or xs i d) ≡ true
    pub later : (j : ℕ) → i < j → j < length xs → t (k + j, get_or xs j d) ≡ false

  abbrev NonePasses : ℕ → List X → X → Type 0
  NonePasses k xs d = (j : ℕ) → j < length xs → t (k + j, get_or xs j d) ≡ false

  abbrev Last : ℕ → List X → X → Option (ℕ × X) → Option (ℕ × X) → Type 0
  Last k xs d before found = ((found ≡ before) × NonePasses k xs d) ⊎ ((i : ℕ) × (found ≡ Some (k + i, get_or xs i d)) × IsLast k xs d i)

  -- behind a first item
  shift : (k j : ℕ) (x d : X) (xs : List X) (b : Bool) → t ((k + 1) + j, get_or xs j d) ≡ b → t (k + suc j, get_or (x ∷ xs) (suc j) d) ≡ b
  shift k j x d xs b is = let e : (k + 1) + j ≡ k + suc j = omega arith in subst (λ n. t (n, get_or xs j d) ≡ b) e is

  later_on : (k i : ℕ) (x d : X) (xs : List X) → ((j : ℕ) → i < j → j < length xs → t ((k + 1) + j, get_or xs j d) ≡ false) →
      (j : ℕ) → suc i < j → j < length (x ∷ xs) → t (k + j, get_or (x ∷ xs) j d) ≡ false
  later_on k i x d xs later zero l within = absurd (omega (arith, l))
  later_on k i x d xs later (suc j) l within = shift k j x d xs false (later j (omega (arith, l)) (omega (arith, within)))

  after_first : (k : ℕ) (x d : X) (xs : List X) → NonePasses (k + 1) xs d → (j : ℕ) → 0 < j → j < length (x ∷ xs) → t (k + j, get_or (x ∷ xs) j d) ≡ false
  after_first k x d xs none zero l within = absurd (omega (arith, l))
  after_first k x d xs none (suc j) l within = shift k j x d xs false (none j (omega (arith, within)))

  none_at_all : (k : ℕ) (x d : X) (xs : List X) → t (k, x) ≡ false → NonePasses (k + 1) xs d → NonePasses k (x ∷ xs) d
  none_at_all k x d xs first none zero within = let e : k ≡ k + 0 = omega arith in subst (λ n. t (n, x) ≡ false) e first
  none_at_all k x d xs first none (suc j) within = shift k j x d xs false (none j (omega (arith, within)))

  last_behind : (k i : ℕ) (x d : X) (xs : List X) (found : Option (ℕ × X)) → found ≡ Some ((k + 1) + i, get_or xs i d) → IsLast (k + 1) xs d i →
      (n : ℕ) × (found ≡ Some (k + n, get_or (x ∷ xs) n d)) × IsLast k (x ∷ xs) d n
  last_behind k i x d xs found is last = (
    suc i,
    is ∙ (let e : (k + 1) + i ≡ k + suc i = omega arith in ap (λ n. Some (n, get_or xs i d)) e),
    record {
      within = omega (arith, last.within);
      passes = shift k i x d xs true last.passes;
      later = later_on k i x d xs last.later;
    },
  )

  abbrev found_in : ℕ → List X → Option (ℕ × X) → Option (ℕ × X)
  found_in k xs before = last_or before (filter t (enumerate_from k xs))

  passing : (k : ℕ) (x d : X) (xs : List X) (before : Option (ℕ × X)) → Last (k + 1) xs d (Some (k, x)) (found_in (k + 1) xs (Some (k, x))) → t (k, x) ≡ true →
      Last k (x ∷ xs) d before (found_in (k + 1) xs (Some (k, x)))
  passing k x d xs before (inl (is, none)) first = inr (
    0,
    is ∙ (let e : k ≡ k + 0 = omega arith in ap (λ n. Some (n, x)) e),
    record {
      within = omega arith;
      passes = let e : k ≡ k + 0 = omega arith in subst (λ n. t (n, x) ≡ true) e first;
      later = after_first k x d xs none;
    },
  )
  passing k x d xs before (inr (i, is, last)) first = inr (last_behind k i x d xs _ is last)

  failing : (k : ℕ) (x d : X) (xs : List X) (before : Option (ℕ × X)) → Last (k + 1) xs d before (found_in (k + 1) xs before) → t (k, x) ≡ false →
      Last k (x ∷ xs) d before (found_in (k + 1) xs before)
  failing k x d xs before (inl (is, none)) first = inl (is, none_at_all k x d xs first none)
  failing k x d xs before (inr (i, is, last)) first = inr (last_behind k i x d xs _ is last)

  by_first : (k : ℕ) (x d : X) (xs : List X) (before : Option (ℕ × X)) (b : Bool) → t (k, x) ≡ b →
      Last (k + 1) xs d (Some (k, x)) (found_in (k + 1) xs (Some (k, x))) → Last (k + 1) xs d before (found_in (k + 1) xs before) →
      Last k (x ∷ xs) d before (last_or before (cond b ((k, x) ∷ filter t (enumerate_from (k + 1) xs)) (filter t (enumerate_from (k + 1) xs))))
  by_first k x d xs before true first passes fails = passing k x d xs before passes first
  by_first k x d xs before false first passes fails = failing k x d xs before fails first

  pub last-is : (k : ℕ) (xs : List X) (d : X) (before : Option (ℕ × X)) → Last k xs d before (found_in k xs before)
  last-is k [] d before = inl (refl, λ j l. absurd (omega (arith, l)))
  last-is k (x ∷ xs) d before = by_first k x d xs before (t (k, x)) refl (last-is (k + 1) xs d (Some (k, x))) (last-is (k + 1) xs d before)

-- ---- revisions of a page

both : (a b : Bool) → (a && b) ≡ true → (a ≡ true) × (b ≡ true)
both true true h = (refl, refl)
both true false h = absurd (cc h)
both false b h = absurd (cc h)

abbrev page_of : Revision → ℕ
page_of r = r.page

some_number : (n : ℕ) → number_or_none (1 + n) ≡ Some (1 + n)
some_number n =
    let e : (1 + n == 0) ≡ false = differs-eqb (1 + n) 0 (λ is. absurd (omega (arith, is))) in rw e refl

abbrev test : ℕ → ℕ → ℕ × Revision → Bool
test page below r = is_of_page page r && is_below below r

abbrev no_revision : Revision
no_revision = record { page = 0; parent = 0; moment = 0; text = None }

module _ (xs : List Revision) (page below : ℕ) where
  abbrev limit : ℕ
  limit = min (below - 1) (length (map page_of xs))

  page-at : (i : ℕ) → i < length xs → get_or (map page_of xs) i 0 ≡ (get_or xs i no_revision).page
  page-at i l = get_or-map page_of xs i no_revision 0 l

  passes-at : (i : ℕ) → i < length xs → get_or (map page_of xs) i 0 ≡ page → 1 + i < below → test page below (1 + i, get_or xs i no_revision) ≡ true
  passes-at i l own less = both_true (eq-eqb (get_or xs i no_revision).page page (sym (page-at i l) ∙ own)) (lt-ltb (1 + i) below less)

  -- the newest that the chains have is one that passes
  newest-passes : 0 < last_up_to (map page_of xs) page limit → (x : ℕ) → x ≡ last_up_to (map page_of xs) page limit → test page below (1 + (x - 1), get_or xs (x - 1) no_revision) ≡ true
  newest-passes some x is =
      let count = length-map xs page_of in
      let most = up_to-le (map page_of xs) page limit in
      let own = subst (λ n. get_or (map page_of xs) (n - 1) 0 ≡ page) (sym is) (up_to-own (map page_of xs) page limit some) in
      passes-at (x - 1) (omega (arith, some, is, most, count)) own (omega (arith, some, is, most))

  newest-none : NonePasses (test page below) 1 xs no_revision → last_up_to (map page_of xs) page limit ≡ 0
  newest-none fails = elim (cases_lt 0 (last_up_to (map page_of xs) page limit)) [
    | inl some ↦
        let x : ℕ = last_up_to (map page_of xs) page limit in
        let within : x - 1 < length xs = omega (arith, some, up_to-le (map page_of xs) page limit, length-map xs page_of) in
        absurd (true≢false (sym (newest-passes some x refl) ∙ fails (x - 1) within))
    | inr l ↦ omega (arith, l)
  ]

  newest-some : (i : ℕ) → IsLast (test page below) 1 xs no_revision i → last_up_to (map page_of xs) page limit ≡ 1 + i
  newest-some i last =
      let count = length-map xs page_of in
      let parts = both ((get_or xs i no_revision).page == page) (nat_lt (1 + i) below) last.passes in
      let less : 1 + i < below = ltb-true (1 + i) below parts.1 in
      let own : get_or (map page_of xs) (1 + i - 1) 0 ≡ page =
      (let e : i ≡ 1 + i - 1 = omega arith in subst (λ n. get_or (map page_of xs) n 0 ≡ page) e (page-at i last.within ∙ eqb-true _ page parts.0)) in
      let least = up_to-most (map page_of xs) page limit (1 + i) (omega (arith, less, last.within, count)) (omega arith) own in
      elim (cases_lt (1 + i) (last_up_to (map page_of xs) page limit)) [
        | inl more ↦
            let x : ℕ = last_up_to (map page_of xs) page limit in
            let some : 0 < x = omega (arith, more) in
            let within : x - 1 < length xs = omega (arith, some, up_to-le (map page_of xs) page limit, count) in
            absurd (true≢false (sym (newest-passes some x refl) ∙ last.later (x - 1) (omega (arith, more)) within))
        | inr l ↦ omega (arith, l, least)
      ]

  by_last : (found : Option (ℕ × Revision)) → Last (test page below) 1 xs no_revision None found → option_map (λ r. r.0) found ≡ number_or_none (newest_up_to (map page_of xs) page (below - 1))
  by_last found (inl (is, fails)) = ap (option_map (λ r. r.0)) is ∙ ap number_or_none (sym (newest-none fails))
  by_last found (inr (i, is, last)) = ap (option_map (λ r. r.0)) is ∙ sym (some_number i) ∙ ap number_or_none (sym (newest-some i last))

-- what the rules call the newest of a page below a number is what the chains have up to the number before it
pub newest_is : (h : History) (page below : ℕ) → newest_below h page below ≡ number_or_none (newest_up_to (map page_of h.revisions) page (below - 1))
newest_is h page below = by_last h.revisions page below _ (last-is (test page below) 1 h.revisions no_revision None)
