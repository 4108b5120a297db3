-- What is in the list of a cache's entries behind each change.
use Rattle.std.proofs.Common.{◌≡◌, ℕ, Bool, true, false, ◌⊎◌, List, [], ◌∷◌, Contains, Option, Some, None, inl, inr, refl, sym, subst}
use Rattle.std.proofs.lemmas.Bool.{cases_Bool}
use Rattle.std.specs.Option.{option_map_or}
use Rattle.wk_text_rules.specs.Titles.{PageTitle}
use Rattle.wk_view_laws.proofs.PlanLemmas.{title_eq-true}
use Rattle.lru.proofs.CallerLemmas.{Contains-take}
use Rattle.lru.proofs.Splits.{Contains-cons, Contains-head, Contains-tail}
use Rattle.wk_cache.specs.Entries.{entry_of, is_long, is_of, kept_with, marked, marked_with, to_front, with_entry, without}
use Rattle.wk_cache.specs.declared.kept.Kept.{Kept}

module _ (page : PageTitle) where
  -- an entry that is found is among them, and of the page
  pub found-among : (entries : List Kept) (k : Kept) → entry_of page entries ≡ Some k → Contains entries k × (k.draft.page ≡ page)
  found-among [] k h = cc
  found-among (e ∷ entries) k h = elim (cases_Bool (is_of page e)) [
    | inl there ↦
        let first : Some e ≡ Some k = rw there at h in
        let same : e ≡ k = cc in
        (subst (Contains (e ∷ entries)) same (Contains-head e entries), subst (λ (x : Kept). x.draft.page ≡ page) same (sym (title_eq-true page e.draft.page there)))
    | inr missing ↦ let later = found-among entries k (rw missing at h) in (Contains-tail e entries k later.0, later.1)
  ]

  pub others-among : (entries : List Kept) (k : Kept) → Contains (without page entries) k → Contains entries k
  others-among [] k c = c
  others-among (e ∷ entries) k c = elim (cases_Bool (is_of page e)) [
    | inl there ↦ Contains-tail e entries k (rw there at c)
    | inr missing ↦ elim (Contains-cons e (without page entries) k (rw missing at c)) [
      | inl same ↦ subst (Contains (e ∷ entries)) same (Contains-head e entries)
      | inr later ↦ Contains-tail e entries k (others-among entries k later)
    ]
  ]

  front-by : (entries : List Kept) (k : Kept) (o : Option Kept) → entry_of page entries ≡ o → Contains (option_map_or (λ (x : Kept). x ∷ without page entries) o entries) k → Contains entries k
  front-by entries k None is c = c
  front-by entries k (Some e) is c = elim (Contains-cons e (without page entries) k c) [
    | inl same ↦ subst (Contains entries) same (found-among entries e is).0
    | inr later ↦ others-among entries k later
  ]

  pub front-among : (entries : List Kept) (k : Kept) → Contains (to_front page entries) k → Contains entries k
  front-among entries k = front-by entries k (entry_of page entries) refl

  marked-by : (point uses : ℕ) (entries : List Kept) (k : Kept) (o : Option Kept) → entry_of page entries ≡ o
      → Contains (option_map_or (λ (x : Kept). marked_with point uses x ∷ without page entries) o entries) k
      → Contains entries k ⊎ ((e : Kept) × (entry_of page entries ≡ Some e) × (k ≡ marked_with point uses e))
  marked-by point uses entries k None is c = inl c
  marked-by point uses entries k (Some e) is c = elim (Contains-cons (marked_with point uses e) (without page entries) k c) [
    | inl same ↦ inr (e, is, sym same)
    | inr later ↦ inl (others-among entries k later)
  ]

  -- an entry behind a mark was there, or is the page's with these numbers
  pub marked-among : (point uses : ℕ) (entries : List Kept) (k : Kept) → Contains (marked page point uses entries) k
      → Contains entries k ⊎ ((e : Kept) × (entry_of page entries ≡ Some e) × (k ≡ marked_with point uses e))
  marked-among point uses entries k = marked-by point uses entries k (entry_of page entries) refl

put-by : (most : ℕ) (new : Kept) (entries : List Kept) (k : Kept) (long : Bool) → is_long new ≡ long → Contains (kept_with most new entries) k → Contains entries k ⊎ (k ≡ new)
put-by most new entries k true is c = inl (rw is at c)
put-by most new entries k false is c =
    let there : Contains (with_entry most new entries) k = rw is at c in
    elim (Contains-cons new (without new.draft.page entries) k (Contains-take most (new ∷ without new.draft.page entries) k there)) [
      | inl same ↦ inr (sym same)
      | inr later ↦ inl (others-among new.draft.page entries k later)
    ]

-- an entry behind a `put` was there, or is the new one
pub put-among : (most : ℕ) (new : Kept) (entries : List Kept) (k : Kept) → Contains (kept_with most new entries) k → Contains entries k ⊎ (k ≡ new)
put-among most new entries k = put-by most new entries k (is_long new) refl

-- ---- the page's entry behind a change of the order

pub found-passes : (page : PageTitle) (entries : List Kept) (k : Kept) → entry_of page entries ≡ Some k → is_of page k ≡ true
found-passes page [] k h = cc
found-passes page (e ∷ entries) k h = elim (cases_Bool (is_of page e)) [
  | inl there ↦
      let first : Some e ≡ Some k = rw there at h in
      let same : e ≡ k = cc in
      subst (λ (x : Kept). is_of page x ≡ true) same there
  | inr missing ↦ found-passes page entries k (rw missing at h)
]

front-found-by : (page : PageTitle) (entries : List Kept) (o : Option Kept) → entry_of page entries ≡ o → entry_of page (option_map_or (λ (x : Kept). x ∷ without page entries) o entries) ≡ o
front-found-by page entries None is = is
front-found-by page entries (Some e) is = let here : is_of page e ≡ true = found-passes page entries e is in rw here refl

pub front-found : (page : PageTitle) (entries : List Kept) → entry_of page (to_front page entries) ≡ entry_of page entries
front-found page entries = front-found-by page entries (entry_of page entries) refl
