-- The entries of a cache by the keys that they are kept under.
use Rattle.std.proofs.Common.{◌≡◌, ℕ, zero, suc, ◌-◌, ◌<◌, ◌≤◌, Bool, true, false, List, [], ◌∷◌, length, take, Option, Some, None, inl, inr, refl, sym, ap, subst, ◌∙◌, arith}
use Rattle.std.proofs.lemmas.Bool.{cases_Bool}
use Rattle.std.specs.Map.{lookup, lookup_entry, remove_entry, set_value}
use Rattle.std.specs.Option.{option_map, option_map_or}
use Rattle.wk_text_rules.specs.Titles.{PageTitle, title_eq}
use Rattle.wk_view_laws.proofs.PlanLemmas.{title_eq-true}
use Rattle.lru.specs.LruCache.{LruCache, promoted, put_entries}
use Rattle.lru.proofs.CallerLemmas.{Contains-lookup_entry, Contains-promoted, Contains-put_entries, Contains-remove_entry}
use Rattle.lru.proofs.Splits.{Contains-cons, Contains-head, Contains-tail}
use Rattle.wk_cache.specs.Entries.{entry_of, is_of, marked, marked_with, to_front, with_entry, without}
use Rattle.wk_cache.specs.Keyed.{AreKeyed, drafts}
use Rattle.wk_cache.specs.declared.kept.Kept.{Kept}

abbrev Entry : Type 0
Entry = PageTitle × Kept

value : Entry → Kept
value e = e.1

keyed-tail : (e : Entry) (es : List Entry) → AreKeyed (e ∷ es) → AreKeyed es
keyed-tail e es h = λ f c. h f (Contains-tail e es f c)

module _ (page : PageTitle) where
  -- an entry is of the page where its key is the page
  by-key : (e : Entry) (es : List Entry) → AreKeyed (e ∷ es) → is_of page e.1 ≡ title_eq page e.0
  by-key e es h = ap (title_eq page) (sym (h e (Contains-head e es)))

  pub entry-found : (es : List Entry) → AreKeyed es → entry_of page (drafts es) ≡ lookup (title_eq page) es
  entry-found [] h = refl
  entry-found (e ∷ es) h = elim (cases_Bool (title_eq page e.0)) [
    | inl there ↦ let here : is_of page e.1 ≡ true = by-key e es h ∙ there in rw (here, there) refl
    | inr missing ↦ let here : is_of page e.1 ≡ false = by-key e es h ∙ missing in rw (here, missing) (entry-found es (keyed-tail e es h))
  ]

  pub pair-found : (es : List Entry) → AreKeyed es → entry_of page (drafts es) ≡ option_map (λ (e : Entry). e.1) (lookup_entry (title_eq page) es)
  pair-found [] h = refl
  pair-found (e ∷ es) h = elim (cases_Bool (title_eq page e.0)) [
    | inl there ↦ let here : is_of page e.1 ≡ true = by-key e es h ∙ there in rw (here, there) refl
    | inr missing ↦ let here : is_of page e.1 ≡ false = by-key e es h ∙ missing in rw (here, missing) (pair-found es (keyed-tail e es h))
  ]

  pub others-found : (es : List Entry) → AreKeyed es → without page (drafts es) ≡ drafts (remove_entry (title_eq page) es)
  others-found [] h = refl
  others-found (e ∷ es) h = elim (cases_Bool (title_eq page e.0)) [
    | inl there ↦ let here : is_of page e.1 ≡ true = by-key e es h ∙ there in rw (here, there) refl
    | inr missing ↦ let here : is_of page e.1 ≡ false = by-key e es h ∙ missing in rw (here, missing) (ap (λ ds. e.1 ∷ ds) (others-found es (keyed-tail e es h)))
  ]

  -- ---- to the front

  front-by : (es : List Entry) (o : Option Entry) → AreKeyed es
      → option_map_or (λ (k : Kept). k ∷ without page (drafts es)) (option_map (λ (e : Entry). e.1) o) (drafts es)
      ≡ drafts (option_map_or (λ (e : Entry). e ∷ remove_entry (title_eq page) es) o es)
  front-by es None h = refl
  front-by es (Some e) h = ap (λ ds. e.1 ∷ ds) (others-found es h)

  pub front-is : (es : List Entry) → AreKeyed es → to_front page (drafts es) ≡ drafts (promoted (title_eq page) es)
  front-is es h =
      ap (λ (o : Option Kept). option_map_or (λ (k : Kept). k ∷ without page (drafts es)) o (drafts es)) (pair-found es h)
      ∙ front-by es (lookup_entry (title_eq page) es) h

  pub front-keyed : (es : List Entry) → AreKeyed es → AreKeyed (promoted (title_eq page) es)
  front-keyed es h = λ e c. h e (Contains-promoted (title_eq page) es e c)

  -- ---- other numbers

  module _ (point uses : ℕ) where
    -- the entries behind a mark, by the pair that was found
    marked-by : (es : List Entry) (o : Option Entry) (k : Kept) → AreKeyed es → lookup_entry (title_eq page) es ≡ o → option_map (λ (e : Entry). e.1) o ≡ Some k
        → option_map_or (λ (x : Kept). marked_with point uses x ∷ without page (drafts es)) (option_map (λ (e : Entry). e.1) o) (drafts es)
        ≡ drafts (set_value (title_eq page) (option_map_or (λ (e : Entry). e ∷ remove_entry (title_eq page) es) o es) (marked_with point uses k))
    marked-by es None k h is found = cc
    marked-by es (Some e) k h is found =
        let same : e.1 ≡ k = (let x : Some e.1 ≡ Some k = found in cc) in
        let passes : title_eq page e.0 ≡ true = (Contains-lookup_entry (title_eq page) es e is).1 in
        rw passes ((λ i. marked_with point uses (same i) ∷ others-found es h i))

    pub marked-is : (es : List Entry) (k : Kept) → AreKeyed es → lookup (title_eq page) es ≡ Some k
        → marked page point uses (drafts es) ≡ drafts (set_value (title_eq page) (promoted (title_eq page) es) (marked_with point uses k))
    marked-is es k h found =
        let there : option_map (λ (e : Entry). e.1) (lookup_entry (title_eq page) es) ≡ Some k = sym (pair-found es h) ∙ (entry-found es h ∙ found) in
        ap (λ (o : Option Kept). option_map_or (λ (x : Kept). marked_with point uses x ∷ without page (drafts es)) o (drafts es)) (pair-found es h)
        ∙ marked-by es (lookup_entry (title_eq page) es) k h refl there

    keyed-by : (es : List Entry) (o : Option Entry) (k : Kept) → AreKeyed es → lookup_entry (title_eq page) es ≡ o → option_map (λ (e : Entry). e.1) o ≡ Some k
        → AreKeyed (set_value (title_eq page) (option_map_or (λ (e : Entry). e ∷ remove_entry (title_eq page) es) o es) (marked_with point uses k))
    keyed-by es None k h is found = cc
    keyed-by es (Some e) k h is found =
        let same : e.1 ≡ k = (let x : Some e.1 ≡ Some k = found in cc) in
        let was = Contains-lookup_entry (title_eq page) es e is in
        let passes : title_eq page e.0 ≡ true = was.1 in
        rw passes (λ f c. elim (Contains-cons (e.0, marked_with point uses k) (remove_entry (title_eq page) es) f c) [
          | inl first ↦ subst (λ (x : Entry). x.0 ≡ x.1.draft.page) first (h e was.0 ∙ ap (λ (x : Kept). x.draft.page) same)
          | inr later ↦ h f (Contains-remove_entry (title_eq page) es f later)
        ])

    pub marked-keyed : (es : List Entry) (k : Kept) → AreKeyed es → lookup (title_eq page) es ≡ Some k
        → AreKeyed (set_value (title_eq page) (promoted (title_eq page) es) (marked_with point uses k))
    marked-keyed es k h found =
        keyed-by es (lookup_entry (title_eq page) es) k h refl (sym (pair-found es h) ∙ (entry-found es h ∙ found))

-- ---- a new entry

remove-none : (test : PageTitle → Bool) (es : List Entry) → lookup_entry test es ≡ None → remove_entry test es ≡ es
remove-none test [] h = refl
remove-none test (e ∷ es) h = elim (cases_Bool (test e.0)) [
  | inl there ↦ let x : Some e ≡ None = rw there at h in cc
  | inr missing ↦ rw missing (ap (λ l. e ∷ l) (remove-none test es (rw missing at h)))
]

remove-one : (test : PageTitle → Bool) (es : List Entry) (f : Entry) → lookup_entry test es ≡ Some f → suc (length (remove_entry test es)) ≡ length es
remove-one test [] f h = cc
remove-one test (e ∷ es) f h = elim (cases_Bool (test e.0)) [
  | inl there ↦ rw there refl
  | inr missing ↦ rw missing (ap suc (remove-one test es f (rw missing at h)))
]

take-drafts : (n : ℕ) (es : List Entry) → take n (drafts es) ≡ drafts (take n es)
take-drafts zero es = refl
take-drafts (suc n) [] = refl
take-drafts (suc n) (e ∷ es) = ap (λ ds. e.1 ∷ ds) (take-drafts n es)

take-whole : (n : ℕ) (ks : List Kept) → length ks ≤ n → take n ks ≡ ks
take-whole zero [] h = refl
take-whole zero (k ∷ ks) h = absurd (omega arith)
take-whole (suc n) [] h = refl
take-whole (suc n) (k ∷ ks) h = ap (λ l. k ∷ l) (take-whole n ks (omega arith))

length-drafts : (es : List Entry) → length (drafts es) ≡ length es
length-drafts [] = refl
length-drafts (e ∷ es) = ap suc (length-drafts es)

put-by : (cap : ℕ) (es : List Entry) (k : Kept) (o : Option Entry) → AreKeyed es → length es ≤ cap → 0 < cap → lookup_entry (title_eq k.draft.page) es ≡ o
    → with_entry cap k (drafts es) ≡ drafts (option_map_or (λ (e : Entry). (e.0, k) ∷ remove_entry (title_eq k.draft.page) es) o ((k.draft.page, k) ∷ take (cap - 1) es))
put-by zero es k o h fits some is = absurd (omega arith)
put-by (suc n) es k None h fits some is =
    let one : suc n - 1 ≡ n = omega arith in
    rw one (ap (λ ds. k ∷ take n ds) (others-found k.draft.page es h ∙ ap drafts (remove-none (title_eq k.draft.page) es is)) ∙ ap (λ ds. k ∷ ds) (take-drafts n es))
put-by (suc n) es k (Some e) h fits some is =
    let fewer = remove-one (title_eq k.draft.page) es e is in
    let same = length-drafts (remove_entry (title_eq k.draft.page) es) in
    ap (λ ds. k ∷ take n ds) (others-found k.draft.page es h) ∙ ap (λ ds. k ∷ ds) (take-whole n (drafts (remove_entry (title_eq k.draft.page) es)) (omega arith))

pub put-is : (cache : LruCache PageTitle Kept) (page : PageTitle) (k : Kept) → AreKeyed cache.entries → length cache.entries ≤ cache.cap → 0 < cache.cap → page ≡ k.draft.page
    → with_entry cache.cap k (drafts cache.entries) ≡ drafts (put_entries title_eq cache page k)
put-is cache page k h fits some is =
    put-by cache.cap cache.entries k (lookup_entry (title_eq k.draft.page) cache.entries) h fits some refl
    ∙ ap (λ (p : PageTitle). drafts (put_entries title_eq cache p k)) (sym is)

pub put-keyed : (cache : LruCache PageTitle Kept) (page : PageTitle) (k : Kept) → AreKeyed cache.entries → page ≡ k.draft.page → AreKeyed (put_entries title_eq cache page k)
put-keyed cache page k h is = λ e c. elim (Contains-put_entries title_eq cache page k e c) [
  | inl before ↦ h e before
  | inr put ↦ elim put.1 [
    | inl same ↦ same ∙ is ∙ ap (λ (x : Kept). x.draft.page) (sym put.0)
    | inr other ↦ sym (title_eq-true page e.0 other.2) ∙ is ∙ ap (λ (x : Kept). x.draft.page) (sym put.0)
  ]
]
