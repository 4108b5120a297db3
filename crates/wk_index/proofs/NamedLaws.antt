-- A set of keys with one more, or one less.
use Rattle.std.proofs.Common.{◌≡◌, ℕ, suc, ◌+◌, ◌<◌, Bool, true, false, cond, eqb, ◌&&◌, ◌||◌, List, [], ◌∷◌, ◌++◌, length, take, get_or, Option, Some, None, refl, sym, ap, ◌∙◌, subst, inl, inr, arith}
use Rattle.std.specs.BTreeMap.{BTreeMap, get}
use Rattle.std.specs.BTreeSet.{BTreeSet}
use Rattle.std.specs.List.{list_any}
use Rattle.std.specs.Ordering.{is_eq, nat_cmp}
use Rattle.std.specs.declared.cmp.Ordering.{Ordering}
use Rattle.std.proofs.lemmas.Bool.{cases_Bool, and_parts, eqb-true, eq-eqb, false≢true}
use Rattle.std.proofs.lemmas.List.{take_more}
use Rattle.std.proofs.lemmas.List.Folds.{list_any-append}
use Rattle.wk_text_rules.specs.Titles.{PageTitle, title_cmp, title_eq}
use Rattle.wk_page_rules.specs.PageRows.{PageRows}
use Rattle.wk_good_rows.proofs.Sets.{same-title}
use Rattle.wk_index.specs.declared.named.Kind.{Kind}
use Rattle.wk_index.specs.Named.{KeptIn, Kept, Sets, Spares, SparesAt, SparesIn, has, has_at, is_in, is_in_found, lists}
use Rattle.wk_index.proofs.FindsLaws.{or-left, or-parts, or-right}
use Rattle.wk_index.proofs.PagesLaws.{is_eq-nat_cmp}
use Rattle.wk_index.proofs.TitleLaws.{title_eq-true, title_eq-same}

-- which keys the set has after a change of one
abbrev pub ChangesBy : {K : Type 0} → (K → K → Ordering) → List K → List K → K → Bool → Type 0
ChangesBy {K} cmp old new changed there = (q : K) → list_any (λ k. is_eq (cmp q k)) new ≡ cond (is_eq (cmp changed q)) there (list_any (λ k. is_eq (cmp q k)) old)

-- How keys are made of what a page is found by and of its number, and when two are one key.
pub record AreKeys {X K : Type 0} (cmp : K → K → Ordering) (key : X → ℕ → K) (same : X → X → Bool) (finds : List K → X → ℕ → Bool) : Type 0 where
  pub contains : (keys : List K) (x : X) (page : ℕ) → list_any (λ k. is_eq (cmp (key x page) k)) keys ≡ finds keys x page
  pub one : (x other : X) (page number : ℕ) → is_eq (cmp (key x page) (key other number)) ≡ (same other x && eqb number page)
  pub itself : (x : X) → same x x ≡ true
  pub equal : (other x : X) → same other x ≡ true → other ≡ x

module _ {X K : Type 0} (cmp : K → K → Ordering) (key_of : X → ℕ → K) (same : X → X → Bool) (finds : List K → X → ℕ → Bool) (are : AreKeys cmp key_of same finds) where
  changed-finds : (old new : List K) (x : X) (page : ℕ) (there : Bool) → ChangesBy cmp old new (key_of x page) there
      → (other : X) (number : ℕ) → finds new other number ≡ cond (same other x && eqb number page) there (finds old other number)
  changed-finds old new x page there changes other number =
      sym (are.contains new other number) ∙ changes (key_of other number)
      ∙ ap (λ b. cond b there (list_any (λ k. is_eq (cmp (key_of other number) k)) old)) (are.one x other page number)
      ∙ ap (λ b. cond (same other x && eqb number page) there b) (are.contains old other number)

  pub added-in : (old new : List K) (x : X) (page : ℕ) → ChangesBy cmp old new (key_of x page) true → finds new x page ≡ true
  added-in old new x page changes =
      changed-finds old new x page true changes x page ∙ (rw (are.itself x, eq-eqb page page refl) refl)

  pub kept-in : (old new : List K) (x : X) (page : ℕ) → ChangesBy cmp old new (key_of x page) true → KeptIn finds old new
  kept-in old new x page changes other number before =
      changed-finds old new x page true changes other number
      ∙ ap (λ b. cond (same other x && eqb number page) true b) before
      ∙ always (same other x && eqb number page)
    where
      always : (b : Bool) → cond b true true ≡ true
      always true = refl
      always false = refl

  pub spares-in : (passes : PageRows → X → Bool) (rows : PageRows) (old new : List K) (x : X) (page : ℕ) → ChangesBy cmp old new (key_of x page) false → passes rows x ≡ false → SparesIn passes finds rows page old new
  spares-in passes rows old new x page changes gone other number own before =
      elim (cases_Bool (same other x && eqb number page)) [
        | inl both ↦
            let parts = and_parts (same other x) (eqb number page) both in
            let still : passes rows other ≡ true = own (eqb-true number page parts.1) in
            absurd (false≢true (sym gone ∙ ap (λ y. passes rows y) (sym (are.equal other x parts.0)) ∙ still))
        | inr apart ↦
            changed-finds old new x page false changes other number
            ∙ ap (λ b. cond b false (finds old other number)) apart
            ∙ before
      ]

-- what is among the first items and one more
any-more : {T : Type 0} (q : T → Bool) (xs : List T) (i : ℕ) (x : T) → i < length xs → x ≡ get_or xs i x → list_any q (take (i + 1) xs) ≡ (list_any q (take i xs) || (q x || false))
any-more q xs i x within here =
    ap (list_any q) (take_more xs i x within ∙ ap (λ y. take i xs ++ y ∷ []) (sym here)) ∙ list_any-append q (take i xs) (x ∷ [])

-- one more item is found
pub found-more_in : {T X S : Type 0} (finds : S → X → ℕ → Bool) (test : X → T → Bool) (name : T → X) → ((x : X) (item : T) → test x item ≡ true → x ≡ name item)
    → (items : List T) (i : ℕ) (item : T) (page : ℕ) (old new : S)
    → i < length items → item ≡ get_or items i item → finds new (name item) page ≡ true → KeptIn finds old new
    → ((x : X) → list_any (test x) (take i items) ≡ true → finds old x page ≡ true)
    → (x : X) → list_any (test x) (take (i + 1) items) ≡ true → finds new x page ≡ true
found-more_in finds test name is_name items i item page old new within here there kept before x among =
    elim (or-parts (list_any (test x) (take i items)) (test x item || false) (sym (any-more (test x) items i item within here) ∙ among)) [
      | inl earlier ↦ kept x page (before x earlier)
      | inr last ↦ elim (or-parts (test x item) false last) [
        | inl same ↦ subst (λ y. finds new y page ≡ true) (sym (is_name x item same)) there
        | inr none ↦ absurd (false≢true none)
      ]
    ]

-- ---- titles, each with its pages

-- Maps in which the pages of a title stand at its place.
module _ {P S : Type 0} (cmp : P → P → Ordering) (place : PageTitle → P) (pages_of : S → List ℕ) (one : (a b : PageTitle) → is_eq (cmp (place a) (place b)) ≡ title_eq b a) where
  -- the map has this at the place of the title, if anything, and elsewhere what it had
  abbrev pub PutsAt : BTreeMap P S → BTreeMap P S → PageTitle → Option S → Type 0
  PutsAt old new title now = (q : P) → get cmp new q ≡ cond (is_eq (cmp (place title) q)) now (get cmp old q)

  put-finds : (old new : BTreeMap P S) (title : PageTitle) (now : Option S) → PutsAt old new title now
      → (other : PageTitle) (page : ℕ) → has_at cmp place pages_of new other page ≡ cond (title_eq other title) (is_in_found pages_of now page) (has_at cmp place pages_of old other page)
  put-finds old new title now puts other page =
      ap (λ o. is_in_found pages_of o page) (puts (place other) ∙ ap (λ b. cond b now (get cmp old (place other))) (one title other))
      ∙ either (title_eq other title)
    where
      either : (b : Bool) → is_in_found pages_of (cond b now (get cmp old (place other))) page ≡ cond b (is_in_found pages_of now page) (is_in_found pages_of (get cmp old (place other)) page)
      either true = refl
      either false = refl

  pub put-there : (old new : BTreeMap P S) (title : PageTitle) (now : Option S) → PutsAt old new title now
      → (page : ℕ) → is_in_found pages_of now page ≡ true → has_at cmp place pages_of new title page ≡ true
  put-there old new title now puts page there = put-finds old new title now puts title page ∙ (rw (title_eq-same title) there)

  -- all but one page that were found by the title are found still
  pub put-spares : (old new : BTreeMap P S) (title : PageTitle) (now : Option S) (page : ℕ) → PutsAt old new title now
      → ((number : ℕ) → eqb number page ≡ false → is_in_found pages_of (get cmp old (place title)) number ≡ true → is_in_found pages_of now number ≡ true)
      → (other : PageTitle) (number : ℕ) → (title_eq other title && eqb number page) ≡ false → has_at cmp place pages_of old other number ≡ true → has_at cmp place pages_of new other number ≡ true
  put-spares old new title now page puts stay other number apart before =
      elim (cases_Bool (title_eq other title)) [
        | inl same ↦
            put-finds old new title now puts other number
            ∙ ap (λ b. cond b (is_in_found pages_of now number) (has_at cmp place pages_of old other number)) same
            ∙ stay number (sym (ap (λ b. b && eqb number page) same) ∙ apart) (sym (ap (λ t. has_at cmp place pages_of old t number) (title_eq-true other title same)) ∙ before)
        | inr off ↦
            put-finds old new title now puts other number
            ∙ ap (λ b. cond b (is_in_found pages_of now number) (has_at cmp place pages_of old other number)) off
            ∙ before
      ]

  pub put-kept : (old new : BTreeMap P S) (title : PageTitle) (now : Option S) → PutsAt old new title now
      → ((number : ℕ) → is_in_found pages_of (get cmp old (place title)) number ≡ true → is_in_found pages_of now number ≡ true)
      → KeptIn (has_at cmp place pages_of) old new
  put-kept old new title now puts stay other number before =
      elim (cases_Bool (title_eq other title)) [
        | inl same ↦
            put-finds old new title now puts other number
            ∙ ap (λ b. cond b (is_in_found pages_of now number) (has_at cmp place pages_of old other number)) same
            ∙ stay number (sym (ap (λ t. has_at cmp place pages_of old t number) (title_eq-true other title same)) ∙ before)
        | inr off ↦
            put-finds old new title now puts other number
            ∙ ap (λ b. cond b (is_in_found pages_of now number) (has_at cmp place pages_of old other number)) off
            ∙ before
      ]

  -- a title that had no pages
  pub put-new : (old new : BTreeMap P S) (title : PageTitle) (now : S) → get cmp old (place title) ≡ None → PutsAt old new title (Some now) → KeptIn (has_at cmp place pages_of) old new
  put-new old new title now none puts =
      put-kept old new title (Some now) puts (λ number before. absurd (false≢true (sym (ap (λ o. is_in_found pages_of o number) none) ∙ before)))

  -- a title that had other pages
  pub put-more : (old new : BTreeMap P S) (title : PageTitle) (had now : S) → get cmp old (place title) ≡ Some had → PutsAt old new title (Some now)
      → ((number : ℕ) → is_in number (pages_of had) ≡ true → is_in number (pages_of now) ≡ true) → KeptIn (has_at cmp place pages_of) old new
  put-more old new title had now here puts stay =
      put-kept old new title (Some now) puts (λ number before. stay number (sym (ap (λ o. is_in_found pages_of o number) here) ∙ before))

-- ---- the pages of one title

-- a set with one page more
pub page-added : (old new : List ℕ) (page : ℕ) → ((q : ℕ) → is_in q new ≡ cond (is_eq (nat_cmp page q)) true (is_in q old)) → (is_in page new ≡ true) × ((q : ℕ) → is_in q old ≡ true → is_in q new ≡ true)
page-added old new page updates = (
  updates page ∙ ap (λ b. cond b true (is_in page old)) (is_eq-nat_cmp page page ∙ eq-eqb page page refl),
  λ q before. updates q ∙ ap (λ b. cond (is_eq (nat_cmp page q)) true b) before ∙ always (is_eq (nat_cmp page q)),
)
  where
    always : (b : Bool) → cond b true true ≡ true
    always true = refl
    always false = refl

-- a set with one page less
pub page-removed : (old new : List ℕ) (page : ℕ) → ((q : ℕ) → is_in q new ≡ cond (is_eq (nat_cmp page q)) false (is_in q old)) → (q : ℕ) → eqb q page ≡ false → is_in q old ≡ true → is_in q new ≡ true
page-removed old new page updates q apart before =
    updates q ∙ ap (λ b. cond b false (is_in q old)) (is_eq-nat_cmp page q ∙ apart) ∙ before

pub alone : (page : ℕ) → is_in page (page ∷ []) ≡ true
alone page = rw (is_eq-nat_cmp page page, eq-eqb page page refl) refl

-- a list with one page more
pub page-pushed : (old : List ℕ) (page : ℕ) → (is_in page (old ++ page ∷ []) ≡ true) × ((q : ℕ) → is_in q old ≡ true → is_in q (old ++ page ∷ []) ≡ true)
page-pushed old page = (
  list_any-append (λ k. is_eq (nat_cmp page k)) old (page ∷ []) ∙ or-right (is_in page old) (is_in page (page ∷ [])) (alone page),
  λ q before. list_any-append (λ k. is_eq (nat_cmp q k)) old (page ∷ []) ∙ or-left (is_in q old) (is_in q (page ∷ [])) before,
)

-- ---- the same of titles

pub title-there : (old new : Sets) (title : PageTitle) (now : BTreeSet ℕ) → ((q : PageTitle) → get title_cmp new q ≡ cond (is_eq (title_cmp title q)) (Some now) (get title_cmp old q))
    → (page : ℕ) → is_in page now.keys ≡ true → has new title page ≡ true
title-there old new title now = put-there title_cmp (λ (t : PageTitle). t) (λ (s : BTreeSet ℕ). s.keys) same-title old new title (Some now)

pub title-new : (old new : Sets) (title : PageTitle) (now : BTreeSet ℕ) → get title_cmp old title ≡ None → ((q : PageTitle) → get title_cmp new q ≡ cond (is_eq (title_cmp title q)) (Some now) (get title_cmp old q)) → Kept old new
title-new = put-new title_cmp (λ (t : PageTitle). t) (λ (s : BTreeSet ℕ). s.keys) same-title

pub title-more : (old new : Sets) (title : PageTitle) (had now : BTreeSet ℕ) → get title_cmp old title ≡ Some had → ((q : PageTitle) → get title_cmp new q ≡ cond (is_eq (title_cmp title q)) (Some now) (get title_cmp old q))
    → ((number : ℕ) → is_in number had.keys ≡ true → is_in number now.keys ≡ true) → Kept old new
title-more = put-more title_cmp (λ (t : PageTitle). t) (λ (s : BTreeSet ℕ). s.keys) same-title

pub title-spares : (old new : Sets) (title : PageTitle) (had now : BTreeSet ℕ) (page : ℕ) → get title_cmp old title ≡ Some had → ((q : PageTitle) → get title_cmp new q ≡ cond (is_eq (title_cmp title q)) (Some now) (get title_cmp old q))
    → ((number : ℕ) → eqb number page ≡ false → is_in number had.keys ≡ true → is_in number now.keys ≡ true) → SparesAt title page old new
title-spares old new title had now page here puts stay =
    put-spares title_cmp (λ (t : PageTitle). t) (λ (s : BTreeSet ℕ). s.keys) same-title old new title (Some now) page puts
    (λ number apart before. stay number apart (sym (ap (λ o. is_in_found (λ (s : BTreeSet ℕ). s.keys) o number) here) ∙ before))

-- a title without pages is taken away
pub title-gone : (old new : Sets) (title : PageTitle) (had : BTreeSet ℕ) → get title_cmp old title ≡ Some had → had.keys ≡ [] → ((q : PageTitle) → get title_cmp new q ≡ cond (is_eq (title_cmp title q)) None (get title_cmp old q)) → Kept old new
title-gone old new title had here empty puts =
    put-kept title_cmp (λ (t : PageTitle). t) (λ (s : BTreeSet ℕ). s.keys) same-title old new title None puts
    (λ number before. absurd (false≢true (sym (ap (is_in number) empty) ∙ (sym (ap (λ o. is_in_found (λ (s : BTreeSet ℕ). s.keys) o number) here) ∙ before))))

-- what the rows don't have may be found no longer
pub dropped-spares : (kind : Kind) (rows : PageRows) (old between new : Sets) (title : PageTitle) (page : ℕ) → lists kind rows title ≡ false → SparesAt title page old between → Kept between new → Spares kind rows page old new
dropped-spares kind rows old between new title page gone spares kept other number own before =
    kept other number (elim (cases_Bool (title_eq other title && eqb number page)) [
      | inl both ↦
          let parts = and_parts (title_eq other title) (eqb number page) both in
          let still : lists kind rows other ≡ true = own (eqb-true number page parts.1) in
          absurd (false≢true (sym gone ∙ ap (λ y. lists kind rows y) (sym (title_eq-true other title parts.0)) ∙ still))
      | inr apart ↦ spares other number apart before
    ])

pub found-more : (titles : List PageTitle) (i : ℕ) (title : PageTitle) (page : ℕ) (old new : Sets)
    → i < length titles → title ≡ get_or titles i title → has new title page ≡ true → Kept old new
    → ((t : PageTitle) → list_any (title_eq t) (take i titles) ≡ true → has old t page ≡ true)
    → (t : PageTitle) → list_any (title_eq t) (take (i + 1) titles) ≡ true → has new t page ≡ true
found-more = found-more_in has title_eq (λ t. t) title_eq-true

pub pages-more : (pages : List ℕ) (i : ℕ) (title : PageTitle) (old new : Sets)
    → i < length pages → has new title (get_or pages i 0) ≡ true → Kept old new
    → ((p : ℕ) → is_in p (take i pages) ≡ true → has old title p ≡ true)
    → (p : ℕ) → is_in p (take (i + 1) pages) ≡ true → has new title p ≡ true
pages-more pages i title old new within there kept before p among =
    let page = get_or pages i 0 in
    let split : is_in p (take (i + 1) pages) ≡ (is_in p (take i pages) || is_in p (page ∷ [])) =
    ap (is_in p) (take_more pages i 0 within) ∙ list_any-append (λ k. is_eq (nat_cmp p k)) (take i pages) (page ∷ []) in
    elim (or-parts (is_in p (take i pages)) (is_in p (page ∷ [])) (sym split ∙ among)) [
      | inl earlier ↦ kept title p (before p earlier)
      | inr last ↦ elim (or-parts (is_eq (nat_cmp p page)) false last) [
        | inl same ↦ subst (λ y. has new title y ≡ true) (eqb-true page p (sym (is_eq-nat_cmp p page) ∙ same)) there
        | inr none ↦ absurd (false≢true none)
      ]
    ]

pub no-pages : (pages : List ℕ) → length pages ≡ 0 → pages ≡ []
no-pages [] none = refl
no-pages (page ∷ pages) none = absurd (let fails : suc (length pages) ≡ 0 = none in omega arith)
