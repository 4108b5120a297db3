-- What the entries of a map from titles say of a list of pages.
use Rattle.std.proofs.Common.{◌≡◌, ℕ, ◌+◌, ◌<◌, ◌≤◌, Bool, true, false, not, cond, List, [], ◌∷◌, ◌++◌, length, map, filter, get_or, slice_get, Option, Some, None, refl, sym, ap, ap₂, ◌∙◌, subst, max, ◌⊎◌, inl, inr, arith, if◌then◌else◌}
use Rattle.std.specs.Prelude.{◌==◌, nat_lt, unwrap_or, option_map, find, position}
use Rattle.std.specs.List.{enumerate_from, position_or_len}
use Rattle.std.specs.Map.{keys_of, lookup}
use Rattle.std.proofs.lemmas.Bool.{cases_Bool, cases_lt}
use Rattle.std.proofs.lemmas.Bool.Decides.{same_from_decides}
use Rattle.std.proofs.lemmas.Cmp.{int_eq_equiv}
use Rattle.std.proofs.lemmas.List.{length-map}
use Rattle.std.proofs.lemmas.List.Sums.{count_by-le-length, length-filter, prefix_len-le-length}
use Rattle.std.proofs.lemmas.Map.Entries.{length-keys_of}
use Rattle.std.proofs.lemmas.Option.{slice_get_cases}
use Rattle.std.proofs.lemmas.Slice.Eq.{bytes_eq-Decides}
use Rattle.std.specs.Prelude.{bytes_eq}
use borrow.Author.Tests.{ltb-false, ltb-true}
use Rattle.indexmap.specs.IndexMap.{insert_entry}
use Rattle.wk_text_rules.specs.Titles.{PageTitle, title_eq}
use Rattle.wk_page_rules.specs.History.{History, Page, current_revision, page_number, page_to_save, with_current}
use Rattle.wk_wiki_rules.specs.Revisions.{count_existing}
use Rattle.wk_revs.specs.Revs.{existence, existing_in, of_pages, page_of_entry, pages_of}

bytes_eq_comm : (xs ys : List ℕ) → bytes_eq xs ys ≡ bytes_eq ys xs
bytes_eq_comm xs ys =
    same_from_decides {P = xs ≡ ys} _ _ (bytes_eq-Decides xs ys)
    (λ t. sym ((bytes_eq-Decides ys xs).0 t), λ e. (bytes_eq-Decides ys xs).1 (sym e))

pub title_eq_comm : (a b : PageTitle) → title_eq a b ≡ title_eq b a
title_eq_comm a b = rw (int_eq_equiv.symm a.ns b.ns, bytes_eq_comm a.key b.key) refl

-- a place at which something stands is one of the list's
pub place_within : {X : Type 0} (xs : List X) (i : ℕ) (x : X) → slice_get xs i ≡ Some x → i < length xs
place_within {X} xs i x is = by_cases (slice_get_cases xs i).1
  where
    by_cases : ((y : X) × (i < length xs) × (slice_get xs i ≡ Some y) × (get_or xs i y ≡ y)) ⊎ ((length xs ≤ i) × (slice_get xs i ≡ None)) → i < length xs
    by_cases (inl (y, l, some, g)) = l
    by_cases (inr (g, none)) = let bad : Some x ≡ None = sym is ∙ none in absurd (cc bad)

abbrev is_of : PageTitle → Page → Bool
is_of title page = title_eq page.title title

module _ (title : PageTitle) (test : PageTitle → Bool) (same : (key : PageTitle) → title_eq key title ≡ test key) where
  -- the entry of the title has its page's current revision
  found-entry : (es : List (PageTitle × ℕ)) → option_map (λ (page : Page). page.current) (find (is_of title) (pages_of es)) ≡ lookup test es
  found-entry [] = refl
  found-entry (e ∷ es) = elim (cases_Bool (test e.0)) [
    | inl there ↦ let here : title_eq e.0 title ≡ true = same e.0 ∙ there in rw (here, there) refl
    | inr missing ↦ let absent : title_eq e.0 title ≡ false = same e.0 ∙ missing in rw (absent, missing) (found-entry es)
  ]

  -- and its place
  first-entry : (es : List (PageTitle × ℕ)) → position_or_len (is_of title) (pages_of es) ≡ position_or_len test (keys_of es)
  first-entry [] = refl
  first-entry (e ∷ es) = elim (cases_Bool (test e.0)) [
    | inl there ↦ let here : title_eq e.0 title ≡ true = same e.0 ∙ there in rw (here, there) refl
    | inr missing ↦ let absent : title_eq e.0 title ≡ false = same e.0 ∙ missing in rw (absent, missing) (ap (λ n. 1 + n) (first-entry es))
  ]

place_by : ℕ → ℕ → Option ℕ
place_by place count = cond (nat_lt place count) (Some place) None

number_by : (place count : ℕ) → place ≤ count → unwrap_or (option_map (λ x. x + 1) (place_by place count)) (count + 1) ≡ place + 1
unfolding place_by
number_by place count within = elim (cases_Bool (nat_lt place count)) [
  | inl inside ↦ rw inside refl
  | inr behind ↦ let e : place ≡ count = omega (arith, within, ltb-false place count behind) in rw behind (ap (λ n. n + 1) (sym e))
]

module _ (title : PageTitle) (test : PageTitle → Bool) (same : (key : PageTitle) → title_eq key title ≡ test key) (es : List (PageTitle × ℕ)) where
  -- the current revision is that of the title's entry
  pub current-entry : current_revision (of_pages (pages_of es)) title ≡ unwrap_or (lookup test es) 0
  current-entry = ap (λ o. unwrap_or o 0) (found-entry title test same es)

  pub place-entry : position (is_of title) (pages_of es) ≡ position test (keys_of es)
  unfolding place_by
  place-entry = ap₂ place_by (first-entry title test same es) (length-map es page_of_entry ∙ sym (length-keys_of es))

  -- the page's number is that of the title's place
  pub number-entry : page_number (of_pages (pages_of es)) title ≡ option_map (λ place. place + 1) (position test (keys_of es))
  number-entry = ap (option_map (λ place. place + 1)) place-entry

  -- the number that the page has or would get
  pub number-to-save : page_to_save (of_pages (pages_of es)) title ≡ position_or_len test (keys_of es) + 1
  unfolding place_by
  number-to-save =
      let within : position_or_len test (keys_of es) ≤ length es = omega (arith, prefix_len-le-length (λ k. not (test k)) (keys_of es), length-keys_of es) in
      let place : page_number (of_pages (pages_of es)) title ≡ option_map (λ x. x + 1) (place_by (position_or_len test (keys_of es)) (length es)) =
      number-entry ∙ ap (λ n. option_map (λ x. x + 1) (place_by (position_or_len test (keys_of es)) n)) (length-keys_of es) in
      ap₂ (λ (o : Option ℕ) (n : ℕ). unwrap_or o (n + 1)) place (length-map es page_of_entry) ∙ number_by (position_or_len test (keys_of es)) (length es) within

less_by : (a b : ℕ) → b ≤ a → nat_lt a b ≡ false
less_by a b l = elim (cases_Bool (nat_lt a b)) [ inl t ↦ absurd (omega (arith, l, ltb-true a b t)) | inr f ↦ f ]

module _ (title : PageTitle) (test : PageTitle → Bool) (same : (key : PageTitle) → title_eq key title ≡ test key) (es : List (PageTitle × ℕ)) where
  -- a title whose place is the end has no page
  absent-entry : length es ≤ position_or_len test (keys_of es) → page_number (of_pages (pages_of es)) title ≡ None
  unfolding place_by
  absent-entry l =
      let behind : nat_lt (position_or_len test (keys_of es)) (length (keys_of es)) ≡ false =
      less_by _ _ (omega (arith, l, length-keys_of es)) in
      number-entry title test same es
      ∙ ap (λ b. option_map (λ x. x + 1) (cond b (Some (position_or_len test (keys_of es))) None)) behind

  -- a page more is within the limit
  pub few-entries : (limit place : ℕ) → place ≡ position_or_len test (keys_of es) → length es ≤ limit
      → (page_number (of_pages (pages_of es)) title ≡ None → length es < limit) → max (length es) (place + 1) ≤ limit
  few-entries limit place is within fits = elim (cases_lt place (length es)) [
    | inl l ↦ omega (arith, l, within)
    | inr l ↦
        let inside : position_or_len test (keys_of es) ≤ length es = omega (arith, prefix_len-le-length (λ k. not (test k)) (keys_of es), length-keys_of es) in
        omega (arith, is, inside, fits (absent-entry (omega (arith, l, is))))
  ]

-- ---- a page gets a current revision

module _ (eq : PageTitle → PageTitle → Bool) (title : PageTitle) (number : ℕ) (same : (key : PageTitle) → title_eq key title ≡ eq title key) where
  pub put-entry : (es : List (PageTitle × ℕ)) → pages_of (insert_entry eq es title number) ≡ with_current (pages_of es) title number
  put-entry [] = refl
  put-entry (e ∷ es) = elim (cases_Bool (eq title e.0)) [
    | inl there ↦ let here : title_eq e.0 title ≡ true = same e.0 ∙ there in rw (here, there) refl
    | inr missing ↦
        let absent : title_eq e.0 title ≡ false = same e.0 ∙ missing in
        rw (absent, missing) (ap (λ later. page_of_entry e ∷ later) (put-entry es))
  ]

-- a new title goes to the end, and no other place is new
pub length-put : (eq : PageTitle → PageTitle → Bool) (title : PageTitle) (number : ℕ) (es : List (PageTitle × ℕ)) →
    length (insert_entry eq es title number) ≡ max (length es) (position_or_len (eq title) (keys_of es) + 1)
length-put eq title number [] = refl
length-put eq title number (e ∷ es) = elim (cases_Bool (eq title e.0)) [
  | inl there ↦ rw there (omega arith)
  | inr missing ↦ rw missing (omega (arith, length-put eq title number es))
]

count-step : {X : Type 0} (b : Bool) (x : X) (xs : List X) (n : ℕ) → length xs ≡ n → length (cond b (x ∷ xs) xs) ≡ cond b 1 0 + n
count-step true x xs n is = omega (arith, is)
count-step false x xs n is = omega (arith, is)

existing-cons : (e : PageTitle × ℕ) (es : List (PageTitle × ℕ)) → existing_in (e ∷ es) ≡ existence e.1 + existing_in es
existing-cons e es = count-step (not (e.1 == 0)) e (filter (λ (entry : PageTitle × ℕ). not (entry.1 == 0)) es) (existing_in es) refl

pub existing_within : (es : List (PageTitle × ℕ)) → existing_in es ≤ length es
existing_within es = omega (arith, length-filter (λ (e : PageTitle × ℕ). not (e.1 == 0)) es, count_by-le-length (λ (e : PageTitle × ℕ). not (e.1 == 0)) es)

first_within : (a b n : ℕ) → n ≡ a + b → a ≤ n
first_within a b n is = omega (arith, is)

later_within : (a b n x : ℕ) → n ≡ a + b → x ≤ b → x ≤ n
later_within a b n x is l = omega (arith, is, l)

put_none : (new all : ℕ) → all ≡ new + 0 → all + 0 ≡ 0 + new
put_none new all is = omega (arith, is)

put_there : (old new rest all changed : ℕ) → all ≡ old + rest → changed ≡ new + rest → changed + old ≡ all + new
put_there old new rest all changed is after = omega (arith, is, after)

put_later : (first rest later old new all changed : ℕ) → all ≡ first + rest → changed ≡ first + later → later + old ≡ rest + new → changed + old ≡ all + new
put_later first rest later old new all changed is after step = omega (arith, is, after, step)

module _ (eq : PageTitle → PageTitle → Bool) (title : PageTitle) where
  -- a page that exists is counted
  existing-found : (es : List (PageTitle × ℕ)) → existence (unwrap_or (lookup (eq title) es) 0) ≤ existing_in es
  existing-found [] = omega arith
  existing-found (e ∷ es) = elim (cases_Bool (eq title e.0)) [
    | inl there ↦ rw there (first_within (existence e.1) (existing_in es) (existing_in (e ∷ es)) (existing-cons e es))
    | inr missing ↦
        rw missing
        (later_within (existence e.1) (existing_in es) (existing_in (e ∷ es)) (existence (unwrap_or (lookup (eq title) es) 0)) (existing-cons e es) (existing-found es))
  ]

  -- the count changes with the one page
  pub existing-put : (number : ℕ) (es : List (PageTitle × ℕ)) →
      existing_in (insert_entry eq es title number) + existence (unwrap_or (lookup (eq title) es) 0) ≡ existing_in es + existence number
  existing-put number [] = put_none (existence number) (existing_in ((title, number) ∷ [])) (existing-cons (title, number) [])
  existing-put number (e ∷ es) = elim (cases_Bool (eq title e.0)) [
    | inl there ↦
        rw there
        (put_there (existence e.1) (existence number) (existing_in es) (existing_in (e ∷ es)) (existing_in ((e.0, number) ∷ es))
        (existing-cons e es) (existing-cons (e.0, number) es))
    | inr missing ↦
        rw missing
        (put_later (existence e.1) (existing_in es) (existing_in (insert_entry eq es title number)) (existence (unwrap_or (lookup (eq title) es) 0)) (existence number)
        (existing_in (e ∷ es)) (existing_in (e ∷ insert_entry eq es title number))
        (existing-cons e es) (existing-cons e (insert_entry eq es title number)) (existing-put number es))
  ]

-- a page that exists now is counted
pub existing_least : (title : PageTitle) (es : List (PageTitle × ℕ)) → existence (current_revision (of_pages (pages_of es)) title) ≤ existing_in es
existing_least title es =
    subst (λ n. existence n ≤ existing_in es) (sym (current-entry title (title_eq title) (λ key. title_eq_comm key title) es))
    (existing-found title_eq title es)

existing-from : (k : ℕ) (es : List (PageTitle × ℕ)) → length (filter (λ (p : ℕ × Page). not (p.1.current == 0)) (enumerate_from k (pages_of es))) ≡ existing_in es
existing-from k [] = refl
existing-from k (e ∷ es) =
    count-step (not (e.1 == 0)) (k, page_of_entry e) (filter (λ (p : ℕ × Page). not (p.1.current == 0)) (enumerate_from (k + 1) (pages_of es))) (existing_in es) (existing-from (k + 1) es)
    ∙ sym (existing-cons e es)

-- the pages that exist are counted
pub existing_is : (h : History) (es : List (PageTitle × ℕ)) → h.pages ≡ pages_of es → count_existing h ≡ existing_in es
existing_is h es is = ap (λ pages. length (filter (λ (p : ℕ × Page). not (p.1.current == 0)) (enumerate_from 1 pages))) is ∙ existing-from 1 es
