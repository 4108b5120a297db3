-- The edits that queue refresh jobs of pages, one page more at a time.
use Rattle.std.proofs.Common.{◌≡◌, ℕ, zero, suc, ◌+◌, ◌≤◌, ◌<◌, false, eqb, ◌||◌, List, [], ◌∷◌, ◌++◌, length, take, get_or, refl, sym, ap, ◌∙◌, inl, inr, arith}
use Rattle.std.specs.Prelude.{AllPairs}
use Rattle.std.specs.List.{AllByRecursion, range_with_len}
use Rattle.std.proofs.Math.Bool.{or-false}
use Rattle.std.proofs.lemmas.Bool.{cases_Bool, ne_eqb}
use Rattle.std.proofs.lemmas.List.{append-nil, append_assoc, take_more}
use Rattle.std.proofs.lemmas.List.FromFn.{get_or-range_with_len, length-range_with_len}
use Rattle.std.proofs.lemmas.List.Sums.{fold-append}
use Rattle.wk_text_rules.specs.Titles.{PageTitle}
use Rattle.wk_wiki_rules.specs.Jobs.{JobLists, has_refresh, refresh_queued}
use Rattle.wk_wiki_rules.specs.Steps.{all_queued}
use Rattle.wk_wiki_rules.proofs.JobLemmas.{has_refresh-queued}
use Rattle.wk_wiki_rules.specs.TableChanges.{refresh_edits, refreshes_edits}

-- ---- one page more

edits-push : (t : ℕ → PageTitle) (lists : JobLists) (pages : List ℕ) (page : ℕ) → refreshes_edits t lists (pages ++ page ∷ []) ≡ refreshes_edits t lists pages ++ refresh_edits (all_queued lists pages) page (t page)
edits-push t lists [] page = append-nil (refresh_edits lists page (t page))
edits-push t lists (first ∷ pages) page =
    let own = refresh_edits lists first (t first) in
    let queued = refresh_queued lists first in
    ap (λ later. own ++ later) (edits-push t queued pages page)
    ∙ sym (append_assoc own (refreshes_edits t queued pages) (refresh_edits (all_queued queued pages) page (t page)))

queued-push : (lists : JobLists) (pages : List ℕ) (page : ℕ) → all_queued lists (pages ++ page ∷ []) ≡ refresh_queued (all_queued lists pages) page
queued-push lists pages page = fold-append refresh_queued lists pages (page ∷ [])

-- ---- other pages

kept : (lists : JobLists) (pages : List ℕ) (page : ℕ) → AllByRecursion (λ other. eqb other page ≡ false) pages → has_refresh (all_queued lists pages) page ≡ has_refresh lists page
kept lists [] page others = refl
kept lists (first ∷ pages) page others =
    kept (refresh_queued lists first) pages page others.1
    ∙ (has_refresh-queued lists first page ∙ (ap (λ b. has_refresh lists page || b) others.0 ∙ or-false (has_refresh lists page)))

each-taken : (P : ℕ → Type 0) (pages : List ℕ) (i : ℕ) → ((k : ℕ) → k < i → k < length pages → P (get_or pages k 0)) → AllByRecursion P (take i pages)
each-taken P [] zero each = tt
each-taken P [] (suc i) each = tt
each-taken P (page ∷ pages) zero each = tt
each-taken P (page ∷ pages) (suc i) each =
    (each 0 (omega arith) (omega arith), each-taken P pages i (λ k before within. each (suc k) (omega arith) (omega arith)))

-- ---- the pages before a place of a list that rises

module _ (t : ℕ → PageTitle) (lists : JobLists) (pages : List ℕ) (i : ℕ) (d : ℕ) (within : i < length pages) where
  abbrev done : JobLists
  done = all_queued lists (take i pages)

  abbrev page : ℕ
  page = get_or pages i d

  pub edits-more : refreshes_edits t lists (take (i + 1) pages) ≡ refreshes_edits t lists (take i pages) ++ refresh_edits done page (t page)
  edits-more = ap (refreshes_edits t lists) (take_more pages i d within) ∙ edits-push t lists (take i pages) page

  pub queued-more : all_queued lists (take (i + 1) pages) ≡ refresh_queued done page
  queued-more = ap (all_queued lists) (take_more pages i d within) ∙ queued-push lists (take i pages) page

  pub has-kept : AllPairs (λ (a b : ℕ). a < b) pages → has_refresh done page ≡ has_refresh lists page
  has-kept rising =
      kept lists (take i pages) page
      (each-taken (λ other. eqb other page ≡ false) pages i
      (λ k before inside. ne_eqb (get_or pages k 0) page (λ same. let less = rising k i 0 before within in let one : get_or pages i 0 ≡ page = get_or-inside in omega (arith, less, same, one))))
    where
      get_or-inside : get_or pages i 0 ≡ page
      get_or-inside = same-inside pages i within
        where
          same-inside : (xs : List ℕ) (k : ℕ) → k < length xs → get_or xs k 0 ≡ get_or xs k d
          same-inside [] k inside = absurd (omega arith)
          same-inside (x ∷ xs) zero inside = refl
          same-inside (x ∷ xs) (suc k) inside = same-inside xs k (omega arith)

-- ---- numbers

next-one : (lists : JobLists) (page : ℕ) → (refresh_queued lists page).next ≤ lists.next + 1
next-one lists page = elim (cases_Bool (has_refresh lists page)) [ inl there ↦ rw there (omega arith) | inr none ↦ rw none (omega arith) ]

pub next-within : (lists : JobLists) (pages : List ℕ) → (all_queued lists pages).next ≤ lists.next + length pages
next-within lists [] = omega arith
next-within lists (page ∷ pages) =
    let later = next-within (refresh_queued lists page) pages in
    let one = next-one lists page in
    omega (arith, later, one)

-- ---- all pages

pub numbers-rise : (a n : ℕ) → AllPairs (λ (a b : ℕ). a < b) (range_with_len a n)
numbers-rise a n i j d before inside =
    let len = length-range_with_len a n in
    let high : j < n = omega (arith, inside, len) in
    let low : i < n = omega (arith, before, high) in
    rw (get_or-range_with_len a n i d low, get_or-range_with_len a n j d high) (omega (arith, before))

numbers-push : (a n : ℕ) → range_with_len a (suc n) ≡ range_with_len a n ++ (a + n) ∷ []
numbers-push a zero = let same : a ≡ a + 0 = omega arith in ap (λ (k : ℕ). k ∷ []) same
numbers-push a (suc n) =
    let same : a + 1 + n ≡ a + suc n = omega arith in
    ap (λ (ns : List ℕ). a ∷ ns) (numbers-push (a + 1) n ∙ ap (λ (k : ℕ). range_with_len (a + 1) n ++ k ∷ []) same)

pub numbers-more : (a n : ℕ) → range_with_len a (n + 1) ≡ range_with_len a n ++ (a + n) ∷ []
numbers-more a n = let one : n + 1 ≡ suc n = omega arith in ap (range_with_len a) one ∙ numbers-push a n
