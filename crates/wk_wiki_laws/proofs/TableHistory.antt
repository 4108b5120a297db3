-- A save that calls with full limits make keeps the page table and the revision table good.
use Rattle.std.proofs.Common.{◌≡◌, ℕ, zero, suc, ◌+◌, ◌≤◌, ◌<◌, Bool, true, false, cond, eqb, ltb, leb, not, ◌&&◌, ◌||◌, List, [], ◌∷◌, ◌++◌, length, map, fold, set, unwrap_or, Option, Some, None, refl, sym, ap, ap₂, ◌∙◌, inl, inr, subst, arith, take}
use Rattle.std.specs.Prelude.{slice_get, position, find, is_some, is_none}
use Rattle.std.specs.List.{AllByRecursion, filter, list_any, enumerate_from, position_or_len}
use Rattle.std.proofs.lemmas.Bool.{cases_Bool, and_parts, and_from, or_parts, eqb-true, ne_eqb, eq-eqb, ltb-true, lt-ltb, le-ltb}
use Rattle.std.proofs.Math.Numerals.{one-add}
use Rattle.std.proofs.lemmas.List.Folds.{find_at}
use Rattle.std.proofs.lemmas.List.Sums.{sum_by-append}
use Rattle.wk_text_rules.specs.Titles.{PageTitle, title_eq, is_page_title}
use Rattle.wk_page_rules.specs.History.{History, Page, Revision, page_number, current_revision, text_bytes, with_current, next_revision, saved}
use Rattle.wk_page_rules.specs.Verdict.{max_text, body_bytes, max_pages, max_texts}
use Rattle.wk_table_rules.specs.Rows.{StoreTables, PageColumns, RevisionColumns}
use Rattle.wk_table_rules.specs.Changes.{add_revision, set_page, applied, has_page, with_page}
use Rattle.wk_table_rules.specs.GoodStore.{has_good_latest, is_good_revision, current_of, texts_len}
use Rattle.wk_table_laws.specs.EachGood.{GoodAfter, KeepsRules}
use Rattle.wk_table_laws.specs.Premises.{FitRevision, IsStanding, IsNext}
use Rattle.wk_table_laws.proofs.FirstBad.{IsGood-from_rules}
use Rattle.wk_table_laws.proofs.GoodChanges.{EachGood-at}
use Rattle.wk_table_laws.proofs.SavedPages.{KeepsRules-next, KeepsRules-standing, with_page-standing}
use Rattle.wk_wiki_rules.specs.Tables.{page_row, revision_row}
use Rattle.wk_wiki_laws.specs.Kept.{history_tables}
use Rattle.wk_wiki_laws.proofs.SavedHistory.{Stands, text-kept, text-own}
use Rattle.wk_wiki_laws.proofs.Formed.{pages-new, placed-in}
use Rattle.wk_wiki_laws.proofs.Saved.{pages-saved}
use Rattle.wk_wiki_laws.proofs.GoodOpened.{has-last}
use Rattle.wk_wiki_laws.proofs.TableJobs.{got}

-- ---- rows by their places

pub map-push : {X Y : Type 0} (f : ℕ × X → Y) (a : ℕ) (xs : List X) (x : X) → map f (enumerate_from a (xs ++ x ∷ [])) ≡ map f (enumerate_from a xs) ++ f (a + length xs, x) ∷ []
map-push f a [] x = let same : a + 0 ≡ a = omega arith in rw same refl
map-push f a (y ∷ xs) x =
    let one : a + suc (length xs) ≡ (a + 1) + length xs = omega arith in
    rw one (ap (λ ys. f (a, y) ∷ ys) (map-push f (a + 1) xs x))

pub length-rows : {X Y : Type 0} (f : ℕ × X → Y) (a : ℕ) (xs : List X) → length (map f (enumerate_from a xs)) ≡ length xs
length-rows f a [] = refl
length-rows f a (x ∷ xs) = ap suc (length-rows f (a + 1) xs)

pub row-at : {X Y : Type 0} (f : ℕ × X → Y) (a : ℕ) (xs : List X) (place : ℕ) (x : X) → slice_get xs place ≡ Some x → slice_get (map f (enumerate_from a xs)) place ≡ Some (f (a + place, x))
row-at f a [] place x there = absurd (let e : None ≡ Some x = there in cc)
row-at f a (y ∷ xs) zero x there =
    let is : y ≡ x = (let e : Some y ≡ Some x = there in cc) in
    let same : a + 0 ≡ a = omega arith in
    rw same (ap (λ z. Some (f (a, z))) is)
row-at f a (y ∷ xs) (suc place) x there =
    let one : a + suc place ≡ (a + 1) + place = omega arith in
    rw one (row-at f (a + 1) xs place x there)

id-place : (h : History) (a number : ℕ) (pages : List Page) (place : ℕ) → number ≡ a + place → place < length pages → position_or_len (λ (row : PageColumns). eqb row.page_id number) (map (page_row h) (enumerate_from a pages)) ≡ place
id-place h a number [] place is below = absurd (omega (arith, below))
id-place h a number (page ∷ pages) zero is below = let here : eqb a number ≡ true = eq-eqb a number (omega (arith, is)) in rw here refl
id-place h a number (page ∷ pages) (suc place) is below =
    let other : eqb a number ≡ false = ne_eqb a number (λ same. omega (arith, same, is)) in
    let at = id-place h (a + 1) number pages place (omega (arith, is)) (omega (arith, below)) in
    rw (other, at) (omega arith)

id-past : (h : History) (a number : ℕ) (pages : List Page) → a + length pages ≤ number → position_or_len (λ (row : PageColumns). eqb row.page_id number) (map (page_row h) (enumerate_from a pages)) ≡ length pages
id-past h a number [] above = refl
id-past h a number (page ∷ pages) above =
    let other : eqb a number ≡ false = ne_eqb a number (λ same. omega (arith, same, above)) in
    let at = id-past h (a + 1) number pages (omega (arith, above)) in
    rw (other, at) (omega arith)

titles-any : (h : History) (title : PageTitle) (a : ℕ) (pages : List Page) → list_any (λ (row : PageColumns). title_eq row.page_title title) (map (page_row h) (enumerate_from a pages)) ≡ list_any (λ (page : Page). title_eq page.title title) pages
titles-any h title a [] = refl
titles-any h title a (page ∷ pages) = ap (λ b. title_eq page.title title || b) (titles-any h title (a + 1) pages)

texts-fold : (n a : ℕ) (revisions : List Revision) → fold (λ sum (row : RevisionColumns). sum + length row.rev_text) n (map revision_row (enumerate_from a revisions)) ≡ fold (λ sum (r : Revision). sum + length (unwrap_or r.text [])) n revisions
texts-fold n a [] = refl
texts-fold n a (r ∷ revisions) = texts-fold (n + length (unwrap_or r.text [])) (a + 1) revisions

texts-sum : (h : History) → texts_len (map revision_row (enumerate_from 1 h.revisions)) ≡ text_bytes h
texts-sum h = texts-fold 0 1 h.revisions

sum-push : (rows : List RevisionColumns) (row : RevisionColumns) → texts_len (rows ++ row ∷ []) ≡ texts_len rows + length row.rev_text
sum-push rows row =
    let sum = sum_by-append (λ (r : RevisionColumns). length r.rev_text) rows (row ∷ []) in
    let one : 0 + length row.rev_text ≡ length row.rev_text = omega arith in
    sum ∙ ap (λ n. texts_len rows + n) one

-- ---- no revision is of a page that isn't there

ids-below : (h : History) (a : ℕ) (pages : List Page) (number : ℕ) → a + length pages ≤ number → list_any (λ (row : PageColumns). eqb row.page_id number) (map (page_row h) (enumerate_from a pages)) ≡ false
ids-below h a [] number above = refl
ids-below h a (page ∷ pages) number above =
    let other : eqb a number ≡ false = ne_eqb a number (λ same. omega (arith, same, above)) in
    rw other (ids-below h (a + 1) pages number (omega (arith, above)))

none-of : (tables : StoreTables) (number : ℕ) → has_page tables number ≡ false → (before rows : List RevisionColumns) → GoodAfter (is_good_revision tables) before rows → filter (λ (row : RevisionColumns). eqb row.rev_page number) rows ≡ []
none-of tables number missing before [] good = refl
none-of tables number missing before (row ∷ rows) good = elim (cases_Bool (eqb row.rev_page number)) [
  | inl same ↦
      let is : row.rev_page ≡ number = eqb-true row.rev_page number same in
      absurd (let e : false ≡ true = sym missing ∙ sym (ap (has_page tables) is) ∙ page-known in cc)
  | inr other ↦ rw other (none-of tables number missing (before ++ row ∷ []) rows good.1)
]
  where
    page-known : has_page tables row.rev_page ≡ true
    page-known =
        let number_ok = eqb row.rev_id (length before + 1) in
        let gone = not row.rev_gone || eqb (length row.rev_text) 0 in
        let len = eqb row.rev_len (length row.rev_text) && leb row.rev_len max_text in
        let room = leb (texts_len (before ++ row ∷ [])) max_texts in
        let a = and_parts (((number_ok && has_page tables row.rev_page) && gone) && len) room good.0 in
        let b = and_parts ((number_ok && has_page tables row.rev_page) && gone) len a.0 in
        let c = and_parts (number_ok && has_page tables row.rev_page) gone b.0 in
        (and_parts number_ok (has_page tables row.rev_page) c.0).1

-- ---- a save

module _ (h : History) (title : PageTitle) (text : Option (List ℕ)) (moment : ℕ) (stand : AllByRecursion (λ (page : Page). Stands h page.current) h.pages) where
  abbrev after : History
  after = saved h title text moment

  abbrev current : ℕ
  current = cond (is_some text) (next_revision h) 0

  abbrev is_it : Page → Bool
  is_it page = title_eq page.title title

  new_revision : Revision
  new_revision = record {
    page = unwrap_or (page_number h title) (length h.pages + 1);
    parent = current_revision h title;
    moment = moment;
    text = text;
  }

  abbrev new_row : RevisionColumns
  new_row = revision_row (1 + length h.revisions, new_revision)

  revisions-after : (history_tables after).revisions ≡ (history_tables h).revisions ++ new_row ∷ []
  unfolding saved new_revision
  revisions-after = map-push revision_row 1 h.revisions new_revision

  -- the row of the page from then on
  abbrev page_after : ℕ → PageTitle → PageColumns
  page_after number named = page_row after (number, record { title = named; current = current })

  rows-kept : (a : ℕ) (pages : List Page) → AllByRecursion (λ (page : Page). Stands h page.current) pages → map (page_row after) (enumerate_from a pages) ≡ map (page_row h) (enumerate_from a pages)
  rows-kept a [] all = refl
  rows-kept a (page ∷ pages) all = rw (text-kept h title text moment page.current all.0, rows-kept (a + 1) pages all.1) refl

  -- ---- the title has a page

  set-row : (a : ℕ) (pages : List Page) (page : Page) → AllByRecursion (λ (p : Page). Stands h p.current) pages → slice_get pages (position_or_len is_it pages) ≡ Some page
      → set (map (page_row h) (enumerate_from a pages)) (position_or_len is_it pages) (page_after (a + position_or_len is_it pages) page.title) ≡ map (page_row after) (enumerate_from a (with_current pages title current))
  set-row a [] page all there = absurd (let e : None ≡ Some page = there in cc)
  set-row a (p ∷ pages) page all there = elim (cases_Bool (title_eq p.title title)) [
    | inl here ↦
        let first : Some p ≡ Some page = rw here at there in
        let is : p ≡ page = cc in
        let zero_more : a + 0 ≡ a = omega arith in
        rw (here, zero_more, rows-kept (a + 1) pages all.1) (ap (λ (q : Page). page_after a q.title ∷ map (page_row h) (enumerate_from (a + 1) pages)) (sym is))
    | inr other ↦
        let later : slice_get pages (position_or_len is_it pages) ≡ Some page = rw (other, one-add) at there in
        let one : a + (1 + position_or_len is_it pages) ≡ (a + 1) + position_or_len is_it pages = omega arith in
        rw (other, one, one-add) (ap₂ (λ x xs. x ∷ xs) (ap (λ (n : ℕ). record (page_row h (a, p)) { page_len = n }) (ap (λ (o : Option (List ℕ)). length (unwrap_or o [])) (sym (text-kept h title text moment p.current all.0))))
        (set-row (a + 1) pages page all.1 later))
  ]

  -- ---- the title has none

  find-none : (pages : List Page) → list_any is_it pages ≡ false → find is_it pages ≡ None
  find-none [] none = refl
  find-none (p ∷ pages) none = let parts = or_parts (title_eq p.title title) (list_any is_it pages) none in rw parts.0 (find-none pages parts.1)

  -- the page table after a save of a page that has a row
  pub pages-old : (found : Page) → list_any is_it h.pages ≡ true → slice_get h.pages (position_or_len is_it h.pages) ≡ Some found
      → with_page (history_tables h).pages (page_after (1 + position_or_len is_it h.pages) found.title) ≡ (history_tables after).pages
  pages-old found there at_found =
      let place = position_or_len is_it h.pages in
      let in_pages = placed-in title current h.pages ∙ there in
      let within : place < length h.pages = ltb-true place (length h.pages) in_pages in
      let new = page_after (1 + place) found.title in
      let by_id = id-place h 1 (1 + place) h.pages place refl within in
      let length_same = length-rows (page_row h) 1 h.pages in
      let below : ltb place (length (history_tables h).pages) ≡ true = lt-ltb place (length (history_tables h).pages) (omega (arith, within, length_same)) in
      let at : position (λ (r : PageColumns). eqb r.page_id (1 + place)) (history_tables h).pages ≡ Some place = rw (by_id, below) refl in
      with_page-standing (history_tables h).pages new place at ∙ (set-row (1) h.pages found stand at_found ∙ ap (λ (ps : List Page). map (page_row after) (enumerate_from 1 ps)) (sym (pages-saved h title text moment)))

  -- the page table after a save of a new page
  pub pages-added : list_any is_it h.pages ≡ false → with_page (history_tables h).pages (page_after (1 + length h.pages) title) ≡ (history_tables after).pages
  pages-added none =
      let new = page_after (1 + length h.pages) title in
      let length_same = length-rows (page_row h) 1 h.pages in
      let by_id = id-past h 1 (1 + length h.pages) h.pages (omega arith) in
      let above : ltb (length h.pages) (length (history_tables h).pages) ≡ false = le-ltb (length h.pages) (length (history_tables h).pages) (omega (arith, length_same)) in
      let at : position (λ (r : PageColumns). eqb r.page_id (1 + length h.pages)) (history_tables h).pages ≡ None = rw (by_id, above) refl in
      let added : with_page (history_tables h).pages new ≡ (history_tables h).pages ++ new ∷ [] = rw (at, with_page) refl in
      added ∙ (ap (λ (rows : List PageColumns). rows ++ new ∷ []) (sym (rows-kept 1 h.pages stand)) ∙ (sym (map-push (page_row after) 1 h.pages (record { title = title; current = current }))
      ∙ ap (λ (ps : List Page). map (page_row after) (enumerate_from 1 ps)) (sym (pages-saved h title text moment ∙ pages-new title current h.pages none))))

  module _ (keeps : KeepsRules (history_tables h)) (real : is_page_title title ≡ true) (short : body_bytes text ≤ max_text) (room : text_bytes h + body_bytes text ≤ max_texts) where
    fit : (number : ℕ) (named : PageTitle) → unwrap_or (page_number h title) (length h.pages + 1) ≡ number → current_revision h title ≡ current_of (history_tables h).revisions number → FitRevision (history_tables h) new_row (page_after number named)
    unfolding new_revision
    fit number named at parent = record {
      number = let same = length-rows revision_row 1 h.revisions in omega (arith, same);
      of_page = at;
      parent = parent;
      gone = gone-empty text;
      len = refl;
      short = short;
      room = let sum = sum-push (history_tables h).revisions new_row in let old = texts-sum h in omega (arith, sum, old, room);
      latest = latest-is text;
      page_len = ap (λ (o : Option (List ℕ)). length (unwrap_or o [])) (text-own h title text moment);
    }
      where
        gone-empty : (o : Option (List ℕ)) → (not (is_none o) || eqb (length (unwrap_or o [])) 0) ≡ true
        gone-empty None = refl
        gone-empty (Some t) = refl

        latest-is : (o : Option (List ℕ)) → cond (is_some o) (next_revision h) 0 ≡ cond (is_none o) 0 (1 + length h.revisions)
        latest-is None = refl
        latest-is (Some t) = omega arith

    -- the tables after the change are those of the revisions and the pages after the save
    moved : (page : PageColumns) → with_page (history_tables h).pages page ≡ (history_tables after).pages → KeepsRules (applied (history_tables h) (add_revision new_row ∷ set_page page ∷ [])) → KeepsRules (history_tables after)
    moved page pages kept =
        subst (λ (rows : List PageColumns). KeepsRules (record (history_tables h) { revisions = (history_tables after).revisions; pages = rows })) pages
        (subst (λ (rows : List RevisionColumns). KeepsRules (record (history_tables h) { revisions = rows; pages = with_page (history_tables h).pages page })) (sym revisions-after) kept)

    pub saved-old : list_any is_it h.pages ≡ true → KeepsRules (history_tables after)
    saved-old there =
        let place = position_or_len is_it h.pages in
        let in_pages = placed-in title current h.pages ∙ there in
        let within : place < length h.pages = ltb-true place (length h.pages) in_pages in
        let found = got h.pages place within in
        let first : find is_it h.pages ≡ Some found.0 = find_at is_it h.pages ∙ found.1 in
        let number : unwrap_or (page_number h title) (length h.pages + 1) ≡ 1 + place = rw in_pages (omega arith) in
        let old = page_row h (1 + place, found.0) in
        let row : slice_get (history_tables h).pages place ≡ Some old = row-at (page_row h) 1 h.pages place found.0 found.1 in
        let good = EachGood-at (has_good_latest (history_tables h)) (history_tables h).pages place old keeps.latest row in
        let has = has-last (history_tables h) (take place (history_tables h).pages) old (IsGood-from_rules (history_tables h) keeps) good in
        let now : current_of (history_tables h).revisions (1 + place) ≡ cond has.last.rev_gone 0 has.last.rev_id = rw (has.is, current_of) refl in
        let was : current_revision h title ≡ found.0.current = rw first refl in
        let new = page_after (1 + place) found.0.title in
        let by_id = id-place h 1 (1 + place) h.pages place refl within in
        let standing : IsStanding (history_tables h) old new = record {
          there = find_at (λ (r : PageColumns). eqb r.page_id (1 + place)) (history_tables h).pages ∙ (ap (slice_get (history_tables h).pages) by_id ∙ row);
          title = refl;
        } in
        let pages = pages-old found.0 there found.1 in
        moved new pages (KeepsRules-standing (history_tables h) new_row old new (fit (1 + place) found.0.title number (was ∙ (has.latest ∙ sym now))) standing keeps)

    pub saved-new : list_any is_it h.pages ≡ false → length h.pages + 1 ≤ max_pages → KeepsRules (history_tables after)
    saved-new none few =
        let past = placed-in title current h.pages ∙ none in
        let number : unwrap_or (page_number h title) (length h.pages + 1) ≡ 1 + length h.pages = rw past (omega arith) in
        let new = page_after (1 + length h.pages) title in
        let missing : has_page (history_tables h) (1 + length h.pages) ≡ false = ids-below h 1 h.pages (1 + length h.pages) (omega arith) in
        let nothing = none-of (history_tables h) (1 + length h.pages) missing [] (history_tables h).revisions keeps.revisions in
        let now : current_of (history_tables h).revisions (1 + length h.pages) ≡ 0 = rw (nothing, current_of) refl in
        let was : current_revision h title ≡ 0 = rw (find-none h.pages none) refl in
        let length_same = length-rows (page_row h) 1 h.pages in
        let next : IsNext (history_tables h) new = record {
          number = omega (arith, length_same);
          few = omega (arith, few);
          title = and_from (is_page_title title) (not (list_any (λ (r : PageColumns). title_eq r.page_title title) (history_tables h).pages)) real (ap not (titles-any h title 1 h.pages ∙ none));
        } in
        let pages = pages-added none in
        moved new pages (KeepsRules-next (history_tables h) new_row new (fit (1 + length h.pages) title number (was ∙ sym now)) next keeps)
