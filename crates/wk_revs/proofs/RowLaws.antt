-- What the rows of good tables say of pages and revisions.
use Rattle.std.proofs.Common.{◌≡◌, ℕ, suc, ◌+◌, ◌-◌, ◌<◌, ◌≤◌, Bool, true, false, not, cond, ◌&&◌, ◌||◌, List, [], ◌∷◌, ◌++◌, length, map, filter, take, get_or, slice_get, Option, Some, None, refl, sym, ap, ap₂, ◌∙◌, subst, inl, inr, arith, if◌then◌else◌}
use Rattle.std.specs.Prelude.{◌==◌, bytes_eq, nat_le, option_and_then, pos}
use Rattle.std.specs.List.{AllByRecursion, count_by, list_any}
use Rattle.std.specs.Ordering.{int_eq}
use Rattle.std.proofs.Math.Seq.{take-suc}
use Rattle.std.proofs.lemmas.Bool.{and_parts, cases_Bool, cases_lt, leb-true}
use Rattle.std.proofs.lemmas.Bool.Decides.{Decides-int_eq}
use Rattle.std.proofs.lemmas.List.{length-map}
use Rattle.std.proofs.lemmas.List.Sums.{length-filter}
use Rattle.std.proofs.lemmas.Option.{get_or_from_slice_get, slice_get-get_or}
use Rattle.std.proofs.lemmas.Slice.Eq.{bytes_eq-Decides}
use borrow.Author.Tests.{eqb-true}
use Rattle.indexmap.specs.IndexMap.{insert_entry}
use Rattle.wk_text_rules.specs.Targets.{page_named}
use Rattle.wk_text_rules.specs.Titles.{PageTitle, is_page_title, is_virtual, normal, shown, title_eq}
use Rattle.wk_page_rules.specs.History.{Page, with_current}
use Rattle.wk_page_rules.specs.Verdict.{max_pages}
use Rattle.wk_table_rules.specs.Changes.{has_page}
use Rattle.wk_table_rules.specs.GoodStore.{IsGood, has_good_id, has_good_title, is_good_revision}
use Rattle.wk_table_rules.specs.Rows.{PageColumns, RevisionColumns, StoreTables}
use Rattle.wk_table_rules.specs.Stored.{page_of_row}
use Rattle.wk_table_laws.specs.EachGood.{EachGood, KeepsRules}
use Rattle.wk_table_laws.proofs.FirstBad.{KeepsRules-from_good}
use Rattle.wk_table_laws.proofs.GoodChanges.{EachGood-at, page_id-is}
use Rattle.wk_table_laws.proofs.SavedRows.{ids-above, ids-within}
use Rattle.wk_revs.specs.Revs.{existing_in, page_of_entry, pages_of}
use Rattle.wk_revs.proofs.PageLaws.{place_within, put-entry}

-- ---- titles

title_eq-true : (a b : PageTitle) → title_eq a b ≡ true → a ≡ b
title_eq-true a b e =
    let parts = and_parts (int_eq a.ns b.ns) (bytes_eq a.key b.key) e in
    let ns : a.ns ≡ b.ns = (Decides-int_eq a.ns b.ns).0 parts.0 in
    let key : a.key ≡ b.key = (bytes_eq-Decides a.key b.key).0 parts.1 in
    λ i. record { ns = ns i; key = key i }

real_by : (b : Bool) (title : PageTitle) → not b ≡ true → (if b then None else Some title) ≡ Some title
real_by true title h = absurd (cc h)
real_by false title h = refl

by_shown : (o : Option PageTitle) (title : PageTitle) → (elim o [ None ↦ false | Some named ↦ title_eq named title ] && not (is_virtual title)) ≡ true
    → option_and_then (λ named. if is_virtual named then None else Some named) o ≡ Some title
by_shown None title h = absurd (cc h)
by_shown (Some named) title h =
    let parts = and_parts (title_eq named title) (not (is_virtual title)) h in
    subst (λ (t : PageTitle). (if is_virtual t then None else Some t) ≡ Some title) (sym (title_eq-true named title parts.0)) (real_by (is_virtual title) title parts.1)

-- the shown form of a page's title names the page
pub names_itself : (title : PageTitle) → is_page_title title ≡ true → page_named (shown title) ≡ Some title
names_itself title h = by_shown (normal (shown title) (pos 0)) title h

-- ---- pages

or_none : (a b : Bool) → (a || b) ≡ false → (a ≡ false) × (b ≡ false)
or_none true b h = absurd (cc h)
or_none false true h = absurd (cc h)
or_none false false h = (refl, refl)

or_later : (a b : Bool) → (a || b) ≡ true → a ≡ false → b ≡ true
or_later true b h no_first = absurd (cc no_first)
or_later false b h no_first = h

is_false : (b : Bool) → not b ≡ true → b ≡ false
is_false true h = absurd (cc h)
is_false false h = refl

abbrev has_title : PageTitle → PageColumns → Bool
has_title title earlier = title_eq earlier.page_title title

-- a title that no row before has goes to the end
new_page : (rows : List PageColumns) (row : PageColumns) → list_any (has_title row.page_title) rows ≡ false →
    with_current (map page_of_row rows) row.page_title row.page_latest ≡ map page_of_row (rows ++ row ∷ [])
new_page [] row h = refl
new_page (first ∷ rows) row h =
    let parts = or_none (has_title row.page_title first) (list_any (has_title row.page_title) rows) h in
    rw parts.0 (ap (λ (later : List Page). page_of_row first ∷ later) (new_page rows row parts.1))

take-more : {X : Type 0} (xs : List X) (i : ℕ) (x : X) → slice_get xs i ≡ Some x → take (i + 1) xs ≡ take i xs ++ x ∷ []
take-more xs i x is =
    let next : i + 1 ≡ suc i = omega arith in
    ap (λ n. take n xs) next ∙ take-suc xs i x (place_within xs i x is) ∙ ap (λ y. take i xs ++ y ∷ []) (get_or_from_slice_get xs i x x is)

pub good_title : (rows : List PageColumns) (i : ℕ) (row : PageColumns) → EachGood has_good_title rows → slice_get rows i ≡ Some row → is_page_title row.page_title ≡ true
good_title rows i row good there =
    (and_parts (is_page_title row.page_title) (not (list_any (has_title row.page_title) (take i rows))) (EachGood-at has_good_title rows i row good there)).0

pub titles_good : (tables : StoreTables) → IsGood tables → EachGood has_good_title tables.pages
titles_good tables good = (KeepsRules-from_good tables good).titles

-- one row more is loaded
pub page_more : (rows : List PageColumns) (i : ℕ) (row : PageColumns) (es : List (PageTitle × ℕ)) (eq : PageTitle → PageTitle → Bool) →
    ((key : PageTitle) → title_eq key row.page_title ≡ eq row.page_title key) → EachGood has_good_title rows → slice_get rows i ≡ Some row →
    pages_of es ≡ map page_of_row (take i rows) → pages_of (insert_entry eq es row.page_title row.page_latest) ≡ map page_of_row (take (i + 1) rows)
page_more rows i row es eq same good there before =
    let parts = and_parts (is_page_title row.page_title) (not (list_any (has_title row.page_title) (take i rows))) (EachGood-at has_good_title rows i row good there) in
    put-entry eq row.page_title row.page_latest same es
    ∙ ap (λ pages. with_current pages row.page_title row.page_latest) before
    ∙ new_page (take i rows) row (is_false (list_any (has_title row.page_title) (take i rows)) parts.1)
    ∙ ap (map page_of_row) (sym (take-more rows i row there))

-- a row that is read by its place
pub placed : {X : Type 0} (xs : List X) (i : ℕ) (x : X) → i < length xs → x ≡ get_or xs i x → slice_get xs i ≡ Some x
placed xs i x l is = slice_get-get_or xs i x l ∙ ap (λ y. Some y) (sym is)

-- a title and a current revision more, which are those of the row
pub page_put : (rows : List PageColumns) (i : ℕ) (row : PageColumns) (es : List (PageTitle × ℕ)) (eq : PageTitle → PageTitle → Bool) (title : PageTitle) (latest : ℕ) →
    ((key : PageTitle) → title_eq key title ≡ eq title key) → EachGood has_good_title rows → slice_get rows i ≡ Some row →
    pages_of es ≡ map page_of_row (take i rows) → title ≡ row.page_title → latest ≡ row.page_latest →
    pages_of (insert_entry eq es title latest) ≡ map page_of_row (take (i + 1) rows)
page_put rows i row es eq title latest same good there before is now =
    ap₂ (λ (t : PageTitle) (n : ℕ). pages_of (insert_entry eq es t n)) is now
    ∙ page_more rows i row es eq (subst (λ (t : PageTitle). (key : PageTitle) → title_eq key t ≡ eq t key) is same) good there before

-- ---- counts

same-length : {X Y : Type 0} (b : Bool) (x : X) (xs : List X) (y : Y) (ys : List Y) → length xs ≡ length ys → length (cond b (x ∷ xs) xs) ≡ length (cond b (y ∷ ys) ys)
same-length true x xs y ys same = ap (λ n. suc n) same
same-length false x xs y ys same = same

abbrev is_current : Page → Bool
is_current page = not (page.current == 0)

existing-pages : (es : List (PageTitle × ℕ)) → existing_in es ≡ length (filter is_current (pages_of es))
existing-pages [] = refl
existing-pages (e ∷ es) = same-length (not (e.1 == 0)) e _ _ _ (existing-pages es)

existing-rows : (rows : List PageColumns) → length (filter is_current (map page_of_row rows)) ≡ length (filter (λ (row : PageColumns). not (row.page_latest == 0)) rows)
existing-rows [] = refl
existing-rows (row ∷ rows) = same-length (not (row.page_latest == 0)) _ _ row _ (existing-rows rows)

pub existing_of : (rows : List PageColumns) (es : List (PageTitle × ℕ)) → pages_of es ≡ map page_of_row rows → count_by (λ (row : PageColumns). not (row.page_latest == 0)) rows ≡ existing_in es
existing_of rows es is =
    sym (length-filter (λ (row : PageColumns). not (row.page_latest == 0)) rows) ∙ sym (existing-rows rows)
    ∙ ap (λ pages. length (filter is_current pages)) (sym is) ∙ sym (existing-pages es)

no_row : PageColumns
no_row = record { page_id = 0; page_title = record { ns = pos 0; key = [] }; page_latest = 0; page_len = 0 }

-- good tables have no more pages than a wiki may have
pub pages_few : (tables : StoreTables) → IsGood tables → length tables.pages ≤ max_pages
pages_few tables good = elim (cases_lt 0 (length tables.pages)) [
  | inl some ↦
      let place : ℕ = length tables.pages - 1 in
      let row : PageColumns = get_or tables.pages place no_row in
      let there : slice_get tables.pages place ≡ Some row = slice_get-get_or tables.pages place no_row (omega (arith, some)) in
      let id : row.page_id ≡ place + 1 = page_id-is tables place row good there in
      let parts = and_parts (row.page_id == length (take place tables.pages) + 1) (nat_le row.page_id max_pages)
      (EachGood-at has_good_id tables.pages place row (KeepsRules-from_good tables good).ids there) in
      let most : row.page_id ≤ max_pages = leb-true row.page_id max_pages parts.1 in
      omega (arith, id, most, some)
  | inr none_left ↦ omega (arith, none_left)
]

-- ---- revisions

any_of : {X : Type 0} (test : X → Bool) (P : X → Type 0) (Q : Type 0) (xs : List X) → list_any test xs ≡ true → AllByRecursion P xs → ((x : X) → test x ≡ true → P x → Q) → Q
any_of test P Q [] h all found = absurd (cc h)
any_of test P Q (x ∷ xs) h all found = elim (cases_Bool (test x)) [
  | inl here ↦ found x here all.0
  | inr missing ↦ any_of test P Q xs (or_later (test x) (list_any test xs) h missing) all.1 found
]

-- a revision of good tables is of one of the pages
pub revision_within : (tables : StoreTables) → IsGood tables → (k : ℕ) (row : RevisionColumns) → slice_get tables.revisions k ≡ Some row →
    (0 < row.rev_page) × (row.rev_page ≤ length tables.pages)
revision_within tables good k row there =
    let keeps = KeepsRules-from_good tables good in
    let all = EachGood-at (is_good_revision tables) tables.revisions k row keeps.revisions there in
    let has : has_page tables row.rev_page ≡ true = (and_parts _ _ (and_parts _ _ (and_parts _ _ (and_parts _ _ all).0).0).0).1 in (
      any_of (λ (page : PageColumns). page.page_id == row.rev_page) (λ page. 0 < page.page_id) (0 < row.rev_page) tables.pages has (ids-above [] tables.pages keeps.ids)
          (λ page is above. let same : page.page_id ≡ row.rev_page = eqb-true page.page_id row.rev_page is in omega (arith, same, above)),
      any_of (λ (page : PageColumns). page.page_id == row.rev_page) (λ page. page.page_id ≤ 0 + length tables.pages) (row.rev_page ≤ length tables.pages) tables.pages has
          (ids-within [] tables.pages keeps.ids)
          (λ page is within. let same : page.page_id ≡ row.rev_page = eqb-true page.page_id row.rev_page is in omega (arith, same, within)),
    )

-- ---- what was loaded

pub loaded_length : (tables : StoreTables) (seen : List PageColumns) (pages : List Page) → seen ≡ tables.pages → pages ≡ map page_of_row seen → length pages ≡ length tables.pages
loaded_length tables seen pages same is = ap length is ∙ length-map seen page_of_row ∙ ap length same

pub loaded_few : (tables : StoreTables) (seen : List PageColumns) (es : List (PageTitle × ℕ)) → IsGood tables → seen ≡ tables.pages → pages_of es ≡ map page_of_row seen → length es ≤ max_pages
loaded_few tables seen es good same is =
    omega (arith, loaded_length tables seen (pages_of es) same is, length-map es page_of_entry, pages_few tables good)

pub loaded_within : (tables : StoreTables) (rows : List RevisionColumns) (pages : List Page) → IsGood tables → rows ≡ tables.revisions → length pages ≡ length tables.pages →
    (k : ℕ) (row : RevisionColumns) → slice_get rows k ≡ Some row → (0 < row.rev_page) × (row.rev_page ≤ length pages)
loaded_within tables rows pages good same count k row there =
    let within = revision_within tables good k row (subst (λ rs. slice_get rs k ≡ Some row) same there) in (within.0, omega (arith, count, within.1))
