-- A store with good tables is opened as a state that calls with full limits keep good.
use Rattle.std.proofs.Common.{◌≡◌, ℕ, ◌+◌, pos, Bool, true, false, cond, eqb, ltb, leb, not, ◌&&◌, ◌||◌, List, [], ◌∷◌, ◌++◌, length, map, unwrap_or, Option, Some, None, refl, sym, ap, ap₂, ◌∙◌, inl, inr, subst, arith}
use Rattle.std.specs.Prelude.{IfSome, option_map, find, is_none}
use Rattle.std.specs.List.{AllByRecursion, filter, enumerate_from}
use Rattle.std.specs.Ordering.{int_eq, is_lt}
use Rattle.std.proofs.lemmas.Bool.{cases_Bool, and_parts, eqb-true}
use Rattle.std.proofs.lemmas.List.{length-append}
use Rattle.wk_text_rules.specs.Titles.{PageTitle, title_cmp, is_normal, is_page_title}
use Rattle.wk_page_rules.specs.History.{text_of_revision}
use Rattle.wk_page_rules.specs.Verdict.{max_text, max_pages, max_texts}
use Rattle.wk_table_rules.specs.Rows.{StoreTables, PageColumns, RevisionColumns, LinkColumns, CategoryColumns, RedirectColumns, category_title}
use Rattle.wk_page_rules.specs.PageRows.{Member}
use Rattle.wk_table_rules.specs.Changes.{has_page, namespace_of}
use Rattle.wk_table_rules.specs.Stored.{targets_of, member_of, rows_of_page, stored_rows, history_of, page_of_row, revision_of_row}
use Rattle.wk_table_rules.specs.GoodStore.{IsGood, row_lt, has_good_id, has_good_latest, is_good_revision, is_good_link, is_good_category, is_good_redirect, texts_len}
use Rattle.wk_table_laws.specs.EachGood.{GoodAfter, EachGood, KeepsRules}
use Rattle.wk_table_laws.specs.Premises.{is_next_title, is_next_member}
use Rattle.wk_table_laws.proofs.FirstBad.{KeepsRules-from_good}
use Rattle.wk_table_laws.proofs.GoodChanges.{EachGood-at}
use Rattle.wk_table_laws.proofs.Pairs.{Pairs, Passes-from_good, EachGood-from_passes, each-filter, Pairs-filter}
use Rattle.wk_table_laws.proofs.Links.{row_lt-same}
use Rattle.wk_wiki_rules.specs.Tables.{page_row, revision_row}
use Rattle.wk_wiki_laws.proofs.GoodOpened.{HasLast, has-last, text-last}
use Rattle.wk_wiki_laws.specs.Kept.{AreGoodRows, history_tables}

-- ---- revisions

abbrev text_of_row : RevisionColumns → Option (List ℕ)
text_of_row row = cond row.rev_gone None (Some row.rev_text)

-- what is known of a good revision's row
record IsPlain (row : RevisionColumns) : Type 0 where
  pub gone : (not row.rev_gone || eqb (length row.rev_text) 0) ≡ true
  pub len : row.rev_len ≡ length row.rev_text

plain-row : (tables : StoreTables) (before : List RevisionColumns) (row : RevisionColumns) → is_good_revision tables before row ≡ true → (row.rev_id ≡ length before + 1) × IsPlain row
plain-row tables before row good =
    let number_ok = eqb row.rev_id (length before + 1) in
    let gone = not row.rev_gone || eqb (length row.rev_text) 0 in
    let len = eqb row.rev_len (length row.rev_text) && leb row.rev_len max_text in
    let room = leb (texts_len (before ++ row ∷ [])) max_texts in
    let a = and_parts (((number_ok && has_page tables row.rev_page) && gone) && len) room good in
    let b = and_parts ((number_ok && has_page tables row.rev_page) && gone) len a.0 in
    let c = and_parts (number_ok && has_page tables row.rev_page) gone b.0 in
    let d = and_parts number_ok (has_page tables row.rev_page) c.0 in
    let e = and_parts (eqb row.rev_len (length row.rev_text)) (leb row.rev_len max_text) b.1 in
    (eqb-true row.rev_id (length before + 1) d.0, record { gone = c.1; len = eqb-true row.rev_len (length row.rev_text) e.0 })

no-text : (text : List ℕ) → (not true || eqb (length text) 0) ≡ true → text ≡ []
no-text [] none = refl
no-text (b ∷ text) none = absurd (let e = eqb-true (length (b ∷ text)) 0 none in omega (arith, e))

text-is : (gone : Bool) (text : List ℕ) → (not gone || eqb (length text) 0) ≡ true → (is_none (cond gone None (Some text)) ≡ gone) × (unwrap_or (cond gone None (Some text)) [] ≡ text)
text-is true text empty = (refl, sym (no-text text empty))
text-is false text empty = (refl, refl)

row-same : (number : ℕ) (row : RevisionColumns) → number ≡ row.rev_id → IsPlain row → revision_row (number, revision_of_row row) ≡ row
row-same number row is plain =
    let parts = text-is row.rev_gone row.rev_text plain.gone in
    let len = ap (λ (t : List ℕ). length t) parts.1 ∙ sym plain.len in
    λ i. record {
      rev_id = is i;
      rev_page = row.rev_page;
      rev_parent_id = row.rev_parent_id;
      rev_timestamp = row.rev_timestamp;
      rev_len = len i;
      rev_gone = parts.0 i;
      rev_text = parts.1 i;
    }

revisions-after : (tables : StoreTables) (before rows : List RevisionColumns) (number : ℕ) → number ≡ length before + 1 → GoodAfter (is_good_revision tables) before rows → map revision_row (enumerate_from number (map revision_of_row rows)) ≡ rows
revisions-after tables before [] number is good = refl
revisions-after tables before (row ∷ rows) number is good =
    let known = plain-row tables before row good.0 in
    let longer = length-append before (row ∷ []) in
    ap₂ (λ x xs. x ∷ xs) (row-same number row (is ∙ sym known.0) known.1) (revisions-after tables (before ++ row ∷ []) rows (number + 1) (omega (arith, is, longer)) good.1)

-- ---- pages

len-same : (tables : StoreTables) (page : PageColumns) → KeepsRules tables → HasLast tables page → length (unwrap_or (text_of_revision (history_of tables) page.page_latest) []) ≡ page.page_len
len-same tables page keeps has =
    let good = EachGood-at (is_good_revision tables) tables.revisions has.place has.last keeps.revisions has.there in
    let plain = (plain-row tables _ has.last good).1 in
    elim (cases_Bool has.last.rev_gone) [
      | inl gone ↦
          let none : page.page_latest ≡ 0 = has.latest ∙ ap (λ b. cond b 0 has.last.rev_id) gone in
          let empty = no-text has.last.rev_text (subst (λ b. (not b || eqb (length has.last.rev_text) 0) ≡ true) gone plain.gone) in
          rw none (sym (has.len ∙ (plain.len ∙ ap (λ (t : List ℕ). length t) empty)))
      | inr stays ↦
          ap (λ (o : Option (List ℕ)). length (unwrap_or o [])) (text-last tables page has stays) ∙ sym (has.len ∙ plain.len)
    ]

pages-after : (tables : StoreTables) → IsGood tables → KeepsRules tables → (before rows : List PageColumns) (number : ℕ) → number ≡ length before + 1 → GoodAfter has_good_id before rows → GoodAfter (has_good_latest tables) before rows
    → map (page_row (history_of tables)) (enumerate_from number (map page_of_row rows)) ≡ rows
pages-after tables good keeps before [] number is ids latest = refl
pages-after tables good keeps before (row ∷ rows) number is ids latest =
    let id = eqb-true row.page_id (length before + 1) (and_parts (eqb row.page_id (length before + 1)) (leb row.page_id max_pages) ids.0).0 in
    let same : number ≡ row.page_id = is ∙ sym id in
    let len = len-same tables row keeps (has-last tables before row good latest.0) in
    let longer = length-append before (row ∷ []) in
    let first : page_row (history_of tables) (number, page_of_row row) ≡ row = (λ i. record { page_id = same i; page_title = row.page_title; page_latest = row.page_latest; page_len = len i }) in
    ap₂ (λ x xs. x ∷ xs) first (pages-after tables good keeps (before ++ row ∷ []) rows (number + 1) (omega (arith, is, longer)) ids.1 latest.1)

-- good tables of revisions and pages are those of what they stand for
pub revisions-good : (tables : StoreTables) → IsGood tables → (history_tables (history_of tables)).revisions ≡ tables.revisions
revisions-good tables good = revisions-after tables [] tables.revisions 1 (omega arith) (KeepsRules-from_good tables good).revisions

pub pages-good : (tables : StoreTables) → IsGood tables → (history_tables (history_of tables)).pages ≡ tables.pages
pages-good tables good = let keeps = KeepsRules-from_good tables good in pages-after tables good keeps [] tables.pages 1 (omega arith) keeps.ids keeps.latest

pub history-good : (tables : StoreTables) → IsGood tables → KeepsRules (history_tables (history_of tables))
history-good tables good =
    subst (λ (rows : List PageColumns). KeepsRules (record (history_tables (history_of tables)) { pages = rows })) (sym (pages-good tables good))
    (subst (λ (rows : List RevisionColumns). KeepsRules (record (history_tables (history_of tables)) { pages = tables.pages; revisions = rows })) (sym (revisions-good tables good)) (record {
      ids = keeps.ids;
      titles = keeps.titles;
      revisions = keeps.revisions;
      parents = keeps.parents;
      latest = keeps.latest;
      pagelinks = tt;
      templatelinks = tt;
      existlinks = tt;
      categorylinks = tt;
      redirects = tt;
      jobs = tt;
      version = refl;
    }))
  where
    keeps : KeepsRules tables
    keeps = KeepsRules-from_good tables good

-- ---- link rows

module _ {Row X : Type 0} (R : Row → Row → Bool) (S : X → X → Bool) (f : Row → X) (from : Row → ℕ) (page : ℕ) (same : (a b : Row) → from a ≡ page → from b ≡ page → R a b ≡ true → S (f a) (f b) ≡ true) where
  ahead-map : (row : Row) (rows : List Row) → from row ≡ page → AllByRecursion (λ r. from r ≡ page) rows → AllByRecursion (λ r. R row r ≡ true) rows → AllByRecursion (λ x. S (f row) x ≡ true) (map f rows)
  ahead-map row [] own all pairs = tt
  ahead-map row (r ∷ rows) own all pairs = (same row r own all.0 pairs.0, ahead-map row rows own all.1 pairs.1)

  pub pairs-map : (rows : List Row) → AllByRecursion (λ r. from r ≡ page) rows → Pairs R rows → Pairs S (map f rows)
  pairs-map [] all pairs = tt
  pairs-map (row ∷ rows) all pairs = (ahead-map row rows all.0 all.1 pairs.0, pairs-map rows all.1 pairs.1)

own-filter : {Row : Type 0} (from : Row → ℕ) (page : ℕ) (rows : List Row) → AllByRecursion (λ row. from row ≡ page) (filter (λ row. eqb (from row) page) rows)
own-filter from page [] = tt
own-filter from page (row ∷ rows) = elim (cases_Bool (eqb (from row) page)) [
  | inl same ↦ rw same (eqb-true (from row) page same, own-filter from page rows)
  | inr other ↦ rw other (own-filter from page rows)
]

each-map : {Row X : Type 0} (P : Row → Bool) (Q : X → Bool) (f : Row → X) → ((row : Row) → P row ≡ true → Q (f row) ≡ true) → (rows : List Row) → AllByRecursion (λ row. P row ≡ true) rows → AllByRecursion (λ x. Q x ≡ true) (map f rows)
each-map P Q f step [] all = tt
each-map P Q f step (row ∷ rows) all = (step row all.0, each-map P Q f step rows all.1)

module _ (tables : StoreTables) (page : ℕ) where
  targets-good : (rows : List LinkColumns) → EachGood (is_good_link tables) rows → EachGood is_next_title (targets_of page rows)
  targets-good rows good =
      let R = λ (earlier row : LinkColumns). row_lt earlier.from earlier.target row.from row.target in
      let P = λ (row : LinkColumns). (has_page tables row.from && int_eq row.from_namespace (namespace_of tables row.from)) && is_page_title row.target in
      let S = λ (a b : PageTitle). is_lt (title_cmp a b) in
      let mine = filter (λ (row : LinkColumns). eqb row.from page) rows in
      let passes = Passes-from_good R P (is_good_link tables) (λ before row. refl) rows good in
      let own = own-filter (λ (row : LinkColumns). row.from) page rows in
      EachGood-from_passes S is_page_title is_next_title (λ earlier title. refl) (targets_of page rows) (record {
        alone = each-map P is_page_title (λ (row : LinkColumns). row.target)
            (λ row holds. (and_parts (has_page tables row.from && int_eq row.from_namespace (namespace_of tables row.from)) (is_page_title row.target) holds).1)
            mine (each-filter (λ (row : LinkColumns). P row ≡ true) (λ (row : LinkColumns). eqb row.from page) rows passes.alone);
        paired = pairs-map R S (λ (row : LinkColumns). row.target) (λ (row : LinkColumns). row.from) page
            (λ a b one two before. sym (row_lt-same page a.target b.target)
            ∙ (ap₂ (λ m n. row_lt m a.target n b.target) (sym one) (sym two) ∙ before)) mine own
            (Pairs-filter R (λ (row : LinkColumns). eqb row.from page) rows passes.paired);
      })

  abbrev category_of : Member → PageTitle
  category_of member = category_title member.category.key

  members-good : EachGood (is_good_category tables) tables.categorylinks → EachGood is_next_member (rows_of_page tables page).members
  members-good good =
      let rows = tables.categorylinks in
      let R = λ (earlier row : CategoryColumns). row_lt earlier.cl_from (category_title earlier.cl_to) row.cl_from (category_title row.cl_to) in
      let P = λ (row : CategoryColumns). has_page tables row.cl_from && is_normal (category_title row.cl_to) in
      let S = λ (a b : Member). is_lt (title_cmp (category_of a) (category_of b)) in
      let mine = filter (λ (row : CategoryColumns). eqb row.cl_from page) rows in
      let passes = Passes-from_good R P (is_good_category tables) (λ before row. refl) rows good in
      let own = own-filter (λ (row : CategoryColumns). row.cl_from) page rows in
      EachGood-from_passes S (λ m. is_normal (category_of m)) is_next_member (λ earlier m. refl) (map member_of mine) (record {
        alone = each-map P (λ (m : Member). is_normal (category_of m)) member_of
            (λ row holds. (and_parts (has_page tables row.cl_from) (is_normal (category_title row.cl_to)) holds).1)
            mine (each-filter (λ (row : CategoryColumns). P row ≡ true) (λ (row : CategoryColumns). eqb row.cl_from page) rows passes.alone);
        paired = pairs-map R S member_of (λ (row : CategoryColumns). row.cl_from) page
            (λ a b one two before. sym (row_lt-same page (category_title a.cl_to) (category_title b.cl_to))
            ∙ (ap₂ (λ m n. row_lt m (category_title a.cl_to) n (category_title b.cl_to)) (sym one) (sym two) ∙ before)) mine own
            (Pairs-filter R (λ (row : CategoryColumns). eqb row.cl_from page) rows passes.paired);
      })

  in-category : (rows : List CategoryColumns) → AllByRecursion (λ (m : Member). m.category.ns ≡ pos 14) (map member_of rows)
  in-category [] = tt
  in-category (row ∷ rows) = (refl, in-category rows)

  redirect-good : (rows : List RedirectColumns) → AllByRecursion (λ (row : RedirectColumns). (has_page tables row.rd_from && is_page_title row.rd_title) ≡ true) rows
      → IfSome (option_map (λ (row : RedirectColumns). row.rd_title) (find (λ (row : RedirectColumns). eqb row.rd_from page) rows)) (λ title. is_page_title title ≡ true)
  redirect-good [] all = tt
  redirect-good (row ∷ rows) all = elim (cases_Bool (eqb row.rd_from page)) [
    | inl own ↦ rw own (and_parts (has_page tables row.rd_from) (is_page_title row.rd_title) all.0).1
    | inr other ↦ rw other (redirect-good rows all.1)
  ]

  links-good : KeepsRules tables → AreGoodRows (rows_of_page tables page)
  links-good keeps = record {
    templates = targets-good tables.templatelinks keeps.templatelinks;
    exists = targets-good tables.existlinks keeps.existlinks;
    links = targets-good tables.pagelinks keeps.pagelinks;
    members = members-good keeps.categorylinks;
    categories = in-category (filter (λ (row : CategoryColumns). eqb row.cl_from page) tables.categorylinks);
    redirect = redirect-good tables.redirects
        (Passes-from_good (λ (earlier row : RedirectColumns). ltb earlier.rd_from row.rd_from) (λ row. has_page tables row.rd_from && is_page_title row.rd_title)
        (is_good_redirect tables) (λ before row. refl) tables.redirects keeps.redirects).alone;
  }

pub stored-good : (tables : StoreTables) → KeepsRules tables → AllByRecursion AreGoodRows (stored_rows tables)
stored-good tables keeps = by tables.pages
  where
    by : (pages : List PageColumns) → AllByRecursion AreGoodRows (map (λ (page : PageColumns). rows_of_page tables page.page_id) pages)
    by [] = tt
    by (page ∷ pages) = (links-good tables page.page_id keeps, by pages)
