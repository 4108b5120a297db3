-- The first rule that is broken, rule by rule.
use Rattle.std.proofs.Common.{◌≡◌, ℕ, zero, suc, ◌+◌, ◌<◌, true, eqb, leb, not, ◌&&◌, ◌||◌, List, [], ◌∷◌, ◌++◌, length, get_or, Option, Some, None, refl, sym, ap, ◌∙◌, inl, inr, arith}
use Rattle.std.proofs.lemmas.Bool.{cases_Bool, and_parts}
use Rattle.wk_page_rules.specs.Verdict.{max_text, max_texts}
use Rattle.wk_table_rules.specs.Rows.{RevisionColumns, StoreTables}
use Rattle.wk_table_rules.specs.Changes.{has_page}
use Rattle.wk_table_rules.specs.GoodStore.{bad_history, bad_version, first_bad, first_bad_after, first_broken, first_in_tables, first_rule, has_good_id, has_good_title, is_good_job, is_good_revision, judged_links, judged_rules, texts_len}
use Rattle.wk_good_rows.specs.Last.{IsOfPages}
use Rattle.wk_good_rows.proofs.PageNumbers.{within-of}

-- the rule's row is told
stops : (rule row : ℕ) (found : Option ℕ) (rules : List (Option ℕ)) → Some row ≡ found → Some (record { rule = rule; row = row }) ≡ first_rule rule (found ∷ rules)
stops rule row found rules is = ap (λ o. first_rule rule (o ∷ rules)) is

-- the rule is kept
goes-on : (rule : ℕ) (found : Option ℕ) (rules : List (Option ℕ)) → None ≡ found → first_rule (rule + 1) rules ≡ first_rule rule (found ∷ rules)
goes-on rule found rules is = ap (λ o. first_rule rule (o ∷ rules)) is

all-rules : (tables : StoreTables) → first_rule 1 (judged_rules tables) ≡ first_broken tables
unfolding first_broken
all-rules tables = refl

module _ (tables : StoreTables) where
  abbrev ids : Option ℕ
  ids = first_bad has_good_id tables.pages

  abbrev titles : Option ℕ
  titles = first_bad has_good_title tables.pages

  abbrev revisions : Option ℕ
  revisions = first_bad (is_good_revision tables) tables.revisions

  abbrev history : Option ℕ
  history = bad_history tables

  abbrev links : Option ℕ
  links = first_in_tables (judged_links tables)

  abbrev jobs : Option ℕ
  jobs = first_bad (is_good_job tables) tables.jobs

  abbrev behind_jobs : List (Option ℕ)
  behind_jobs = bad_version tables ∷ []

  abbrev behind_links : List (Option ℕ)
  behind_links = jobs ∷ behind_jobs

  abbrev behind_history : List (Option ℕ)
  behind_history = links ∷ behind_links

  abbrev behind_revisions : List (Option ℕ)
  behind_revisions = history ∷ behind_history

  abbrev behind_titles : List (Option ℕ)
  behind_titles = revisions ∷ behind_revisions

  abbrev behind_ids : List (Option ℕ)
  behind_ids = titles ∷ behind_titles

  pub second : None ≡ ids → first_rule 2 behind_ids ≡ first_broken tables
  second none = goes-on 1 ids behind_ids none ∙ all-rules tables

  pub third : None ≡ ids → None ≡ titles → first_rule 3 behind_titles ≡ first_broken tables
  third a b = goes-on 2 titles behind_titles b ∙ second a

  pub fourth : None ≡ ids → None ≡ titles → None ≡ revisions → first_rule 4 behind_revisions ≡ first_broken tables
  fourth a b c = goes-on 3 revisions behind_revisions c ∙ third a b

  pub fifth : None ≡ ids → None ≡ titles → None ≡ revisions → None ≡ history → first_rule 5 behind_history ≡ first_broken tables
  fifth a b c d = goes-on 4 history behind_history d ∙ fourth a b c

  pub sixth : None ≡ ids → None ≡ titles → None ≡ revisions → None ≡ history → None ≡ links → first_rule 6 behind_links ≡ first_broken tables
  sixth a b c d e = goes-on 5 links behind_links e ∙ fifth a b c d

  pub seventh : None ≡ ids → None ≡ titles → None ≡ revisions → None ≡ history → None ≡ links → None ≡ jobs → first_rule 7 behind_jobs ≡ first_broken tables
  seventh a b c d e f = goes-on 6 jobs behind_jobs f ∙ sixth a b c d e

  pub breaks-first : (row : ℕ) → Some row ≡ ids → Some (record { rule = 1; row = row }) ≡ first_broken tables
  breaks-first row is = stops 1 row ids behind_ids is ∙ all-rules tables

  pub breaks-second : (row : ℕ) → Some row ≡ titles → None ≡ ids → Some (record { rule = 2; row = row }) ≡ first_broken tables
  breaks-second row is a = stops 2 row titles behind_titles is ∙ second a

  pub breaks-third : (row : ℕ) → Some row ≡ revisions → None ≡ ids → None ≡ titles → Some (record { rule = 3; row = row }) ≡ first_broken tables
  breaks-third row is a b = stops 3 row revisions behind_revisions is ∙ third a b

  pub breaks-fourth : (row : ℕ) → Some row ≡ history → None ≡ ids → None ≡ titles → None ≡ revisions → Some (record { rule = 4; row = row }) ≡ first_broken tables
  breaks-fourth row is a b c = stops 4 row history behind_history is ∙ fourth a b c

  pub breaks-fifth : (row : ℕ) → Some row ≡ links → None ≡ ids → None ≡ titles → None ≡ revisions → None ≡ history → Some (record { rule = 5; row = row }) ≡ first_broken tables
  breaks-fifth row is a b c d = stops 5 row links behind_links is ∙ fifth a b c d

  pub breaks-sixth : (row : ℕ) → Some row ≡ jobs → None ≡ ids → None ≡ titles → None ≡ revisions → None ≡ history → None ≡ links → Some (record { rule = 6; row = row }) ≡ first_broken tables
  breaks-sixth row is a b c d e = stops 6 row jobs behind_jobs is ∙ sixth a b c d e

  pub breaks-seventh : (row : ℕ) → Some row ≡ bad_version tables → None ≡ ids → None ≡ titles → None ≡ revisions → None ≡ history → None ≡ links → None ≡ jobs → Some (record { rule = 7; row = row }) ≡ first_broken tables
  breaks-seventh row is a b c d e f = stops 7 row (bad_version tables) [] is ∙ seventh a b c d e f

  pub breaks-none : None ≡ bad_version tables → None ≡ ids → None ≡ titles → None ≡ revisions → None ≡ history → None ≡ links → None ≡ jobs → None ≡ first_broken tables
  breaks-none is a b c d e f = goes-on 7 (bad_version tables) [] is ∙ seventh a b c d e f

  -- revisions that are good are of pages
  of-page : (before : List RevisionColumns) (row : RevisionColumns) → is_good_revision tables before row ≡ true → has_page tables row.rev_page ≡ true
  of-page before row good =
      let id = eqb row.rev_id (length before + 1) in
      let gone = not row.rev_gone || eqb (length row.rev_text) 0 in
      let short = eqb row.rev_len (length row.rev_text) && leb row.rev_len max_text in
      let texts = leb (texts_len (before ++ row ∷ [])) max_texts in
      let three = and_parts (((id && has_page tables row.rev_page) && gone) && short) texts good in
      let two = and_parts ((id && has_page tables row.rev_page) && gone) short three.0 in
      let one = and_parts (id && has_page tables row.rev_page) gone two.0 in
      (and_parts id (has_page tables row.rev_page) one.0).1

  of-pages-after : (before rows : List RevisionColumns) → first_bad_after (is_good_revision tables) before rows ≡ None → (k : ℕ) (d : RevisionColumns) → k < length rows → has_page tables (get_or rows k d).rev_page ≡ true
  of-pages-after before [] none k d inside = absurd (omega arith)
  of-pages-after before (row ∷ rows) none k d inside = elim (cases_Bool (is_good_revision tables before row)) [
    | inl good ↦ at k d inside good (λ j within. of-pages-after (before ++ row ∷ []) rows (rw good at none) j d within)
    | inr bad ↦ absurd (let e : Some (length before + 1) ≡ None = rw bad at none in cc)
  ]
    where
      at : (k : ℕ) (d : RevisionColumns) → k < suc (length rows) → is_good_revision tables before row ≡ true → ((j : ℕ) → j < length rows → has_page tables (get_or rows j d).rev_page ≡ true)
          → has_page tables (get_or (row ∷ rows) k d).rev_page ≡ true
      at zero d inside good later = of-page before row good
      at (suc k) d inside good later = later k (omega arith)

  pub of-pages : None ≡ ids → None ≡ revisions → IsOfPages (length tables.pages) tables.revisions
  of-pages a c k d inside = within-of tables.pages (sym a) (get_or tables.revisions k d).rev_page (of-pages-after [] tables.revisions (sym c) k d inside)
