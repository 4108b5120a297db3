-- What the change of a store of version 1 rests on.
use Rattle.std.proofs.Common.{◌≡◌, ℕ, ◌+◌, ◌≤◌, ◌<◌, ◌^◌, List, ◌∷◌, length, true, eqb, sym, ap, ◌∙◌, arith}
use Rattle.std.specs.List.{range_with_len}
use Rattle.std.proofs.lemmas.List.FromFn.{length-range_with_len}
use Rattle.std.proofs.lemmas.List.{length-map}
use Rattle.wk_page_rules.specs.History.{History}
use Rattle.wk_page_rules.specs.Verdict.{max_pages}
use Rattle.wk_table_rules.specs.Rows.{StoreTables, newest_version}
use Rattle.wk_table_rules.specs.Changes.{TableEdit, set_version}
use Rattle.wk_table_rules.specs.GoodStore.{IsGood}
use Rattle.wk_table_rules.specs.Stored.{history_of, page_of_row}
use Rattle.wk_wiki_rules.specs.Jobs.{JobLists}
use Rattle.wk_wiki_rules.specs.Steps.{jobs_of_tables, reopened_jobs}
use Rattle.wk_revs.proofs.RowLaws.{pages_few}
use Rattle.wk_wiki_rules.specs.States.{State, title_at}
use Rattle.wk_wiki_rules.specs.Tables.{state_of}
use Rattle.wk_wiki_laws.proofs.ReadBack.{state-back as opened-back}
use Rattle.wk_wiki_laws.proofs.StoresOpened.{state-back, kept-good}
use Rattle.wk_wiki_rules.specs.TableChanges.{migration, refreshes_edits}

module _ (tables : StoreTables) (good : IsGood tables) where
  -- the jobs of good tables are as a restart has them
  jobs-reopened : reopened_jobs (jobs_of_tables tables) ≡ jobs_of_tables tables
  jobs-reopened =
      ap (λ (state : State). state.jobs) (sym (opened-back (state_of tables) (kept-good tables good)) ∙ ap state_of (state-back tables good))

  pub few : (h : History) → h ≡ history_of tables → length h.pages ≤ max_pages
  few h same =
      let count : length h.pages ≡ length tables.pages = ap (λ (loaded : History). length loaded.pages) same ∙ length-map tables.pages page_of_row in
      let most = pages_few tables good in
      omega (arith, count, most)

  pub numbers-fit : (lists : JobLists) (pages : List ℕ) (count : ℕ) → lists ≡ reopened_jobs (jobs_of_tables tables) → pages ≡ range_with_len 1 count → count ≤ max_pages → lists.next + length pages < 2 ^ 64
  numbers-fit lists pages count loaded listed small =
      let next : lists.next ≡ (jobs_of_tables tables).next = ap (λ (jobs : JobLists). jobs.next) (loaded ∙ jobs-reopened) in
      let high = (kept-good tables good).next in
      let len : length pages ≡ count = ap (λ (ps : List ℕ). length ps) listed ∙ length-range_with_len 1 count in
      omega (arith, next, high, len, small)

  pub migrated : (h : History) (lists : JobLists) (pages : List ℕ) (edits : List TableEdit) → eqb tables.version 1 ≡ true → h ≡ history_of tables → lists ≡ reopened_jobs (jobs_of_tables tables)
      → pages ≡ range_with_len 1 (length h.pages) → edits ≡ refreshes_edits (title_at h) lists pages → set_version newest_version ∷ edits ≡ migration tables
  migrated h lists pages edits old same loaded listed is =
      let made : edits ≡ refreshes_edits (title_at (history_of tables)) (jobs_of_tables tables) (range_with_len 1 (length (history_of tables).pages)) =
      is
      ∙ (ap (λ (loaded : History). refreshes_edits (title_at loaded) lists pages) same
      ∙ (ap (λ (jobs : JobLists). refreshes_edits (title_at (history_of tables)) jobs pages) (loaded ∙ jobs-reopened)
      ∙ ap (refreshes_edits (title_at (history_of tables)) (jobs_of_tables tables)) (listed ∙ ap (λ (loaded : History). range_with_len 1 (length loaded.pages)) same))) in
      rw old (ap (λ (later : List TableEdit). set_version newest_version ∷ later) made)
