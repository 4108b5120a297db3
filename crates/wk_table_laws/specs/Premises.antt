-- What an edit must bring so that good tables stay good.
use Rattle.std.specs.Prelude.{◌≡◌, ℕ, Bool, true, ◌&&◌, ◌||◌, ◌==◌, not, ◌+◌, ◌≤◌, List, [], ◌∷◌, ◌++◌, length, find, Some, IfSome, if◌then◌else◌}
use Rattle.std.specs.List.{list_all}
use Rattle.std.specs.Ordering.{is_lt}
use Rattle.wk_text_rules.specs.Titles.{PageTitle, title_cmp, is_normal, is_page_title}
use Rattle.wk_page_rules.specs.Verdict.{max_text, max_pages, max_texts}
use Rattle.wk_table_rules.specs.Rows.{JobColumns, PageColumns, RevisionColumns, StoreTables, category_title}
use Rattle.wk_page_rules.specs.PageRows.{Member, PageRows}
use Rattle.wk_table_rules.specs.Changes.{TableEdit, add_revision, set_page, set_rows, add_job, set_job, drop_job, set_version, applied, edited, has_job, has_page}
use Rattle.wk_table_rules.specs.GoodStore.{current_of, has_good_params, has_good_title, is_good_job, texts_len}
use Rattle.wk_table_laws.specs.EachGood.{EachGood}

-- a title that a page can have, behind all titles before it
abbrev pub is_next_title : List PageTitle → PageTitle → Bool
is_next_title before title = is_page_title title && list_all (λ earlier. is_lt (title_cmp earlier title)) before

-- a category, behind all categories before it
abbrev pub is_next_member : List Member → Member → Bool
is_next_member before member =
    is_normal (category_title member.category.key)
    && list_all (λ earlier. is_lt (title_cmp (category_title earlier.category.key) (category_title member.category.key))) before

-- the link rows of a page that is there: each list is in order and names no title twice
pub record FitRows (tables : StoreTables) (page : ℕ) (new : PageRows) : Type 0 where
  pub there : has_page tables page ≡ true
  -- a store of version 1 has no redirect row
  pub version : tables.version ≡ 2
  pub templates : EachGood is_next_title new.templates
  pub exists : EachGood is_next_title new.exists
  pub links : EachGood is_next_title new.links
  pub members : EachGood is_next_member new.members
  pub redirect : IfSome new.redirect (λ title. is_page_title title ≡ true)

-- the row of a job that is there, with other params of its kind
pub record FitJob (tables : StoreTables) (old new : JobColumns) : Type 0 where
  pub there : find (λ row. row.job_id == new.job_id) tables.jobs ≡ Some old
  pub same : new ≡ record old { job_params = new.job_params }
  pub params : has_good_params new ≡ true

-- a revision that is the next one, and the row that its page has from then on
pub record FitRevision (tables : StoreTables) (revision : RevisionColumns) (page : PageColumns) : Type 0 where
  pub number : revision.rev_id ≡ length tables.revisions + 1
  pub of_page : revision.rev_page ≡ page.page_id
  pub parent : revision.rev_parent_id ≡ current_of tables.revisions page.page_id
  pub gone : (not revision.rev_gone || length revision.rev_text == 0) ≡ true
  pub len : revision.rev_len ≡ length revision.rev_text
  pub short : revision.rev_len ≤ max_text
  pub room : texts_len (tables.revisions ++ revision ∷ []) ≤ max_texts
  pub latest : page.page_latest ≡ (if revision.rev_gone then 0 else revision.rev_id)
  pub page_len : page.page_len ≡ revision.rev_len

-- the row of a page that is there, with its title
pub record IsStanding (tables : StoreTables) (old new : PageColumns) : Type 0 where
  pub there : find (λ row. row.page_id == new.page_id) tables.pages ≡ Some old
  pub title : new.page_title ≡ old.page_title

-- the row of the next page, with a title of its own
pub record IsNext (tables : StoreTables) (new : PageColumns) : Type 0 where
  pub number : new.page_id ≡ length tables.pages + 1
  pub few : new.page_id ≤ max_pages
  pub title : has_good_title tables.pages new ≡ true

-- A change that brings what the rules ask: each edit does so at its turn, a revision together with its page's row.
pub data FitChange : StoreTables → List TableEdit → Type 0 where
  nothing : {tables : StoreTables} → FitChange tables []
  saves_page : {tables : StoreTables} {revision : RevisionColumns} {old page : PageColumns} {change : List TableEdit}
      → FitRevision tables revision page → IsStanding tables old page
      → FitChange (applied tables (add_revision revision ∷ set_page page ∷ [])) change
      → FitChange tables (add_revision revision ∷ set_page page ∷ change)
  adds_page : {tables : StoreTables} {revision : RevisionColumns} {page : PageColumns} {change : List TableEdit}
      → FitRevision tables revision page → IsNext tables page
      → FitChange (applied tables (add_revision revision ∷ set_page page ∷ [])) change
      → FitChange tables (add_revision revision ∷ set_page page ∷ change)
  sets_rows : {tables : StoreTables} {page : ℕ} {rows : PageRows} {change : List TableEdit}
      → FitRows tables page rows → FitChange (edited tables (set_rows page rows)) change
      → FitChange tables (set_rows page rows ∷ change)
  adds_job : {tables : StoreTables} {job : JobColumns} {change : List TableEdit}
      → is_good_job tables tables.jobs job ≡ true → FitChange (edited tables (add_job job)) change
      → FitChange tables (add_job job ∷ change)
  sets_job : {tables : StoreTables} {old job : JobColumns} {change : List TableEdit}
      → FitJob tables old job → FitChange (edited tables (set_job job)) change
      → FitChange tables (set_job job ∷ change)
  drops_job : {tables : StoreTables} {id : ℕ} {change : List TableEdit}
      → has_job tables id ≡ true → FitChange (edited tables (drop_job id)) change
      → FitChange tables (drop_job id ∷ change)
  raises_version : {tables : StoreTables} {change : List TableEdit}
      → FitChange (edited tables (set_version 2)) change
      → FitChange tables (set_version 2 ∷ change)
