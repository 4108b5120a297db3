-- What a wiki keeps at all times, so that the tables of its states are good (own).
use Rattle.std.specs.Prelude.{◌≡◌, ℕ, ◌≤◌, ◌^◌, pos, true, [], IfSome}
use Rattle.std.specs.List.{AllByRecursion}
use Rattle.wk_text_rules.specs.Titles.{is_normal, is_page_title}
use Rattle.wk_page_rules.specs.History.{History}
use Rattle.wk_page_rules.specs.Verdict.{max_pages}
use Rattle.wk_page_rules.specs.PageRows.{Member, PageRows}
use Rattle.wk_table_rules.specs.Rows.{StoreTables}
use Rattle.wk_table_laws.specs.EachGood.{EachGood, KeepsRules}
use Rattle.wk_table_laws.specs.Premises.{is_next_title, is_next_member}
use Rattle.wk_wiki_rules.specs.Jobs.{FanEntry, IsNumbered, IsOneAPage, IsOneATitle, no_jobs}
use Rattle.wk_table_laws.specs.InOrder.{IsInOrder}
use Rattle.wk_wiki_rules.specs.States.{State}
use Rattle.wk_wiki_rules.specs.Tables.{tables_of}
use Rattle.wk_wiki_laws.specs.WellFormed.{IsWellFormed}

-- the tables of revisions and pages alone
abbrev pub history_tables : History → StoreTables
history_tables h = tables_of (record { history = h; stored = []; jobs = no_jobs })

-- the rows of a page are such as good tables have
pub record AreGoodRows (rows : PageRows) : Type 0 where
  pub templates : EachGood is_next_title rows.templates
  pub exists : EachGood is_next_title rows.exists
  pub links : EachGood is_next_title rows.links
  pub members : EachGood is_next_member rows.members
  pub categories : AllByRecursion (λ (m : Member). m.category.ns ≡ pos 14) rows.members
  pub redirect : IfSome rows.redirect (λ title. is_page_title title ≡ true)

-- a fan job's title is normal, and its cursor is a number that pages can have
abbrev pub FanFits : ℕ → FanEntry → Type 0
FanFits pages fan = (is_normal fan.title ≡ true) × (fan.cursor ≤ pages)

-- A wiki under full limits keeps this: each page has its stored rows and a title of its own, revisions, pages and rows are
-- such as good tables have, a page has one refresh job, a title one fan job, a job a number of its own, and numbers have
-- 64 bits.
pub record IsKept (state : State) : Type 0 where
  pub formed : IsWellFormed state
  -- the revisions and the pages are such as good tables have
  pub history : KeepsRules (history_tables state.history)
  pub links : AllByRecursion AreGoodRows state.stored
  pub numbered : IsNumbered state.jobs
  pub one_page : IsOneAPage state.jobs
  pub one_title : IsOneATitle state.jobs
  pub in_order : IsInOrder state.jobs
  pub next : state.jobs.next ≤ 2 ^ 63
  pub fans : AllByRecursion (FanFits max_pages) state.jobs.fans
