-- Where the rows of one table are others, the rest of the tables stays.
use Rattle.std.proofs.Common.{◌≡◌, ◌≢◌, ℕ, eqb, List, true, false, refl, sym, ap, subst, ◌∙◌, true≢false, arith}
use Rattle.std.proofs.lemmas.Bool.Decides.{nat_tests}
use Rattle.sqlite_value.specs.Order.{Row}
use Rattle.sqlite_trees.specs.Tree.{Trees}
use Rattle.sqlite_keyed.proofs.ListLemmas.{all_of, all_both}
use Rattle.wk_table_rules.specs.Rows.{PageColumns, RevisionColumns, LinkColumns, CategoryColumns, RedirectColumns, JobColumns, StoreTables}
use Rattle.wk_sqltables.specs.StoreSchema.{store_schema}
use Rattle.wk_sqltables.specs.Entries.{page_values, revision_values, link_values, member_values, redirect_values, job_values}
use Rattle.wk_sqltables.specs.Held.{AreKeyed, AreListed, IsVersion, HoldTables, KeepsBut, link_cmp, member_cmp}

far : (a b : ℕ) → eqb a b ≡ false → a ≢ b
far a b h e = let hit : eqb a b ≡ true = grind (arith, nat_tests) in true≢false (sym hit ∙ h)

stay : (db next : Trees) (tree t : ℕ) (P : List Row → Type 0) → (t ≢ tree → next t ≡ db t) → eqb t tree ≡ false → P (db t) → P (next t)
stay db next tree t P same other = subst P (sym (same (far t tree other)))

pub keeps_on : (tree : ℕ) (a b c : Trees) → KeepsBut tree a b → KeepsBut tree b c → KeepsBut tree a c
keeps_on tree a b c = all_both (λ t. t.tree ≢ tree → b t.tree ≡ a t.tree) (λ t. t.tree ≢ tree → c t.tree ≡ b t.tree) (λ t. t.tree ≢ tree → c t.tree ≡ a t.tree) (λ t first then apart. then apart ∙ first apart) store_schema.tables

pub keeps_same : (tree : ℕ) (a b : Trees) → b ≡ a → KeepsBut tree a b
keeps_same tree a b same = all_of (λ t. t.tree ≢ tree → b t.tree ≡ a t.tree) (λ t _. ap (λ (db : Trees). db t.tree) same) store_schema.tables

module _ (db next : Trees) (tables : StoreTables) (was : HoldTables db tables) where
  pub pages_only : KeepsBut 0 db next → (new : List PageColumns) → AreKeyed page_values (next 0) new → HoldTables next (record tables { pages = new })
  pages_only others new now = record {
    pages = now;
    revisions = stay db next 0 2 (λ r. AreKeyed revision_values r tables.revisions) others.1.0 refl was.revisions;
    pagelinks = stay db next 0 3 (λ r. AreListed link_values link_cmp r tables.pagelinks) others.1.1.0 refl was.pagelinks;
    templatelinks = stay db next 0 5 (λ r. AreListed link_values link_cmp r tables.templatelinks) others.1.1.1.0 refl was.templatelinks;
    existlinks = stay db next 0 7 (λ r. AreListed link_values link_cmp r tables.existlinks) others.1.1.1.1.0 refl was.existlinks;
    categorylinks = stay db next 0 9 (λ r. AreListed member_values member_cmp r tables.categorylinks) others.1.1.1.1.1.0 refl was.categorylinks;
    jobs = stay db next 0 11 (λ r. AreKeyed job_values r tables.jobs) others.1.1.1.1.1.1.0 refl was.jobs;
    version = stay db next 0 12 (λ r. IsVersion r tables.version) others.1.1.1.1.1.1.1.0 refl was.version;
    redirects = stay db next 0 14 (λ r. AreKeyed redirect_values r tables.redirects) others.1.1.1.1.1.1.1.1.0 refl was.redirects;
  }

  pub revisions_only : KeepsBut 2 db next → (new : List RevisionColumns) → AreKeyed revision_values (next 2) new → HoldTables next (record tables { revisions = new })
  revisions_only others new now = record {
    pages = stay db next 2 0 (λ r. AreKeyed page_values r tables.pages) others.0 refl was.pages;
    revisions = now;
    pagelinks = stay db next 2 3 (λ r. AreListed link_values link_cmp r tables.pagelinks) others.1.1.0 refl was.pagelinks;
    templatelinks = stay db next 2 5 (λ r. AreListed link_values link_cmp r tables.templatelinks) others.1.1.1.0 refl was.templatelinks;
    existlinks = stay db next 2 7 (λ r. AreListed link_values link_cmp r tables.existlinks) others.1.1.1.1.0 refl was.existlinks;
    categorylinks = stay db next 2 9 (λ r. AreListed member_values member_cmp r tables.categorylinks) others.1.1.1.1.1.0 refl was.categorylinks;
    jobs = stay db next 2 11 (λ r. AreKeyed job_values r tables.jobs) others.1.1.1.1.1.1.0 refl was.jobs;
    version = stay db next 2 12 (λ r. IsVersion r tables.version) others.1.1.1.1.1.1.1.0 refl was.version;
    redirects = stay db next 2 14 (λ r. AreKeyed redirect_values r tables.redirects) others.1.1.1.1.1.1.1.1.0 refl was.redirects;
  }

  pub pagelinks_only : KeepsBut 3 db next → (new : List LinkColumns) → AreListed link_values link_cmp (next 3) new → HoldTables next (record tables { pagelinks = new })
  pagelinks_only others new now = record {
    pages = stay db next 3 0 (λ r. AreKeyed page_values r tables.pages) others.0 refl was.pages;
    revisions = stay db next 3 2 (λ r. AreKeyed revision_values r tables.revisions) others.1.0 refl was.revisions;
    pagelinks = now;
    templatelinks = stay db next 3 5 (λ r. AreListed link_values link_cmp r tables.templatelinks) others.1.1.1.0 refl was.templatelinks;
    existlinks = stay db next 3 7 (λ r. AreListed link_values link_cmp r tables.existlinks) others.1.1.1.1.0 refl was.existlinks;
    categorylinks = stay db next 3 9 (λ r. AreListed member_values member_cmp r tables.categorylinks) others.1.1.1.1.1.0 refl was.categorylinks;
    jobs = stay db next 3 11 (λ r. AreKeyed job_values r tables.jobs) others.1.1.1.1.1.1.0 refl was.jobs;
    version = stay db next 3 12 (λ r. IsVersion r tables.version) others.1.1.1.1.1.1.1.0 refl was.version;
    redirects = stay db next 3 14 (λ r. AreKeyed redirect_values r tables.redirects) others.1.1.1.1.1.1.1.1.0 refl was.redirects;
  }

  pub templatelinks_only : KeepsBut 5 db next → (new : List LinkColumns) → AreListed link_values link_cmp (next 5) new → HoldTables next (record tables { templatelinks = new })
  templatelinks_only others new now = record {
    pages = stay db next 5 0 (λ r. AreKeyed page_values r tables.pages) others.0 refl was.pages;
    revisions = stay db next 5 2 (λ r. AreKeyed revision_values r tables.revisions) others.1.0 refl was.revisions;
    pagelinks = stay db next 5 3 (λ r. AreListed link_values link_cmp r tables.pagelinks) others.1.1.0 refl was.pagelinks;
    templatelinks = now;
    existlinks = stay db next 5 7 (λ r. AreListed link_values link_cmp r tables.existlinks) others.1.1.1.1.0 refl was.existlinks;
    categorylinks = stay db next 5 9 (λ r. AreListed member_values member_cmp r tables.categorylinks) others.1.1.1.1.1.0 refl was.categorylinks;
    jobs = stay db next 5 11 (λ r. AreKeyed job_values r tables.jobs) others.1.1.1.1.1.1.0 refl was.jobs;
    version = stay db next 5 12 (λ r. IsVersion r tables.version) others.1.1.1.1.1.1.1.0 refl was.version;
    redirects = stay db next 5 14 (λ r. AreKeyed redirect_values r tables.redirects) others.1.1.1.1.1.1.1.1.0 refl was.redirects;
  }

  pub existlinks_only : KeepsBut 7 db next → (new : List LinkColumns) → AreListed link_values link_cmp (next 7) new → HoldTables next (record tables { existlinks = new })
  existlinks_only others new now = record {
    pages = stay db next 7 0 (λ r. AreKeyed page_values r tables.pages) others.0 refl was.pages;
    revisions = stay db next 7 2 (λ r. AreKeyed revision_values r tables.revisions) others.1.0 refl was.revisions;
    pagelinks = stay db next 7 3 (λ r. AreListed link_values link_cmp r tables.pagelinks) others.1.1.0 refl was.pagelinks;
    templatelinks = stay db next 7 5 (λ r. AreListed link_values link_cmp r tables.templatelinks) others.1.1.1.0 refl was.templatelinks;
    existlinks = now;
    categorylinks = stay db next 7 9 (λ r. AreListed member_values member_cmp r tables.categorylinks) others.1.1.1.1.1.0 refl was.categorylinks;
    jobs = stay db next 7 11 (λ r. AreKeyed job_values r tables.jobs) others.1.1.1.1.1.1.0 refl was.jobs;
    version = stay db next 7 12 (λ r. IsVersion r tables.version) others.1.1.1.1.1.1.1.0 refl was.version;
    redirects = stay db next 7 14 (λ r. AreKeyed redirect_values r tables.redirects) others.1.1.1.1.1.1.1.1.0 refl was.redirects;
  }

  pub categorylinks_only : KeepsBut 9 db next → (new : List CategoryColumns) → AreListed member_values member_cmp (next 9) new → HoldTables next (record tables { categorylinks = new })
  categorylinks_only others new now = record {
    pages = stay db next 9 0 (λ r. AreKeyed page_values r tables.pages) others.0 refl was.pages;
    revisions = stay db next 9 2 (λ r. AreKeyed revision_values r tables.revisions) others.1.0 refl was.revisions;
    pagelinks = stay db next 9 3 (λ r. AreListed link_values link_cmp r tables.pagelinks) others.1.1.0 refl was.pagelinks;
    templatelinks = stay db next 9 5 (λ r. AreListed link_values link_cmp r tables.templatelinks) others.1.1.1.0 refl was.templatelinks;
    existlinks = stay db next 9 7 (λ r. AreListed link_values link_cmp r tables.existlinks) others.1.1.1.1.0 refl was.existlinks;
    categorylinks = now;
    jobs = stay db next 9 11 (λ r. AreKeyed job_values r tables.jobs) others.1.1.1.1.1.1.0 refl was.jobs;
    version = stay db next 9 12 (λ r. IsVersion r tables.version) others.1.1.1.1.1.1.1.0 refl was.version;
    redirects = stay db next 9 14 (λ r. AreKeyed redirect_values r tables.redirects) others.1.1.1.1.1.1.1.1.0 refl was.redirects;
  }

  pub jobs_only : KeepsBut 11 db next → (new : List JobColumns) → AreKeyed job_values (next 11) new → HoldTables next (record tables { jobs = new })
  jobs_only others new now = record {
    pages = stay db next 11 0 (λ r. AreKeyed page_values r tables.pages) others.0 refl was.pages;
    revisions = stay db next 11 2 (λ r. AreKeyed revision_values r tables.revisions) others.1.0 refl was.revisions;
    pagelinks = stay db next 11 3 (λ r. AreListed link_values link_cmp r tables.pagelinks) others.1.1.0 refl was.pagelinks;
    templatelinks = stay db next 11 5 (λ r. AreListed link_values link_cmp r tables.templatelinks) others.1.1.1.0 refl was.templatelinks;
    existlinks = stay db next 11 7 (λ r. AreListed link_values link_cmp r tables.existlinks) others.1.1.1.1.0 refl was.existlinks;
    categorylinks = stay db next 11 9 (λ r. AreListed member_values member_cmp r tables.categorylinks) others.1.1.1.1.1.0 refl was.categorylinks;
    jobs = now;
    version = stay db next 11 12 (λ r. IsVersion r tables.version) others.1.1.1.1.1.1.1.0 refl was.version;
    redirects = stay db next 11 14 (λ r. AreKeyed redirect_values r tables.redirects) others.1.1.1.1.1.1.1.1.0 refl was.redirects;
  }

  pub version_only : KeepsBut 12 db next → (new : ℕ) → IsVersion (next 12) new → HoldTables next (record tables { version = new })
  version_only others new now = record {
    pages = stay db next 12 0 (λ r. AreKeyed page_values r tables.pages) others.0 refl was.pages;
    revisions = stay db next 12 2 (λ r. AreKeyed revision_values r tables.revisions) others.1.0 refl was.revisions;
    pagelinks = stay db next 12 3 (λ r. AreListed link_values link_cmp r tables.pagelinks) others.1.1.0 refl was.pagelinks;
    templatelinks = stay db next 12 5 (λ r. AreListed link_values link_cmp r tables.templatelinks) others.1.1.1.0 refl was.templatelinks;
    existlinks = stay db next 12 7 (λ r. AreListed link_values link_cmp r tables.existlinks) others.1.1.1.1.0 refl was.existlinks;
    categorylinks = stay db next 12 9 (λ r. AreListed member_values member_cmp r tables.categorylinks) others.1.1.1.1.1.0 refl was.categorylinks;
    jobs = stay db next 12 11 (λ r. AreKeyed job_values r tables.jobs) others.1.1.1.1.1.1.0 refl was.jobs;
    version = now;
    redirects = stay db next 12 14 (λ r. AreKeyed redirect_values r tables.redirects) others.1.1.1.1.1.1.1.1.0 refl was.redirects;
  }

  pub redirects_only : KeepsBut 14 db next → (new : List RedirectColumns) → AreKeyed redirect_values (next 14) new → HoldTables next (record tables { redirects = new })
  redirects_only others new now = record {
    pages = stay db next 14 0 (λ r. AreKeyed page_values r tables.pages) others.0 refl was.pages;
    revisions = stay db next 14 2 (λ r. AreKeyed revision_values r tables.revisions) others.1.0 refl was.revisions;
    pagelinks = stay db next 14 3 (λ r. AreListed link_values link_cmp r tables.pagelinks) others.1.1.0 refl was.pagelinks;
    templatelinks = stay db next 14 5 (λ r. AreListed link_values link_cmp r tables.templatelinks) others.1.1.1.0 refl was.templatelinks;
    existlinks = stay db next 14 7 (λ r. AreListed link_values link_cmp r tables.existlinks) others.1.1.1.1.0 refl was.existlinks;
    categorylinks = stay db next 14 9 (λ r. AreListed member_values member_cmp r tables.categorylinks) others.1.1.1.1.1.0 refl was.categorylinks;
    jobs = stay db next 14 11 (λ r. AreKeyed job_values r tables.jobs) others.1.1.1.1.1.1.0 refl was.jobs;
    version = stay db next 14 12 (λ r. IsVersion r tables.version) others.1.1.1.1.1.1.1.0 refl was.version;
    redirects = now;
  }
