-- What `Tables` holds.
use Rattle.std.specs.Prelude.{◌≡◌, ◌+◌, ◌≤◌, true, vec_len, vec_capacity}
use Rattle.wk_tables.specs.Links.{ArePagesOf, HaveRoom, pages_of}
use Rattle.wk_tables.specs.Held.{Held}
use Rattle.wk_table_rows.specs.Rising.{IsRising}
use Rattle.wk_tables.specs.declared.tables.Tables.TheInside.{Inside}

abbrev pub held : Inside → Held
held t = record {
  tables = record {
    pages = t.pages.items;
    revisions = t.revisions.items;
    pagelinks = t.links.pagelinks.rows;
    templatelinks = t.links.templatelinks.rows;
    existlinks = t.links.existlinks.rows;
    categorylinks = t.links.categorylinks.rows;
    redirects = t.links.redirects.rows;
    jobs = t.jobs.rows;
    version = t.version;
  };
  spare = t.spare;
}

-- there is room in each table, and what is said of the pages' numbers holds
pub record IsHeld (t : Inside) : Type 0 where
  pub pages_room : t.spare + vec_len t.pages ≤ vec_capacity t.pages
  pub revisions_room : t.spare + vec_len t.revisions ≤ vec_capacity t.revisions
  pub links_room : HaveRoom t.links t.spare
  pub jobs_room : t.spare ≤ t.jobs.spare
  pub by_page : ArePagesOf (pages_of t.links) t.pages.items
  pub rising : t.is_in_order ≡ true → IsRising (λ page. page.page_id) t.pages.items
