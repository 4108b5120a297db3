-- The rows of a save, by what stands of its title.
use Rattle.std.specs.Prelude.{ℕ, List, [], length, Option, is_some, unwrap_or, if◌then◌else◌}
use Rattle.wk_text_rules.specs.Titles.{PageTitle}
use Rattle.wk_table_rules.specs.Rows.{PageColumns, RevisionColumns}
use Rattle.wk_wiki_rules.specs.Tables.{revision_row}
use Rattle.wk_revs.specs.declared.standing.Standing.{Standing}

-- the row of the revision that the save makes
abbrev pub revision_of_save : Standing → Option (List ℕ) → ℕ → RevisionColumns
revision_of_save standing text moment = revision_row (
  standing.next,
  record {
    page = standing.to_save;
    parent = standing.current;
    moment = moment;
    text = text;
  },
)

-- the row that the page has from then on; a deletion leaves it missing
abbrev pub page_of_save : Standing → PageTitle → Option (List ℕ) → PageColumns
page_of_save standing title text = record {
  page_id = standing.to_save;
  page_title = title;
  page_latest = if is_some text then standing.next else 0;
  page_len = length (unwrap_or text []);
}
