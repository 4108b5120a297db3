-- What the edits of a change mean.
use Rattle.wk_table_rules.specs.Changes.{TableEdit, add_revision, set_page, set_rows, add_job, set_job, drop_job, set_version}
use Rattle.wk_tables.specs.declared.change.RowEdit.{RowEdit}
use Rattle.wk_tables.specs.declared.change.RowEdit.TheVariants.{AddRevision, SetPage, SetRows, AddJob, SetJob, DropJob, SetVersion}

abbrev pub edit_of : RowEdit → TableEdit
edit_of (AddRevision row) = add_revision row
edit_of (SetPage row) = set_page row
edit_of (SetRows page links) = set_rows page links
edit_of (AddJob row) = add_job row
edit_of (SetJob row) = set_job row
edit_of (DropJob id) = drop_job id
edit_of (SetVersion version) = set_version version
