-- Changes whose numbers fit a column of a database, which keeps whole numbers from -2^63 to 2^63 - 1 (own).
use Rattle.std.specs.Prelude.{ℕ, Bool, true, ◌&&◌, ◌^◌, nat_lt, List}
use Rattle.std.specs.List.{list_all}
use Rattle.wk_table_rules.specs.Rows.{PageColumns, RevisionColumns}
use Rattle.wk_table_rules.specs.Changes.{TableEdit, add_revision, set_page, add_job, set_job, drop_job}

abbrev pub fits_column : ℕ → Bool
fits_column number = nat_lt number (2 ^ 63)

-- the numbers of a revision but for its moment, which is kept in another way
abbrev pub revision_fits : RevisionColumns → Bool
revision_fits row = (fits_column row.rev_id && fits_column row.rev_page) && (fits_column row.rev_parent_id && fits_column row.rev_len)

abbrev pub page_fits : PageColumns → Bool
page_fits row = fits_column row.page_id && (fits_column row.page_latest && fits_column row.page_len)

-- a page with link rows is named by a number of 32 bits, and the version is kept as a text
abbrev pub edit_fits_columns : TableEdit → Bool
edit_fits_columns (add_revision row) = revision_fits row
edit_fits_columns (set_page row) = page_fits row
edit_fits_columns (add_job row) = fits_column row.job_id
edit_fits_columns (set_job row) = fits_column row.job_id
edit_fits_columns (drop_job id) = fits_column id
edit_fits_columns _ = true

-- all numbers of the change do
abbrev pub change_fits_columns : List TableEdit → Bool
change_fits_columns change = list_all edit_fits_columns change
