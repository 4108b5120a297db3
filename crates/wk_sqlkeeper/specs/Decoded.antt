-- The row of a table that has these columns, where they are columns of such a row.
use Rattle.std.specs.Prelude.{ℕ, ℤ, pos, negsuc, ◌-◌, ◌^◌, Bool, List, []}
use Rattle.std.specs.Ordering.{int_eq}
use Rattle.sqlite_value.specs.declared.value.Value.{Value}
use Rattle.sqlite_value.specs.declared.value.Value.TheVariants.{Int, Text}
use Rattle.sqlite_value.specs.Order.{column}
use Rattle.wk_table_rules.specs.Rows.{PageColumns, RevisionColumns, LinkColumns, CategoryColumns, RedirectColumns, JobColumns}

abbrev pub nat_in : Value → ℕ
nat_in (Int (pos n)) = n
nat_in _ = 0

abbrev pub whole_in : Value → ℤ
whole_in (Int n) = n
whole_in _ = pos 0

abbrev pub words_in : Value → List ℕ
words_in (Text t) = t
words_in _ = []

abbrev pub of_moment : ℤ → ℕ
of_moment (pos n) = n
of_moment (negsuc n) = 2 ^ 64 - 1 - n

abbrev pub flag_in : Value → Bool
flag_in v = int_eq (whole_in v) (pos 1)

-- ---- the row of each table

abbrev pub page_in : List Value → PageColumns
page_in v = record { page_id = nat_in (column v 0); page_title = record { ns = whole_in (column v 1); key = words_in (column v 2) }; page_latest = nat_in (column v 3); page_len = nat_in (column v 4) }

abbrev pub revision_in : List Value → RevisionColumns
revision_in v = record {
  rev_id = nat_in (column v 0);
  rev_page = nat_in (column v 1);
  rev_parent_id = nat_in (column v 2);
  rev_timestamp = of_moment (whole_in (column v 3));
  rev_len = nat_in (column v 4);
  rev_gone = flag_in (column v 5);
  rev_text = words_in (column v 6);
}

abbrev pub link_in : List Value → LinkColumns
link_in v = record { from = nat_in (column v 0); from_namespace = whole_in (column v 1); target = record { ns = whole_in (column v 2); key = words_in (column v 3) } }

abbrev pub member_in : List Value → CategoryColumns
member_in v = record { cl_from = nat_in (column v 0); cl_to = words_in (column v 1); cl_sortkey = words_in (column v 2); cl_sortkey_prefix = words_in (column v 3) }

abbrev pub redirect_in : List Value → RedirectColumns
redirect_in v = record { rd_from = nat_in (column v 0); rd_title = record { ns = whole_in (column v 1); key = words_in (column v 2) } }

abbrev pub job_in : List Value → JobColumns
job_in v = record { job_id = nat_in (column v 0); job_cmd = words_in (column v 1); job_title = record { ns = whole_in (column v 2); key = words_in (column v 3) }; job_params = words_in (column v 4) }
