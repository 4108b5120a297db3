-- The rows of the tables as a database keeps them in the trees of `store_schema`.
use Rattle.std.specs.Prelude.{ℕ, ℤ, pos, negsuc, ◌-◌, ◌^◌, Bool, nat_lt, [], ◌∷◌, if◌then◌else◌}
use Rattle.sqlite_value.specs.declared.value.Value.TheVariants.{Null, Int, Text}
use Rattle.sqlite_value.specs.Order.{Row}
use Rattle.wk_table_rules.specs.Rows.{PageColumns, RevisionColumns, LinkColumns, CategoryColumns, RedirectColumns, JobColumns}

-- a moment in seconds since 1970, which is that number less 2^64 where it is 2^63 or more
abbrev pub stored_moment : ℕ → ℤ
stored_moment seconds = if nat_lt seconds (2 ^ 63) then pos seconds else negsuc (2 ^ 64 - 1 - seconds)

-- whether something is so, as 1 or 0
abbrev pub stored_flag : Bool → ℤ
stored_flag flag = if flag then pos 1 else pos 0

-- ---- the columns of a row, in their order

abbrev pub page_values : PageColumns → Row
page_values page = Int (pos page.page_id) ∷ Int page.page_title.ns ∷ Text page.page_title.key ∷ Int (pos page.page_latest) ∷ Int (pos page.page_len) ∷ []

abbrev pub revision_values : RevisionColumns → Row
revision_values revision =
    Int (pos revision.rev_id)
    ∷ Int (pos revision.rev_page)
    ∷ Int (pos revision.rev_parent_id)
    ∷ Int (stored_moment revision.rev_timestamp)
    ∷ Int (pos revision.rev_len)
    ∷ Int (stored_flag revision.rev_gone)
    ∷ Text revision.rev_text
    ∷ []

abbrev pub link_values : LinkColumns → Row
link_values link = Int (pos link.from) ∷ Int link.from_namespace ∷ Int link.target.ns ∷ Text link.target.key ∷ []

abbrev pub member_values : CategoryColumns → Row
member_values member = Int (pos member.cl_from) ∷ Text member.cl_to ∷ Text member.cl_sortkey ∷ Text member.cl_sortkey_prefix ∷ []

abbrev pub redirect_values : RedirectColumns → Row
redirect_values redirect = Int (pos redirect.rd_from) ∷ Int redirect.rd_title.ns ∷ Text redirect.rd_title.key ∷ []

abbrev pub job_values : JobColumns → Row
job_values job = Int (pos job.job_id) ∷ Text job.job_cmd ∷ Int job.job_title.ns ∷ Text job.job_title.key ∷ Text job.job_params ∷ []

-- ---- a row whose first column is its row number, as its tree keeps it: that number, NULL for the column, the others

abbrev pub entry : Row → Row
entry [] = []
entry (id ∷ others) = id ∷ Null ∷ others
