-- The places of jobs.
use Rattle.std.specs.Prelude.{◌≡◌, ℕ, Bool, true, ◌&&◌, ◌==◌, List, Some, is_some, IfSome}
use Rattle.std.specs.List.{All, filter_map}
use Rattle.wk_table_rules.specs.Rows.{JobColumns}
use Rattle.wk_table_rows.specs.Rising.{IsRising}
use Rattle.wk_tables.specs.declared.job_list.JobSlot.{JobSlot}

-- the rows of the places that aren't empty
abbrev pub rows_in : List JobSlot → List JobColumns
rows_in slots = filter_map (λ slot. slot.row) slots

-- the place of a job
abbrev pub slot_of : JobColumns → JobSlot
slot_of row = record { number = row.job_id; row = Some row }

-- the job with this number stands there
abbrev pub holds : ℕ → JobSlot → Bool
holds number slot = slot.number == number && is_some slot.row

-- each row has the number of its place, and where the list is in order the numbers rise
pub record KeepsJobs (slots : List JobSlot) (is_in_order : Bool) : Type 0 where
  pub numbered : All (λ slot. IfSome slot.row (λ row. row.job_id ≡ slot.number)) slots
  pub rising : is_in_order ≡ true → IsRising (λ slot. slot.number) slots
