-- The last revision of each page.
use Rattle.std.specs.Prelude.{◌≡◌, ℕ, ◌+◌, ◌<◌, Bool, false, ◌&&◌, ◌==◌, List, length, Option, Some, None, option_map, slice_index_or, if◌then◌else◌}
use Rattle.std.specs.List.{All}
use Rattle.wk_table_rules.specs.Rows.{PageColumns, RevisionColumns}
use Rattle.wk_table_rules.specs.GoodStore.{last_revision}
use Rattle.wk_good_rows.specs.declared.history.LastRevision.{LastRevision}

abbrev pub last_of : RevisionColumns → LastRevision
last_of revision = record { current = if revision.rev_gone then 0 else revision.rev_id; len = revision.rev_len }

-- the current revision, 0 where there is none
abbrev pub current_in : Option LastRevision → ℕ
current_in None = 0
current_in (Some last) = last.current

-- the row says what its page's last revision is
abbrev pub is_latest : PageColumns → Option LastRevision → Bool
is_latest page None = false
is_latest page (Some last) = page.page_latest == last.current && page.page_len == last.len

-- each of so many pages has its last revision at its place
pub record AreLast (last : List (Option LastRevision)) (revisions : List RevisionColumns) (pages : ℕ) : Type 0 where
  pub len : length last ≡ pages
  pub each : (place : ℕ) (d : Option LastRevision) → place < pages → slice_index_or last place d ≡ option_map last_of (last_revision revisions (place + 1))

-- each revision is of one of so many pages
abbrev pub IsOfPages : ℕ → List RevisionColumns → Type 0
IsOfPages pages revisions = All (λ revision. (0 < revision.rev_page) × (revision.rev_page < pages + 1)) revisions
