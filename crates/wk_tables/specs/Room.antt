-- How much room a change wants.
use Rattle.std.specs.Prelude.{ℕ, ◌+◌, List, [], ◌∷◌, length}
use Rattle.wk_page_rules.specs.PageRows.{PageRows}
use Rattle.wk_table_rules.specs.Changes.{TableEdit, add_revision, set_page, set_rows, add_job, set_job, drop_job, set_version}

-- room for the link rows of a page
abbrev pub lists_room : PageRows → ℕ
lists_room links = length links.templates + length links.exists + length links.links + length links.members + 1

abbrev pub edit_room : TableEdit → ℕ
edit_room (add_revision row) = 1
edit_room (set_page row) = 1
edit_room (set_rows page links) = lists_room links
edit_room (add_job row) = 1
edit_room (set_job row) = 1
edit_room (drop_job id) = 1
edit_room (set_version version) = 1

-- room for all edits of a change
abbrev pub room_for : List TableEdit → ℕ
room_for [] = 0
room_for (edit ∷ change) = edit_room edit + room_for change
