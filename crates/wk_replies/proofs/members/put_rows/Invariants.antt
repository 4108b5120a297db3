use Rattle.std.proofs.Common.{◌≡◌, take}
use Rattle.serde_json.specs.View.{members_view}
use Rattle.wk_replies.specs.Members.{with_rows}
use Rattle.wk_replies.proofs.members.put_rows.Given as goal

abbrev pub invariant-loop-row : goal.invariant-loop-row
invariant-loop-row l = members_view l.members.entries ≡ with_rows (members_view l.initial.members.entries) (take l.row-index l.table)
