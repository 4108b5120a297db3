use Rattle.std.proofs.Common.{◌≡◌, map, take}
use Rattle.serde_json.specs.View.{view}
use Rattle.wk_table_rows.specs.Members.{member_of}
use Rattle.wk_answer_rules.specs.Pages.{category_value}
use Rattle.wk_replies.proofs.pages.categories_value.Given as goal

abbrev pub invariant-loop-member : goal.invariant-loop-member
invariant-loop-member l = map view l.values.items ≡ map category_value (map member_of (take l.member-index l.members))
