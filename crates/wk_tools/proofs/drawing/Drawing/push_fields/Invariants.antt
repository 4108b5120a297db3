use Rattle.std.proofs.Common.{◌≡◌, fold}
use Rattle.wk_tool_rules.specs.Generator.{fields, with_field}
use Rattle.wk_tools.proofs.Numbers.{numbers_from}
use Rattle.wk_tools.proofs.drawing.Drawing.push_fields.Given as goal

abbrev pub invariant-fields : goal.invariant-fields
invariant-fields l = fold with_field l.self (numbers_from l.field 12) ≡ fold with_field l.fn.self fields
