use Rattle.std.proofs.Common.{fold, arith}
use Rattle.wk_tool_rules.specs.Generator.{fields, with_field}
use Rattle.wk_tools.proofs.Numbers.{fold-end, fold-next}
use Rattle.wk_tools.proofs.drawing.Drawing.push_fields.Goals as goal

pub fields-preserved : goal.fields-preserved
fields-preserved c =
    fold-next with_field c.fields.self c.push_field.new.self (fold with_field c.args.self.now fields) c.fields.field 12 (omega arith) c.in_ok-push_field.ensures c.fields.invariant

pub returns : goal.returns
returns c = fold-end with_field c.fields.self (fold with_field c.args.self.now fields) c.fields.field 12 (omega arith) c.fields.invariant
