use Rattle.std.proofs.Common.{◌∙◌, sym}
use Rattle.wk_script_lines.proofs.Lines.{with-bytes, without-bytes}
use Rattle.wk_script_lines.proofs.line.read.Goals as goal

pub returns-then-is_empty : goal.returns-then-is_empty
returns-then-is_empty c = without-bytes c.args.bytes.now (sym c.is_empty.ensures ∙ c.if-is_empty.true)

pub returns : goal.returns
returns c = c.known.ensures ∙ with-bytes c.args.bytes.now (sym c.is_empty.ensures ∙ c.if-is_empty.false)
