use Rattle.std.proofs.Common.{ap, sym, ◌∙◌}
use Rattle.wk_text_rules.specs.Marked.{text_of}
use Rattle.wk_out.proofs.RunLaws.{text_of-cut}
use Rattle.wk_out.proofs.output.Out.text.Goals as goal

pub returns : goal.returns
returns c = c.deref.ensures ∙ sym (text_of-cut _ _ c.self.invariant.covers) ∙ ap text_of c.self.view_is
