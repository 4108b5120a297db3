use Rattle.std.proofs.Common.{ap, ◌∙◌}
use Rattle.wk_text_rules.specs.Blank.{is_blank}
use Rattle.wk_out.proofs.PlainLaws.{is_blank-none, is_blank-some}
use Rattle.wk_out.proofs.output.Out.is_blank.Goals as goal

pub returns-in-Some : goal.returns-in-Some
returns-in-Some c = c.is_blank.ensures ∙ ap is_blank c.as_bytes.ensures.value ∙ is_blank-some c.args.self.now _ c.in-Some.ensures

pub returns-in-None : goal.returns-in-None
returns-in-None c = is_blank-none c.args.self.now c.in-None.ensures
