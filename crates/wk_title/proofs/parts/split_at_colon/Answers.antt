use Rattle.std.proofs.Common.{sym, ◌∙◌}
use Rattle.wk_title.proofs.Colons.{no_colon, split_at}
use Rattle.wk_title.proofs.parts.split_at_colon.Goals as goal

pub returns-in-Some : goal.returns-in-Some
returns-in-Some c = split_at c.args.cs.now c.in-Some.colon (sym c.first_colon.ensures ∙ c.in-Some.is)

pub returns-in-None : goal.returns-in-None
returns-in-None c = no_colon c.args.cs.now (sym c.first_colon.ensures ∙ c.in-None.is)
