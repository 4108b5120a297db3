use Rattle.std.proofs.Common.{codes}
use Rattle.std.proofs.lemmas.Str.Pattern.{contains_text}
use Rattle.wk_out.proofs.ErrorLaws.{contains-finds}
use Rattle.wk_out.proofs.error_text.holds_error_class.Goals as goal

pub returns : goal.returns
returns c =
    contains-finds c.contains.result 99 (codes "lass=\"error\"") c.args.text.now
    (contains_text c.contains.result (codes "class=\"error\"") c.args.text.now c.contains.ensures.cases)
