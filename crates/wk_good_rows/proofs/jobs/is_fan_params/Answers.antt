use Rattle.std.proofs.Common.{None, sym, arith}
use Rattle.std.proofs.lemmas.Str.Pattern.{split_once_first}
use Rattle.wk_good_rows.proofs.ParamsLaws.{no-colon}
use Rattle.wk_good_rows.proofs.jobs.is_fan_params.Goals as goal

pub returns-in-None : goal.returns-in-None
returns-in-None c = sym (no-colon c.args.params.now (split_once_first 58 c.args.params.now None c.in-None.ensures.cases (omega arith)))
