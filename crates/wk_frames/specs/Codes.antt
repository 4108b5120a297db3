-- The code of what is bound in a page.
use Rattle.std.specs.Coded.{Coded, coded_ℕ, coded_list}
use Rattle.std.specs.FinMap as map
use Rattle.wk_args.specs.declared.args.Args.{Args}

abbrev pub args_code : {V : Type 0} → Coded V → Coded (Args V)
args_code code = map.code (coded_list coded_ℕ) code
