use Rattle.std.proofs.Common.{◌≡◌, ◌∙◌, true, false, None, sym, arith}
use Rattle.std.proofs.lemmas.Str.Pattern.{split_once_first}
use Rattle.wk_good_rows.proofs.ParamsLaws.{no-colon}
use Rattle.wk_jobs.proofs.rows.fan_params.Goals as goal

pub unreachable-requires : goal.unreachable-requires
unreachable-requires c =
    let bad : true ≡ false = sym c.requires ∙ no-colon c.args.params.now (split_once_first 58 c.args.params.now None c.in-None.ensures.cases (omega arith)) in
    absurd (cc bad)
