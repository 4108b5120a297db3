use Rattle.std.proofs.Common.{◌==◌, not, rules}
use Rattle.std.proofs.lemmas.Fn.{filter_same}
use Rattle.wk_table_rows.proofs.own_rows.take_out.Goals as goal

pub returns-clause-rows : goal.returns-clause-rows
returns-clause-rows g c =
    filter_same _ (λ row. not (g.T.Numbered.number row == c.args.page)) _ (λ x b f called. search rules) _ _ c.retain.ensures.filtered
