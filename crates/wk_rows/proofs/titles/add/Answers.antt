use Rattle.std.proofs.Common.{ap, ◌∙◌}
use Rattle.wk_rows.specs.Titles.{with_title}
use Rattle.wk_rows.proofs.OrderLaws.{insert_key_put}
use Rattle.wk_rows.proofs.titles.add.Goals as goal

pub returns : goal.returns
returns c =
    c.in_ok-insert.ensures.keys ∙ insert_key_put c.args.titles.now.keys c.in_ok-share.field-0 ∙ ap (with_title c.args.titles.now.keys) c.in_ok-share.ensures
