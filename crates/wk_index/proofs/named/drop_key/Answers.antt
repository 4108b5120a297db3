use Rattle.std.proofs.Common.{sym, ◌∙◌}
use Rattle.wk_index.proofs.NamedLaws.{dropped-spares}
use Rattle.wk_index.proofs.named.drop_key.Goals as goal

pub returns-then-not-has : goal.returns-then-not-has
returns-then-not-has c =
    dropped-spares c.args.kind c.args.rows.now c.args.named.now c.drop_page.new.named c.drop_if_empty.new.named c.args.title.now c.args.page
    (sym c.has.ensures ∙ c.if-not-has.true) c.drop_page.ensures c.drop_if_empty.ensures
