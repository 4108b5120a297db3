use Rattle.std.proofs.Common.{ap, ◌∙◌}
use Rattle.wk_revs.proofs.RowLaws.{loaded_few, loaded_length, loaded_within}
use Rattle.wk_revs.proofs.revs.Revs.load.Goals as goal

pub of_pages-requires-clause-few : goal.of_pages-requires-clause-few
of_pages-requires-clause-few c = loaded_few c.args.tables.now.tables c.pages.result.now c.in_ok-pages.pages.entries c.requires c.pages.ensures c.in_ok-pages.ensures

pub append_rows-requires-clause-within : goal.append_rows-requires-clause-within
append_rows-requires-clause-within c =
    let pages = ap (λ revs. revs.history.pages) c.in_ok-revs.ensures ∙ c.in_ok-pages.ensures in
    loaded_within c.args.tables.now.tables c.revisions.result.now c.in_ok-revs.revs.history.pages c.requires c.revisions.ensures
    (loaded_length c.args.tables.now.tables c.pages.result.now c.in_ok-revs.revs.history.pages c.pages.ensures pages)
