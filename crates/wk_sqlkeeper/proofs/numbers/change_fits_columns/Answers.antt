use Rattle.std.proofs.Common.{◌≡◌, ◌∙◌, ap, map, sym}
use Rattle.std.specs.List.{list_all}
use Rattle.std.proofs.lemmas.List.Folds.{list_all-map}
use Rattle.wk_tables.specs.Edits.{edit_of}
use Rattle.wk_sqlkeeper.specs.Numbers.{edit_fits_columns}
use Rattle.wk_sqlkeeper.proofs.numbers.change_fits_columns.Goals as goal

pub returns : goal.returns
returns c =
    let edits_are : map edit_of c.deref.result.now ≡ c.args.change.now = ap (map edit_of) c.deref.ensures.value ∙ c.change.view_is in
    c.edits_fit_columns.ensures ∙ sym (list_all-map edit_fits_columns edit_of c.deref.result.now) ∙ ap (list_all edit_fits_columns) edits_are
