use Rattle.std.proofs.Common.{◌∙◌, ltb, length, ap, sym}
use Rattle.wk_index.proofs.UsersLaws.{names-len}
use Rattle.wk_index.proofs.index.Index.some_page_names.Goals as goal

pub returns : goal.returns
returns c =
    ap (λ l. ltb 0 (length l)) (c.as_slice-pages.ensures.value ∙ c.in_ok-first.ensures)
    ∙ sym (names-len c.args.self.now.stored c.args.title.now c.args.reach)
