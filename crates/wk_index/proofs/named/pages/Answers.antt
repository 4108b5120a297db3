use Rattle.std.proofs.Common.{◌∙◌, sym}
use Rattle.wk_index.proofs.PagesLaws.{none-listed, pages-listed}
use Rattle.wk_index.proofs.named.pages.Goals as goal

pub returns : goal.returns
returns c =
    c.in_ok-found.ensures.pages
    ∙ pages-listed c.args.kind c.args.stored.now c.args.named.now c.in-Some.pages.now c.args.title.now c.args.above c.args.most
    (sym c.in-Some.ensures.value) c.in_ok-found.ensures.ordered c.requires.found

pub returns-in_default : goal.returns-in_default
returns-in_default c =
    c.new.ensures.items
    ∙ none-listed c.args.kind c.args.stored.now c.args.named.now c.args.title.now c.args.above c.args.most (sym c.in_default.ensures.value) c.requires.found
