use Rattle.std.proofs.Common.{◌∙◌, sym}
use Rattle.wk_index.proofs.UsersLaws.{linking-listed}
use Rattle.wk_index.proofs.index.Index.linking_pages.Goals as goal

pub returns : goal.returns
returns c = c.in_ok-pages.ensures ∙ sym (linking-listed c.args.self.now.stored c.args.title.now c.args.above c.args.most)
