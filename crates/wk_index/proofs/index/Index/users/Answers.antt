use Rattle.std.proofs.Common.{◌∙◌, ap, sym}
use Rattle.wk_index.specs.Named.{listed}
use Rattle.wk_index.proofs.UsersLaws.{users-listed}
use Rattle.wk_index.proofs.index.Index.users.Goals as goal

pub returns : goal.returns
returns c =
    c.in_ok-pages.ensures
    ∙ ap (λ kind. listed kind c.args.self.now.stored c.args.title.now c.args.above c.args.most) c.kind_of.ensures
    ∙ sym (users-listed c.args.self.now.stored c.args.title.now c.args.reach c.args.above c.args.most)
