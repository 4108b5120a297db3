use Rattle.std.proofs.Common.{◌∙◌, ◌++◌, ◌∷◌, [], ap, arith}
use Rattle.wk_index.proofs.MembersLaws.{one-listed}
use Rattle.wk_index.proofs.members.push_one.Goals as goal

pub returns : goal.returns
returns c = λ rest.
    one-listed c.args.most c.args.listed.now.items c.push.new.self.items (record { sortkey = c.args.member.now.1; page = c.args.page; prefix = c.args.member.now.2 }) c.args.passed rest
    (omega arith) (omega arith)
    (c.in_ok-push.ensures.items
    ∙ ap (λ s. c.args.listed.now.items ++ record { sortkey = s; page = c.args.page; prefix = c.in_ok-prefix.prefix } ∷ []) c.in_ok-sortkey.ensures
    ∙ ap (λ p. c.args.listed.now.items ++ record { sortkey = c.args.member.now.1; page = c.args.page; prefix = p } ∷ []) c.in_ok-prefix.ensures)
