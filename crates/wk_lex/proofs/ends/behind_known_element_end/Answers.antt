use Rattle.wk_tree_rules.specs.Tags.{element_end}
use Rattle.wk_lex.proofs.PlaceLemmas.{up_to-none, nowhere-further}
use Rattle.wk_lex.proofs.ends.behind_known_element_end.Goals as goal

pub returns-then-none_from-from-clause-end : goal.returns-then-none_from-from-clause-end
returns-then-none_from-from-clause-end c =
    up_to-none (element_end c.args.name.now) c.args.text.now c.args.from
    (nowhere-further (element_end c.args.name.now) c.args.text.now c.args.none_from.now c.args.from c.if-none_from-from.true c.requires.none)
