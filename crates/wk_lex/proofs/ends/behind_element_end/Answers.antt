use Rattle.std.proofs.Common.{refl}
use Rattle.wk_tree_rules.specs.Tags.{element_end}
use Rattle.wk_lex.proofs.PlaceLemmas.{up_to-ends, up_to-none, nowhere-from}
use Rattle.wk_lex.proofs.ends.behind_element_end.Goals as goal

pub returns-in-Some-clause-end : goal.returns-in-Some-clause-end
returns-in-Some-clause-end c =
    up_to-ends (element_end c.args.name.now) c.args.text.now c.args.from c.loop-at.at c.in-Some.end c.loop-at.auto.at c.loop-at.invariant c.in-Some.ensures

pub returns-clause-end : goal.returns-clause-end
returns-clause-end c =
    up_to-none (element_end c.args.name.now) c.args.text.now c.args.from
    (nowhere-from (element_end c.args.name.now) c.args.text.now c.args.from c.loop-at.at refl c.loop-at-test.false c.loop-at.invariant)
