use Rattle.wk_lex.specs.Places.{IsNowhereBetween}
use Rattle.wk_tree_rules.specs.Tags.{element_end}
use Rattle.wk_lex.proofs.ends.behind_element_end.Given as goal

abbrev pub invariant-loop-at : goal.invariant-loop-at
invariant-loop-at l = IsNowhereBetween (element_end l.name) l.text l.from l.at
