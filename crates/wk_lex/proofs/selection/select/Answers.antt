use Rattle.std.proofs.Common.{rules}
use Rattle.wk_tree_rules.specs.Selection.{selection}
use Rattle.wk_lex.proofs.selection.select.Goals as goal

pub returns-in-View : goal.returns-in-View
unfolding selection
returns-in-View c = search rules

pub returns-in-Include : goal.returns-in-Include
unfolding selection
returns-in-Include c = search rules
