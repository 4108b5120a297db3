-- What is left to do for a template, by what it calls.
use Rattle.std.specs.Prelude.{◌≤◌, List}
use Rattle.wk_text_rules.specs.Titles.{PageTitle}
use Rattle.wk_tree_rules.specs.Tree.{Part}
use Rattle.wk_tree_rules.specs.Trees.{Item}
use Rattle.wk_view_rules.specs.Expand.{function_output, included, new_search, operand, redirected, switch_output, template_as_written}
use Rattle.wk_view_rules.specs.Expansions.{Expansion, Output, give}
use Rattle.wk_view_rules.specs.Frames.{Frame}
use Rattle.wk_view_rules.specs.declared.Func.TheVariants.{IfEq}
use Rattle.wk_expand.specs.declared.decide.Decision.{Decision}
use Rattle.wk_expand.specs.declared.decide.Decision.TheVariants.{Gives, Operand, Equality, Switch, Written, Includes, Redirects}

abbrev pub decision_rest : (Frame → List Item → Expansion Output) → PageTitle → Frame → Output → List Part → Decision → Expansion Output
decision_rest inner viewed frame name parts (Gives out) = give out
decision_rest inner viewed frame name parts (Operand n) = operand inner viewed frame n parts
decision_rest inner viewed frame name parts (Equality first) = function_output inner viewed frame IfEq first parts
decision_rest inner viewed frame name parts (Switch subject) = switch_output inner viewed frame (new_search subject) parts
decision_rest inner viewed frame name parts Written = template_as_written inner viewed frame name parts
decision_rest inner viewed frame name parts (Includes title source text) = included inner viewed frame title source text parts
decision_rest inner viewed frame name parts (Redirects title target) = redirected inner viewed frame title target parts

-- an operand that is expanded is a further one
abbrev pub Further : Decision → Type 0
Further (Operand n) = 2 ≤ n
Further (Gives out) = Unit {0}
Further (Equality first) = Unit {0}
Further (Switch subject) = Unit {0}
Further Written = Unit {0}
Further (Includes title source text) = Unit {0}
Further (Redirects title target) = Unit {0}
