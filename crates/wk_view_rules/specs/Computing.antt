-- `unfolding computing` lets `refl` compute the rules of this crate where everything is written out.
use Rattle.std.specs.Fmt.{digits}
use Rattle.wk_tree_rules.specs.Computing.{computing as tree_computing}
use Rattle.wk_view_rules.specs.Expand.{items_output, whole_part, operand, written_parts, argument_value, argument_default, argument_output, with_bindings, included, redirected, included_text, inclusion, template_as_written, page_output, by_existence, existence_output, without_result, switch_output, function_output, template_output, node_output, expand}
use Rattle.wk_view_rules.specs.Plans.{run}
use Rattle.wk_view_rules.specs.Rows.{in_title_order, rows_by, rows}
use Rattle.wk_view_rules.specs.Views.{text_plan, view_plan}

unfoldable pub computing : Unit {0}
unfolding tree_computing digits items_output whole_part operand written_parts argument_value argument_default argument_output with_bindings included redirected included_text inclusion template_as_written page_output by_existence existence_output without_result switch_output function_output template_output node_output expand run in_title_order rows_by rows text_plan view_plan
computing = tt
