-- `unfolding computing` lets `refl` compute the rules of this crate where everything is written out.
use Rattle.wk_view_rules.specs.Computing.{computing as view_computing}
use Rattle.wk_subst_rules.specs.Substitution.{items_text, whole_part, whole_parts, as_written, default_text, argument_text, with_bound, put_in, call_text, template_text, node_text, substituted_items, substitution_plan}

unfoldable pub computing : Unit {0}
unfolding view_computing items_text whole_part whole_parts as_written default_text argument_text with_bound put_in call_text template_text node_text substituted_items substitution_plan
computing = tt
