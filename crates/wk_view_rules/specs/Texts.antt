-- The texts that an expansion gives where it doesn't go on or leaves out what it found (own), and the values of
-- variables.
use Rattle.std.specs.Prelude.{ℕ, List, ◌++◌, codes}
use Rattle.wk_text_rules.specs.Marked.{MarkedByte, all_plain}
use Rattle.wk_text_rules.specs.Titles.{PageTitle, namespace_name, shown, with_spaces}
use Rattle.wk_view_rules.specs.declared.Var.{Var}
use Rattle.wk_view_rules.specs.declared.Var.TheVariants.{Bar, PageName, FullPageName, Namespace}

abbrev pub error_text : List ℕ → List MarkedByte
error_text message = all_plain (codes "<span class=\"error\">" ++ message ++ codes "</span>")

-- a page includes itself
abbrev pub loop_error : PageTitle → List MarkedByte
loop_error title = error_text (codes "Template loop detected: " ++ shown title)

-- too many templates within each other
abbrev pub depth_error : PageTitle → List MarkedByte
depth_error title = error_text (codes "Template depth limit exceeded: " ++ shown title)

-- too many nodes in all
abbrev pub node_error : List MarkedByte
node_error = error_text (codes "Node limit exceeded")

-- too many nodes within each other
abbrev pub nesting_error : List MarkedByte
nesting_error = error_text (codes "Expansion depth limit exceeded")

-- too many bytes of arguments
abbrev pub argument_error : List MarkedByte
argument_error = error_text (codes "Argument size limit exceeded")

-- a link to the page, in the place of a text that can't be included
abbrev pub link_text : PageTitle → List MarkedByte
link_text title = all_plain (codes "[[:" ++ shown title ++ codes "]]")

-- What a variable gives on a viewed page (MediaWiki's Help:Magic words). It is given raw, with no escaping (own).
abbrev pub variable_text : PageTitle → Var → List ℕ
variable_text viewed Bar = codes "|"
variable_text viewed PageName = with_spaces viewed.key
variable_text viewed FullPageName = shown viewed
variable_text viewed Namespace = namespace_name viewed.ns
