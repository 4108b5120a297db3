-- What a `#switch` has met so far, as the code keeps it.
use Rattle.std.specs.Prelude.{List, Option, Some, None, IsSome, IfSome, option_and_then}
use Rattle.wk_tree_rules.specs.Trees.{Item}
use Rattle.wk_tree.specs.Parsed.{ParsedText, list_with}
use Rattle.wk_view_rules.specs.Expand as rule
use Rattle.wk_view_rules.specs.declared.Turned.{Turned}
use Rattle.wk_view_rules.specs.declared.Turned.TheVariants.{Result, Default, Pass}
use Rattle.wk_expand.specs.declared.search.Search.{Search}

abbrev pub search_of : ParsedText → Search → rule.Search
search_of parsed s = record {
  decides = s.decides;
  matched = s.matched;
  default = option_and_then (list_with parsed) s.default;
  bare_before = s.bare_before;
}

-- the value of the last default item is a list of the text
pub record HasDefault (parsed : ParsedText) (s : Search) : Type 0 where
  pub list : IfSome s.default (λ list. IsSome (list_with parsed list))

-- the search behind an item with an equals sign, by what the item is; none where its value is the result
abbrev pub behind_turned : Turned → rule.Search → List Item → Option rule.Search
behind_turned Result so_far value = None
behind_turned Default so_far value = Some (rule.behind_named_item so_far (Some value))
behind_turned Pass so_far value = Some (rule.behind_named_item so_far so_far.default)
