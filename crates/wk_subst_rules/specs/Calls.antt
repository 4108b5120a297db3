-- Which template node is a call by `subst:`, and of which title (MediaWiki's Help:Substitution; that a call's name is its
-- source, in which nothing is expanded, is own).
use Rattle.std.specs.Prelude.{ℕ, pos, Bool, true, false, ◌||◌, nat_le, List, length, codes, Option, Some, None, option_and_then, if◌then◌else◌}
use Rattle.std.specs.List.{list_any}
use Rattle.wk_text_rules.specs.Blank.{trimmed}
use Rattle.wk_text_rules.specs.Shapes.{in_any_case}
use Rattle.wk_text_rules.specs.Titles.{PageTitle, normal, title_eq, is_virtual}
use Rattle.wk_tree_rules.specs.Trees.{Item, plain, sealed, nothing, node, items_source}
use Rattle.wk_view_rules.specs.Expansions.{most_depth}
use Rattle.wk_subst_rules.specs.Places.{Place}

abbrev pub is_node : Item → Bool
is_node (plain start source) = false
is_node (sealed start source) = false
is_node (nothing start source) = false
is_node (node kind start content) = true

abbrev pub is_sealed : Item → Bool
is_sealed (plain start source) = false
is_sealed (sealed start source) = true
is_sealed (nothing start source) = false
is_sealed (node kind start content) = false

-- a name is its source, comments with it, without blank bytes at its ends
abbrev pub source_name : List Item → List ℕ
source_name items = trimmed (items_source items)

-- what a title part calls: what stands behind `subst:`, in any case, where no node stands in the part
abbrev pub called : List Item → Option (List ℕ)
called title = if list_any is_node title then None else in_any_case (codes "subst:") (source_name title)

-- no page can have the title, or it is called already, or too many calls stand within each other
abbrev pub is_refused : Place → PageTitle → Bool
is_refused place title = is_virtual title || list_any (title_eq title) place.within || nat_le most_depth (length place.within)

-- the title that is put in, where there is one: a template where no namespace is named
abbrev pub called_title : Place → List ℕ → Option PageTitle
called_title place name = option_and_then (λ title. if is_refused place title then None else Some title) (normal name (pos 10))

-- the name that a value is bound to; to none where a part of it is sealed
abbrev pub bound_name : List Item → Option (List ℕ)
bound_name name = if list_any is_sealed name then None else Some (source_name name)
