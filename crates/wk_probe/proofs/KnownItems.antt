-- Items that a tree's list shows are known, and so are the parts of its nodes.
use Rattle.std.proofs.Common.{◌≡◌, ℕ, ◌<◌, ◌≤◌, ◌⊎◌, inl, inr, List, [], ◌∷◌, length, get_or, Option, Some, None, refl, sym, subst, arith}
use Rattle.std.proofs.lemmas.List.Elements.{All-nil, All-cons}
use Rattle.std.proofs.lemmas.Option.{slice_get_cases}
use Rattle.std.specs.List.{All, slice_get}
use Rattle.std.specs.Option.{IfSome, IsSome, option_and_then}
use Rattle.wk_probe.specs.Known.{IsKnown}
use Rattle.wk_tree.specs.Parsed.{ParsedText, node_with, nodes_of, part_with, list_with, part_at}
use Rattle.wk_tree.specs.Shown.{ShowsItem, shows_plain, shows_sealed, shows_nothing, shows_node, ShowsItems, no_items, one_more, from_end}
use Rattle.wk_tree.specs.declared.item.Item.{Item}
use Rattle.wk_tree.specs.declared.item.ListId.{ListId}
use Rattle.wk_tree.specs.declared.item.NodeId.{NodeId}
use Rattle.wk_tree_rules.specs.Tree.{Node, Part, further_parts}
use Rattle.wk_tree_rules.specs.Trees.{Item as TreeItem}

known_item : (parsed : ParsedText) {c : Item} {i : TreeItem} → ShowsItem (nodes_of parsed) c i → IsKnown parsed c
known_item parsed (shows_plain start source) = tt
known_item parsed (shows_sealed start source) = tt
known_item parsed (shows_nothing start source) = tt
known_item parsed (shows_node id kind start content at) = subst (λ (o : Option Node). IsSome o) (sym at) refl

known_items : (parsed : ParsedText) {cs : List Item} {items : List TreeItem} → ShowsItems (nodes_of parsed) cs items → All (IsKnown parsed) cs
known_items parsed no_items = All-nil (IsKnown parsed)
known_items parsed (one_more {c = c} {cs = cs} shows later) = All-cons (IsKnown parsed) c cs (known_item parsed shows) (known_items parsed later)

-- a list that is there shows items, all of which are known
pub items-known : (parsed : ParsedText) (list : ListId) (cs : List Item) → IsSome (list_with parsed list) → IfSome (list_with parsed list) (ShowsItems (nodes_of parsed) cs) → All (IsKnown parsed) cs
items-known parsed list cs some shows = by_list (list_with parsed list) some shows
  where
    by_list : (o : Option (List TreeItem)) → IsSome o → IfSome o (ShowsItems (nodes_of parsed) cs) → All (IsKnown parsed) cs
    by_list None s h = absurd (cc)
    by_list (Some items) s h = known_items parsed h

-- a part below their number is there
pub part-known : (parsed : ParsedText) (id : NodeId) (at n : ℕ) → IsSome (node_with parsed id) → IfSome (node_with parsed id) (λ x. n ≡ length (further_parts x.content)) → at < n → IsSome (part_with parsed id at)
part-known parsed id at n some count less = by_node (node_with parsed id) some count
  where
    by_part : (parts : List Part) → at < length parts → IsSome (slice_get parts at)
    by_part parts l = by_cases (slice_get_cases parts at).1
      where
        by_cases : ((x : Part) × (at < length parts) × (slice_get parts at ≡ Some x) × (get_or parts at x ≡ x)) ⊎ ((length parts ≤ at) × (slice_get parts at ≡ None)) → IsSome (slice_get parts at)
        by_cases (inl (x, a, is, c)) = subst (λ (o : Option Part). IsSome o) (sym is) refl
        by_cases (inr (a, none)) = absurd (omega (arith, a, l))

    by_node : (o : Option Node) → IsSome o → IfSome o (λ x. n ≡ length (further_parts x.content)) → IsSome (option_and_then (part_at at) o)
    by_node None s h = absurd (cc)
    by_node (Some x) s h = by_part (further_parts x.content) (subst (λ k. at < k) h less)
