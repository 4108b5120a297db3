-- What a text becomes before it is saved, where that is asked for (MediaWiki's Help:Substitution; the corners are own).
-- Templates that are called by `subst:` are put in, with their arguments; all else stays as it is written. What is asked, and
-- in which order, is a part of the rules.
use Rattle.std.specs.Prelude.{ℕ, zero, suc, ◌/◌, List, [], ◌∷◌, ◌++◌, length, codes, decimal, Some, None}
use Rattle.wk_text_rules.specs.Blank.{trimmed}
use Rattle.wk_text_rules.specs.Titles.{PageTitle}
use Rattle.wk_tree_rules.specs.Tree.{tree, title_part, further_parts, Part}
use Rattle.wk_tree_rules.specs.Trees.{Item, plain, sealed, nothing, node, Content, content_source, NodeKind, template, argument, opening_braces, closing_braces}
use Rattle.wk_tree_rules.specs.declared.Mode.TheVariants as mode
use Rattle.wk_view_rules.specs.Expansions.{Expansion, Progress, no_progress, give, answer_to, ◌>>=◌, most_open}
use Rattle.wk_view_rules.specs.Plans.{Plan, and_then, gives, Outcome, run}
use Rattle.wk_view_rules.specs.Worlds.{Source, page_of}
use Rattle.wk_view_rules.specs.declared.Kind.TheVariants.{Include}
use Rattle.wk_subst_rules.specs.Budget.{charged_or, result_or}
use Rattle.wk_subst_rules.specs.Calls.{bound_name, called, called_title, source_name}
use Rattle.wk_subst_rules.specs.Places.{Bound, Place, saved_place, operand_place, filled_place, value_bound}

-- ---- items

-- Comments, and what else gives nothing where it is viewed, stay in the text that is saved, and go where a page is put in.
abbrev pub silent_text : Place → List ℕ → List ℕ
silent_text place source = elim place.bound [ None ↦ source | Some bound ↦ [] ]

abbrev pub item_text : Place → (NodeKind → Content → Expansion (List ℕ)) → Item → Expansion (List ℕ)
item_text place of_node (plain start source) = give source
item_text place of_node (sealed start source) = give source
item_text place of_node (nothing start source) = give (silent_text place source)
item_text place of_node (node kind start content) = of_node kind content

-- the items from the left, their texts joined
unfoldable pub items_text : Place → (NodeKind → Content → Expansion (List ℕ)) → List Item → Expansion (List ℕ)
items_text place of_node [] = give []
items_text place of_node (i ∷ items) = do
  first ← item_text place of_node i
  later ← items_text place of_node items
  give (first ++ later)

-- ---- nodes

abbrev pub node_source : NodeKind → Content → List ℕ
node_source kind content = opening_braces kind ++ (content_source content ++ closing_braces kind)

-- A node of a text. `inner` is what the lists in it become, in whichever place that is.
module _ (inner : Place → List Item → Expansion (List ℕ)) (place : Place) where
  -- a further part whole, with its name and its equals sign
  unfoldable pub whole_part : Part → Expansion (List ℕ)
  whole_part part = elim part.name [
    | None ↦ inner place part.value
    | Some name ↦ do
      name_text ← inner place name
      value_text ← inner place part.value
      give (name_text ++ (codes "=" ++ value_text))
  ]

  unfoldable pub whole_parts : List Part → Expansion (List ℕ)
  whole_parts [] = give []
  whole_parts (part ∷ parts) = do
    first ← whole_part part
    later ← whole_parts parts
    give (codes "|" ++ (first ++ later))

  -- a node as it is written, with what its parts become
  unfoldable pub as_written : NodeKind → Content → Expansion (List ℕ)
  as_written kind content = do
    title ← inner place (title_part content)
    parts ← whole_parts (further_parts content)
    give (opening_braces kind ++ (title ++ (parts ++ closing_braces kind)))

  -- ---- arguments, where a page is put in

  -- where nothing is bound: the second part whole, and without one the source
  unfoldable pub default_text : List ℕ → List Part → Expansion (List ℕ)
  default_text source [] = give source
  default_text source (part ∷ parts) = whole_part part

  unfoldable pub argument_text : List Bound → Content → Expansion (List ℕ)
  argument_text bound content = elim (value_bound bound (source_name (title_part content))) [
    | None ↦ default_text (node_source argument content) (further_parts content)
    | Some value ↦ charged_or (node_source argument content) (length value / 64) (give value)
  ]

  -- ---- calls

  -- The further parts in order, the later ones in front. A part without equals sign takes the next number from 1. A value
  -- that has a name is trimmed; one whose name binds nothing costs and asks as any other.
  unfoldable pub with_bound : ℕ → List Bound → List Part → Expansion (List Bound)
  with_bound next bound [] = give bound
  with_bound next bound (part ∷ parts) = do
    value ← inner place part.value
    elim part.name [
      | None ↦ with_bound (suc next) (record { name = decimal next; value = value } ∷ bound) parts
      | Some name ↦ elim (bound_name name) [
        | None ↦ with_bound next bound parts
        | Some text ↦ with_bound next (record { name = text; value = trimmed value } ∷ bound) parts
      ]
    ]

module _ (inner : Place → List Item → Expansion (List ℕ)) (place : Place) where
  -- the text of a page with what the call binds, or the call's source
  unfoldable pub put_in : List ℕ → PageTitle → List ℕ → List Part → Expansion (List ℕ)
  put_in source title text parts = charged_or source (length text / 64) do
    bound ← with_bound inner (operand_place title place) 1 [] parts
    out ← inner (filled_place title bound place) (tree mode.Include text)
    result_or source out

  -- A redirect isn't followed: its text is put in.
  unfoldable pub call_text : List ℕ → PageTitle → List Part → Expansion (List ℕ)
  call_text source title parts = do
    answer ← answer_to title Include
    elim (page_of answer) [
      | None ↦ give source
      | Some p ↦ put_in source title p.text parts
    ]

  unfoldable pub template_text : Content → Expansion (List ℕ)
  template_text content = elim (called (title_part content)) [
    | None ↦ as_written inner place template content
    | Some name ↦ elim (called_title place name) [
      | None ↦ give (node_source template content)
      | Some title ↦ call_text (node_source template content) title (further_parts content)
    ]
  ]

  unfoldable pub node_text : NodeKind → Content → Expansion (List ℕ)
  node_text template content = template_text content
  node_text argument content = elim place.bound [
    | None ↦ as_written inner place argument content
    | Some bound ↦ argument_text inner place bound content
  ]

-- ---- the text

-- The items of a list, where so many nodes more may be opened within each other, in whichever texts. Each node costs one;
-- where none more may be opened, its source is all.
unfoldable pub substituted_items : ℕ → Place → List Item → Expansion (List ℕ)
substituted_items zero place items =
    items_text place (λ kind content. charged_or (node_source kind content) 1 (give (node_source kind content))) items
substituted_items (suc left) place items =
    items_text place (λ kind content. charged_or (node_source kind content) 1 (node_text (substituted_items left) place kind content)) items

abbrev pub text_alone : List ℕ × Progress → Plan (List ℕ)
text_alone (text, progress) = gives text

-- what the text that is saved becomes
unfoldable pub substitution_plan : List ℕ → Plan (List ℕ)
substitution_plan text = and_then (substituted_items most_open saved_place (tree mode.View text) no_progress) text_alone

-- over a source, with what was read for it
abbrev pub substituted : Source → List ℕ → Outcome (List ℕ)
substituted source text = run source (substitution_plan text) []
