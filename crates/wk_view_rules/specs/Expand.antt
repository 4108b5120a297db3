-- What a page expands to (MediaWiki's Help:Templates, Help:Extension:ParserFunctions, Help:Magic words and
-- Help:Redirects; the corners are own). The items of a list are expanded from the left, and each node by its cases
-- in order. What is asked, and in which order, is a part of the rules.
use Rattle.std.specs.Prelude.{ℕ, zero, suc, ◌+◌, ◌-◌, ◌/◌, pos, Bool, true, false, nat_le, nat_lt, List, [], ◌∷◌, ◌++◌, length, drop, codes, decimal, slice_get, Option, Some, None, option_and_then, if◌then◌else◌}
use Rattle.std.specs.List.{list_any}
use Rattle.wk_text_rules.specs.Marked.{all_plain, all_sealed, plain_text_of, is_blank_output, trimmed_output, has_error}
use Rattle.wk_text_rules.specs.Numerals.{same_output}
use Rattle.wk_text_rules.specs.Titles.{PageTitle, normal, title_eq, is_virtual}
use Rattle.wk_tree_rules.specs.Redirects.{redirect_target}
use Rattle.wk_tree_rules.specs.Tree.{tree, title_part, further_parts, Part}
use Rattle.wk_tree_rules.specs.Trees.{Item, plain, sealed, nothing, node, Content, NodeKind, template, argument}
use Rattle.wk_tree_rules.specs.declared.Mode.TheVariants as mode
use Rattle.wk_view_rules.specs.Expansions.{Expansion, Output, give, answer_to, ◌>>=◌, charged, argument_within_limit, inclusion_within_limit, with_test, most_tests, most_depth}
use Rattle.wk_view_rules.specs.Frames.{Frame, Binding, binding_length, bound_to, caller, is_within}
use Rattle.wk_view_rules.specs.Texts.{loop_error, depth_error, nesting_error, link_text, variable_text}
use Rattle.wk_view_rules.specs.Words.{word, SwitchState, switch_on, named_item, after_named_item, bare_item, after_bare_item}
use Rattle.wk_view_rules.specs.Worlds.{page_of, is_there}
use Rattle.wk_view_rules.specs.declared.Func.{Func}
use Rattle.wk_view_rules.specs.declared.Func.TheVariants.{If, IfEq, IfExist, IfError, Switch}
use Rattle.wk_view_rules.specs.declared.Kind.TheVariants.{Include, Exists}
use Rattle.wk_view_rules.specs.declared.Turned.TheVariants.{Result, Default, Pass}
use Rattle.wk_view_rules.specs.declared.Word.TheVariants.{Variable, Function, Page}

-- ---- lists of items

-- An item gives its text, plain or sealed, nothing, or what its node gives.
abbrev pub item_output : (NodeKind → Content → Expansion Output) → Item → Expansion Output
item_output of_node (plain start source) = give (all_plain source)
item_output of_node (sealed start source) = give (all_sealed source)
item_output of_node (nothing start source) = give []
item_output of_node (node kind start content) = of_node kind content

-- the items from the left, their outputs joined
unfoldable pub items_output : (NodeKind → Content → Expansion Output) → List Item → Expansion Output
items_output of_node [] = give []
items_output of_node (i ∷ items) = do
  first ← item_output of_node i
  later ← items_output of_node items
  give (first ++ later)

-- ---- what a name calls and tests

-- the page that a name calls, a template where no namespace is named; none where it holds a sealed byte
abbrev pub called_title : Output → Option PageTitle
called_title name = option_and_then (λ text. normal text (pos 10)) (plain_text_of (trimmed_output name))

-- the title that is tested: none with a sealed byte, and none in a negative namespace
abbrev pub tested_title : Output → Option PageTitle
tested_title first =
    option_and_then (λ title. if is_virtual title then None else Some title)
    (option_and_then (λ text. normal text (pos 0)) (plain_text_of first))

-- no further part
abbrev pub is_alone : List Part → Bool
is_alone [] = true
is_alone (part ∷ parts) = false

-- ---- `#switch`

-- what a `#switch` has met so far: what it decides by, whether a bare item matched, the value of the last default
-- item, and the text of the item before, where that was bare
pub record Search : Type 0 where
  pub decides : SwitchState
  pub matched : Bool
  pub default : Option (List Item)
  pub bare_before : Option Output

abbrev pub new_search : Output → Search
new_search subject = record { decides = switch_on subject; matched = false; default = None; bare_before = None }

abbrev pub behind_bare_item : Search → Output → Search
behind_bare_item so_far text = record so_far {
  decides = after_bare_item so_far.decides text;
  matched = (elim (bare_item so_far.decides text) [ Result ↦ true | Default ↦ so_far.matched | Pass ↦ so_far.matched ]);
  bare_before = Some text;
}

abbrev pub behind_named_item : Search → Option (List Item) → Search
behind_named_item so_far default = record so_far {
  decides = after_named_item so_far.decides;
  default = default;
  bare_before = None;
}

-- ---- nodes

-- A node of a viewed page in a frame. `inner` expands what the node holds, in whichever frame that is.
module _ (inner : Frame → List Item → Expansion Output) (viewed : PageTitle) (frame : Frame) where
  -- ---- parts

  -- the output without the plain blank bytes at both ends
  abbrev pub trimmed_items : List Item → Expansion Output
  trimmed_items items = do
    out ← inner frame items
    give (trimmed_output out)

  -- a further part whole, with its name and its equals sign
  unfoldable pub whole_part : Part → Expansion Output
  whole_part part = elim part.name [
    | None ↦ inner frame part.value
    | Some name ↦ do
      name_out ← inner frame name
      value_out ← inner frame part.value
      give (name_out ++ all_plain (codes "=") ++ value_out)
  ]

  -- Operand n of a function, from 2 on: a further part whole and trimmed, or nothing where there is none.
  unfoldable pub operand : ℕ → List Part → Expansion Output
  operand n parts = elim (slice_get parts (n - 2)) [
    | None ↦ give []
    | Some part ↦ do
      out ← whole_part part
      give (trimmed_output out)
  ]

  -- the further parts as they are written, each behind a bar
  unfoldable pub written_parts : List Part → Expansion Output
  written_parts [] = give []
  written_parts (part ∷ parts) = do
    first ← whole_part part
    later ← written_parts parts
    give (all_plain (codes "|") ++ first ++ later)

  -- ---- an argument

  -- the value that is bound to a name
  unfoldable pub argument_value : Binding → Expansion Output
  argument_value b = charged (binding_length b / 64) do
    out ← inner (caller frame) b.value
    argument_within_limit (if b.named then trimmed_output out else out)

  -- what an argument gives where nothing is bound: its second part whole, or the node as it is written
  unfoldable pub argument_default : Output → List Part → Expansion Output
  argument_default name [] = give (all_plain (codes "{{{") ++ name ++ all_plain (codes "}}}"))
  argument_default name (part ∷ parts) = whole_part part

  unfoldable pub argument_output : Output → List Part → Expansion Output
  argument_output name parts = elim (bound_to frame (trimmed_output name)) [
    | None ↦ argument_default name parts
    | Some b ↦ argument_value b
  ]

  -- ---- an inclusion

  -- The further parts are bound in order, the later ones in front. A part without equals sign takes the next number
  -- from 1; a name that holds a sealed byte binds nothing.
  unfoldable pub with_bindings : ℕ → List Binding → List Part → Expansion (List Binding)
  with_bindings next bindings [] = give bindings
  with_bindings next bindings (part ∷ parts) = elim part.name [
    | None ↦ with_bindings (suc next) (record { name = decimal next; value = part.value; named = false } ∷ bindings) parts
    | Some name ↦ do
      out ← trimmed_items name
      elim (plain_text_of out) [
        | None ↦ with_bindings next bindings parts
        | Some text ↦ with_bindings next (record { name = text; value = part.value; named = true } ∷ bindings) parts
      ]
  ]

  -- the text of the page `source`, included in the place of `title`
  unfoldable pub included : PageTitle → PageTitle → List ℕ → List Part → Expansion Output
  included title source text parts = charged (length text / 64) do
    bindings ← with_bindings 1 [] parts
    out ← inner (record { title = source; bindings = bindings } ∷ frame) (tree mode.Include text)
    inclusion_within_limit title out

  -- where a redirect leads: the target is included in the redirect's place, and isn't followed further
  unfoldable pub redirected : PageTitle → PageTitle → List Part → Expansion Output
  redirected title target parts =
      if is_within frame target then give (loop_error target)
      else do
        answer ← answer_to target Include
        elim (page_of answer) [
          | None ↦ give (link_text title)
          | Some p ↦ included title target p.text parts
        ]

  -- a page's text, by which it is included or redirects
  unfoldable pub included_text : PageTitle → List ℕ → List Part → Expansion Output
  included_text title text parts = elim (redirect_target text) [
    | None ↦ included title title text parts
    | Some target ↦ charged (1 + length text / 64) (redirected title target parts)
  ]

  -- the inclusion of a title
  unfoldable pub inclusion : PageTitle → List Part → Expansion Output
  inclusion title parts =
      if is_virtual title then give (link_text title)
      else if is_within frame title then give (loop_error title)
      else if nat_le most_depth (length frame) then give (depth_error title)
      else do
        answer ← answer_to title Include
        elim (page_of answer) [
          | None ↦ give (link_text title)
          | Some p ↦ included_text title p.text parts
        ]

  -- a template node as it is written, with what it holds expanded; comments are gone
  unfoldable pub template_as_written : Output → List Part → Expansion Output
  template_as_written name parts = do
    written ← written_parts parts
    give (all_plain (codes "{{") ++ name ++ written ++ all_plain (codes "}}"))

  unfoldable pub page_output : Output → List Part → Expansion Output
  page_output name parts = elim (called_title name) [
    | None ↦ template_as_written name parts
    | Some title ↦ inclusion title parts
  ]

  -- ---- `#ifexist`

  -- by the answer, whether the title exists
  unfoldable pub by_existence : PageTitle → List Part → Expansion Output
  by_existence title parts = do
    answer ← answer_to title Exists
    operand (if is_there answer then 2 else 3) parts

  -- A title that was tested before is asked again, and one more only where fewer than the most were tested.
  unfoldable pub existence_output : PageTitle → List Part → Expansion Output
  existence_output title parts progress =
      if list_any (title_eq title) progress.tested then by_existence title parts progress
      else if nat_lt progress.counters.exists most_tests then by_existence title parts (with_test title progress)
      else operand 3 parts progress

  -- ---- `#switch`

  -- With no result, the last item where that is bare, else the value of the last default item, else nothing.
  unfoldable pub without_result : Search → Expansion Output
  without_result so_far = elim so_far.bare_before [
    | Some text ↦ give text
    | None ↦ elim so_far.default [ Some value ↦ trimmed_items value | None ↦ give [] ]
  ]

  -- The items in order. A bare item is expanded; behind one that matched the next value is the result, and its name
  -- isn't expanded. The first result ends the search.
  unfoldable pub switch_output : Search → List Part → Expansion Output
  switch_output so_far [] = without_result so_far
  switch_output so_far (part ∷ parts) = elim part.name [
    | None ↦ do
      text ← trimmed_items part.value
      switch_output (behind_bare_item so_far text) parts
    | Some name ↦ elim so_far.matched [
      | true ↦ trimmed_items part.value
      | false ↦ do
        text ← trimmed_items name
        elim (named_item so_far.decides text) [
          | Result ↦ trimmed_items part.value
          | Default ↦ switch_output (behind_named_item so_far (Some part.value)) parts
          | Pass ↦ switch_output (behind_named_item so_far so_far.default) parts
        ]
    ]
  ]

  -- ---- functions

  -- A function, with its first operand. Of the others only those are expanded that it names.
  unfoldable pub function_output : Func → Output → List Part → Expansion Output
  function_output If first parts = operand (if is_blank_output first then 3 else 2) parts
  function_output IfEq first parts = do
    second ← operand 2 parts
    operand (if same_output first second then 3 else 4) parts
  function_output IfExist first parts = elim (tested_title first) [
    | None ↦ operand 3 parts
    | Some title ↦ existence_output title parts
  ]
  function_output IfError first parts =
      if has_error first then operand 2 parts
      else if nat_lt (length parts) 2 then give first
      else operand 3 parts
  function_output Switch first parts = switch_output (new_search first) parts

  -- ---- a template

  -- a template node, by the word that its title part is
  unfoldable pub template_output : Output → List Part → Expansion Output
  template_output name parts = elim (word (trimmed_output name) (is_alone parts)) [
    | Variable variable ↦ give (all_plain (variable_text viewed variable))
    | Function func place ↦ function_output func (trimmed_output (drop place (trimmed_output name))) parts
    | Page ↦ page_output name parts
  ]

  -- ---- a node

  abbrev pub kind_output : NodeKind → Output → List Part → Expansion Output
  kind_output argument name parts = argument_output name parts
  kind_output template name parts = template_output name parts

  -- a node: its title part is expanded first
  unfoldable pub node_output : NodeKind → Content → Expansion Output
  node_output kind content = do
    name ← inner frame (title_part content)
    kind_output kind name (further_parts content)

-- ---- the expansion

-- The items of a list, for a viewed page in a frame, where so many nodes more may be opened within each other. Each
-- node costs one; where none more may be opened, the error is all.
unfoldable pub expand : ℕ → PageTitle → Frame → List Item → Expansion Output
expand zero viewed frame items = items_output (λ kind content. charged 1 (give nesting_error)) items
expand (suc left) viewed frame items =
    items_output (λ kind content. charged 1 (node_output (expand left viewed) viewed frame kind content)) items
