-- Nodes, as the code finds them.
use Rattle.std.proofs.Common.{◌≡◌, ℕ, zero, suc, ◌-◌, ◌<◌, true, false, List, [], ◌∷◌, length, Option, Some, None, IsSome, refl, sym, ap, subst, arith, ◌∙◌}
use Rattle.std.specs.List.{slice_get}
use Rattle.std.specs.Bool.{if◌then◌else◌}
use Rattle.std.specs.Option.{IfSome, option_and_then}
use Rattle.wk_text_rules.specs.Marked.{trimmed_output}
use Rattle.wk_text_rules.specs.Numerals.{same_output}
use Rattle.wk_text_rules.specs.Titles.{PageTitle}
use Rattle.wk_tree_rules.specs.Tree.{Node, Part as TreePart, title_part, further_parts}
use Rattle.wk_tree_rules.specs.Trees.{Item, NodeKind, Content, template, argument}
use Rattle.wk_tree.specs.Parsed.{ParsedText, list_with, node_with, part_with, part_at}
use Rattle.wk_tree.specs.Tokens.{is_argument}
use Rattle.wk_tree.specs.declared.item.ListId.{ListId}
use Rattle.wk_tree.specs.declared.item.NodeId.{NodeId}
use Rattle.wk_view_rules.specs.Expand.{expand, operand, function_output, whole_part, node_output, kind_output, argument_output, template_output}
use Rattle.wk_view_rules.specs.Expansions.{Expansion, Output, give, ◌>>=◌}
use Rattle.wk_view_rules.specs.Frames.{Frame}
use Rattle.wk_view_rules.specs.declared.Func.TheVariants.{IfEq}
use Rattle.wk_expand.specs.Nodes.{opened}
use Rattle.wk_expand.specs.Running.{IsSame}
use Rattle.wk_expand.specs.State.{current}
use Rattle.wk_expand.specs.declared.state.Expander.{Expander}
use Rattle.wk_expand.proofs.PartLaws.{current-same, at_some, some_of, some_part}

-- a node of a text is one of the same text later on
pub node-later : (s t : Expander) (node : NodeId) (m : Node) → IsSame s t → node_with (current s) node ≡ Some m → node_with (current t) node ≡ Some m
node-later s t node m same e = ap (λ parsed. node_with parsed node) (current-same s t same) ∙ e

pub node-there : (s t : Expander) (node : NodeId) → IsSame s t → IsSome (node_with (current s) node) → IsSome (node_with (current t) node)
node-there s t node same there = subst (λ parsed. IsSome (node_with parsed node)) (sym (current-same s t same)) there

pub opened-more : (left : ℕ) (viewed : PageTitle) (frame : Frame) (kind : NodeKind) (content : Content) → 0 < left → opened left viewed frame kind content ≡ node_output (expand (left - 1) viewed) viewed frame kind content
opened-more zero viewed frame kind content more = absurd (omega arith)
opened-more (suc left) viewed frame kind content more =
    let same : left ≡ suc left - 1 = omega arith in
    ap (λ n. node_output (expand n viewed) viewed frame kind content) same

-- the title part of a node
pub title-is : (shown tree : ParsedText) (node : NodeId) (title : ListId) (m : Node) → shown ≡ tree → IfSome (node_with shown node) (λ n. list_with shown title ≡ Some (title_part n.content)) → node_with tree node ≡ Some m → list_with tree title ≡ Some (title_part m.content)
title-is shown tree node title m same h e =
    at_some (λ n. list_with tree title ≡ Some (title_part n.content)) (node_with tree node) m e
    (subst (λ parsed. IfSome (node_with parsed node) (λ n. list_with parsed title ≡ Some (title_part n.content))) same h)

pub title-there : (shown tree : ParsedText) (node : NodeId) (title : ListId) → shown ≡ tree → IfSome (node_with shown node) (λ n. list_with shown title ≡ Some (title_part n.content)) → IsSome (node_with tree node) → IsSome (list_with tree title)
title-there shown tree node title same h there =
    let m = some_part (node_with tree node) there in
    some_of (list_with tree title) (title_part m.0.content) (title-is shown tree node title m.0 same h m.1)

-- whether a node is an argument
pub kind-is : {B : Type 0} (shown tree : ParsedText) (node : NodeId) (b : B) (test : NodeKind → B) (m : Node) → shown ≡ tree → IfSome (node_with shown node) (λ n. b ≡ test n.kind) → node_with tree node ≡ Some m → b ≡ test m.kind
kind-is shown tree node b test m same h e =
    at_some (λ n. b ≡ test n.kind) (node_with tree node) m e (subst (λ parsed. IfSome (node_with parsed node) (λ n. b ≡ test n.kind)) same h)

pub count-is : (shown tree : ParsedText) (node : NodeId) (count : ℕ) (m : Node) → shown ≡ tree → IfSome (node_with shown node) (λ n. count ≡ length (further_parts n.content)) → node_with tree node ≡ Some m → count ≡ length (further_parts m.content)
count-is shown tree node count m same h e =
    at_some (λ n. count ≡ length (further_parts n.content)) (node_with tree node) m e (subst (λ parsed. IfSome (node_with parsed node) (λ n. count ≡ length (further_parts n.content))) same h)

module _ (inner : Frame → List Item → Expansion Output) (viewed : PageTitle) (frame : Frame) where
  abbrev pub behind_title : NodeKind → Content → Output → Expansion Output
  behind_title kind content name = kind_output inner viewed frame kind name (further_parts content)

  pub node-is : (kind : NodeKind) (content : Content) → node_output inner viewed frame kind content ≡ (inner frame (title_part content) >>= behind_title kind content)
  unfolding node_output
  node-is kind content = refl

  pub kind-argument : (kind : NodeKind) (name : Output) (parts : List TreePart) → is_argument kind ≡ true → kind_output inner viewed frame kind name parts ≡ argument_output inner viewed frame name parts
  kind-argument argument name parts e = refl
  kind-argument template name parts e = cc

  pub kind-template : (kind : NodeKind) (name : Output) (parts : List TreePart) → is_argument kind ≡ false → kind_output inner viewed frame kind name parts ≡ template_output inner viewed frame name parts
  kind-template argument name parts e = cc
  kind-template template name parts e = refl

  abbrev pub then_trimmed : Output → Expansion Output
  then_trimmed out = give (trimmed_output out)

  abbrev pub by_operand : Option TreePart → Expansion Output
  by_operand found = elim found [ None ↦ give [] | Some part ↦ whole_part inner viewed frame part >>= then_trimmed ]

  pub operand-by : (n : ℕ) (parts : List TreePart) (found : Option TreePart) → slice_get parts (n - 2) ≡ found → operand inner viewed frame n parts ≡ by_operand found
  unfolding operand
  operand-by n parts found e = ap by_operand e

  abbrev pub by_second : Output → List TreePart → Output → Expansion Output
  by_second first parts second = operand inner viewed frame (if same_output first second then 3 else 4) parts

  pub equality-is : (first : Output) (parts : List TreePart) → function_output inner viewed frame IfEq first parts ≡ (operand inner viewed frame 2 parts >>= by_second first parts)
  unfolding function_output
  equality-is first parts = refl

-- a further part of a node
pub part-of : (tree : ParsedText) (node : NodeId) (at : ℕ) (m : Node) → node_with tree node ≡ Some m → part_with tree node at ≡ slice_get (further_parts m.content) at
part-of tree node at m e = ap (option_and_then (part_at at)) e

pub some_within : {X : Type 0} (xs : List X) (i : ℕ) → i < length xs → (x : X) × (slice_get xs i ≡ Some x)
some_within [] i h = absurd (omega arith)
some_within (x ∷ xs) zero h = (x, refl)
some_within (x ∷ xs) (suc i) h = some_within xs i (omega arith)
