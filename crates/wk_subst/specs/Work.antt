-- How far a substitution has come, and what is left of it.
use Rattle.std.specs.Prelude.{◌≡◌, ℕ, List, ◌∷◌, ◌++◌, drop, Option, Some, None, IsSome}
use Rattle.wk_text_rules.specs.Titles.{PageTitle}
use Rattle.wk_tree_rules.specs.Trees.{Item}
use Rattle.wk_tree_rules.specs.Tree.{Node, Part}
use Rattle.wk_tree.specs.Parsed.{ParsedText, list_with, node_with}
use Rattle.wk_tree.specs.declared.item.ListId.{ListId}
use Rattle.wk_tree.specs.declared.item.NodeId.{NodeId}
use Rattle.wk_view_rules.specs.Expansions.{Expansion, Progress, give}
use Rattle.wk_view_rules.specs.Plans.{Plan}
use Rattle.wk_subst_rules.specs.Budget.{result_or}
use Rattle.wk_subst_rules.specs.Calls.{called, called_title}
use Rattle.wk_subst_rules.specs.Places.{Place}
use Rattle.wk_subst_rules.specs.Substitution.{as_written, call_text, default_text, node_text, put_in, substituted_items, template_text, whole_part}
use Rattle.wk_subst.specs.Binding.{call_with}
use Rattle.wk_subst.specs.Budget.{progress_of}
use Rattle.wk_subst.specs.Nodes.{adds, charged_node, items_of, list_then, name_of, node_at, parts_of, source_of_node}
use Rattle.wk_subst.specs.Stack.{AreOpened, behind, call_rest, left_in, left_of, page_rest, place_of, use_rest}
use Rattle.wk_subst.specs.declared.stack.Call.{Call}
use Rattle.wk_subst.specs.declared.stack.Level.{Level}
use Rattle.wk_subst.specs.declared.stack.Use.{Use}
use Rattle.wk_subst.specs.declared.stack.Waiting.{Waiting}
use Rattle.wk_subst.specs.declared.work.Called.{Called}
use Rattle.wk_subst.specs.declared.work.Called.TheVariants.{Nothing, Refused, Page}
use Rattle.wk_subst.specs.declared.work.Now.{Now}
use Rattle.wk_subst.specs.declared.work.Now.TheVariants.{List as ListNow, Calls as CallsNow}
use Rattle.wk_subst.specs.declared.work.Work.{Work}

-- ---- where it stands

abbrev pub parsed_of : Work → ParsedText
parsed_of w = w.level.tree

abbrev pub place_in : Work → Place
place_in w = place_of w.level w.opened

-- what a list within a node of the list becomes
abbrev pub inner_of : Work → Place → List Item → Expansion (List ℕ)
inner_of w = substituted_items (left_in w.opened)

abbrev pub node_in : Work → NodeId → Node
node_in w id = node_at (parsed_of w) id

abbrev pub source_in : Work → NodeId → List ℕ
source_in w id = source_of_node (node_in w id)

-- ---- what is left

-- behind the next item's place, where the text has become so
abbrev pub back_of : Work → List ℕ → Expansion (List ℕ)
back_of w = list_then (left_of w.opened) (place_in w) (drop w.at (items_of (parsed_of w) w.list)) (behind w.opened w.level)

abbrev pub list_rest : Work → Expansion (List ℕ)
list_rest w = back_of w w.out

-- where a node gives something, behind which the list goes on
abbrev pub node_rest : Work → Expansion (List ℕ) → Expansion (List ℕ)
node_rest w made = adds made (back_of w) w.out

abbrev pub now_rest : Work → Now → Expansion (List ℕ)
now_rest w ListNow = list_rest w
now_rest w (CallsNow id title) = node_rest w (call_text (inner_of w) (place_in w) (source_in w id) title (parts_of (node_in w id)))

abbrev pub plan_of : Work → Now → Plan (List ℕ × Progress)
plan_of w now = now_rest w now (progress_of w.spent)

-- ---- what is left where the list stands behind a node

abbrev pub opened_rest : Work → NodeId → Expansion (List ℕ)
opened_rest w id = node_rest w (charged_node (left_of w.opened) (place_in w) (node_in w id).kind (node_in w id).content)

abbrev pub written_rest : Work → NodeId → Expansion (List ℕ)
written_rest w id = node_rest w (as_written (inner_of w) (place_in w) (node_in w id).kind (node_in w id).content)

abbrev pub used_rest : Work → NodeId → Use → Expansion (List ℕ)
used_rest w id used = use_rest (inner_of w) (place_in w) (node_in w id) used (back_of w) w.out

abbrev pub part_rest : Work → NodeId → Part → Use → Expansion (List ℕ)
part_rest w id part used =
    adds (whole_part (inner_of w) (place_in w) part) (use_rest (inner_of w) (place_in w) (node_in w id) used (back_of w)) w.out

abbrev pub default_rest : Work → NodeId → Expansion (List ℕ)
default_rest w id = node_rest w (default_text (inner_of w) (place_in w) (source_in w id) (parts_of (node_in w id)))

abbrev pub argument_rest : Work → NodeId → Expansion (List ℕ)
argument_rest w id = node_rest w (node_text (inner_of w) (place_in w) (node_in w id).kind (node_in w id).content)

abbrev pub template_rest : Work → NodeId → Expansion (List ℕ)
template_rest w id = node_rest w (template_text (inner_of w) (place_in w) (node_in w id).content)

abbrev pub answered_text : Work → NodeId → PageTitle → Option (List ℕ) → Expansion (List ℕ)
answered_text w id title None = give (source_in w id)
answered_text w id title (Some text) = put_in (inner_of w) (place_in w) (source_in w id) title text (parts_of (node_in w id))

abbrev pub answered_rest : Work → NodeId → PageTitle → Option (List ℕ) → Expansion (List ℕ)
answered_rest w id title text = node_rest w (answered_text w id title text)

abbrev pub values_rest : Work → NodeId → Call → Expansion (List ℕ)
values_rest w id call = call_rest (inner_of w) (place_in w) (node_in w id) call (back_of w) w.out

abbrev pub page_of_call : Work → NodeId → Call → Expansion (List ℕ)
page_of_call w id call = page_rest (inner_of w) (place_in w) (node_in w id) call.title call.text (back_of w) w.out call.bound

-- a value of a call was made
abbrev pub with_value : Work → NodeId → Call → List ℕ → Option ListId → Expansion (List ℕ)
with_value w id call before name = values_rest (record w { out = before }) id (call_with call (name_of (parsed_of w) name) w.out)

-- the text of a page was made, whose call stands in this level
abbrev pub filled_rest : Work → NodeId → List ℕ → Level → Expansion (List ℕ)
filled_rest w id before level =
    adds (result_or (source_of_node (node_at level.tree id)) w.out) (back_of (record w { level = level })) before

-- ---- what it names is there

pub record IsSound (w : Work) : Type 0 where
  pub list : IsSome (list_with (parsed_of w) w.list)
  pub opened : AreOpened w.level w.opened

abbrev pub IsNode : Work → Now → Type 0
IsNode w ListNow = Unit {0}
IsNode w (CallsNow id title) = IsSome (node_with (parsed_of w) id)

-- ---- what calls do

abbrev pub with_text : Work → List ℕ → Work
with_text w text = record w { out = w.out ++ text }

-- a node is open, and another list is gone over for it
abbrev pub entered : Work → NodeId → Waiting → ListId → Work
entered w id waiting list = record w {
  opened = record { node = id; list = w.list; at = w.at; waiting = waiting } ∷ w.opened;
  list = list;
  at = 0;
}

-- What was left to do is what is left, and what is named then is there.
pub record Leads (w : Work) (made : Expansion (List ℕ)) (u : Work) (now : Now) : Type 0 where
  pub same : made (progress_of w.spent) ≡ plan_of u now
  pub sound : IsSound u
  pub node : IsNode u now

abbrev pub LeadsOn : Work → Expansion (List ℕ) → Work → Type 0
LeadsOn w made u = Leads w made u ListNow

-- The text is made.
pub record IsMade (w u : Work) : Type 0 where
  pub same : list_rest w (progress_of w.spent) ≡ give u.out (progress_of u.spent)

-- what a step comes to
abbrev pub IsStep : Work → Option Now → Work → Type 0
IsStep w None u = IsMade w u
IsStep w (Some now) u = Leads w (list_rest w) u now

-- ---- calls

abbrev pub called_by : Place → List Item → Option (Option PageTitle)
called_by place title = elim (called title) [ None ↦ None | Some name ↦ Some (called_title place name) ]

abbrev pub found_by : Called → Option (Option PageTitle)
found_by Nothing = None
found_by Refused = Some None
found_by (Page title) = Some (Some title)
