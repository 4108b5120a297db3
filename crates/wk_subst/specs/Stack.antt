-- What a substitution that has begun is still to do: what each open node does at the end of the list that it waits for.
use Rattle.std.specs.Prelude.{◌≡◌, ℕ, suc, ◌+◌, ◌-◌, Bool, List, [], ◌∷◌, ◌++◌, length, drop, codes, Option, Some, None, IsSome, IfSome}
use Rattle.std.specs.List.{list_any}
use Rattle.wk_text_rules.specs.Titles.{PageTitle}
use Rattle.wk_tree_rules.specs.Tree.{Node, tree}
use Rattle.wk_tree_rules.specs.Trees.{Item, closing_braces}
use Rattle.wk_tree_rules.specs.declared.Mode.TheVariants as mode
use Rattle.wk_tree.specs.Parsed.{ParsedText, list_with, node_with}
use Rattle.wk_view_rules.specs.Expansions.{Expansion, give, ◌>>=◌, most_open}
use Rattle.wk_subst_rules.specs.Budget.{result_or}
use Rattle.wk_subst_rules.specs.Places.{Bound, Place, operand_place, filled_place}
use Rattle.wk_subst_rules.specs.Substitution.{substituted_items, whole_parts, with_bound}
use Rattle.wk_subst.specs.Binding.{call_with}
use Rattle.wk_subst.specs.Nodes.{adds, items_of, list_then, name_of, node_at, parts_of, source_of_node}
use Rattle.wk_subst.specs.declared.stack.Call.{Call}
use Rattle.wk_subst.specs.declared.stack.Level.{Level}
use Rattle.wk_subst.specs.declared.stack.Opened.{Opened}
use Rattle.wk_subst.specs.declared.stack.Use.{Use}
use Rattle.wk_subst.specs.declared.stack.Use.TheVariants.{Whole, Written}
use Rattle.wk_subst.specs.declared.stack.Waiting.{Waiting}
use Rattle.wk_subst.specs.declared.stack.Waiting.TheVariants.{Name, Part, Value, Filled}

-- ---- places

-- the title of a call that is open, if the node is one
abbrev pub titles_of : Waiting → List PageTitle
titles_of (Name value used) = []
titles_of (Part used) = []
titles_of (Value call before name) = call.title ∷ []
titles_of (Filled title before level) = title ∷ []

-- the titles of all calls that are open
abbrev pub within_of : List Opened → List PageTitle
within_of [] = []
within_of (o ∷ opened) = titles_of o.waiting ++ within_of opened

-- a call that is open has a title that passes the test
abbrev pub any_title : (PageTitle → Bool) → Opened → Bool
any_title test o = list_any test (titles_of o.waiting)

abbrev pub place_of : Level → List Opened → Place
place_of level opened = record { within = within_of opened; bound = level.bound }

-- how many nodes may be opened within these, and how many more within one more
abbrev pub left_of : List Opened → ℕ
left_of opened = most_open - length opened

abbrev pub left_in : List Opened → ℕ
left_in opened = most_open - suc (length opened)

-- the text in which a node stands, by the text that is gone over for it
abbrev pub home_of : Waiting → Level → Level
home_of (Name value used) level = level
home_of (Part used) level = level
home_of (Value call before name) level = level
home_of (Filled title before home) level = home

-- the innermost node is open no longer, or none is open
abbrev pub IsPopped : Option Opened → List Opened → List Opened → Type 0
IsPopped None old new = old ≡ []
IsPopped (Some o) old new = old ≡ o ∷ new

-- ---- what an open node is still to do

-- behind a further part
abbrev pub use_rest : (Place → List Item → Expansion (List ℕ)) → Place → Node → Use → (List ℕ → Expansion (List ℕ)) → List ℕ → Expansion (List ℕ)
use_rest inner place n Whole left out = left out
use_rest inner place n (Written next) left out =
    adds (whole_parts inner place (drop next (parts_of n))) (λ (made : List ℕ). left (made ++ closing_braces n.kind)) out

-- the text of a page, in which this is bound
abbrev pub page_rest : (Place → List Item → Expansion (List ℕ)) → Place → Node → PageTitle → List ℕ → (List ℕ → Expansion (List ℕ)) → List ℕ → List Bound → Expansion (List ℕ)
page_rest inner place n title text left out bound =
    adds (inner (filled_place title bound place) (tree mode.Include text) >>= result_or (source_of_node n)) left out

-- the values of a call from the next further part on, and then the text of its page
abbrev pub call_rest : (Place → List Item → Expansion (List ℕ)) → Place → Node → Call → (List ℕ → Expansion (List ℕ)) → List ℕ → Expansion (List ℕ)
call_rest inner place n call left out =
    with_bound inner (operand_place call.title place) (call.numbered + 1) call.bound (drop call.next (parts_of n))
    >>= page_rest inner place n call.title call.text left out

-- at the end of the list that a node waits for
abbrev pub waiting_rest : (Place → List Item → Expansion (List ℕ)) → Place → ParsedText → Node → Waiting → (List ℕ → Expansion (List ℕ)) → List ℕ → Expansion (List ℕ)
waiting_rest inner place parsed n (Name value used) left out = adds (inner place (items_of parsed value)) (use_rest inner place n used left) (out ++ codes "=")
waiting_rest inner place parsed n (Part used) left out = use_rest inner place n used left out
waiting_rest inner place parsed n (Value call before name) left out = call_rest inner place n (call_with call (name_of parsed name) out) left before
waiting_rest inner place parsed n (Filled title before home) left out = adds (result_or (source_of_node n) out) left before

-- all of the open nodes, one after the other
unfoldable pub behind : List Opened → Level → List ℕ → Expansion (List ℕ)
behind [] level out = give out
behind (o ∷ opened) level out =
    let home = home_of o.waiting level in
    waiting_rest (substituted_items (left_in opened)) (place_of home opened) level.tree (node_at home.tree o.node) o.waiting
    (list_then (left_of opened) (place_of home opened) (drop o.at (items_of home.tree o.list)) (behind opened home)) out

-- ---- what the open nodes name is there

abbrev pub HasLists : ParsedText → Waiting → Type 0
HasLists parsed (Name value used) = IsSome (list_with parsed value)
HasLists parsed (Part used) = Unit {0}
HasLists parsed (Value call before name) = IfSome name (λ list. IsSome (list_with parsed list))
HasLists parsed (Filled title before home) = Unit {0}

pub record IsOpened (level : Level) (o : Opened) : Type 0 where
  pub node : IsSome (node_with (home_of o.waiting level).tree o.node)
  pub list : IsSome (list_with (home_of o.waiting level).tree o.list)
  pub lists : HasLists level.tree o.waiting

abbrev pub AreOpened : Level → List Opened → Type 0
AreOpened level [] = Unit {0}
AreOpened level (o ∷ opened) = IsOpened level o × AreOpened (home_of o.waiting level) opened
