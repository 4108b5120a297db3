-- How far an expansion has come, and what is left of it.
use Rattle.std.specs.Prelude.{◌≡◌, ℕ, suc, List, [], ◌∷◌, ◌++◌, drop, reverse, Option, Some, None}
use Rattle.wk_text_rules.specs.Titles.{PageTitle}
use Rattle.wk_tree_rules.specs.Tree.{Node}
use Rattle.wk_tree_rules.specs.Trees.{Item}
use Rattle.wk_tree.specs.Parsed.{ParsedText, list_with, node_with}
use Rattle.wk_tree.specs.declared.item.NodeId.{NodeId}
use Rattle.wk_view_rules.specs.Expand.{expand}
use Rattle.wk_view_rules.specs.Expansions.{Expansion, Output, give, ◌>>=◌, most_open}
use Rattle.wk_view_rules.specs.Frames.{Frame}
use Rattle.wk_view_rules.specs.Worlds.{Seen}
use Rattle.wk_frames.specs.Levels.{LevelsShown}
use Rattle.wk_expand.specs.Nodes.{charged_node, rest_list}
use Rattle.wk_expand.specs.Running.{Passes, StopsAt}
use Rattle.wk_expand.specs.Stack.{AreWithin, IsNext, IsPlace, IsRest, Place, text_at}
use Rattle.wk_frames.specs.Frames.{ShowsFrame}
use Rattle.wk_expand.specs.State.{current}
use Rattle.wk_expand.specs.declared.stack.Listing.{Listing}
use Rattle.wk_expand.specs.declared.stack.Next.TheVariants.{Goes}
use Rattle.wk_expand.specs.declared.stack.Now.{Now}
use Rattle.wk_expand.specs.declared.stack.Now.TheVariants.{List as ListNow, Open as OpenNow, Node as NodeNow}
use Rattle.wk_expand.specs.declared.stack.Opened.{Opened}
use Rattle.wk_expand.specs.declared.stack.Turn.{Turn}
use Rattle.wk_expand.specs.declared.stack.Waiting.{Waiting}
use Rattle.wk_expand.specs.declared.stack.Turn.TheVariants.{On, Done, Needs as NeedsTurn}
use Rattle.wk_expand.specs.declared.state.Expander.{Expander}
use Rattle.wk_expand.specs.declared.state.Stop.TheVariants.{Needs}
use Rattle.wk_expand.specs.declared.work.Work.{Work}

-- ---- a list up to its next node

-- A list's items from a place on, behind an output: they add up to another output, and a node stands next, or none.
abbrev pub IsFilled : ParsedText → List Item → ℕ → Output → ℕ × Option NodeId → Output → Type 0
IsFilled parsed items at out (next, None) new =
    (left : ℕ) (viewed : PageTitle) (frame : Frame) → rest_list left viewed frame out (drop at items) ≡ give new
IsFilled parsed items at out (next, Some id) new =
    (m : Node) × (node_with parsed id ≡ Some m)
    × ((left : ℕ) (viewed : PageTitle) (frame : Frame) → rest_list left viewed frame out (drop at items)
    ≡ (charged_node left viewed frame m.kind m.content >>= (λ one. rest_list left viewed frame (new ++ one) (drop next items))))

-- ---- the nodes that are open

-- a place of a node, where so many nodes may be opened within it
pub record Spot : Type 0 where
  pub left : ℕ
  pub viewed : PageTitle
  pub frame : Frame
  pub home : LevelsShown
  pub node : Node

abbrev pub place_of : Spot → Place
place_of p = record { inner = expand p.left p.viewed; viewed = p.viewed; frame = p.frame; home = p.home; node = p.node }

-- what is done with the output of a node: the list in which it stands goes on, and then what stands behind that
pub record IsListBehind (p : Spot) (behind : Listing) (f : Output → Expansion Output) : Type 0 where
  pub items : List Item
  pub there : list_with (text_at (place_of p)) behind.list ≡ Some items
  pub after : Output → Expansion Output
  pub is : (one : Output) → f one ≡ (rest_list (suc p.left) p.viewed p.frame (behind.out ++ one) (drop behind.at items) >>= after)

-- what is done with the output of the list that an open node waits for
pub record IsOpened (left : ℕ) (page : PageTitle) (levels : LevelsShown) (o : Opened) (f : Output → Expansion Output) : Type 0 where
  pub spot : Spot
  pub left_is : spot.left ≡ left
  pub is_place : IsPlace page levels.root o.node (place_of spot)
  pub within : AreWithin o.waiting levels (place_of spot).home
  pub step : Output → Expansion Output
  pub step_is : IsRest (place_of spot) o.waiting step
  pub one : Output → Expansion Output
  pub list : IsListBehind spot o.behind one
  pub is : (out : Output) → f out ≡ (step out >>= one)

-- the same for all nodes that are open, the innermost first
abbrev pub Continues : ℕ → PageTitle → LevelsShown → List Opened → (Output → Expansion Output) → Type 0
Continues left page levels [] f = (left ≡ most_open) × ((out : Output) → f out ≡ give out)
Continues left page levels (o ∷ opened) f =
    (h : IsOpened left page levels o f) × Continues (suc left) page h.spot.home opened h.list.after

-- ---- what is left

-- a list is expanded
pub record IsListing (w : Work) (listing : Listing) (e : Expansion Output) : Type 0 where
  pub left : ℕ
  pub frame : Frame
  pub shows : ShowsFrame w.expander.levels.root w.expander.levels.included frame
  pub items : List Item
  pub there : list_with (current w.expander) listing.list ≡ Some items
  pub after : Output → Expansion Output
  pub continues : Continues left w.expander.page w.expander.levels (reverse w.opened.items) after
  pub is : e ≡ (rest_list left w.expander.page frame listing.out (drop listing.at items) >>= after)

-- a node does what is left of it
pub record IsGoing (w : Work) (id : NodeId) (behind : Listing) (IsLeft : Place → Expansion Output → Type 0) (e : Expansion Output) : Type 0 where
  pub spot : Spot
  pub rest : Expansion Output
  pub rest_is : IsLeft (place_of spot) rest
  pub is_place : IsPlace w.expander.page w.expander.levels.root id (place_of spot)
  pub one : Output → Expansion Output
  pub list : IsListBehind spot behind one
  pub continues : Continues (suc spot.left) w.expander.page spot.home (reverse w.opened.items) list.after
  pub is : e ≡ (rest >>= one)

-- a list has ended with an output
pub record IsEnded (w : Work) (out : Output) (e : Expansion Output) : Type 0 where
  pub left : ℕ
  pub after : Output → Expansion Output
  pub continues : Continues left w.expander.page w.expander.levels (reverse w.opened.items) after
  pub is : e ≡ after out

-- a list stands at a node
pub record IsAtNode (w : Work) (id : NodeId) (behind : Listing) (e : Expansion Output) : Type 0 where
  pub left : ℕ
  pub frame : Frame
  pub shows : ShowsFrame w.expander.levels.root w.expander.levels.included frame
  pub node : Node
  pub node_is : node_with (current w.expander) id ≡ Some node
  pub items : List Item
  pub there : list_with (current w.expander) behind.list ≡ Some items
  pub after : Output → Expansion Output
  pub continues : Continues left w.expander.page w.expander.levels (reverse w.opened.items) after
  pub is : e
      ≡ (charged_node left w.expander.page frame node.kind node.content
      >>= (λ one. rest_list left w.expander.page frame (behind.out ++ one) (drop behind.at items) >>= after))

-- the list goes on behind a node that gives this output
pub record IsPassed (w : Work) (one : Output) (u : Work) : Type 0 where
  pub expander : u.expander ≡ w.expander
  pub opened : u.opened.items ≡ w.opened.items
  pub listing : u.listing ≡ record { list = w.listing.list; at = w.listing.at; out = w.listing.out ++ one }

-- a node is open from now on, behind which the list goes on, and another list is expanded for it
pub record HasOpened (w : Work) (id : NodeId) (waiting : Waiting) (another : Listing) (u : Work) : Type 0 where
  pub expander : u.expander ≡ w.expander
  pub opened : u.opened.items ≡ w.opened.items ++ record { node = id; behind = w.listing; waiting = waiting } ∷ []
  pub listing : u.listing ≡ another

-- What is left to do is this.
abbrev pub IsNow : Work → Now → Expansion Output → Type 0
IsNow w ListNow e = IsListing w w.listing e
IsNow w (OpenNow id) e = IsAtNode w id w.listing e
IsNow w (NodeNow id pending) e = IsGoing w id w.listing (λ p rest. IsNext p w.expander (Goes pending) rest) e

-- A step has come from s so far that what its turn says is left to do.
abbrev pub IsTurn : Seen → Expansion Output → Expander → Turn → Work → Type 0
IsTurn seen e s (On next) w = (rest : Expansion Output) × IsNow w next rest × Passes seen e s rest w.expander
IsTurn seen e s Done w = Passes seen e s (give w.listing.out) w.expander
IsTurn seen e s (NeedsTurn title kind next) w =
    (rest : Expansion Output) × IsNow w next rest × Passes seen e s rest w.expander × StopsAt seen rest w.expander (Needs title kind)
