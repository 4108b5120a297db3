-- What an expansion that has begun is still to do: what each open node does with the output that it waits for.
use Rattle.std.specs.Prelude.{◌≡◌, ℕ, ◌+◌, ◌≤◌, List, [], ◌∷◌, ◌++◌, drop, codes, true, Option, Some, None, if◌then◌else◌, Result, Ok, Err}
use Rattle.wk_text_rules.specs.Marked.{all_plain, plain_text_of, trimmed_output}
use Rattle.wk_text_rules.specs.Numerals.{same_output}
use Rattle.wk_text_rules.specs.Titles.{PageTitle}
use Rattle.wk_tree_rules.specs.Tree.{Node, Part, further_parts, tree}
use Rattle.wk_tree_rules.specs.Trees.{Item, plain}
use Rattle.wk_tree_rules.specs.declared.Mode.TheVariants as mode
use Rattle.wk_tree.specs.Parsed.{ParsedText, list_with, node_with}
use Rattle.wk_tree.specs.declared.item.NodeId.{NodeId}
use Rattle.wk_view_rules.specs.Expand.{argument_value, kind_output, operand, redirected, switch_output, trimmed_items, whole_part, behind_bare_item, with_bindings, Search as Rule}
use Rattle.wk_view_rules.specs.Expansions.{Expansion, Output, give, ◌>>=◌, argument_within_limit, inclusion_within_limit}
use Rattle.wk_view_rules.specs.Frames.{Frame, Binding}
use Rattle.wk_view_rules.specs.Words.{named_item}
use Rattle.wk_view_rules.specs.Worlds.{Seen}
use Rattle.wk_frames.specs.Levels.{HasLists, LevelsShown, tree_in}
use Rattle.wk_expand.specs.Nodes.{rest_written}
use Rattle.wk_frames.specs.Bindings.{named_binding}
use Rattle.wk_expand.specs.Running.{ComesTo, Passes, StopsAt}
use Rattle.wk_expand.specs.Searches.{HasDefault, behind_turned, search_of}
use Rattle.wk_frames.specs.Frames.{IsBinding, ShowsBindings, ShowsFrame}
use Rattle.wk_expand.specs.State.{caller_tree, current}
use Rattle.wk_frames.specs.declared.levels.Bound.{Bound}
use Rattle.wk_frames.specs.declared.levels.Level.{Level}
use Rattle.wk_expand.specs.declared.search.Search.{Search}
use Rattle.wk_expand.specs.declared.stack.Binder.{Binder}
use Rattle.wk_expand.specs.declared.stack.Inclusion.{Inclusion}
use Rattle.wk_expand.specs.declared.stack.Next.{Next}
use Rattle.wk_expand.specs.declared.stack.Next.TheVariants.{Gives, Expands, Goes}
use Rattle.wk_expand.specs.declared.stack.Pending.{Pending}
use Rattle.wk_expand.specs.declared.stack.Pending.TheVariants.{Named, Target, Binds}
use Rattle.wk_expand.specs.declared.stack.Use.{Use}
use Rattle.wk_expand.specs.declared.stack.Use.TheVariants.{Whole, Operand, Second, Written}
use Rattle.wk_expand.specs.declared.stack.Waiting.{Waiting}
use Rattle.wk_expand.specs.declared.stack.Waiting.TheVariants.{Title, Value, Name, Part as PartOf, Binding as BindingOf, Included, Bare, Named as NamedItem}
use Rattle.wk_expand.specs.declared.state.Expander.{Expander}
use Rattle.wk_expand.specs.declared.state.Stop.{Stop}
use Rattle.wk_tree.specs.declared.item.ListId.{ListId}

-- a node in a frame, of a text: what it holds is expanded by `inner`
pub record Place : Type 0 where
  pub inner : Frame → List Item → Expansion Output
  pub viewed : PageTitle
  pub frame : Frame
  pub home : LevelsShown
  pub node : Node

-- the text in which the node stands
abbrev pub text_at : Place → ParsedText
text_at p = tree_in p.home.root p.home.included

abbrev pub parts_at : Place → List Part
parts_at p = further_parts p.node.content

-- the expansion of a page, with the text at its root, has this node in this place
pub record IsPlace (page : PageTitle) (root : ParsedText) (id : NodeId) (p : Place) : Type 0 where
  pub page_is : page ≡ p.viewed
  pub root_is : root ≡ p.home.root
  pub shows : ShowsFrame p.home.root p.home.included p.frame
  pub there : node_with (text_at p) id ≡ Some p.node
  pub plainly : (frame : Frame) (start : ℕ) (text : List ℕ) → p.inner frame (plain start text ∷ []) ≡ give (all_plain text)

-- the expansion stands in the text of this node
pub record IsHere (s : Expander) (id : NodeId) (p : Place) : Type 0 where
  pub is : IsPlace s.page s.levels.root id p
  pub home : s.levels ≡ p.home

-- ---- what is done with outputs

-- with a further part that is expanded whole
abbrev pub IsUse : Place → Use → (Output → Expansion Output) → Type 0
IsUse p Whole f = (out : Output) → f out ≡ give out
IsUse p Operand f = (out : Output) → f out ≡ give (trimmed_output out)
IsUse p (Second first) f = (out : Output) → f out ≡ operand p.inner p.viewed p.frame (if same_output first (trimmed_output out) then 3 else 4) (parts_at p)
IsUse p (Written next) f = (out : Output) → f out ≡ rest_written p.inner p.viewed p.frame out (drop next (parts_at p))

-- a further part is expanded whole, behind an output
abbrev pub whole_behind : Place → Part → Output → (Output → Expansion Output) → Expansion Output
whole_behind p part before f = whole_part p.inner p.viewed p.frame part >>= (λ out. f (before ++ out))

-- with the name of a further part, whose value has these items
pub record IsNamedUse (p : Place) (value : ListId) (used : Use) (f : Output → Expansion Output) : Type 0 where
  pub items : List Item
  pub there : list_with (text_at p) value ≡ Some items
  pub step : Output → Expansion Output
  pub used_is : IsUse p used step
  pub is : (out : Output) → f out ≡ (p.inner p.frame items >>= (λ later. step ((out ++ all_plain (codes "=")) ++ later)))

-- what is left to do for an inclusion, by what is bound
abbrev pub included_with : Place → Inclusion → List Binding → Expansion Output
included_with p page bindings =
    p.inner (record { title = page.source; bindings = bindings } ∷ p.frame) (tree mode.Include page.text) >>= inclusion_within_limit page.title

-- what was bound of a node's further parts
pub record IsBound (p : Place) (binder : Binder) (bindings : List Binding) : Type 0 where
  pub shows : ShowsBindings (text_at p) binder.args bindings
  pub lists : HasLists (text_at p) binder.args
  pub few : binder.numbered ≤ binder.at

-- the rest is bound, and then the page is included
pub record IsBinds (p : Place) (page : Inclusion) (binder : Binder) (rest : Expansion Output) : Type 0 where
  pub bindings : List Binding
  pub bound : IsBound p binder bindings
  pub is : rest
      ≡ (with_bindings p.inner p.viewed p.frame (binder.numbered + 1) bindings (drop binder.at (parts_at p)) >>= included_with p page)

-- with a name that is bound to a value
pub record IsBinder (p : Place) (page : Inclusion) (binder : Binder) (v : Bound) (f : Output → Expansion Output) : Type 0 where
  pub bindings : List Binding
  pub bound : IsBound p binder bindings
  pub value : List Item
  pub value_is : (name : List ℕ) → IsBinding (text_at p) v (record { name = name; value = value; named = true })
  pub is : (out : Output) → f out
      ≡ (with_bindings p.inner p.viewed p.frame (binder.numbered + 1) (named_binding value (plain_text_of (trimmed_output out)) bindings) (drop binder.at (parts_at p))
      >>= included_with p page)

-- the name of a further part is expanded, to which a value is bound
pub record IsNameNext (p : Place) (page : Inclusion) (binder : Binder) (name : ListId) (v : Bound) (rest : Expansion Output) : Type 0 where
  pub items : List Item
  pub there : list_with (text_at p) name ≡ Some items
  pub step : Output → Expansion Output
  pub step_is : IsBinder p page binder v step
  pub is : rest ≡ (p.inner p.frame items >>= step)

-- The next further part is bound, so that the rest is as it was; or its name is expanded first, to which a value is bound.
abbrev pub IsBoundNext : Place → Binder → Option (ListId × Bound) → Binder → Type 0
IsBoundNext p before None after = (page : Inclusion) (rest : Expansion Output) → IsBinds p page before rest → IsBinds p page after rest
IsBoundNext p before (Some found) after = (page : Inclusion) (rest : Expansion Output) → IsBinds p page before rest → IsNameNext p page after found.0 found.1 rest

-- the search of a `#switch`, by the search behind an item with an equals sign and this value
abbrev pub searched : Place → List Item → List Part → Option Rule → Expansion Output
searched p value parts None = trimmed_items p.inner p.viewed p.frame value
searched p value parts (Some later) = switch_output p.inner p.viewed p.frame later parts

-- with an item of a `#switch` without an equals sign
pub record IsBareItem (p : Place) (search : Search) (next : ℕ) (f : Output → Expansion Output) : Type 0 where
  pub default : HasDefault (text_at p) search
  pub is : (out : Output) → f out
      ≡ switch_output p.inner p.viewed p.frame (behind_bare_item (search_of (text_at p) search) (trimmed_output out)) (drop next (parts_at p))

-- with the name of an item of a `#switch`
pub record IsNamedItem (p : Place) (search : Search) (next : ℕ) (list : ListId) (f : Output → Expansion Output) : Type 0 where
  pub default : HasDefault (text_at p) search
  pub value : List Item
  pub there : list_with (text_at p) list ≡ Some value
  pub is : (out : Output) → f out
      ≡ searched p value (drop next (parts_at p)) (behind_turned (named_item search.decides (trimmed_output out)) (search_of (text_at p) search) value)

-- what a node is still to do with the output that it waits for
abbrev pub IsRest : Place → Waiting → (Output → Expansion Output) → Type 0
IsRest p Title f = (out : Output) → f out ≡ kind_output p.inner p.viewed p.frame p.node.kind out (parts_at p)
IsRest p (Value level named) f = (out : Output) → f out ≡ argument_within_limit (if named then trimmed_output out else out)
IsRest p (Name value used) f = IsNamedUse p value used f
IsRest p (PartOf used) f = IsUse p used f
IsRest p (BindingOf page binder bound) f = IsBinder p page binder bound f
IsRest p (Included title) f = (out : Output) → f out ≡ inclusion_within_limit title out
IsRest p (Bare search next) f = IsBareItem p search next f
IsRest p (NamedItem search next value) f = IsNamedItem p search next value f

-- what a node is about to do
abbrev pub IsPending : Place → Pending → Expansion Output → Type 0
IsPending p (Named name) rest = rest ≡ kind_output p.inner p.viewed p.frame p.node.kind name (parts_at p)
IsPending p (Target title target) rest = rest ≡ redirected p.inner p.viewed p.frame title target (parts_at p)
IsPending p (Binds page binder) rest = IsBinds p page binder rest

-- ---- texts within each other

-- the texts where a list is expanded, and those where the node stands that waits for it
abbrev pub AreWithin : Waiting → LevelsShown → LevelsShown → Type 0
AreWithin Title now home = now ≡ home
AreWithin (Value level named) now home = (home ≡ record now { included = level ∷ now.included }) × HasLists (tree_in now.root now.included) level.args
AreWithin (Name value used) now home = now ≡ home
AreWithin (PartOf used) now home = now ≡ home
AreWithin (BindingOf page binder bound) now home = now ≡ home
AreWithin (Included title) now home = (level : Level) × (now ≡ record home { included = level ∷ home.included })
AreWithin (Bare search next) now home = now ≡ home
AreWithin (NamedItem search next value) now home = now ≡ home

-- ---- what a node does next

-- A list is expanded next, behind an output.
pub record IsExpanded (p : Place) (t : Expander) (waiting : Waiting) (list : ListId) (before : Output) (rest : Expansion Output) : Type 0 where
  pub within : AreWithin waiting t.levels p.home
  pub frame : Frame
  pub shows : ShowsFrame t.levels.root t.levels.included frame
  pub items : List Item
  pub there : list_with (current t) list ≡ Some items
  pub step : Output → Expansion Output
  pub step_is : IsRest p waiting step
  pub is : rest ≡ (p.inner frame items >>= (λ later. step (before ++ later)))

-- what is left to do for a node
abbrev pub IsNext : Place → Expander → Next → Expansion Output → Type 0
IsNext p t (Gives out) rest = (t.levels ≡ p.home) × (rest ≡ give out)
IsNext p t (Expands waiting list before) rest = IsExpanded p t waiting list before rest
IsNext p t (Goes pending) rest = (t.levels ≡ p.home) × IsPending p pending rest

-- A call has come from s to t, where this is what the node does next.
pub record LeadsTo (seen : Seen) (p : Place) (e : Expansion Output) (s : Expander) (next : Next) (t : Expander) : Type 0 where
  pub page : t.page ≡ s.page
  pub rest : Expansion Output
  pub next_is : IsNext p t next rest
  pub passes : Passes seen e s rest t

-- The same for a call that may stop.
abbrev pub LeadsOn : Seen → Place → Expansion Output → Expander → Result Next Stop → Expander → Type 0
LeadsOn seen p e s (Ok next) t = LeadsTo seen p e s next t
LeadsOn seen p e s (Err stop) t = StopsAt seen e s stop

-- A node waits for an output, where the expansion stands.
pub record Waits (s : Expander) (id : NodeId) (waiting : Waiting) : Type 0 where
  pub place : Place
  pub is : IsPlace s.page s.levels.root id place
  pub within : AreWithin waiting s.levels place.home
  pub step : Output → Expansion Output
  pub step_is : IsRest place waiting step

-- ---- the value of an argument

-- The list is the title part of an argument, to whose name this is bound.
pub record IsBoundTitle (p : Place) (title : ListId) (caller : ParsedText) (v : Bound) : Type 0 where
  pub binding : Binding
  pub is_binding : IsBinding caller v binding
  pub gives : (frame : Frame) (items : List Item) → list_with (text_at p) title ≡ Some items
      → (p.inner frame items >>= (λ name. kind_output p.inner p.viewed p.frame p.node.kind name (parts_at p))) ≡ argument_value p.inner p.viewed p.frame binding

-- A node does what an argument does to which this is bound.
pub record IsValueNext (p : Place) (t : Expander) (v : Bound) (rest : Expansion Output) : Type 0 where
  pub home : t.levels ≡ p.home
  pub binding : Binding
  pub is_binding : IsBinding (caller_tree t) v binding
  pub is : rest ≡ argument_value p.inner p.viewed p.frame binding

-- A call has come from s to t, where the output of a node stands behind another one.
pub record IsPushed (seen : Seen) (e : Expansion Output) (s : Expander) (before : Output) (t : Expander) (after : Output) : Type 0 where
  pub one : Output
  pub comes : ComesTo seen e s (give one) t
  pub behind : after ≡ before ++ one

-- The same, or the output stays and this is what the node does next.
abbrev pub IsValued : Seen → Place → Expansion Output → Expander → Output → Option Next → Expander → Output → Type 0
IsValued seen p e s before None t after = IsPushed seen e s before t after
IsValued seen p e s before (Some next) t after = LeadsTo seen p e s next t × (after ≡ before)
