-- Steps of a substitution, and what is left of it.
use Rattle.std.proofs.Common.{◌≡◌, ℕ, zero, suc, ◌+◌, ◌/◌, ◌<◌, ◌≤◌, Bool, if◌then◌else◌, List, [], ◌∷◌, ◌++◌, length, drop, codes, decimal, Option, Some, None, IsSome, refl, sym, ap, subst, arith, ◌∙◌}
use Rattle.std.specs.Option.{IfSome}
use Rattle.wk_text_rules.specs.Blank.{trimmed}
use Rattle.wk_text_rules.specs.Titles.{PageTitle}
use Rattle.wk_tree_rules.specs.Tree.{Part, title_part, tree}
use Rattle.wk_tree_rules.specs.Trees.{Item, NodeKind, Content, template, argument, opening_braces, closing_braces}
use Rattle.wk_tree_rules.specs.declared.Mode.TheVariants as mode
use Rattle.wk_tree.specs.Parsed.{list_with, node_with}
use Rattle.wk_tree.specs.declared.item.ListId.{ListId}
use Rattle.wk_tree.specs.declared.item.ListId.TheVariants.{Root}
use Rattle.wk_tree.specs.declared.item.NodeId.{NodeId}
use Rattle.wk_view_rules.specs.Expansions.{Expansion, Progress, give, ◌>>=◌, most_nodes, with_include, with_nodes}
use Rattle.wk_view_rules.specs.Plans.{Plan, gives, and_then}
use Rattle.wk_subst_rules.specs.Budget.{charged_or, result_or}
use Rattle.wk_subst_rules.specs.Calls.{bound_name, called, called_title, source_name}
use Rattle.wk_subst_rules.specs.Places.{Bound, Place, filled_place, operand_place, value_bound}
use Rattle.wk_subst_rules.specs.Substitution.{argument_text, as_written, call_text, default_text, node_source, node_text, substituted_items, template_text, whole_parts, with_bound}
use Rattle.wk_subst.specs.Binding.{call_named, call_with}
use Rattle.wk_subst.specs.Budget.{progress_of, IsBeyond, IsCharged, IsCounted, IsTooLong}
use Rattle.wk_subst.specs.Nodes.{adds, items_of, list_then, name_of, opened_node, parts_of}
use Rattle.wk_subst.specs.Stack.{AreOpened, HasLists, behind, call_rest, left_in, left_of, page_rest, use_rest}
use Rattle.wk_subst.specs.Work.{IsSound, Leads, LeadsOn, argument_rest, back_of, called_by, default_rest, entered, filled_rest, inner_of, list_rest, node_in, node_rest, page_of_call, parsed_of, part_rest, place_in, source_in, template_rest, used_rest, values_rest, with_text, with_value, written_rest}
use Rattle.wk_subst.specs.declared.spent.Spent.{Spent}
use Rattle.wk_subst.specs.declared.stack.Call.{Call}
use Rattle.wk_subst.specs.declared.stack.Level.{Level}
use Rattle.wk_subst.specs.declared.stack.Opened.{Opened}
use Rattle.wk_subst.specs.declared.stack.Use.{Use}
use Rattle.wk_subst.specs.declared.stack.Use.TheVariants.{Whole, Written}
use Rattle.wk_subst.specs.declared.stack.Waiting.{Waiting}
use Rattle.wk_subst.specs.declared.stack.Waiting.TheVariants.{Name, Part as PartOf, Value, Filled}
use Rattle.wk_subst.specs.declared.work.Now.{Now}
use Rattle.wk_subst.specs.declared.work.Work.{Work}
use Rattle.wk_subst.proofs.NodeLaws.{root-is}
use Rattle.wk_subst.proofs.PlanLaws.{bind-same, list-is, parts-end, parts-more, regrouped, whole-bare, whole-named, written-is}

-- ---- what leads where

pub leads-list : (w u : Work) (made : Expansion (List ℕ)) → made (progress_of w.spent) ≡ list_rest u (progress_of u.spent) → IsSound u → LeadsOn w made u
leads-list w u made same sound = record { same = same; sound = sound; node = tt }

-- behind what is the same from there on
pub leads-behind : (w v u : Work) (made next : Expansion (List ℕ)) (now : Now) → made (progress_of w.spent) ≡ next (progress_of v.spent) → Leads v next u now → Leads w made u now
leads-behind w v u made next now same h = record { same = same ∙ h.same; sound = h.sound; node = h.node }

pub leads-as : (w u v : Work) (made : Expansion (List ℕ)) (now : Now) → u ≡ v → Leads w made v now → Leads w made u now
leads-as w u v made now is h = subst (λ (x : Work). Leads w made x now) (sym is) h

at-progress : {A : Type 0} (e f : Expansion A) (w : Work) → e ≡ f → e (progress_of w.spent) ≡ f (progress_of w.spent)
at-progress e f w same = ap (λ (x : Expansion _). x (progress_of w.spent)) same

-- ---- what is named is there

pub sound-text : (w : Work) (text : List ℕ) → IsSound w → IsSound (with_text w text)
sound-text w text h = record { list = h.list; opened = h.opened }

module _ (w : Work) (id : NodeId) (list : ListId) (h : IsSound w) (node : IsSome (node_with (parsed_of w) id)) (there : IsSome (list_with (parsed_of w) list)) where
  pub sound-part : (used : Use) → IsSound (entered w id (PartOf used) list)
  sound-part used = record { list = there; opened = (record { node = node; list = h.list; lists = tt }, h.opened) }

  pub sound-name : (value : ListId) (used : Use) → IsSome (list_with (parsed_of w) value) → IsSound (entered w id (Name value used) list)
  sound-name value used lists = record { list = there; opened = (record { node = node; list = h.list; lists = lists }, h.opened) }

  pub sound-value : (call : Call) (before : List ℕ) (name : Option ListId) → IfSome name (λ l. IsSome (list_with (parsed_of w) l)) → IsSound (entered w id (Value call before name) list)
  sound-value call before name lists = record { list = there; opened = (record { node = node; list = h.list; lists = lists }, h.opened) }

-- ---- a list within a node

module _ (w : Work) (id : NodeId) (list : ListId) where
  pub entered-part : (used : Use) → list_rest (entered w id (PartOf used) list) ≡ adds (inner_of w (place_in w) (items_of (parsed_of w) list)) (use_rest (inner_of w) (place_in w) (node_in w id) used (back_of w)) w.out
  unfolding behind
  entered-part used = sym (list-is (left_in w.opened) (place_in w) (use_rest (inner_of w) (place_in w) (node_in w id) used (back_of w)) w.out (items_of (parsed_of w) list))

  pub entered-name : (value : ListId) (used : Use) → list_rest (entered w id (Name value used) list) ≡ adds (inner_of w (place_in w) (items_of (parsed_of w) list)) (λ made. adds (inner_of w (place_in w) (items_of (parsed_of w) value)) (use_rest (inner_of w) (place_in w) (node_in w id) used (back_of w)) (made ++ codes "=")) w.out
  unfolding behind
  entered-name value used =
      sym (list-is (left_in w.opened) (place_in w) (λ made. adds (inner_of w (place_in w) (items_of (parsed_of w) value)) (use_rest (inner_of w) (place_in w) (node_in w id) used (back_of w)) (made ++ codes "=")) w.out (items_of (parsed_of w) list))

  pub entered-value : (call : Call) (before : List ℕ) (name : Option ListId) → list_rest (entered w id (Value call before name) list)
      ≡ adds (inner_of w (operand_place call.title (place_in w)) (items_of (parsed_of w) list)) (λ made. call_rest (inner_of w) (place_in w) (node_in w id) (call_with call (name_of (parsed_of w) name) made) (back_of w) before) w.out
  unfolding behind
  entered-value call before name =
      sym (list-is (left_in w.opened) (operand_place call.title (place_in w)) (λ made. call_rest (inner_of w) (place_in w) (node_in w id) (call_with call (name_of (parsed_of w) name) made) (back_of w) before) w.out (items_of (parsed_of w) list))

-- ---- nodes as they are written

module _ (w : Work) (id : NodeId) where
  pub written-start : (title : ListId) → items_of (parsed_of w) title ≡ title_part (node_in w id).content → written_rest w id ≡ list_rest (entered (with_text w (opening_braces (node_in w id).kind)) id (PartOf (Written 0)) title)
  written-start title is =
      written-is (inner_of w) (place_in w) (back_of w) w.out (node_in w id).kind (node_in w id).content
      ∙ ap (λ (items : List Item). adds (inner_of w (place_in w) items) (use_rest (inner_of w) (place_in w) (node_in w id) (Written 0) (back_of w)) (w.out ++ opening_braces (node_in w id).kind)) (sym is)
      ∙ sym (entered-part (with_text w (opening_braces (node_in w id).kind)) id title (Written 0))

  pub written-more : (next : ℕ) (q : Part) → drop next (parts_of (node_in w id)) ≡ q ∷ drop (next + 1) (parts_of (node_in w id)) → used_rest w id (Written next) ≡ part_rest (with_text w (codes "|")) id q (Written (next + 1))
  written-more next q is =
      ap (λ (parts : List Part). adds (whole_parts (inner_of w) (place_in w) parts) (λ (made : List ℕ). back_of w (made ++ closing_braces (node_in w id).kind)) w.out) is
      ∙ parts-more (inner_of w) (place_in w) (back_of w) w.out (node_in w id).kind q (drop (next + 1) (parts_of (node_in w id)))

  pub written-last : (next : ℕ) → drop next (parts_of (node_in w id)) ≡ [] → used_rest w id (Written next) ≡ list_rest (with_text w (closing_braces (node_in w id).kind))
  written-last next is =
      ap (λ (parts : List Part). adds (whole_parts (inner_of w) (place_in w) parts) (λ (made : List ℕ). back_of w (made ++ closing_braces (node_in w id).kind)) w.out) is
      ∙ parts-end (inner_of w) (place_in w) (back_of w) w.out (node_in w id).kind

  pub whole-name : (q : Part) (used : Use) (name value : ListId) → q.name ≡ Some (items_of (parsed_of w) name) → items_of (parsed_of w) value ≡ q.value → part_rest w id q used ≡ list_rest (entered w id (Name value used) name)
  whole-name q used name value is value_is =
      whole-named (inner_of w) (place_in w) (use_rest (inner_of w) (place_in w) (node_in w id) used (back_of w)) w.out q (items_of (parsed_of w) name) is
      ∙ ap (λ (items : List Item). adds (inner_of w (place_in w) (items_of (parsed_of w) name)) (λ made. adds (inner_of w (place_in w) items) (use_rest (inner_of w) (place_in w) (node_in w id) used (back_of w)) (made ++ codes "=")) w.out) (sym value_is)
      ∙ sym (entered-name w id name value used)

  pub whole-value : (q : Part) (used : Use) (value : ListId) → q.name ≡ None → items_of (parsed_of w) value ≡ q.value → part_rest w id q used ≡ list_rest (entered w id (PartOf used) value)
  whole-value q used value is value_is =
      whole-bare (inner_of w) (place_in w) (use_rest (inner_of w) (place_in w) (node_in w id) used (back_of w)) w.out q is
      ∙ ap (λ (items : List Item). adds (inner_of w (place_in w) items) (use_rest (inner_of w) (place_in w) (node_in w id) used (back_of w)) w.out) (sym value_is)
      ∙ sym (entered-part w id value used)

  -- ---- arguments

  pub default-source : drop 0 (parts_of (node_in w id)) ≡ [] → default_rest w id ≡ list_rest (with_text w (source_in w id))
  unfolding default_text
  default-source is = ap (λ (parts : List Part). node_rest w (default_text (inner_of w) (place_in w) (source_in w id) parts)) is

  pub default-part : (q : Part) → drop 0 (parts_of (node_in w id)) ≡ q ∷ drop (0 + 1) (parts_of (node_in w id)) → default_rest w id ≡ part_rest w id q Whole
  unfolding default_text
  default-part q is = ap (λ (parts : List Part). node_rest w (default_text (inner_of w) (place_in w) (source_in w id) parts)) is

  module _ (kind : (node_in w id).kind ≡ argument) where
    pub argument-saved : w.level.bound ≡ None → argument_rest w id ≡ written_rest w id
    unfolding node_text
    argument-saved is =
        let content = (node_in w id).content in
        let place : Option (List Bound) → Place = λ bound. record { within = (place_in w).within; bound = bound } in
        let by : Option (List Bound) → Expansion (List ℕ) = λ bound. elim bound [ None ↦ as_written (inner_of w) (place_in w) argument content | Some all ↦ argument_text (inner_of w) (place_in w) all content ] in
        ap (λ (k : NodeKind). node_rest w (node_text (inner_of w) (place_in w) k content)) kind
        ∙ ap (λ (bound : Option (List Bound)). node_rest w (by bound)) is
        ∙ ap (λ (k : NodeKind). node_rest w (as_written (inner_of w) (place_in w) k content)) (sym kind)

    argument-by : (bound : List Bound) (found : Option (List ℕ)) → w.level.bound ≡ Some bound → value_bound bound (source_name (title_part (node_in w id).content)) ≡ found
        → argument_rest w id ≡ node_rest w (elim found [ None ↦ default_text (inner_of w) (place_in w) (source_in w id) (parts_of (node_in w id)) | Some value ↦ charged_or (source_in w id) (length value / 64) (give value) ])
    unfolding node_text argument_text
    argument-by bound found is looked =
        let content = (node_in w id).content in
        let by : Option (List Bound) → Expansion (List ℕ) = λ b. elim b [ None ↦ as_written (inner_of w) (place_in w) argument content | Some all ↦ argument_text (inner_of w) (place_in w) all content ] in
        let found_by : List ℕ → Option (List ℕ) → Expansion (List ℕ) = λ source o. elim o [ None ↦ default_text (inner_of w) (place_in w) source (parts_of (node_in w id)) | Some value ↦ charged_or source (length value / 64) (give value) ] in
        ap (λ (k : NodeKind). node_rest w (node_text (inner_of w) (place_in w) k content)) kind
        ∙ ap (λ (b : Option (List Bound)). node_rest w (by b)) is
        ∙ ap (λ (o : Option (List ℕ)). node_rest w (found_by (node_source argument content) o)) looked
        ∙ ap (λ (k : NodeKind). node_rest w (found_by (node_source k content) found)) (sym kind)

    pub argument-lost : (bound : List Bound) → w.level.bound ≡ Some bound → value_bound bound (source_name (title_part (node_in w id).content)) ≡ None → argument_rest w id ≡ default_rest w id
    argument-lost bound is looked = argument-by bound None is looked

    pub argument-found : (bound : List Bound) (value : List ℕ) → w.level.bound ≡ Some bound → value_bound bound (source_name (title_part (node_in w id).content)) ≡ Some value → argument_rest w id ≡ node_rest w (charged_or (source_in w id) (length value / 64) (give value))
    argument-found bound value is looked = argument-by bound (Some value) is looked

  -- ---- templates

  abbrev by_called : Option (Option PageTitle) → Expansion (List ℕ)
  by_called None = as_written (inner_of w) (place_in w) (node_in w id).kind (node_in w id).content
  by_called (Some None) = give (source_in w id)
  by_called (Some (Some title)) = call_text (inner_of w) (place_in w) (source_in w id) title (parts_of (node_in w id))

  abbrev at_kind : NodeKind → Option (Option PageTitle) → Expansion (List ℕ)
  at_kind k None = as_written (inner_of w) (place_in w) k (node_in w id).content
  at_kind k (Some None) = give (node_source k (node_in w id).content)
  at_kind k (Some (Some title)) = call_text (inner_of w) (place_in w) (node_source k (node_in w id).content) title (parts_of (node_in w id))

  titled-by : (o : Option PageTitle) → (elim o [ None ↦ give (node_source template (node_in w id).content) | Some title ↦ call_text (inner_of w) (place_in w) (node_source template (node_in w id).content) title (parts_of (node_in w id)) ]) ≡ at_kind template (Some o)
  titled-by None = refl
  titled-by (Some title) = refl

  named-by : (o : Option (List ℕ)) → (elim o [ None ↦ as_written (inner_of w) (place_in w) template (node_in w id).content | Some name ↦ elim (called_title (place_in w) name) [ None ↦ give (node_source template (node_in w id).content) | Some title ↦ call_text (inner_of w) (place_in w) (node_source template (node_in w id).content) title (parts_of (node_in w id)) ] ])
      ≡ at_kind template (elim o [ None ↦ None | Some name ↦ Some (called_title (place_in w) name) ])
  named-by None = refl
  named-by (Some name) = titled-by (called_title (place_in w) name)

  at-kind : (found : Option (Option PageTitle)) → at_kind (node_in w id).kind found ≡ by_called found
  at-kind None = refl
  at-kind (Some None) = refl
  at-kind (Some (Some title)) = refl

  module _ (kind : (node_in w id).kind ≡ template) where
    template-by : template_text (inner_of w) (place_in w) (node_in w id).content ≡ by_called (called_by (place_in w) (title_part (node_in w id).content))
    unfolding template_text
    template-by =
        named-by (called (title_part (node_in w id).content))
        ∙ ap (λ (k : NodeKind). at_kind k (called_by (place_in w) (title_part (node_in w id).content))) (sym kind)
        ∙ at-kind (called_by (place_in w) (title_part (node_in w id).content))

    pub template-is : (title : ListId) (found : Option (Option PageTitle)) → items_of (parsed_of w) title ≡ title_part (node_in w id).content → found ≡ called_by (place_in w) (items_of (parsed_of w) title) → template_rest w id ≡ node_rest w (by_called found)
    template-is title found is e =
        ap (node_rest w) (template-by ∙ ap (λ (items : List Item). by_called (called_by (place_in w) items)) (sym is) ∙ ap by_called (sym e))

    pub template-nothing : (title : ListId) → items_of (parsed_of w) title ≡ title_part (node_in w id).content → None ≡ called_by (place_in w) (items_of (parsed_of w) title) → template_rest w id ≡ written_rest w id
    template-nothing title is e = template-is title None is e

    pub template-refused : (title : ListId) → items_of (parsed_of w) title ≡ title_part (node_in w id).content → Some None ≡ called_by (place_in w) (items_of (parsed_of w) title) → template_rest w id ≡ list_rest (with_text w (source_in w id))
    template-refused title is e = template-is title (Some None) is e

    pub template-page : (title : ListId) (page : PageTitle) → items_of (parsed_of w) title ≡ title_part (node_in w id).content → Some (Some page) ≡ called_by (place_in w) (items_of (parsed_of w) title)
        → template_rest w id ≡ node_rest w (call_text (inner_of w) (place_in w) (source_in w id) page (parts_of (node_in w id)))
    template-page title page is e = template-is title (Some (Some page)) is e

-- ---- what it costs

module _ (source : List ℕ) (n : ℕ) (rest : Expansion (List ℕ)) (s t : Spent) where
  pub charged-on : IsCharged s n t → charged_or source n rest (progress_of s) ≡ rest (progress_of t)
  charged-on h =
      ap (λ (b : Bool). if b then gives (source, with_nodes most_nodes (progress_of s)) else rest (with_nodes (s.nodes + n) (progress_of s))) h.fits
      ∙ ap (λ (u : Spent). rest (progress_of u)) (sym h.is)

  pub charged-off : IsBeyond s n t → charged_or source n rest (progress_of s) ≡ give source (progress_of t)
  charged-off h =
      ap (λ (b : Bool). if b then gives (source, with_nodes most_nodes (progress_of s)) else rest (with_nodes (s.nodes + n) (progress_of s))) h.fits
      ∙ ap (λ (u : Spent). give source (progress_of u)) (sym h.is)

module _ (w : Work) (source : List ℕ) (n : ℕ) (rest : Expansion (List ℕ)) (t : Spent) where
  pub node-charged : IsCharged w.spent n t → node_rest w (charged_or source n rest) (progress_of w.spent) ≡ node_rest (record w { spent = t }) rest (progress_of t)
  node-charged h = ap (λ (p : Plan (List ℕ × Progress)). and_then p (λ end. back_of w (w.out ++ end.0) end.1)) (charged-on source n rest w.spent t h)

  pub node-beyond : IsBeyond w.spent n t → node_rest w (charged_or source n rest) (progress_of w.spent) ≡ list_rest (with_text (record w { spent = t }) source) (progress_of t)
  node-beyond h = ap (λ (p : Plan (List ℕ × Progress)). and_then p (λ end. back_of w (w.out ++ end.0) end.1)) (charged-off source n rest w.spent t h)

-- ---- a node of the list

none-left : (few : ℕ) → few ≡ 0 → (place : Place) (kind : NodeKind) (content : Content) → opened_node few place kind content ≡ give (node_source kind content)
none-left zero e place kind content = refl
none-left (suc few) e place kind content = cc

one-more : (few left : ℕ) → left ≡ suc few → (place : Place) (kind : NodeKind) (content : Content) → opened_node left place kind content ≡ node_text (substituted_items few) place kind content
one-more few left e place kind content = ap (λ (n : ℕ). opened_node n place kind content) e

module _ (w : Work) (id : NodeId) where
  pub open-full : 200 ≤ length w.opened → node_rest w (opened_node (left_of w.opened) (place_in w) (node_in w id).kind (node_in w id).content) ≡ list_rest (with_text w (source_in w id))
  open-full h = ap (node_rest w) (none-left (left_of w.opened) (omega (arith, h)) (place_in w) (node_in w id).kind (node_in w id).content)

  pub open-argument : length w.opened < 200 → node_rest w (opened_node (left_of w.opened) (place_in w) (node_in w id).kind (node_in w id).content) ≡ argument_rest w id
  open-argument h = ap (node_rest w) (one-more (left_in w.opened) (left_of w.opened) (omega (arith, h)) (place_in w) (node_in w id).kind (node_in w id).content)

  pub open-template : length w.opened < 200 → (node_in w id).kind ≡ template → node_rest w (opened_node (left_of w.opened) (place_in w) (node_in w id).kind (node_in w id).content) ≡ template_rest w id
  unfolding node_text
  open-template h kind = open-argument h ∙ ap (λ (k : NodeKind). node_rest w (node_text (inner_of w) (place_in w) k (node_in w id).content)) kind

-- ---- calls

-- what is gone over for the page of a call
abbrev pub page_entered : Work → NodeId → Call → Work
page_entered w id call = entered (record w { out = []; level = record { tree = record { mode = mode.Include; text = call.text }; bound = Some call.bound } }) id (Filled call.title w.out w.level) Root

pub page-enters : (w : Work) (id : NodeId) (call : Call) → page_of_call w id call ≡ list_rest (page_entered w id call)
unfolding behind
page-enters w id call =
    let place = filled_place call.title call.bound (place_in w) in
    let items = tree mode.Include call.text in
    let after : List ℕ → Expansion (List ℕ) = λ made. adds (result_or (source_in w id) made) (back_of w) w.out in
    regrouped (inner_of w place items) (result_or (source_in w id)) (λ one. back_of w (w.out ++ one))
    ∙ list-is (left_in w.opened) place after [] items
    ∙ ap (λ (all : List Item). list_then (left_in w.opened) place all after []) (sym (root-is (record { mode = mode.Include; text = call.text })))

pub sound-page : (w : Work) (id : NodeId) (call : Call) → IsSound w → IsSome (node_with (parsed_of w) id) → IsSound (page_entered w id call)
sound-page w id call h node = record { list = refl; opened = (record { node = node; list = h.list; lists = tt }, h.opened) }

-- a call whose next further part is gone over
abbrev pub part_next : Call → ℕ → Call
part_next call next = record call { next = next }

module _ (w : Work) (id : NodeId) (call : Call) where
  abbrev value_entered : Option ListId → ListId → Work
  value_entered name value = entered (record w { out = [] }) id (Value (part_next call (call.next + 1)) w.out name) value

  pub values-done : drop call.next (parts_of (node_in w id)) ≡ [] → values_rest w id call ≡ page_of_call w id call
  unfolding with_bound
  values-done is =
      ap (λ (parts : List Part). with_bound (inner_of w) (operand_place call.title (place_in w)) (call.numbered + 1) call.bound parts >>= page_rest (inner_of w) (place_in w) (node_in w id) call.title call.text (back_of w) w.out) is

  abbrev place_there : Place
  place_there = operand_place call.title (place_in w)

  abbrev page_there : List Bound → Expansion (List ℕ)
  page_there = page_rest (inner_of w) (place_in w) (node_in w id) call.title call.text (back_of w) w.out

  abbrev bind_there : ℕ → List Bound → List Part → Expansion (List ℕ)
  bind_there next bound parts = with_bound (inner_of w) place_there next bound parts >>= page_there

  bound-there : (name : Option (List ℕ)) (value : List ℕ) → (elim name [ None ↦ bind_there (call.numbered + 1) call.bound (drop (call.next + 1) (parts_of (node_in w id))) | Some text ↦ bind_there (call.numbered + 1) (call_named call (Some text) value).bound (drop (call.next + 1) (parts_of (node_in w id))) ])
      ≡ call_rest (inner_of w) (place_in w) (node_in w id) (call_named (part_next call (call.next + 1)) name value) (back_of w) w.out
  bound-there None value = refl
  bound-there (Some text) value = refl

  -- a value that is bound, before the rest
  bound-value : (name : Option (List Item)) (value : List ℕ) → (elim name [
    | None ↦ with_bound (inner_of w) place_there (suc (call.numbered + 1)) (record { name = decimal (call.numbered + 1); value = value } ∷ call.bound) (drop (call.next + 1) (parts_of (node_in w id)))
    | Some items ↦ elim (bound_name items) [
      | None ↦ with_bound (inner_of w) place_there (call.numbered + 1) call.bound (drop (call.next + 1) (parts_of (node_in w id)))
      | Some text ↦ with_bound (inner_of w) place_there (call.numbered + 1) (record { name = text; value = trimmed value } ∷ call.bound) (drop (call.next + 1) (parts_of (node_in w id)))
    ]
  ] >>= page_there) ≡ call_rest (inner_of w) (place_in w) (node_in w id) (call_with (part_next call (call.next + 1)) name value) (back_of w) w.out
  bound-value None value =
      let same : suc (call.numbered + 1) ≡ call.numbered + 1 + 1 = omega arith in
      ap (λ (n : ℕ). bind_there n (record { name = decimal (call.numbered + 1); value = value } ∷ call.bound) (drop (call.next + 1) (parts_of (node_in w id)))) same
  bound-value (Some items) value = go (bound_name items)
    where
      go : (name : Option (List ℕ)) → (elim name [
        | None ↦ with_bound (inner_of w) place_there (call.numbered + 1) call.bound (drop (call.next + 1) (parts_of (node_in w id)))
        | Some text ↦ with_bound (inner_of w) place_there (call.numbered + 1) (record { name = text; value = trimmed value } ∷ call.bound) (drop (call.next + 1) (parts_of (node_in w id)))
      ] >>= page_there) ≡ call_rest (inner_of w) (place_in w) (node_in w id) (call_named (part_next call (call.next + 1)) name value) (back_of w) w.out
      go None = refl
      go (Some text) = refl

  pub values-next : (q : Part) (name : Option ListId) (value : ListId) → drop call.next (parts_of (node_in w id)) ≡ q ∷ drop (call.next + 1) (parts_of (node_in w id)) → name_of (parsed_of w) name ≡ q.name → items_of (parsed_of w) value ≡ q.value
      → values_rest w id call ≡ list_rest (value_entered name value)
  unfolding with_bound
  values-next q name value is name_is value_is =
      let rest : List ℕ → Expansion (List ℕ) = λ made. call_rest (inner_of w) (place_in w) (node_in w id) (call_with (part_next call (call.next + 1)) (name_of (parsed_of w) name) made) (back_of w) w.out in
      let after : List ℕ → Expansion (List Bound) = λ made. elim q.name [
        | None ↦ with_bound (inner_of w) place_there (suc (call.numbered + 1)) (record { name = decimal (call.numbered + 1); value = made } ∷ call.bound) (drop (call.next + 1) (parts_of (node_in w id)))
        | Some items ↦ elim (bound_name items) [
          | None ↦ with_bound (inner_of w) place_there (call.numbered + 1) call.bound (drop (call.next + 1) (parts_of (node_in w id)))
          | Some text ↦ with_bound (inner_of w) place_there (call.numbered + 1) (record { name = text; value = trimmed made } ∷ call.bound) (drop (call.next + 1) (parts_of (node_in w id)))
        ]
      ] in
      ap (λ (parts : List Part). bind_there (call.numbered + 1) call.bound parts) is
      ∙ regrouped (inner_of w place_there q.value) after page_there
      ∙ bind-same (inner_of w place_there q.value) (λ made. after made >>= page_there) rest
      (λ made. bound-value q.name made ∙ ap (λ (n : Option (List Item)). call_rest (inner_of w) (place_in w) (node_in w id) (call_with (part_next call (call.next + 1)) n made) (back_of w) w.out) (sym name_is))
      ∙ ap (λ (items : List Item). adds (inner_of w place_there items) rest []) (sym value_is)
      ∙ sym (entered-value (record w { out = [] }) id value (part_next call (call.next + 1)) w.out name)

-- what a call gave
module _ (w : Work) (id : NodeId) (before : List ℕ) (level : Level) (t : Spent) where
  abbrev home : Work
  home = record w { level = level; out = before; spent = t }

  abbrev filled_by : Bool → Plan (List ℕ × Progress)
  filled_by b =
      let behind_it : List ℕ × Progress → Plan (List ℕ × Progress) = λ end. back_of home (before ++ end.0) end.1 in
      and_then (if b then gives (source_in home id, progress_of w.spent) else gives (w.out, with_include (w.spent.bytes + length w.out) (progress_of w.spent))) behind_it

  pub filled-counted : IsCounted w.spent (length w.out) t → filled_rest w id before level (progress_of w.spent) ≡ list_rest (with_text home w.out) (progress_of t)
  filled-counted h =
      ap filled_by h.fits
      ∙ ap (λ (u : Spent). list_rest (with_text home w.out) (progress_of u)) (sym h.is)

  pub filled-long : IsTooLong w.spent (length w.out) t → filled_rest w id before level (progress_of w.spent) ≡ list_rest (with_text home (source_in home id)) (progress_of t)
  filled-long h =
      ap filled_by h.fits
      ∙ ap (λ (u : Spent). list_rest (with_text home (source_in home id)) (progress_of u)) (sym h.is)

-- ---- the end of a list

module _ (w : Work) (o : Opened) where
  -- the list in which a node stands goes on
  abbrev pub back_in : Work
  back_in = record w { list = o.list; at = o.at }

  pub ended-part : (used : Use) → o.waiting ≡ PartOf used → behind (o ∷ w.opened) w.level w.out ≡ used_rest back_in o.node used
  unfolding behind
  ended-part used is = ap (λ (waiting : Waiting). behind (record o { waiting = waiting } ∷ w.opened) w.level w.out) is

  pub ended-name : (value : ListId) (used : Use) → o.waiting ≡ Name value used → behind (o ∷ w.opened) w.level w.out ≡ list_rest (entered (with_text back_in (codes "=")) o.node (PartOf used) value)
  unfolding behind
  ended-name value used is =
      ap (λ (waiting : Waiting). behind (record o { waiting = waiting } ∷ w.opened) w.level w.out) is
      ∙ sym (entered-part (with_text back_in (codes "=")) o.node value used)

  pub ended-value : (call : Call) (before : List ℕ) (name : Option ListId) → o.waiting ≡ Value call before name → behind (o ∷ w.opened) w.level w.out ≡ with_value back_in o.node call before name
  unfolding behind
  ended-value call before name is = ap (λ (waiting : Waiting). behind (record o { waiting = waiting } ∷ w.opened) w.level w.out) is

  pub ended-filled : (title : PageTitle) (before : List ℕ) (level : Level) → o.waiting ≡ Filled title before level → behind (o ∷ w.opened) w.level w.out ≡ filled_rest back_in o.node before level
  unfolding behind
  ended-filled title before level is = ap (λ (waiting : Waiting). behind (record o { waiting = waiting } ∷ w.opened) w.level w.out) is

opened-as : (level : Level) (o : Opened) (opened : List Opened) (waiting : Waiting) → o.waiting ≡ waiting → AreOpened level (o ∷ opened) → AreOpened level (record o { waiting = waiting } ∷ opened)
opened-as level o opened waiting is h = subst (λ (x : Waiting). AreOpened level (record o { waiting = x } ∷ opened)) is h

module _ (w : Work) (o : Opened) (h : AreOpened w.level (o ∷ w.opened)) where
  pub back-part : (used : Use) → o.waiting ≡ PartOf used → IsSound (back_in w o) × IsSome (node_with (parsed_of w) o.node)
  back-part used is = let k = opened-as w.level o w.opened (PartOf used) is h in (record { list = k.0.list; opened = k.1 }, k.0.node)

  pub back-name : (value : ListId) (used : Use) → o.waiting ≡ Name value used → IsSound (back_in w o) × IsSome (node_with (parsed_of w) o.node) × IsSome (list_with (parsed_of w) value)
  back-name value used is = let k = opened-as w.level o w.opened (Name value used) is h in (record { list = k.0.list; opened = k.1 }, k.0.node, k.0.lists)

  pub back-value : (call : Call) (before : List ℕ) (name : Option ListId) → o.waiting ≡ Value call before name → IsSound (back_in w o) × IsSome (node_with (parsed_of w) o.node) × HasLists (parsed_of w) (Value call before name)
  back-value call before name is = let k = opened-as w.level o w.opened (Value call before name) is h in (record { list = k.0.list; opened = k.1 }, k.0.node, k.0.lists)

  pub back-filled : (title : PageTitle) (before : List ℕ) (level : Level) → o.waiting ≡ Filled title before level → IsSound (record (back_in w o) { level = level }) × IsSome (node_with level.tree o.node)
  back-filled title before level is = let k = opened-as w.level o w.opened (Filled title before level) is h in (record { list = k.0.list; opened = k.1 }, k.0.node)
