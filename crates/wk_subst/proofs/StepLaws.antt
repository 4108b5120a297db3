-- What each call of a step leads to.
use Rattle.std.proofs.Common.{◌≡◌, ℕ, ◌+◌, ◌/◌, ◌<◌, ◌≤◌, Bool, true, false, List, [], ◌∷◌, ◌++◌, length, codes, Option, Some, None, IsSome, sym, ap, subst, ◌∙◌}
use Rattle.std.specs.Prelude.{is_some, not}
use Rattle.std.specs.Option.{IfSome}
use Rattle.std.proofs.lemmas.List.{drop_all}
use Rattle.wk_text_rules.specs.Titles.{PageTitle}
use Rattle.wk_tree_rules.specs.Tree.{Part as TreePart, title_part, tree}
use Rattle.wk_tree_rules.specs.Trees.{template, argument, opening_braces, closing_braces}
use Rattle.wk_tree_rules.specs.declared.Mode.TheVariants as mode
use Rattle.wk_tree.specs.Parsed.{list_with, node_with, part_with, IsPart}
use Rattle.wk_tree.specs.declared.item.ListId.{ListId}
use Rattle.wk_tree.specs.declared.item.ListId.TheVariants.{Root}
use Rattle.wk_tree.specs.declared.item.NodeId.{NodeId}
use Rattle.wk_tree.specs.declared.parsed.Part.{Part}
use Rattle.wk_view_rules.specs.Expansions.{Expansion, give, ◌>>=◌}
use Rattle.wk_subst_rules.specs.Budget.{charged_or, result_or}
use Rattle.wk_subst_rules.specs.Calls.{source_name}
use Rattle.wk_subst_rules.specs.Places.{Bound, filled_place, operand_place, value_bound}
use Rattle.wk_subst_rules.specs.Substitution.{call_text, put_in, with_bound}
use Rattle.wk_subst.specs.Binding.{call_with}
use Rattle.wk_subst.specs.Budget.{progress_of, IsBeyond, IsCharged}
use Rattle.wk_subst.specs.Nodes.{IsFilled, items_of, name_of, opened_node, parts_of, stays_in}
use Rattle.wk_subst.specs.Stack.{AreOpened, behind, left_of}
use Rattle.wk_subst.specs.Work.{IsMade, IsSound, Leads, LeadsOn, answered_rest, argument_rest, back_of, called_by, default_rest, entered, filled_rest, inner_of, list_rest, node_in, node_rest, opened_rest, page_of_call, parsed_of, part_rest, place_in, source_in, template_rest, used_rest, values_rest, with_text, with_value, written_rest}
use Rattle.wk_subst.specs.declared.spent.Spent.{Spent}
use Rattle.wk_subst.specs.declared.stack.Call.{Call}
use Rattle.wk_subst.specs.declared.stack.Level.{Level}
use Rattle.wk_subst.specs.declared.stack.Opened.{Opened}
use Rattle.wk_subst.specs.declared.stack.Use.{Use}
use Rattle.wk_subst.specs.declared.stack.Use.TheVariants.{Whole, Written}
use Rattle.wk_subst.specs.declared.stack.Waiting.TheVariants.{Filled, Name, Part as PartOf, Value}
use Rattle.wk_subst.specs.declared.work.Now.{Now}
use Rattle.wk_subst.specs.declared.work.Now.TheVariants.{Calls as CallsNow, List as ListNow}
use Rattle.wk_subst.specs.declared.work.Work.{Work}
use Rattle.wk_subst.proofs.NodeLaws.{drop-part, is-some, items-is, name-is, part-bare, part-lists, part-named, value-is, value-there}
use Rattle.wk_subst.proofs.PlanLaws.{regrouped}
use Rattle.wk_subst.proofs.WorkLaws.{argument-found, argument-lost, argument-saved, back-name, back_in, default-part, default-source, ended-filled, ended-name, ended-part, ended-value, leads-as, leads-behind, leads-list, node-beyond, node-charged, open-argument, open-full, open-template, page-enters, page_entered, part_next, sound-name, sound-page, sound-part, sound-text, sound-value, template-nothing, template-page, template-refused, values-done, values-next, whole-name, whole-value, written-last, written-more, written-start}

-- a path of what is left, at the budget that there is
pub here : (w : Work) (e f : Expansion (List ℕ)) → e ≡ f → e (progress_of w.spent) ≡ f (progress_of w.spent)
here w e f same = ap (λ (x : Expansion (List ℕ)). x (progress_of w.spent)) same

-- what is named is there whatever was spent, and whatever text was made
pub sound-spent : (w : Work) (t : Spent) → IsSound w → IsSound (record w { spent = t })
sound-spent w t h = record { list = h.list; opened = h.opened }

pub sound-out : (w : Work) (out : List ℕ) → IsSound w → IsSound (record w { out = out })
sound-out w out h = record { list = h.list; opened = h.opened }

-- a text is given
pub gives-text : (w u : Work) (made : Expansion (List ℕ)) (text : List ℕ) → IsSound w → u ≡ with_text w text → made ≡ list_rest (with_text w text) → LeadsOn w made u
gives-text w u made text sound is same =
    leads-as w u (with_text w text) made ListNow is (leads-list w (with_text w text) made (here w made (list_rest (with_text w text)) same) (sound-text w text sound))

module _ (w : Work) (id : NodeId) (sound : IsSound w) (node : IsSome (node_with (parsed_of w) id)) where
  -- ---- a further part whole

  pub whole-names : (u : Work) (q : TreePart) (used : Use) (p : Part) (name : ListId) → IsPart (parsed_of w) p q → p.name ≡ Some name → u ≡ entered w id (Name p.value used) name → LeadsOn w (part_rest w id q used) u
  whole-names u q used p name part named is =
      let v = entered w id (Name p.value used) name in
      let lists = subst (λ (o : Option ListId). IfSome o (λ list. IsSome (list_with (parsed_of w) list))) named (part-lists (parsed_of w) p q part) in
      leads-as w u v (part_rest w id q used) ListNow is
      (leads-list w v (part_rest w id q used)
      (here w (part_rest w id q used) (list_rest v) (whole-name w id q used name p.value (part-named (parsed_of w) p q name named part) (value-is (parsed_of w) p q part)))
      (sound-name w id name sound node lists p.value used (value-there (parsed_of w) p q part)))

  pub whole-bares : (u : Work) (q : TreePart) (used : Use) (p : Part) → IsPart (parsed_of w) p q → p.name ≡ None → u ≡ entered w id (PartOf used) p.value → LeadsOn w (part_rest w id q used) u
  whole-bares u q used p part bare is =
      let v = entered w id (PartOf used) p.value in
      leads-as w u v (part_rest w id q used) ListNow is
      (leads-list w v (part_rest w id q used)
      (here w (part_rest w id q used) (list_rest v) (whole-value w id q used p.value (part-bare (parsed_of w) p q bare part) (value-is (parsed_of w) p q part)))
      (sound-part w id p.value sound node (value-there (parsed_of w) p q part) used))

  -- ---- as it is written

  pub writes : (u : Work) (title : ListId) → list_with (parsed_of w) title ≡ Some (title_part (node_in w id).content) → u ≡ entered (with_text w (opening_braces (node_in w id).kind)) id (PartOf (Written 0)) title → LeadsOn w (written_rest w id) u
  writes u title there is =
      let v = with_text w (opening_braces (node_in w id).kind) in
      let x = entered v id (PartOf (Written 0)) title in
      leads-as w u x (written_rest w id) ListNow is
      (leads-list w x (written_rest w id)
      (here w (written_rest w id) (list_rest x) (written-start w id title (items-is (parsed_of w) title (title_part (node_in w id).content) there)))
      (sound-part v id title (sound-text w (opening_braces (node_in w id).kind) sound) node (is-some (list_with (parsed_of w) title) (title_part (node_in w id).content) there) (Written 0)))

  pub writes-more : (u : Work) (next : ℕ) (q : TreePart) → part_with (parsed_of w) id next ≡ Some q → LeadsOn (with_text w (codes "|")) (part_rest (with_text w (codes "|")) id q (Written (next + 1))) u → LeadsOn w (used_rest w id (Written next)) u
  writes-more u next q e h =
      leads-behind w (with_text w (codes "|")) u (used_rest w id (Written next)) (part_rest (with_text w (codes "|")) id q (Written (next + 1))) ListNow
      (here w (used_rest w id (Written next)) (part_rest (with_text w (codes "|")) id q (Written (next + 1))) (written-more w id next q (drop-part (parsed_of w) id next q node e))) h

  pub writes-last : (u : Work) (next : ℕ) → length (parts_of (node_in w id)) ≤ next → u ≡ with_text w (closing_braces (node_in w id).kind) → LeadsOn w (used_rest w id (Written next)) u
  writes-last u next past is =
      gives-text w u (used_rest w id (Written next)) (closing_braces (node_in w id).kind) sound is (written-last w id next (drop_all next (parts_of (node_in w id)) past))

  -- ---- a default

  pub default-gives : (u : Work) → length (parts_of (node_in w id)) ≤ 0 → u ≡ with_text w (source_in w id) → LeadsOn w (default_rest w id) u
  default-gives u past is = gives-text w u (default_rest w id) (source_in w id) sound is (default-source w id (drop_all 0 (parts_of (node_in w id)) past))

  pub default-wholes : (u : Work) (q : TreePart) → part_with (parsed_of w) id 0 ≡ Some q → LeadsOn w (part_rest w id q Whole) u → LeadsOn w (default_rest w id) u
  default-wholes u q e h =
      leads-behind w w u (default_rest w id) (part_rest w id q Whole) ListNow
      (here w (default_rest w id) (part_rest w id q Whole) (default-part w id q (drop-part (parsed_of w) id 0 q node e))) h

  -- ---- the values of a call

  pub values-enter : (u : Work) (call : Call) (q : TreePart) (p : Part) → part_with (parsed_of w) id call.next ≡ Some q → IsPart (parsed_of w) p q → u ≡ entered (record w { out = [] }) id (Value (part_next call (call.next + 1)) w.out p.name) p.value → LeadsOn w (values_rest w id call) u
  values-enter u call q p e part is =
      let v : Work = record w { out = [] } in
      let x = entered v id (Value (part_next call (call.next + 1)) w.out p.name) p.value in
      leads-as w u x (values_rest w id call) ListNow is
      (leads-list w x (values_rest w id call)
      (here w (values_rest w id call) (list_rest x)
      (values-next w id call q p.name p.value (drop-part (parsed_of w) id call.next q node e) (name-is (parsed_of w) p q part) (value-is (parsed_of w) p q part)))
      (sound-value v id p.value (sound-out w [] sound) node (value-there (parsed_of w) p q part) (part_next call (call.next + 1)) w.out p.name (part-lists (parsed_of w) p q part)))

  pub page-leads : (u : Work) (call : Call) (out before : List ℕ) (level home : Level) → out ≡ [] → before ≡ w.out → home ≡ w.level → level ≡ record { tree = record { mode = mode.Include; text = call.text }; bound = Some call.bound } → u ≡ entered (record w { out = out; level = level }) id (Filled call.title before home) Root → LeadsOn w (page_of_call w id call) u
  page-leads u call out before level home out_is before_is home_is level_is is =
      let there : u ≡ page_entered w id call =
      is
      ∙ ap (λ (o : List ℕ). entered (record w { out = o; level = level }) id (Filled call.title before home) Root) out_is
      ∙ ap (λ (l : Level). entered (record w { out = []; level = l }) id (Filled call.title before home) Root) level_is
      ∙ ap (λ (b : List ℕ). entered (record w { out = []; level = record { tree = record { mode = mode.Include; text = call.text }; bound = Some call.bound } }) id (Filled call.title b home) Root) before_is
      ∙ ap (λ (l : Level). entered (record w { out = []; level = record { tree = record { mode = mode.Include; text = call.text }; bound = Some call.bound } }) id (Filled call.title w.out l) Root) home_is
      in
      leads-as w u (page_entered w id call) (page_of_call w id call) ListNow there
      (leads-list w (page_entered w id call) (page_of_call w id call)
      (here w (page_of_call w id call) (list_rest (page_entered w id call)) (page-enters w id call)) (sound-page w id call sound node))

  pub values-end : (u : Work) (call : Call) → length (parts_of (node_in w id)) ≤ call.next → LeadsOn w (page_of_call w id call) u → LeadsOn w (values_rest w id call) u
  values-end u call past h =
      leads-behind w w u (values_rest w id call) (page_of_call w id call) ListNow
      (here w (values_rest w id call) (page_of_call w id call) (values-done w id call (drop_all call.next (parts_of (node_in w id)) past))) h

  -- ---- arguments

  pub saved-leads : (u : Work) → (node_in w id).kind ≡ argument → w.level.bound ≡ None → LeadsOn w (written_rest w id) u → LeadsOn w (argument_rest w id) u
  saved-leads u kind is h = leads-behind w w u (argument_rest w id) (written_rest w id) ListNow (here w (argument_rest w id) (written_rest w id) (argument-saved w id kind is)) h

  pub lost-leads : (u : Work) (bound : List Bound) → (node_in w id).kind ≡ argument → w.level.bound ≡ Some bound → value_bound bound (source_name (title_part (node_in w id).content)) ≡ None → LeadsOn w (default_rest w id) u → LeadsOn w (argument_rest w id) u
  lost-leads u bound kind is looked h = leads-behind w w u (argument_rest w id) (default_rest w id) ListNow (here w (argument_rest w id) (default_rest w id) (argument-lost w id kind bound is looked)) h

  module _ (u : Work) (bound : List Bound) (value : List ℕ) (t : Spent) (kind : (node_in w id).kind ≡ argument) (is : w.level.bound ≡ Some bound) (looked : value_bound bound (source_name (title_part (node_in w id).content)) ≡ Some value) where
    found-here : argument_rest w id (progress_of w.spent) ≡ node_rest w (charged_or (source_in w id) (length value / 64) (give value)) (progress_of w.spent)
    found-here = here w (argument_rest w id) (node_rest w (charged_or (source_in w id) (length value / 64) (give value))) (argument-found w id kind bound value is looked)

    pub found-beyond : IsBeyond w.spent (length value / 64) t → u ≡ with_text (record w { spent = t }) (source_in w id) → LeadsOn w (argument_rest w id) u
    found-beyond h u_is =
        let v = with_text (record w { spent = t }) (source_in w id) in
        leads-as w u v (argument_rest w id) ListNow u_is
        (leads-list w v (argument_rest w id) (found-here ∙ node-beyond w (source_in w id) (length value / 64) (give value) t h) (sound-text (record w { spent = t }) (source_in w id) (sound-spent w t sound)))

    pub found-within : IsCharged w.spent (length value / 64) t → u ≡ with_text (record w { spent = t }) value → LeadsOn w (argument_rest w id) u
    found-within h u_is =
        let v = with_text (record w { spent = t }) value in
        leads-as w u v (argument_rest w id) ListNow u_is
        (leads-list w v (argument_rest w id) (found-here ∙ node-charged w (source_in w id) (length value / 64) (give value) t h) (sound-text (record w { spent = t }) value (sound-spent w t sound)))

  -- ---- templates

  module _ (title : ListId) (kind : (node_in w id).kind ≡ template) (is : items_of (parsed_of w) title ≡ title_part (node_in w id).content) where
    pub nothing-leads : (u : Work) → None ≡ called_by (place_in w) (items_of (parsed_of w) title) → LeadsOn w (written_rest w id) u → LeadsOn w (template_rest w id) u
    nothing-leads u e h = leads-behind w w u (template_rest w id) (written_rest w id) ListNow (here w (template_rest w id) (written_rest w id) (template-nothing w id kind title is e)) h

    pub refused-leads : (u : Work) → Some None ≡ called_by (place_in w) (items_of (parsed_of w) title) → u ≡ with_text w (source_in w id) → LeadsOn w (template_rest w id) u
    refused-leads u e u_is = gives-text w u (template_rest w id) (source_in w id) sound u_is (template-refused w id kind title is e)

    pub page-calls : (page : PageTitle) → Some (Some page) ≡ called_by (place_in w) (items_of (parsed_of w) title) → Leads w (template_rest w id) w (CallsNow id page)
    page-calls page e = record {
      same = here w (template_rest w id) (node_rest w (call_text (inner_of w) (place_in w) (source_in w id) page (parts_of (node_in w id)))) (template-page w id kind title page is e);
      sound = sound;
      node = node;
    }

  -- ---- a node of the list

  module _ (t : Spent) where
    pub spent-leads : (u : Work) → IsBeyond w.spent 1 t → u ≡ with_text (record w { spent = t }) (source_in w id) → LeadsOn w (opened_rest w id) u
    spent-leads u h u_is =
        let v = with_text (record w { spent = t }) (source_in w id) in
        leads-as w u v (opened_rest w id) ListNow u_is
        (leads-list w v (opened_rest w id) (node-beyond w (source_in w id) 1 (opened_node (left_of w.opened) (place_in w) (node_in w id).kind (node_in w id).content) t h) (sound-text (record w { spent = t }) (source_in w id) (sound-spent w t sound)))

    open-here : IsCharged w.spent 1 t → opened_rest w id (progress_of w.spent) ≡ node_rest (record w { spent = t }) (opened_node (left_of w.opened) (place_in w) (node_in w id).kind (node_in w id).content) (progress_of t)
    open-here h = node-charged w (source_in w id) 1 (opened_node (left_of w.opened) (place_in w) (node_in w id).kind (node_in w id).content) t h

    pub full-leads : (u : Work) → IsCharged w.spent 1 t → 200 ≤ length w.opened → u ≡ with_text (record w { spent = t }) (source_in w id) → LeadsOn w (opened_rest w id) u
    full-leads u h full u_is =
        let v = with_text (record w { spent = t }) (source_in w id) in
        leads-as w u v (opened_rest w id) ListNow u_is
        (leads-list w v (opened_rest w id) (open-here h ∙ ap (λ (e : Expansion (List ℕ)). e (progress_of t)) (open-full (record w { spent = t }) id full)) (sound-text (record w { spent = t }) (source_in w id) (sound-spent w t sound)))

    pub argument-leads : (u : Work) (now : Now) → IsCharged w.spent 1 t → length w.opened < 200 → Leads (record w { spent = t }) (argument_rest (record w { spent = t }) id) u now → Leads w (opened_rest w id) u now
    argument-leads u now h room k =
        let v : Work = record w { spent = t } in
        leads-behind w v u (opened_rest w id) (argument_rest v id) now (open-here h ∙ ap (λ (e : Expansion (List ℕ)). e (progress_of t)) (open-argument v id room)) k

    pub template-leads : (u : Work) (now : Now) → IsCharged w.spent 1 t → length w.opened < 200 → (node_in w id).kind ≡ template → Leads (record w { spent = t }) (template_rest (record w { spent = t }) id) u now → Leads w (opened_rest w id) u now
    template-leads u now h room kind k =
        let v : Work = record w { spent = t } in
        leads-behind w v u (opened_rest w id) (template_rest v id) now (open-here h ∙ ap (λ (e : Expansion (List ℕ)). e (progress_of t)) (open-template v id room kind)) k

-- ---- the end of a list

module _ (w u : Work) (o : Opened) (h : AreOpened w.level (o ∷ w.opened)) where
  pub part-ends : (used : Use) → o.waiting ≡ PartOf used → LeadsOn (back_in w o) (used_rest (back_in w o) o.node used) u → LeadsOn w (behind (o ∷ w.opened) w.level w.out) u
  part-ends used is k = leads-behind w (back_in w o) u (behind (o ∷ w.opened) w.level w.out) (used_rest (back_in w o) o.node used) ListNow (here w (behind (o ∷ w.opened) w.level w.out) (used_rest (back_in w o) o.node used) (ended-part w o used is)) k

  pub name-ends : (value : ListId) (used : Use) → o.waiting ≡ Name value used → u ≡ entered (with_text (back_in w o) (codes "=")) o.node (PartOf used) value → LeadsOn w (behind (o ∷ w.opened) w.level w.out) u
  name-ends value used is u_is =
      let b = back-name w o h value used is in
      let v = entered (with_text (back_in w o) (codes "=")) o.node (PartOf used) value in
      leads-as w u v (behind (o ∷ w.opened) w.level w.out) ListNow u_is
      (leads-list w v (behind (o ∷ w.opened) w.level w.out) (here w (behind (o ∷ w.opened) w.level w.out) (list_rest v) (ended-name w o value used is))
      (sound-part (with_text (back_in w o) (codes "=")) o.node value (sound-text (back_in w o) (codes "=") b.0) b.1 b.2 used))

  pub value-ends : (call : Call) (before : List ℕ) (name : Option ListId) → o.waiting ≡ Value call before name → LeadsOn (back_in w o) (with_value (back_in w o) o.node call before name) u → LeadsOn w (behind (o ∷ w.opened) w.level w.out) u
  value-ends call before name is k = leads-behind w (back_in w o) u (behind (o ∷ w.opened) w.level w.out) (with_value (back_in w o) o.node call before name) ListNow (here w (behind (o ∷ w.opened) w.level w.out) (with_value (back_in w o) o.node call before name) (ended-value w o call before name is)) k

  pub filled-ends : (title : PageTitle) (before : List ℕ) (level : Level) → o.waiting ≡ Filled title before level → LeadsOn (back_in w o) (filled_rest (back_in w o) o.node before level) u → LeadsOn w (behind (o ∷ w.opened) w.level w.out) u
  filled-ends title before level is k = leads-behind w (back_in w o) u (behind (o ∷ w.opened) w.level w.out) (filled_rest (back_in w o) o.node before level) ListNow (here w (behind (o ∷ w.opened) w.level w.out) (filled_rest (back_in w o) o.node before level) (ended-filled w o title before level is)) k

-- ---- a value of a call

pub value-leads : (w u : Work) (id : NodeId) (call next : Call) (before out : List ℕ) (name : Option ListId) → out ≡ before → next ≡ call_with call (name_of (parsed_of w) name) w.out → LeadsOn (record w { out = out }) (values_rest (record w { out = out }) id next) u → LeadsOn w (with_value w id call before name) u
value-leads w u id call next before out name out_is next_is h =
    leads-behind w (record w { out = out }) u (with_value w id call before name) (values_rest (record w { out = out }) id next) ListNow
    (here w (with_value w id call before name) (values_rest (record w { out = out }) id next)
    (ap (λ (o : List ℕ). values_rest (record w { out = o }) id (call_with call (name_of (parsed_of w) name) w.out)) (sym out_is) ∙ ap (values_rest (record w { out = out }) id) (sym next_is))) h

-- ---- a step

module _ (w : Work) (stays : Bool) (stays_is : stays_in (place_in w) ≡ stays) (next : ℕ) (new : List ℕ) where
  -- where the list stands at a node or at its end
  abbrev pub stopped : Work
  stopped = record w { at = next; out = new }

  pub node-steps : (u : Work) (id : NodeId) (now : Now) → IsFilled (parsed_of w) w.list w.at stays w.out (next, Some id) new → Leads stopped (opened_rest stopped id) u now → Leads w (list_rest w) u now
  node-steps u id now h k = leads-behind w stopped u (list_rest w) (opened_rest stopped id) now (here w (list_rest w) (opened_rest stopped id) (h.1 (left_of w.opened) (place_in w) (behind w.opened w.level) stays_is)) k

  end-is : IsFilled (parsed_of w) w.list w.at stays w.out (next, None) new → list_rest w ≡ behind w.opened w.level new
  end-is h = h (left_of w.opened) (place_in w) (behind w.opened w.level) stays_is

  pub end-steps : (u : Work) (o : Opened) (opened : List Opened) → IsFilled (parsed_of w) w.list w.at stays w.out (next, None) new → w.opened ≡ o ∷ opened → LeadsOn (record stopped { opened = opened }) (behind (o ∷ opened) w.level new) u → LeadsOn w (list_rest w) u
  end-steps u o opened h is k =
      leads-behind w (record stopped { opened = opened }) u (list_rest w) (behind (o ∷ opened) w.level new) ListNow
      (here w (list_rest w) (behind (o ∷ opened) w.level new) (end-is h ∙ ap (λ (os : List Opened). behind os w.level new) is)) k

  pub end-makes : (opened : List Opened) → IsFilled (parsed_of w) w.list w.at stays w.out (next, None) new → w.opened ≡ [] → IsMade w (record stopped { opened = opened })
  unfolding behind
  end-makes opened h is = record {
    same = here w (list_rest w) (give new) (end-is h ∙ ap (λ (os : List Opened). behind os w.level new) is);
  }

-- what gives nothing stays where nothing is bound
pub stays-is : (bound : Option (List Bound)) (b : Bool) → is_some bound ≡ not b → not (is_some bound) ≡ b
stays-is bound true e = ap not e
stays-is bound false e = ap not e

-- ---- an answer

-- what a page that is there gives, behind its charge
abbrev put_rest : Work → NodeId → PageTitle → List ℕ → Expansion (List ℕ)
put_rest w id title text =
    with_bound (inner_of w) (operand_place title (place_in w)) 1 [] (parts_of (node_in w id))
    >>= (λ bound. inner_of w (filled_place title bound (place_in w)) (tree mode.Include text) >>= result_or (source_in w id))

put-values : (v : Work) (id : NodeId) (title : PageTitle) (text : List ℕ) → node_rest v (put_rest v id title text) ≡ values_rest v id (record { title = title; text = text; bound = []; numbered = 0; next = 0 })
put-values v id title text =
    regrouped (with_bound (inner_of v) (operand_place title (place_in v)) 1 [] (parts_of (node_in v id)))
    (λ bound. inner_of v (filled_place title bound (place_in v)) (tree mode.Include text) >>= result_or (source_in v id)) (λ one. back_of v (v.out ++ one))

pub missing-leads : (w u : Work) (id : NodeId) (title : PageTitle) (text : Option (List ℕ)) → IsSound w → text ≡ None → u ≡ with_text w (source_in w id) → LeadsOn w (answered_rest w id title text) u
missing-leads w u id title text sound is u_is =
    gives-text w u (answered_rest w id title text) (source_in w id) sound u_is (ap (answered_rest w id title) is)

module _ (w u : Work) (id : NodeId) (title : PageTitle) (found : Option (List ℕ)) (text : List ℕ) (t : Spent) (sound : IsSound w) (is : found ≡ Some text) where
  put-here : answered_rest w id title found (progress_of w.spent) ≡ node_rest w (put_in (inner_of w) (place_in w) (source_in w id) title text (parts_of (node_in w id))) (progress_of w.spent)
  put-here = here w (answered_rest w id title found) (answered_rest w id title (Some text)) (ap (answered_rest w id title) is)

  pub put-beyond : IsBeyond w.spent (length text / 64) t → u ≡ with_text (record w { spent = t }) (source_in w id) → LeadsOn w (answered_rest w id title found) u
  unfolding put_in
  put-beyond h u_is =
      let v = with_text (record w { spent = t }) (source_in w id) in
      leads-as w u v (answered_rest w id title found) ListNow u_is
      (leads-list w v (answered_rest w id title found)
      (put-here ∙ node-beyond w (source_in w id) (length text / 64) (put_rest w id title text) t h) (sound-text (record w { spent = t }) (source_in w id) (sound-spent w t sound)))

  pub put-within : (call : Call) → IsCharged w.spent (length text / 64) t → call ≡ record { title = title; text = text; bound = []; numbered = 0; next = 0 } → LeadsOn (record w { spent = t }) (values_rest (record w { spent = t }) id call) u → LeadsOn w (answered_rest w id title found) u
  unfolding put_in
  put-within call h call_is k =
      let v : Work = record w { spent = t } in
      leads-behind w v u (answered_rest w id title found) (values_rest v id call) ListNow
      (put-here ∙ node-charged w (source_in w id) (length text / 64) (put_rest w id title text) t h
      ∙ here v (node_rest v (put_rest w id title text)) (values_rest v id call) (put-values v id title text ∙ ap (values_rest v id) (sym call_is))) k
