-- Steps of an expansion, and what is left of it.
use Rattle.std.specs.declared.vec.Vec.{Vec}
use Rattle.std.specs.Vec.{vec_len}
use Rattle.std.proofs.lemmas.List.{reverse-append}
use Rattle.std.proofs.Common.{◌≡◌, ℕ, suc, ◌+◌, ◌<◌, List, [], ◌∷◌, ◌++◌, length, drop, reverse, Option, Some, None, refl, sym, ap, subst, arith, ◌-◌, ◌∙◌}
use Rattle.wk_text_rules.specs.Titles.{PageTitle}
use Rattle.wk_tree.specs.Parsed.{list_with, node_with}
use Rattle.wk_tree.specs.declared.item.ListId.{ListId}
use Rattle.wk_tree.specs.declared.item.NodeId.{NodeId}
use Rattle.wk_tree_rules.specs.Tree.{title_part}
use Rattle.wk_tree_rules.specs.Trees.{Item}
use Rattle.wk_view_rules.specs.Expand.{argument_value, expand, items_output, kind_output, node_output}
use Rattle.wk_view_rules.specs.Expansions.{Expansion, Output, give, ◌>>=◌}
use Rattle.wk_view_rules.specs.Frames.{Binding, Frame}
use Rattle.wk_view_rules.specs.Worlds.{Seen}
use Rattle.wk_frames.specs.Levels.{LevelsShown, tree_in}
use Rattle.wk_expand.specs.Nodes.{charged_node, opened, rest_list}
use Rattle.wk_expand.specs.Running.{ComesTo, Passes, StopsAt}
use Rattle.wk_view_rules.specs.declared.Kind.{Kind}
use Rattle.wk_expand.specs.Stack.{AreWithin, IsBoundTitle, IsHere, IsNext, IsPlace, IsValueNext, IsValued, LeadsTo, Place, Waits, parts_at}
use Rattle.wk_frames.specs.Frames.{IsBinding, ShowsFrame}
use Rattle.wk_expand.specs.State.{caller_tree, current}
use Rattle.wk_expand.specs.Work.{Continues, IsAtNode, IsEnded, IsFilled, IsGoing, IsListBehind, IsListing, IsNow, IsOpened, IsPassed, IsTurn, HasOpened, Spot, place_of}
use Rattle.wk_frames.specs.declared.levels.Bound.{Bound}
use Rattle.wk_expand.specs.declared.stack.Listing.{Listing}
use Rattle.wk_expand.specs.declared.stack.Next.{Next}
use Rattle.wk_expand.specs.declared.stack.Next.TheVariants.{Gives, Expands, Goes}
use Rattle.wk_expand.specs.declared.stack.Now.{Now}
use Rattle.wk_expand.specs.declared.stack.Now.TheVariants.{List as ListNow, Open as OpenNow, Node as NodeNow}
use Rattle.wk_expand.specs.declared.stack.Opened.{Opened}
use Rattle.wk_expand.specs.declared.stack.Pending.{Pending}
use Rattle.wk_expand.specs.declared.stack.Turn.{Turn}
use Rattle.wk_expand.specs.declared.stack.Turn.TheVariants.{On, Done, Needs as NeedsTurn}
use Rattle.wk_expand.specs.declared.stack.Waiting.{Waiting}
use Rattle.wk_expand.specs.declared.stack.Waiting.TheVariants.{Title, Value, Name, Part as PartOf, Binding as BindingOf, Included, Bare, Named as NamedItem}
use Rattle.wk_expand.specs.declared.state.Expander.{Expander}
use Rattle.wk_expand.specs.declared.state.Stop.TheVariants.{Needs}
use Rattle.wk_expand.specs.declared.work.Work.{Work}
use Rattle.wk_expand.proofs.LeadLaws.{leads-comes, list-here}
use Rattle.wk_expand.proofs.ListLaws.{expand-is, expand-plain}
use Rattle.wk_expand.proofs.NodeLaws.{behind_title, node-is, opened-more}
use Rattle.wk_expand.proofs.RunLaws.{passes-as, passes-in, passes-on, passes-out, passes-then, stops-as, stops-bind}
use Rattle.wk_expand.proofs.WrittenLaws.{bind-same, regrouped}

-- ---- turns

pub turn-behind : (seen : Seen) (e f : Expansion Output) (s t : Expander) (turn : Turn) (w : Work) → Passes seen e s f t → IsTurn seen f t turn w → IsTurn seen e s turn w
turn-behind seen e f s t (On next) w h k = (k.0, k.1, passes-on seen e f k.0 s t w.expander h k.2)
turn-behind seen e f s t Done w h k = passes-on seen e f (give w.listing.out) s t w.expander h k
turn-behind seen e f s t (NeedsTurn title kind next) w h k = (k.0, k.1, passes-on seen e f k.0 s t w.expander h k.2, k.3)

pub turn-as : (seen : Seen) (e f : Expansion Output) (s : Expander) (turn : Turn) (w : Work) → e ≡ f → IsTurn seen f s turn w → IsTurn seen e s turn w
turn-as seen e f s turn w same k = turn-behind seen e f s s turn w (passes-as seen e f s same) k

pub turn-to : (seen : Seen) (e : Expansion Output) (w u : Work) (next : Now) → u.expander ≡ w.expander → IsNow u next e → IsTurn seen e w.expander (On next) u
turn-to seen e w u next same h = (e, h, subst (λ (s : Expander). Passes seen e w.expander e s) (sym same) (passes-as seen e e w.expander refl))

-- ---- the nodes that are open

pub continues-left : (left : ℕ) (page : PageTitle) (levels : LevelsShown) (nodes : List Opened) (step : Output → Expansion Output) → Continues left page levels nodes step → left + length nodes ≡ 200
continues-left left page levels [] step h = omega (arith, h.0)
continues-left left page levels (o ∷ nodes) step h =
    let later : suc left + length nodes ≡ 200 = continues-left (suc left) page h.0.spot.home nodes h.0.list.after h.1 in
    omega (arith, later)

-- where a node stands has the text at the root
within-root : (waiting : Waiting) (now home : LevelsShown) → AreWithin waiting now home → now.root ≡ home.root
within-root Title now home h = ap (λ (v : LevelsShown). v.root) h
within-root (Value level named) now home h = sym (ap (λ (v : LevelsShown). v.root) h.0)
within-root (Name value used) now home h = ap (λ (v : LevelsShown). v.root) h
within-root (PartOf used) now home h = ap (λ (v : LevelsShown). v.root) h
within-root (BindingOf page binder bound) now home h = ap (λ (v : LevelsShown). v.root) h
within-root (Included title) now home h = ap (λ (v : LevelsShown). v.root) h.1
within-root (Bare search next) now home h = ap (λ (v : LevelsShown). v.root) h
within-root (NamedItem search next value) now home h = ap (λ (v : LevelsShown). v.root) h

next-root : (p : Place) (t : Expander) (next : Next) (rest : Expansion Output) → IsNext p t next rest → t.levels.root ≡ p.home.root
next-root p t (Gives out) rest h = ap (λ (v : LevelsShown). v.root) h.0
next-root p t (Expands waiting list before) rest h = within-root waiting t.levels p.home h.within
next-root p t (Goes pending) rest h = ap (λ (v : LevelsShown). v.root) h.0

-- ---- lists

-- a list is expanded from its start, behind an output
pub list-begun : (left : ℕ) (viewed : PageTitle) (frame : Frame) (items : List Item) (before : Output) (after : Output → Expansion Output) → (expand left viewed frame items >>= (λ later. after (before ++ later))) ≡ (rest_list left viewed frame before items >>= after)
list-begun left viewed frame items before after =
    ap (λ (x : Expansion Output). x >>= (λ later. after (before ++ later))) (expand-is left viewed frame items)
    ∙ sym (regrouped (items_output (charged_node left viewed frame) items) (λ later. give (before ++ later)) after)

-- what stands at the next node, or at the end
pub listing-node : (w : Work) (listing : Listing) (id : NodeId) (next : ℕ) (new : Output) (e : Expansion Output) → ((items : List Item) → list_with (current w.expander) listing.list ≡ Some items → IsFilled (current w.expander) items listing.at listing.out (next, Some id) new) → IsListing w listing e → IsAtNode w id (record { list = listing.list; at = next; out = new }) e
listing-node w listing id next new e filled h =
    let f = filled h.items h.there in
    record {
      left = h.left;
      frame = h.frame;
      shows = h.shows;
      node = f.0;
      node_is = f.1;
      items = h.items;
      there = h.there;
      after = h.after;
      continues = h.continues;
      is = h.is
          ∙ ap (λ (x : Expansion Output). x >>= h.after) (f.2 h.left w.expander.page h.frame)
          ∙ regrouped (charged_node h.left w.expander.page h.frame f.0.kind f.0.content) (λ one. rest_list h.left w.expander.page h.frame (new ++ one) (drop next h.items)) h.after;
    }

pub listing-end : (w : Work) (listing : Listing) (next : ℕ) (new : Output) (e : Expansion Output) → ((items : List Item) → list_with (current w.expander) listing.list ≡ Some items → IsFilled (current w.expander) items listing.at listing.out (next, None) new) → IsListing w listing e → IsEnded w new e
listing-end w listing next new e filled h = record {
  left = h.left;
  after = h.after;
  continues = h.continues;
  is = h.is ∙ ap (λ (x : Expansion Output). x >>= h.after) (filled h.items h.there h.left w.expander.page h.frame);
}

-- ---- what a node does next

-- the list behind a node goes on
pub going-gives : (w : Work) (id : NodeId) (behind : Listing) (one : Output) (e : Expansion Output) → IsGoing w id behind (λ p rest. IsNext p w.expander (Gives one) rest) e → IsListing w (record { list = behind.list; at = behind.at; out = behind.out ++ one }) e
going-gives w id behind one e g =
    let home = sym g.rest_is.0 in
    record {
      left = suc g.spot.left;
      frame = g.spot.frame;
      shows = subst (λ (v : LevelsShown). ShowsFrame v.root v.included g.spot.frame) home g.is_place.shows;
      items = g.list.items;
      there = subst (λ (v : LevelsShown). list_with (tree_in v.root v.included) behind.list ≡ Some g.list.items) home g.list.there;
      after = g.list.after;
      continues = subst (λ (v : LevelsShown). Continues (suc g.spot.left) w.expander.page v (reverse w.opened.items) g.list.after) home g.continues;
      is = g.is
          ∙ ap (λ (x : Expansion Output). x >>= g.one) g.rest_is.1
          ∙ g.list.is one
          ∙ ap (λ (v : PageTitle). rest_list (suc g.spot.left) v g.spot.frame (behind.out ++ one) (drop behind.at g.list.items) >>= g.list.after) (sym g.is_place.page_is);
    }

-- a list is expanded for a node
pub going-expands : (w u : Work) (id : NodeId) (behind : Listing) (waiting : Waiting) (list : ListId) (before : Output) (e : Expansion Output) → u.expander ≡ w.expander → reverse u.opened.items ≡ record { node = id; behind = behind; waiting = waiting } ∷ reverse w.opened.items → IsGoing w id behind (λ p rest. IsNext p w.expander (Expands waiting list before) rest) e → IsListing u (record { list = list; at = 0; out = before }) e
going-expands w u id behind waiting list before e same pushed g =
    let x = g.rest_is in
    let left = g.spot.left in
    let after : Output → Expansion Output = λ out. x.step out >>= g.one in
    let o : IsOpened left w.expander.page w.expander.levels (record { node = id; behind = behind; waiting = waiting }) after = record {
      spot = g.spot;
      left_is = refl;
      is_place = g.is_place;
      within = x.within;
      step = x.step;
      step_is = x.step_is;
      one = g.one;
      list = g.list;
      is = λ out. refl;
    } in
    record {
      left = left;
      frame = x.frame;
      shows = subst (λ (s : Expander). ShowsFrame s.levels.root s.levels.included x.frame) (sym same) x.shows;
      items = x.items;
      there = subst (λ (s : Expander). list_with (current s) list ≡ Some x.items) (sym same) x.there;
      after = after;
      continues = subst (λ (nodes : List Opened). Continues left u.expander.page u.expander.levels nodes after) (sym pushed)
          (subst (λ (s : Expander). Continues left s.page s.levels (record { node = id; behind = behind; waiting = waiting } ∷ reverse w.opened.items) after) (sym same) (o, g.continues));
      is = g.is
          ∙ ap (λ (y : Expansion Output). y >>= g.one) x.is
          ∙ regrouped (expand left g.spot.viewed x.frame x.items) (λ later. x.step (before ++ later)) g.one
          ∙ list-begun left g.spot.viewed x.frame x.items before after
          ∙ ap (λ (v : PageTitle). rest_list left v x.frame before x.items >>= after) (sym g.is_place.page_is ∙ sym (ap (λ (s : Expander). s.page) same));
    }

-- what was found for a node is what it does next
pub going-leads : (seen : Seen) (w u : Work) (id : NodeId) (behind : Listing) (next : Next) (spot : Spot) (rest : Expansion Output) (one : Output → Expansion Output) (list : IsListBehind spot behind one) → IsPlace w.expander.page w.expander.levels.root id (place_of spot) → Continues (suc spot.left) w.expander.page spot.home (reverse w.opened.items) list.after → reverse u.opened.items ≡ reverse w.opened.items → (h : LeadsTo seen (place_of spot) rest w.expander next u.expander) → IsGoing u id behind (λ p r. IsNext p u.expander next r) (h.rest >>= one)
going-leads seen w u id behind next spot rest one list is_place continues same h = record {
  spot = spot;
  rest = h.rest;
  rest_is = h.next_is;
  is_place = record {
    page_is = h.page ∙ is_place.page_is;
    root_is = next-root (place_of spot) u.expander next h.rest h.next_is;
    shows = is_place.shows;
    there = is_place.there;
    plainly = is_place.plainly;
  };
  one = one;
  list = list;
  continues = subst (λ (v : PageTitle). Continues (suc spot.left) v spot.home (reverse u.opened.items) list.after) (sym h.page)
      (subst (λ (nodes : List Opened). Continues (suc spot.left) w.expander.page spot.home nodes list.after) (sym same) continues);
  is = refl;
}

-- ---- a node of a list

-- the same list, where the texts, the page and the open nodes are the same
pub listing-same : (w u : Work) (listing : Listing) (e : Expansion Output) → u.expander.page ≡ w.expander.page → u.expander.levels ≡ w.expander.levels → reverse u.opened.items ≡ reverse w.opened.items → IsListing w listing e → IsListing u listing e
listing-same w u listing e page levels nodes h = record {
  left = h.left;
  frame = h.frame;
  shows = subst (λ (v : LevelsShown). ShowsFrame v.root v.included h.frame) (sym levels) h.shows;
  items = h.items;
  there = subst (λ (v : LevelsShown). list_with (tree_in v.root v.included) listing.list ≡ Some h.items) (sym levels) h.there;
  after = h.after;
  continues = subst (λ (x : List Opened). Continues h.left u.expander.page u.expander.levels x h.after) (sym nodes)
      (subst (λ (v : LevelsShown). Continues h.left u.expander.page v (reverse w.opened.items) h.after) (sym levels)
      (subst (λ (v : PageTitle). Continues h.left v w.expander.levels (reverse w.opened.items) h.after) (sym page) h.continues));
  is = h.is ∙ ap (λ (v : PageTitle). rest_list h.left v h.frame listing.out (drop listing.at h.items) >>= h.after) (sym page);
}

module _ (seen : Seen) (w u : Work) (id : NodeId) (behind : Listing) (e : Expansion Output) (h : IsAtNode w id behind e) (nodes : reverse u.opened.items ≡ reverse w.opened.items) where
  abbrev node_first : Expansion Output
  node_first = charged_node h.left w.expander.page h.frame h.node.kind h.node.content

  abbrev node_behind : Output → Expansion Output
  node_behind one = rest_list h.left w.expander.page h.frame (behind.out ++ one) (drop behind.at h.items)

  -- a node that gives an output at once
  pub node-gives : (one : Output) → ComesTo seen node_first w.expander (give one) u.expander → u.listing ≡ record { list = behind.list; at = behind.at; out = behind.out ++ one } → IsTurn seen e w.expander (On ListNow) u
  node-gives one come listed =
      let rest : Expansion Output = node_behind one >>= h.after in (
        rest,
        subst (λ (l : Listing). IsListing u l rest) (sym listed)
            (listing-same w u (record { list = behind.list; at = behind.at; out = behind.out ++ one }) rest come.same.page come.same.levels nodes
            (record { left = h.left; frame = h.frame; shows = h.shows; items = h.items; there = h.there; after = h.after; continues = h.continues; is = refl })),
        passes-in seen e (node_first >>= (λ out. node_behind out >>= h.after)) rest w.expander u.expander h.is
            (passes-then seen node_first (give one) (λ out. node_behind out >>= h.after) w.expander u.expander come.passes),
      )

  -- a node that is opened
  pub node-opens : 0 < h.left → ComesTo seen node_first w.expander (opened h.left w.expander.page h.frame h.node.kind h.node.content) u.expander → (title : ListId) (before : Output) → list_with (current u.expander) title ≡ Some (title_part h.node.content) → before ≡ [] → (rest : Expansion Output) × IsGoing u id behind (λ p r. IsNext p u.expander (Expands Title title before) r) rest × Passes seen e w.expander rest u.expander
  node-opens more come title before title_is none =
      let page = w.expander.page in
      let left = h.left - 1 in
      let same : suc left ≡ h.left = omega (arith, more) in
      let first : Expansion Output = node_output (expand left page) page h.frame h.node.kind h.node.content in
      let one : Output → Expansion Output = λ out. node_behind out >>= h.after in
      let levels = come.same.levels in
      let shows : ShowsFrame u.expander.levels.root u.expander.levels.included h.frame =
      subst (λ (v : LevelsShown). ShowsFrame v.root v.included h.frame) (sym levels) h.shows
      in
      let step : Output → Expansion Output = behind_title (expand left page) page h.frame h.node.kind h.node.content in (
        first >>= one,
        record {
          spot = record { left = left; viewed = page; frame = h.frame; home = u.expander.levels; node = h.node };
          rest = first;
          rest_is = record {
            within = refl;
            frame = h.frame;
            shows = shows;
            items = title_part h.node.content;
            there = title_is;
            step = step;
            step_is = λ out. refl;
            is = node-is (expand left page) page h.frame h.node.kind h.node.content
                ∙ ap (λ (b : Output). expand left page h.frame (title_part h.node.content) >>= (λ later. step (b ++ later))) (sym none);
          };
          is_place = record {
            page_is = come.same.page;
            root_is = refl;
            shows = shows;
            there = subst (λ (v : LevelsShown). node_with (tree_in v.root v.included) id ≡ Some h.node) (sym levels) h.node_is;
            plainly = expand-plain left page;
          };
          one = one;
          list = record {
            items = h.items;
            there = subst (λ (v : LevelsShown). list_with (tree_in v.root v.included) behind.list ≡ Some h.items) (sym levels) h.there;
            after = h.after;
            is = λ out. ap (λ (n : ℕ). rest_list n page h.frame (behind.out ++ out) (drop behind.at h.items) >>= h.after) (sym same);
          };
          continues = subst (λ (n : ℕ). Continues n u.expander.page u.expander.levels (reverse u.opened.items) h.after) (sym same)
              (subst (λ (x : List Opened). Continues h.left u.expander.page u.expander.levels x h.after) (sym nodes)
              (subst (λ (v : LevelsShown). Continues h.left u.expander.page v (reverse w.opened.items) h.after) (sym levels)
              (subst (λ (v : PageTitle). Continues h.left v w.expander.levels (reverse w.opened.items) h.after) (sym come.same.page) h.continues)));
          is = refl;
        },
        passes-in seen e (node_first >>= one) (first >>= one) w.expander u.expander h.is
            (passes-out seen (node_first >>= one) (opened h.left page h.frame h.node.kind h.node.content >>= one) (first >>= one) w.expander u.expander
            (ap (λ (x : Expansion Output). x >>= one) (opened-more h.left page h.frame h.node.kind h.node.content more))
            (passes-then seen node_first (opened h.left page h.frame h.node.kind h.node.content) one w.expander u.expander come.passes)),
      )

-- ---- the innermost node that is open

-- what was found for a node that was waiting, or that goes on, comes to a turn
pub leads-turn : (seen : Seen) (e : Expansion Output) (s : Expander) (u v : Work) (id : NodeId) (behind : Listing) (next : Next) (spot : Spot) (rest : Expansion Output) (one : Output → Expansion Output) (list : IsListBehind spot behind one) (turn : Turn) → e ≡ (rest >>= one) → IsPlace s.page s.levels.root id (place_of spot) → Continues (suc spot.left) s.page spot.home (reverse u.opened.items) list.after → LeadsTo seen (place_of spot) rest s next u.expander → ((f : Expansion Output) → IsGoing u id behind (λ p r. IsNext p u.expander next r) f → IsTurn seen f u.expander turn v) → IsTurn seen e s turn v
leads-turn seen e s u v id behind next spot rest one list turn same is_place continues h follows =
    turn-behind seen e (h.rest >>= one) s u.expander turn v
    (passes-in seen e (rest >>= one) (h.rest >>= one) s u.expander same (passes-then seen rest h.rest one s u.expander h.passes))
    (follows (h.rest >>= one) (going-leads seen (record u { expander = s }) u id behind next spot rest one list is_place continues refl h))

-- ---- the nodes that are open, as they are kept

none-left : {X : Type 0} (xs : List X) → length xs ≡ 0 → xs ≡ []
none-left [] e = refl
none-left (x ∷ xs) e = absurd (omega (arith, e))

pub pop-none : {X Z : Type 0} (v : Vec X Z) → vec_len v ≡ 0 → v.items ≡ []
pop-none v e = none-left v.items (sym v.ok.0 ∙ e)

pub pushed : {X : Type 0} (xs ys : List X) (x : X) → ys ≡ xs ++ x ∷ [] → reverse ys ≡ x ∷ reverse xs
pushed xs ys x e = ap reverse e ∙ reverse-append xs (x ∷ [])

-- no node is open
pub ended-done : (seen : Seen) (w u : Work) (e : Expansion Output) → w.opened.items ≡ [] → u.expander ≡ w.expander → u.listing ≡ w.listing → IsEnded w w.listing.out e → IsTurn seen e w.expander Done u
ended-done seen w u e none same listed h =
    let end = subst (λ (nodes : List Opened). Continues h.left w.expander.page w.expander.levels (reverse nodes) h.after) none h.continues in
    subst (λ (l : Listing). Passes seen e w.expander (give l.out) u.expander) (sym listed)
    (subst (λ (s : Expander). Passes seen e w.expander (give w.listing.out) s) (sym same)
    (passes-as seen e (give w.listing.out) w.expander (h.is ∙ end.1 w.listing.out)))

-- the innermost open node
pub ended-opened : (w : Work) (out : Output) (e : Expansion Output) (o : Opened) (rest : List Opened) → w.opened.items ≡ rest ++ o ∷ [] → (h : IsEnded w out e) → (f : IsOpened h.left w.expander.page w.expander.levels o h.after) × Continues (suc h.left) w.expander.page f.spot.home (reverse rest) f.list.after
ended-opened w out e o rest items h =
    subst (λ (nodes : List Opened). Continues h.left w.expander.page w.expander.levels nodes h.after) (pushed rest w.opened.items o items) h.continues

module _ (w u : Work) (out : Output) (e : Expansion Output) (o : Opened) (rest : List Opened) (items : w.opened.items ≡ rest ++ o ∷ []) (left : u.opened.items ≡ rest) (behind : u.listing ≡ o.behind) (h : IsEnded w out e) where
  abbrev top : (f : IsOpened h.left w.expander.page w.expander.levels o h.after) × Continues (suc h.left) w.expander.page f.spot.home (reverse rest) f.list.after
  top = ended-opened w out e o rest items h

  -- it waits
  abbrev pub ended-waits : Waits w.expander o.node o.waiting
  ended-waits = record { place = place_of top.0.spot; is = top.0.is_place; within = top.0.within; step = top.0.step; step_is = top.0.step_is }

  top-continues : Continues (suc top.0.spot.left) w.expander.page top.0.spot.home (reverse u.opened.items) top.0.list.after
  top-continues =
      subst (λ (nodes : List Opened). Continues (suc top.0.spot.left) w.expander.page top.0.spot.home (reverse nodes) top.0.list.after) (sym left)
      (subst (λ (n : ℕ). Continues (suc n) w.expander.page top.0.spot.home (reverse rest) top.0.list.after) (sym top.0.left_is) top.1)

  module _ (seen : Seen) (next : Next) (leads : (k : Waits w.expander o.node o.waiting) → LeadsTo seen k.place (k.step out) w.expander next u.expander) where
    -- it goes on
    pub ended-going : (f : Expansion Output) × IsGoing u o.node u.listing (λ p r. IsNext p u.expander next r) f
    ended-going =
        let k = leads ended-waits in (
          k.rest >>= top.0.one,
          subst (λ (l : Listing). IsGoing u o.node l (λ p r. IsNext p u.expander next r) (k.rest >>= top.0.one)) (sym behind)
              (going-leads seen (record u { expander = w.expander }) u o.node o.behind next top.0.spot (top.0.step out) top.0.one top.0.list top.0.is_place top-continues refl k),
        )

    pub ended-turn : (turn : Turn) (v : Work) → ((f : Expansion Output) → IsGoing u o.node u.listing (λ p r. IsNext p u.expander next r) f → IsTurn seen f u.expander turn v) → IsTurn seen e w.expander turn v
    ended-turn turn v follows =
        leads-turn seen e w.expander u v o.node o.behind next top.0.spot (top.0.step out) top.0.one top.0.list turn (h.is ∙ top.0.is out) top.0.is_place top-continues
        (leads ended-waits) (λ f k. follows f (subst (λ (l : Listing). IsGoing u o.node l (λ p r. IsNext p u.expander next r) f) (sym behind) k))

-- another list is kept in the place of the one that is expanded
pub node-listed : (w : Work) (listing : Listing) (id : NodeId) (behind : Listing) (e : Expansion Output) → IsAtNode w id behind e → IsAtNode (record w { listing = listing }) id behind e
node-listed w listing id behind e h = record {
  left = h.left;
  frame = h.frame;
  shows = h.shows;
  node = h.node;
  node_is = h.node_is;
  items = h.items;
  there = h.there;
  after = h.after;
  continues = h.continues;
  is = h.is;
}

pub ended-listed : (w : Work) (listing : Listing) (out : Output) (e : Expansion Output) → IsEnded w out e → IsEnded (record w { listing = listing }) out e
ended-listed w listing out e h = record { left = h.left; after = h.after; continues = h.continues; is = h.is }

-- ---- a node that goes on

pub going-here : (w : Work) (id : NodeId) (behind : Listing) (pending : Pending) (e : Expansion Output) (g : IsGoing w id behind (λ p rest. IsNext p w.expander (Goes pending) rest) e) → IsHere w.expander id (place_of g.spot)
going-here w id behind pending e g = record { is = g.is_place; home = g.rest_is.0 }

-- what it does is known by what it is about to do
pub going-turn : (seen : Seen) (w u v : Work) (id : NodeId) (behind : Listing) (pending : Pending) (next : Next) (e rest : Expansion Output) (turn : Turn) (g : IsGoing w id behind (λ p r. IsNext p w.expander (Goes pending) r) e) → g.rest ≡ rest → reverse u.opened.items ≡ reverse w.opened.items → LeadsTo seen (place_of g.spot) rest w.expander next u.expander → ((f : Expansion Output) → IsGoing u id behind (λ p r. IsNext p u.expander next r) f → IsTurn seen f u.expander turn v) → IsTurn seen e w.expander turn v
going-turn seen w u v id behind pending next e rest turn g same nodes h follows =
    leads-turn seen e w.expander u v id behind next g.spot rest g.one g.list turn (g.is ∙ ap (λ (x : Expansion Output). x >>= g.one) same) g.is_place
    (subst (λ (x : List Opened). Continues (suc g.spot.left) w.expander.page g.spot.home x g.list.after) (sym nodes) g.continues) h follows

-- it does next what was found
pub going-next : (seen : Seen) (w u : Work) (id : NodeId) (behind : Listing) (pending : Pending) (next : Next) (e rest : Expansion Output) (g : IsGoing w id behind (λ p r. IsNext p w.expander (Goes pending) r) e) → reverse u.opened.items ≡ reverse w.opened.items → LeadsTo seen (place_of g.spot) rest w.expander next u.expander → (f : Expansion Output) × IsGoing u id behind (λ p r. IsNext p u.expander next r) f
going-next seen w u id behind pending next e rest g nodes h =
    (h.rest >>= g.one, going-leads seen w u id behind next g.spot rest g.one g.list g.is_place g.continues nodes h)

-- an answer is needed, and nothing has changed
pub going-needs : (seen : Seen) (w u : Work) (id : NodeId) (pending : Pending) (title : PageTitle) (kind : Kind) (e rest : Expansion Output) (g : IsGoing w id w.listing (λ p r. IsNext p w.expander (Goes pending) r) e) → g.rest ≡ rest → u ≡ w → StopsAt seen rest w.expander (Needs title kind) → IsTurn seen e w.expander (NeedsTurn title kind (NodeNow id pending)) u
going-needs seen w u id pending title kind e rest g same is stops =
    subst (λ (x : Work). IsTurn seen e w.expander (NeedsTurn title kind (NodeNow id pending)) x) (sym is) (
      e,
      g,
      passes-as seen e e w.expander refl,
      stops-as seen e (rest >>= g.one) w.expander (Needs title kind) (g.is ∙ ap (λ (x : Expansion Output). x >>= g.one) same) (stops-bind seen rest g.one w.expander (Needs title kind) stops),
    )

-- ---- what is carried out next

-- the list goes on behind an output
pub follow-gives : (seen : Seen) (e : Expansion Output) (w u : Work) (id : NodeId) (one : Output) → IsPassed w one u → IsGoing w id w.listing (λ p rest. IsNext p w.expander (Gives one) rest) e → IsTurn seen e w.expander (On ListNow) u
follow-gives seen e w u id one h g =
    let next : Listing = record { list = w.listing.list; at = w.listing.at; out = w.listing.out ++ one } in
    turn-to seen e w u ListNow h.expander
    (subst (λ (l : Listing). IsListing u l e) (sym h.listing)
    (listing-same w u next e (ap (λ (s : Expander). s.page) h.expander) (ap (λ (s : Expander). s.levels) h.expander) (ap reverse h.opened) (going-gives w id w.listing one e g)))

-- another list is expanded from its start
pub follow-expands : (seen : Seen) (e : Expansion Output) (w u : Work) (id : NodeId) (waiting : Waiting) (list : ListId) (before : Output) → HasOpened w id waiting (record { list = list; at = 0; out = before }) u → IsGoing w id w.listing (λ p rest. IsNext p w.expander (Expands waiting list before) rest) e → IsTurn seen e w.expander (On ListNow) u
follow-expands seen e w u id waiting list before h g =
    turn-to seen e w u ListNow h.expander
    (subst (λ (l : Listing). IsListing u l e) (sym h.listing)
    (going-expands w u id w.listing waiting list before e h.expander (pushed w.opened.items u.opened.items (record { node = id; behind = w.listing; waiting = waiting }) h.opened) g))

-- the items of a list up to the next node, or to its end
abbrev pub AreFilled : Expander → ListId → Output → ℕ × Option NodeId → Output → Type 0
AreFilled s list before found new = (items : List Item) → list_with (current s) list ≡ Some items → IsFilled (current s) items 0 before found new

-- another list stands at its first node
pub expands-node : (seen : Seen) (e : Expansion Output) (w u : Work) (id inner : NodeId) (waiting : Waiting) (list : ListId) (before new : Output) (next : ℕ) → AreFilled w.expander list before (next, Some inner) new → HasOpened w id waiting (record { list = list; at = next; out = new }) u → IsGoing w id w.listing (λ p rest. IsNext p w.expander (Expands waiting list before) rest) e → IsTurn seen e w.expander (On (OpenNow inner)) u
expands-node seen e w u id inner waiting list before new next filled h g =
    let start : Listing = record { list = list; at = 0; out = before } in
    turn-to seen e w u (OpenNow inner) h.expander
    (subst (λ (l : Listing). IsAtNode u inner l e) (sym h.listing)
    (listing-node u start inner next new e (subst (λ (s : Expander). AreFilled s list before (next, Some inner) new) (sym h.expander) filled)
    (going-expands w u id w.listing waiting list before e h.expander (pushed w.opened.items u.opened.items (record { node = id; behind = w.listing; waiting = waiting }) h.opened) g)))

-- a list has no node: the node that waits for it has its output
abbrev pub expands-waits : (w : Work) (id : NodeId) (waiting : Waiting) (list : ListId) (before : Output) (e : Expansion Output) → IsGoing w id w.listing (λ p rest. IsNext p w.expander (Expands waiting list before) rest) e → Waits w.expander id waiting
expands-waits w id waiting list before e g = record {
  place = place_of g.spot;
  is = g.is_place;
  within = g.rest_is.within;
  step = g.rest_is.step;
  step_is = g.rest_is.step_is;
}

pub expands-end : (seen : Seen) (e : Expansion Output) (w v : Work) (t : Expander) (id : NodeId) (waiting : Waiting) (list : ListId) (before new : Output) (at : ℕ) (next : Next) (turn : Turn) → AreFilled w.expander list before (at, None) new → ((k : Waits w.expander id waiting) → LeadsTo seen k.place (k.step new) w.expander next t) → ((f : Expansion Output) → IsGoing (record w { expander = t }) id w.listing (λ p r. IsNext p t next r) f → IsTurn seen f t turn v) → IsGoing w id w.listing (λ p rest. IsNext p w.expander (Expands waiting list before) rest) e → IsTurn seen e w.expander turn v
expands-end seen e w v t id waiting list before new at next turn filled leads follows g =
    let x = g.rest_is in
    let u : Work = record w { expander = t } in
    let same : g.rest ≡ x.step new =
    x.is
    ∙ list-begun g.spot.left g.spot.viewed x.frame x.items before x.step
    ∙ ap (λ (y : Expansion Output). y >>= x.step) (filled x.items x.there g.spot.left g.spot.viewed x.frame)
    in
    leads-turn seen e w.expander u v id w.listing next g.spot (x.step new) g.one g.list turn (g.is ∙ ap (λ (y : Expansion Output). y >>= g.one) same) g.is_place g.continues
    (leads (expands-waits w id waiting list before e g)) follows

-- ---- the value of an argument

-- a node whose title part is one plain part, to which a value is bound
pub going-valued : (w : Work) (id : NodeId) (behind : Listing) (list : ListId) (v : Bound) (e : Expansion Output) → ((p : Place) → IsHere w.expander id p → IsBoundTitle p list (caller_tree w.expander) v) → IsGoing w id behind (λ p rest. IsNext p w.expander (Expands Title list []) rest) e → IsGoing w id behind (λ p rest. IsValueNext p w.expander v rest) e
going-valued w id behind list v e bound g =
    let p : Place = place_of g.spot in
    let x = g.rest_is in
    let here : IsHere w.expander id p = record { is = g.is_place; home = x.within } in
    let k = bound p here in
    let name : Output → Expansion Output = λ out. kind_output p.inner p.viewed p.frame p.node.kind out (parts_at p) in
    record {
      spot = g.spot;
      rest = g.rest;
      rest_is = record {
        home = x.within;
        binding = k.binding;
        is_binding = k.is_binding;
        is = x.is
            ∙ bind-same (p.inner x.frame x.items) (λ later. x.step ([] ++ later)) name x.step_is
            ∙ k.gives x.frame x.items (list-here w.expander id p here list x.items x.there);
      };
      is_place = g.is_place;
      one = g.one;
      list = g.list;
      continues = g.continues;
      is = g.is;
    }

module _ (w u : Work) (id : NodeId) (v : Bound) (levels : reverse u.opened.items ≡ reverse w.opened.items) where
  -- what was found for the value, at its place
  abbrev pub Finds : Seen → Option Next → Type 0
  Finds seen next = (p : Place) (name : NodeId) (b : Binding) → IsHere w.expander name p → IsBinding (caller_tree w.expander) v b → IsValued seen p (argument_value p.inner p.viewed p.frame b) w.expander w.listing.out next u.expander u.listing.out

  value-here : (e : Expansion Output) (g : IsGoing w id w.listing (λ p rest. IsValueNext p w.expander v rest) e) → IsHere w.expander id (place_of g.spot)
  value-here e g = record { is = g.is_place; home = g.rest_is.home }

  module _ (seen : Seen) (next : Next) (found : Finds seen (Some next)) (listed : u.listing ≡ record { list = w.listing.list; at = w.listing.at; out = u.listing.out }) where
    value-leads : (e : Expansion Output) (g : IsGoing w id w.listing (λ p rest. IsValueNext p w.expander v rest) e) → LeadsTo seen (place_of g.spot) g.rest w.expander next u.expander
    value-leads e g =
        let p : Place = place_of g.spot in
        let k = g.rest_is in
        subst (λ (x : Expansion Output). LeadsTo seen p x w.expander next u.expander) (sym k.is) (found p id k.binding (value-here e g) k.is_binding).0

    same-listing : (e : Expansion Output) (g : IsGoing w id w.listing (λ p rest. IsValueNext p w.expander v rest) e) → u.listing ≡ w.listing
    same-listing e g =
        let p : Place = place_of g.spot in
        let k = g.rest_is in
        listed ∙ ap (λ (o : Output). record { list = w.listing.list; at = w.listing.at; out = o }) (found p id k.binding (value-here e g) k.is_binding).1

    pub value-going : (e : Expansion Output) → IsGoing w id w.listing (λ p rest. IsValueNext p w.expander v rest) e → (f : Expansion Output) × IsGoing u id u.listing (λ p rest. IsNext p u.expander next rest) f
    value-going e g =
        let k = value-leads e g in (
          k.rest >>= g.one,
          subst (λ (l : Listing). IsGoing u id l (λ p rest. IsNext p u.expander next rest) (k.rest >>= g.one)) (sym (same-listing e g))
              (going-leads seen w u id w.listing next g.spot g.rest g.one g.list g.is_place g.continues levels k),
        )

    pub value-turn : (e : Expansion Output) (turn : Turn) (z : Work) → ((f : Expansion Output) → IsGoing u id u.listing (λ p rest. IsNext p u.expander next rest) f → IsTurn seen f u.expander turn z) → IsGoing w id w.listing (λ p rest. IsValueNext p w.expander v rest) e → IsTurn seen e w.expander turn z
    value-turn e turn z follows g =
        leads-turn seen e w.expander u z id w.listing next g.spot g.rest g.one g.list turn g.is g.is_place
        (subst (λ (x : List Opened). Continues (suc g.spot.left) w.expander.page g.spot.home x g.list.after) (sym levels) g.continues)
        (value-leads e g) (λ f q. follows f (subst (λ (l : Listing). IsGoing u id l (λ p rest. IsNext p u.expander next rest) f) (sym (same-listing e g)) q))

  -- it stands behind the output of the list
  pub value-pushed : (seen : Seen) (e : Expansion Output) → Finds seen None → u.opened.items ≡ w.opened.items → u.listing ≡ record { list = w.listing.list; at = w.listing.at; out = u.listing.out } → IsGoing w id w.listing (λ p rest. IsValueNext p w.expander v rest) e → IsTurn seen e w.expander (On ListNow) u
  value-pushed seen e found nodes listed g =
      let p : Place = place_of g.spot in
      let k = g.rest_is in
      let whole = argument_value p.inner p.viewed p.frame k.binding in
      let here = value-here e g in
      let pushed = found p id k.binding here k.is_binding in
      let m : Work = record w { expander = u.expander } in
      leads-turn seen e w.expander m u id w.listing (Gives pushed.one) g.spot whole g.one g.list (On ListNow)
      (g.is ∙ ap (λ (x : Expansion Output). x >>= g.one) k.is) g.is_place g.continues
      (leads-comes w.expander id p here seen whole pushed.one u.expander pushed.comes)
      (λ f q. follow-gives seen f m u id pushed.one
      (record { expander = refl; opened = nodes; listing = listed ∙ ap (λ (o : Output). record { list = w.listing.list; at = w.listing.at; out = o }) pushed.behind }) q)
