-- What a node does next, in the text in which it stands.
use Rattle.std.proofs.Common.{◌≡◌, ℕ, ◌<◌, ◌≤◌, List, [], ◌++◌, codes, length, Some, None, IsSome, Result, Err, refl, sym, ap, subst, ◌∙◌, append_assoc}
use Rattle.std.specs.List.{slice_get}
use Rattle.std.specs.Option.{IfSome}
use Rattle.wk_text_rules.specs.Marked.{all_plain}
use Rattle.wk_tree.specs.Parsed.{ParsedText, IsPart, list_with, node_with, part_with}
use Rattle.wk_tree.specs.declared.item.ListId.{ListId}
use Rattle.wk_tree.specs.declared.item.NodeId.{NodeId}
use Rattle.wk_tree.specs.declared.parsed.Part.{Part as Kept}
use Rattle.wk_tree_rules.specs.Tree.{Part, further_parts}
use Rattle.wk_tree_rules.specs.Trees.{Item}
use Rattle.wk_view_rules.specs.Expand.{whole_part, trimmed_items}
use Rattle.wk_view_rules.specs.Expansions.{Expansion, Output, give, ◌>>=◌}
use Rattle.wk_view_rules.specs.Worlds.{Seen}
use Rattle.wk_frames.specs.Levels.{LevelsShown, tree_in}
use Rattle.wk_expand.specs.Running.{ComesTo, IsSame, StopsAt}
use Rattle.wk_expand.specs.Stack.{AreWithin, IsHere, IsPending, IsRest, LeadsOn, LeadsTo, Place, Waits, parts_at, text_at}
use Rattle.wk_frames.specs.Frames.{ShowsFrame}
use Rattle.wk_expand.specs.State.{IsFrame, current}
use Rattle.wk_expand.specs.declared.stack.Next.{Next}
use Rattle.wk_expand.specs.declared.stack.Next.TheVariants.{Gives, Expands, Goes}
use Rattle.wk_expand.specs.declared.stack.Waiting.{Waiting}
use Rattle.wk_expand.specs.declared.state.Expander.{Expander}
use Rattle.wk_expand.specs.declared.stack.Pending.{Pending}
use Rattle.wk_expand.specs.declared.state.Stop.{Stop}
use Rattle.wk_expand.specs.declared.stack.Use.TheVariants.{Operand}
use Rattle.wk_expand.specs.declared.stack.Waiting.TheVariants.{Part as PartOf}
use Rattle.wk_expand.proofs.NodeLaws.{count-is, part-of, some_within, then_trimmed}
use Rattle.wk_expand.proofs.PartLaws.{part-is, some_of, some_part, whole-bare, whole-named}
use Rattle.wk_expand.proofs.RunLaws.{passes-as, passes-on}
use Rattle.wk_expand.proofs.WrittenLaws.{bind-same, regrouped}

module _ (s : Expander) (id : NodeId) (p : Place) (h : IsHere s id p) where
  pub text-here : current s ≡ text_at p
  text-here = ap (λ (v : LevelsShown). tree_in v.root v.included) h.home

  pub frame-here : IsFrame s p.viewed p.frame
  frame-here = record {
    page = h.is.page_is;
    shows = subst (λ (v : LevelsShown). ShowsFrame v.root v.included p.frame) (sym h.home) h.is.shows;
  }

  pub node-here : node_with (current s) id ≡ Some p.node
  node-here = ap (λ parsed. node_with parsed id) text-here ∙ h.is.there

  pub here-later : (t : Expander) → IsSame s t → IsHere t id p
  here-later t same = record {
    is = record {
      page_is = same.page ∙ h.is.page_is;
      root_is = ap (λ (v : LevelsShown). v.root) same.levels ∙ h.is.root_is;
      shows = h.is.shows;
      there = h.is.there;
      plainly = h.is.plainly;
    };
    home = same.levels ∙ h.home;
  }

  -- how many further parts there are
  pub count-here : (shown : ParsedText) (count : ℕ) → shown ≡ current s → IfSome (node_with shown id) (λ n. count ≡ length (further_parts n.content)) → count ≡ length (parts_at p)
  count-here shown count is counted = count-is shown (text_at p) id count p.node (is ∙ text-here) counted h.is.there

  -- a further part
  pub part-here : (shown : ParsedText) (at : ℕ) (kept : Kept) (part : Part) → shown ≡ current s → IfSome (part_with shown id at) (IsPart shown kept) → slice_get (parts_at p) at ≡ Some part → IsPart (text_at p) kept part
  part-here shown at kept part is is_part e = part-is shown (text_at p) id at kept part (is ∙ text-here) is_part (part-of (text_at p) id at p.node h.is.there ∙ e)

  -- a further part that is there
  pub part-there : (at : ℕ) → IsSome (part_with (current s) id at) → (part : Part) × (slice_get (parts_at p) at ≡ Some part)
  part-there at there =
      let q = some_part (part_with (current s) id at) there in
      (q.0, sym (part-of (text_at p) id at p.node h.is.there) ∙ ap (λ parsed. part_with parsed id at) (sym text-here) ∙ q.1)

  pub list-here : (list : ListId) (items : List Item) → list_with (current s) list ≡ Some items → list_with (text_at p) list ≡ Some items
  list-here list items e = ap (λ parsed. list_with parsed list) (sym text-here) ∙ e

  module _ (seen : Seen) (e : Expansion Output) where
    pub leads-give : (out x : Output) → e ≡ give x → out ≡ x → LeadsTo seen p e s (Gives out) s
    leads-give out x same is = record {
      page = refl;
      rest = give out;
      next_is = (h.home, refl);
      passes = passes-as seen e (give out) s (same ∙ ap give (sym is));
    }

    pub leads-comes : (out : Output) (t : Expander) → ComesTo seen e s (give out) t → LeadsTo seen p e s (Gives out) t
    leads-comes out t come = record {
      page = come.same.page;
      rest = give out;
      next_is = (come.same.levels ∙ h.home, refl);
      passes = come.passes;
    }

    -- a list of the same text is expanded
    pub leads-list : (waiting : Waiting) (list : ListId) (before : Output) (items : List Item) (step : Output → Expansion Output) → list_with (text_at p) list ≡ Some items → IsRest p waiting step → AreWithin waiting s.levels p.home → e ≡ (p.inner p.frame items >>= (λ later. step (before ++ later))) → LeadsTo seen p e s (Expands waiting list before) s
    leads-list waiting list before items step there step_is within same = record {
      page = refl;
      rest = p.inner p.frame items >>= (λ later. step (before ++ later));
      next_is = record {
        within = within;
        frame = p.frame;
        shows = frame-here.shows;
        items = items;
        there = ap (λ parsed. list_with parsed list) text-here ∙ there;
        step = step;
        step_is = step_is;
        is = refl;
      };
      passes = passes-as seen e (p.inner p.frame items >>= (λ later. step (before ++ later))) s same;
    }

pub leads-in : (seen : Seen) (p : Place) (e f : Expansion Output) (s : Expander) (next : Next) (t : Expander) → e ≡ f → LeadsTo seen p f s next t → LeadsTo seen p e s next t
leads-in seen p e f s next t same h = subst (λ g. LeadsTo seen p g s next t) (sym same) h

pub leads-to : (seen : Seen) (p : Place) (e : Expansion Output) (s : Expander) (next found : Next) (t : Expander) → found ≡ next → LeadsTo seen p e s next t → LeadsTo seen p e s found t
leads-to seen p e s next found t same h = subst (λ (n : Next). LeadsTo seen p e s n t) (sym same) h

pub leads-behind : (seen : Seen) (p : Place) (e rest : Expansion Output) (s t : Expander) (next : Next) (u : Expander) → ComesTo seen e s rest t → LeadsTo seen p rest t next u → LeadsTo seen p e s next u
leads-behind seen p e rest s t next u come h = record {
  page = h.page ∙ come.same.page;
  rest = h.rest;
  next_is = h.next_is;
  passes = passes-on seen e rest h.rest s t u come.passes h.passes;
}

-- ---- a further part whole

abbrev pub behind_part_name : Place → Part → (Output → Expansion Output) → Output → Expansion Output
behind_part_name p part f out = p.inner p.frame part.value >>= (λ later. f ((out ++ all_plain (codes "=")) ++ later))

grouped : (before name equals value : Output) → before ++ (name ++ equals ++ value) ≡ ((before ++ name) ++ equals) ++ value
grouped before name equals value = simp append_assoc

pub whole-by-name : (p : Place) (part : Part) (name : List Item) (before : Output) (f : Output → Expansion Output) → part.name ≡ Some name → (whole_part p.inner p.viewed p.frame part >>= (λ out. f (before ++ out))) ≡ (p.inner p.frame name >>= (λ later. behind_part_name p part f (before ++ later)))
whole-by-name p part name before f e =
    let value = p.inner p.frame part.value in
    ap (λ (w : Expansion Output). w >>= (λ out. f (before ++ out))) (whole-named p.inner p.viewed p.frame part name e)
    ∙ regrouped (p.inner p.frame name) (λ n. value >>= (λ v. give (n ++ all_plain (codes "=") ++ v))) (λ out. f (before ++ out))
    ∙ bind-same (p.inner p.frame name) (λ n. (value >>= (λ v. give (n ++ all_plain (codes "=") ++ v))) >>= (λ out. f (before ++ out))) (λ n. behind_part_name p part f (before ++ n)) (λ n.
    regrouped value (λ v. give (n ++ all_plain (codes "=") ++ v)) (λ out. f (before ++ out))
    ∙ bind-same value (λ v. f (before ++ (n ++ all_plain (codes "=") ++ v))) (λ v. f (((before ++ n) ++ all_plain (codes "=")) ++ v)) (λ v. ap f (grouped before n (all_plain (codes "=")) v)))

pub whole-by-value : (p : Place) (part : Part) (before : Output) (f : Output → Expansion Output) → part.name ≡ None → (whole_part p.inner p.viewed p.frame part >>= (λ out. f (before ++ out))) ≡ (p.inner p.frame part.value >>= (λ later. f (before ++ later)))
whole-by-value p part before f e = ap (λ (w : Expansion Output). w >>= (λ out. f (before ++ out))) (whole-bare p.inner p.viewed p.frame part e)

-- ---- further parts

-- a further part is there
pub part-requires : (s : Expander) (id : NodeId) (shown : ParsedText) (count at : ℕ) → shown ≡ current s → IfSome (node_with shown id) (λ n. count ≡ length (further_parts n.content)) → IsSome (node_with (current s) id) → at < count → IsSome (part_with (current s) id at)
part-requires s id shown count at is counted there within =
    let m = some_part (node_with (current s) id) there in
    let total : count ≡ length (further_parts m.0.content) = count-is shown (current s) id count m.0 is counted m.1 in
    let q = some_within (further_parts m.0.content) at (subst (λ n. at < n) total within) in
    some_of (part_with (current s) id at) q.0 (part-of (current s) id at m.0 m.1 ∙ q.1)

module _ (s : Expander) (id : NodeId) (p : Place) (h : IsHere s id p) (shown : ParsedText) (count at : ℕ) (is : shown ≡ current s) (counted : IfSome (node_with shown id) (λ n. count ≡ length (further_parts n.content))) where
  -- the part itself
  pub part-within : at < count → (q : Part) × (slice_get (parts_at p) at ≡ Some q)
  part-within within = some_within (parts_at p) at (subst (λ n. at < n) (count-here s id p h shown count is counted) within)

  -- no part is left
  pub parts-past : count ≤ at → length (parts_at p) ≤ at
  parts-past past = subst (λ n. n ≤ at) (count-here s id p h shown count is counted) past

-- a list of the same text is expanded and trimmed
pub leads-trimmed : (s : Expander) (id : NodeId) (p : Place) (h : IsHere s id p) (seen : Seen) (e : Expansion Output) (list : ListId) (before : Output) (items : List Item) → list_with (text_at p) list ≡ Some items → before ≡ [] → e ≡ trimmed_items p.inner p.viewed p.frame items → LeadsTo seen p e s (Expands (PartOf Operand) list before) s
leads-trimmed s id p h seen e list before items there none same =
    let trimmed = then_trimmed p.inner p.viewed p.frame in
    leads-list s id p h seen e (PartOf Operand) list before items trimmed there (λ out. refl) h.home
    (same ∙ bind-same (p.inner p.frame items) trimmed (λ later. trimmed (before ++ later)) (λ later. ap (λ (b : Output). trimmed (b ++ later)) (sym none)))

-- ---- where a call goes on or stops

-- a node goes on without a list
pub leads-goes : (s : Expander) (id : NodeId) (p : Place) (h : IsHere s id p) (seen : Seen) (e : Expansion Output) (t : Expander) (pending : Pending) (rest : Expansion Output) → IsPending p pending rest → ComesTo seen e s rest t → LeadsTo seen p e s (Goes pending) t
leads-goes s id p h seen e t pending rest is come = record {
  page = come.same.page;
  rest = rest;
  next_is = (come.same.levels ∙ h.home, is);
  passes = come.passes;
}

pub leads-stop : (seen : Seen) (p : Place) (e : Expansion Output) (s : Expander) (r : Result Next Stop) (t : Expander) (given returned : Stop) → r ≡ Err returned → returned ≡ given → StopsAt seen e s given → LeadsOn seen p e s r t
leads-stop seen p e s r t given returned is same h =
    subst (λ v. LeadsOn seen p e s v t) (sym is) (subst (λ (stop : Stop). StopsAt seen e s stop) (sym same) h)

pub leads-other : (seen : Seen) (p : Place) (e f : Expansion Output) (s : Expander) (r : Result Next Stop) (t : Expander) → e ≡ f → LeadsOn seen p f s r t → LeadsOn seen p e s r t
leads-other seen p e f s r t same h = subst (λ g. LeadsOn seen p g s r t) (sym same) h

-- a node that waits stands here
pub waits-here : (s : Expander) (id : NodeId) (waiting : Waiting) (w : Waits s id waiting) → s.levels ≡ w.place.home → IsHere s id w.place
waits-here s id waiting w home = record { is = w.is; home = home }
