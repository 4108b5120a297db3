use Rattle.std.proofs.Common.{◌≡◌, ◌+◌, ◌∷◌, List, suc, drop, false, true, refl, sym, ap, subst, arith, ◌∙◌}
use Rattle.std.specs.Prelude.{decimal, is_some}
use Rattle.wk_text_rules.specs.Marked.{plain_text_of, trimmed_output}
use Rattle.wk_view_rules.specs.Expand.{with_bindings}
use Rattle.wk_view_rules.specs.Expansions.{Expansion, Output, ◌>>=◌}
use Rattle.wk_view_rules.specs.Frames.{Binding}
use Rattle.wk_frames.specs.Levels.{HasLists}
use Rattle.wk_expand.specs.Stack.{included_with, parts_at, text_at}
use Rattle.wk_frames.specs.Frames.{IsBinding, ShowsBindings}
use Rattle.wk_expand.specs.State.{current}
use Rattle.wk_expand.specs.Items.{IsPlainName}
use Rattle.wk_frames.specs.declared.levels.Bound.{Bound}
use Rattle.wk_frames.proofs.BindLaws.{has-more, shows-more}
use Rattle.wk_expand.proofs.BindLaws.{behind_plain as behind_named, bindings-bare, bindings-behind, drop-next}
use Rattle.wk_expand.proofs.LeadLaws.{part-here, part-there, text-here}
use Rattle.wk_expand.proofs.PartLaws.{bare, named, some_of, value-there}
use Rattle.wk_expand.proofs.PlainLaws.{behind-plain, name-plain}
use Rattle.wk_expand.proofs.WrittenLaws.{regrouped}
use Rattle.wk_expand.proofs.state.Expander.bind_part.Goals as goal

pub returns-in_default-clause-lists : goal.returns-in_default-clause-lists
returns-in_default-clause-lists c =
    let parsed = current c.args.self.now in
    let binder = c.args.binder.now in
    let v : Bound = record { value = c.part-part.result.value; len = c.part-part.result.len; named = c.is_some.result } in
    subst (HasLists parsed) (sym c.in_ok-bind_number.ensures)
    (has-more parsed binder.args (decimal (binder.numbered + 1)) v (value-there c.tree.result.now parsed c.args.node binder.at c.part-part.result c.tree.ensures c.part-part.ensures c.requires.there) c.requires.lists)

pub returns-in_default-clause-bound : goal.returns-in_default-clause-bound
returns-in_default-clause-bound c =
    λ p h page rest k.
    let s = c.args.self.now in
    let binder = c.args.binder.now in
    let n = binder.numbered in
    let included = included_with p page in
    let parts = parts_at p in
    let there = part-there s c.args.node p h binder.at c.requires.there in
    let part = there.0 in
    let q = part-here s c.args.node p h c.tree.result.now binder.at c.part-part.result part c.tree.ensures c.part-part.ensures there.1 in
    let later = drop (binder.at + 1) parts in
    let b : Binding = record { name = decimal (n + 1); value = part.value; named = false } in
    let v : Bound = record { value = c.part-part.result.value; len = c.part-part.result.len; named = c.is_some.result } in
    let none = c.in_default.is in
    let is_bound : IsBinding (text_at p) v b = record { value = q.value; len = q.len; named = c.is_some.ensures ∙ ap is_some none } in
    let one : suc (n + 1) ≡ n + 1 + 1 = omega arith in
    let args = c.in_ok-bind_number.ensures in
    record {
      bindings = b ∷ k.bindings;
      bound = record {
        shows = subst (λ x. ShowsBindings (text_at p) x (b ∷ k.bindings)) (sym args) (shows-more (text_at p) binder.args k.bindings v b is_bound k.bound.shows);
        lists = subst (HasLists (text_at p)) (sym args) (has-more (text_at p) binder.args (decimal (n + 1)) v (some_of _ part.value q.value) k.bound.lists);
        few = omega (arith, k.bound.few);
      };
      is = k.is ∙ ap (λ (x : Expansion (List Binding)). x >>= included)
          (ap (with_bindings p.inner p.viewed p.frame (n + 1) k.bindings) (drop-next parts binder.at part there.1)
          ∙ bindings-bare p.inner p.viewed p.frame (n + 1) k.bindings part later (bare (text_at p) c.part-part.result part none q)
          ∙ ap (λ m. with_bindings p.inner p.viewed p.frame m (b ∷ k.bindings) later) one);
    }

pub returns-in_ok-bind-in-Some-plain_name-clause-lists : goal.returns-in_ok-bind-in-Some-plain_name-clause-lists
returns-in_ok-bind-in-Some-plain_name-clause-lists c =
    let parsed = current c.args.self.now in
    let binder = c.args.binder.now in
    let v : Bound = record { value = c.part-part.result.value; len = c.part-part.result.len; named = c.is_some.result } in
    subst (HasLists parsed) (sym c.in_ok-bind-in-Some-plain_name.ensures)
    (has-more parsed binder.args c.in-Some-plain_name.text.now v (value-there c.tree.result.now parsed c.args.node binder.at c.part-part.result c.tree.ensures c.part-part.ensures c.requires.there) c.requires.lists)

pub returns-in_ok-bind-in-Some-plain_name-clause-bound : goal.returns-in_ok-bind-in-Some-plain_name-clause-bound
returns-in_ok-bind-in-Some-plain_name-clause-bound c =
    λ p h page rest k.
    let s = c.args.self.now in
    let binder = c.args.binder.now in
    let n = binder.numbered in
    let included = included_with p page in
    let parts = parts_at p in
    let there = part-there s c.args.node p h binder.at c.requires.there in
    let part = there.0 in
    let q = part-here s c.args.node p h c.tree.result.now binder.at c.part-part.result part c.tree.ensures c.part-part.ensures there.1 in
    let later = drop (binder.at + 1) parts in
    let text = c.in-Some-plain_name.text.now in
    let b : Binding = record { name = text; value = part.value; named = true } in
    let v : Bound = record { value = c.part-part.result.value; len = c.part-part.result.len; named = c.is_some.result } in
    let is_bound : IsBinding (text_at p) v b = record { value = q.value; len = q.len; named = c.is_some.ensures ∙ ap is_some c.in-Some.is } in
    let args = c.in_ok-bind-in-Some-plain_name.ensures in
    let name = named (text_at p) c.part-part.result part c.in-Some.name c.in-Some.is q in
    let plain : IsPlainName (text_at p) c.in-Some.name text = subst (λ parsed. IsPlainName parsed c.in-Some.name text) (text-here s c.args.node p h) c.in-Some-plain_name.ensures in
    let by : Output → Expansion (List Binding) = λ out. behind_named p.inner p.viewed p.frame (n + 1) k.bindings part later (plain_text_of (trimmed_output out)) in
    record {
      bindings = b ∷ k.bindings;
      bound = record {
        shows = subst (λ x. ShowsBindings (text_at p) x (b ∷ k.bindings)) (sym args) (shows-more (text_at p) binder.args k.bindings v b is_bound k.bound.shows);
        lists = subst (HasLists (text_at p)) (sym args) (has-more (text_at p) binder.args text v (some_of _ part.value q.value) k.bound.lists);
        few = omega (arith, k.bound.few);
      };
      is = k.is ∙ ap (λ (x : Expansion (List Binding)). x >>= included)
          (ap (with_bindings p.inner p.viewed p.frame (n + 1) k.bindings) (drop-next parts binder.at part there.1)
          ∙ bindings-behind p.inner p.viewed p.frame (n + 1) k.bindings part later name.0 name.1
          ∙ behind-plain p.inner p.frame (text_at p) c.in-Some.name plain.text name.0 by h.is.plainly plain.alone name.2
          ∙ ap (behind_named p.inner p.viewed p.frame (n + 1) k.bindings part later) (name-plain plain.text text plain.is));
    }

pub returns-in-None-clause-bound : goal.returns-in-None-clause-bound
returns-in-None-clause-bound c =
    λ p h page rest k.
    let s = c.args.self.now in
    let binder = c.args.binder.now in
    let n = binder.numbered in
    let included = included_with p page in
    let parts = parts_at p in
    let there = part-there s c.args.node p h binder.at c.requires.there in
    let part = there.0 in
    let q = part-here s c.args.node p h c.tree.result.now binder.at c.part-part.result part c.tree.ensures c.part-part.ensures there.1 in
    let later = drop (binder.at + 1) parts in
    let name = named (text_at p) c.part-part.result part c.in-Some.name c.in-Some.is q in
    let by : Output → Expansion (List Binding) = λ out. behind_named p.inner p.viewed p.frame (n + 1) k.bindings part later (plain_text_of (trimmed_output out)) in
    record {
      items = name.0;
      there = name.2;
      step = λ out. by out >>= included;
      step_is = record {
        bindings = k.bindings;
        bound = record { shows = k.bound.shows; lists = k.bound.lists; few = omega (arith, k.bound.few) };
        value = part.value;
        value_is = λ _. record { value = q.value; len = q.len; named = c.is_some.ensures ∙ ap is_some c.in-Some.is };
        is = λ out. refl;
      };
      is = k.is ∙ ap (λ (x : Expansion (List Binding)). x >>= included)
          (ap (with_bindings p.inner p.viewed p.frame (n + 1) k.bindings) (drop-next parts binder.at part there.1)
          ∙ bindings-behind p.inner p.viewed p.frame (n + 1) k.bindings part later name.0 name.1)
          ∙ regrouped (p.inner p.frame name.0) by included;
    }
