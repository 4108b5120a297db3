use Rattle.std.proofs.Common.{◌≡◌, ◌++◌, codes, drop, IsSome, refl, sym, ap, ap₂, subst, ◌∙◌}
use Rattle.wk_text_rules.specs.Marked.{plain_text_of, trimmed_output}
use Rattle.wk_tree.specs.Parsed.{list_with, node_with}
use Rattle.wk_tree.specs.declared.item.NodeId.{NodeId}
use Rattle.wk_view_rules.specs.Expand.{behind_bare_item, switch_output}
use Rattle.wk_view_rules.specs.Expansions.{Output, argument_within_limit, give, inclusion_within_limit, ◌>>=◌}
use Rattle.wk_view_rules.specs.Words.{named_item}
use Rattle.wk_frames.specs.Bindings.{named_binding}
use Rattle.wk_frames.specs.Levels.{HasLists, LevelsShown}
use Rattle.wk_expand.specs.Searches.{behind_turned, search_of}
use Rattle.wk_expand.specs.Stack.{AreWithin, IsHere, IsRest, Place, Waits, parts_at, searched, text_at}
use Rattle.wk_frames.specs.Frames.{ShowsBindings}
use Rattle.wk_expand.specs.State.{current}
use Rattle.wk_expand.specs.declared.stack.Waiting.{Waiting}
use Rattle.wk_expand.specs.declared.stack.Waiting.TheVariants.{Part as PartOf}
use Rattle.wk_expand.specs.declared.state.Expander.{Expander}
use Rattle.wk_frames.proofs.BindLaws.{has-named, shows-named}
use Rattle.wk_expand.proofs.LeadLaws.{leads-in, leads-list, node-here, waits-here}
use Rattle.wk_expand.proofs.PartLaws.{some_of}
use Rattle.wk_expand.proofs.RunLaws.{passes-as, passes-in, passes-levels}
use Rattle.wk_expand.proofs.state.Expander.finished.Goals as goal

-- where the node stands, and what it does, by what it waits for
within-as : (s : Expander) (id : NodeId) (waiting found : Waiting) (w : Waits s id waiting) → waiting ≡ found → AreWithin found s.levels w.place.home
within-as s id waiting found w is = subst (λ (x : Waiting). AreWithin x s.levels w.place.home) is w.within

rest-as : (s : Expander) (id : NodeId) (waiting found : Waiting) (w : Waits s id waiting) → waiting ≡ found → IsRest w.place found w.step
rest-as s id waiting found w is = subst (λ (x : Waiting). IsRest w.place x w.step) is w.step_is

node-is-there : (s : Expander) (id : NodeId) (p : Place) → IsHere s id p → IsSome (node_with (current s) id)
node-is-there s id p h = some_of (node_with (current s) id) p.node (node-here s id p h)

pub returns-in_ok-within_argument_limit-in-Value : goal.returns-in_ok-within_argument_limit-in-Value
returns-in_ok-within_argument_limit-in-Value c =
    λ seen w.
    let s = c.args.self.now in
    let within = within-as s c.args.node c.args.waiting _ w c.in-Value.is in
    let k = rest-as s c.args.node c.args.waiting _ w c.in-Value.is in
    let given = c.in_ok-within_argument_limit-in-Value.field-0 in
    let u = c.within_argument_limit.new.self in
    let come = c.in_ok-within_argument_limit-in-Value.ensures seen in
    record {
      page = come.same.page;
      rest = give given;
      next_is = (come.same.levels ∙ c.in_ok-enter-in-Value.ensures ∙ sym within.0, refl);
      passes = passes-in seen (w.step c.args.out) (argument_within_limit c.in_ok-out-in-Value.out) (give given) s u
          (k c.args.out ∙ ap argument_within_limit (sym c.in_ok-out-in-Value.ensures))
          (passes-levels seen (argument_within_limit c.in_ok-out-in-Value.out) (give given) s u c.enter.new.self come.passes);
    }

pub returns-in_ok-push_plain-in-Name : goal.returns-in_ok-push_plain-in-Name
returns-in_ok-push_plain-in-Name c =
    λ seen w.
    let s = c.args.self.now in
    let h = waits-here s c.args.node c.args.waiting w (within-as s c.args.node c.args.waiting _ w c.in-Name.is) in
    let k = rest-as s c.args.node c.args.waiting _ w c.in-Name.is in
    let before = c.push_plain.new.self in
    leads-list s c.args.node w.place h seen (w.step c.args.out) (PartOf c.in-Name.used) c.in-Name.value before k.items k.step k.there k.used_is h.home
    (k.is c.args.out ∙ ap (λ (b : Output). w.place.inner w.place.frame k.items >>= (λ later. k.step (b ++ later))) (sym c.in_ok-push_plain-in-Name.ensures.ok))

pub returns-in_ok-bind_name-in-Binding : goal.returns-in_ok-bind_name-in-Binding
returns-in_ok-bind_name-in-Binding c =
    λ seen w.
    let s = c.args.self.now in
    let k = rest-as s c.args.node c.args.waiting _ w c.in-Binding.is in
    let found = plain_text_of (trimmed_output c.args.out) in
    let parsed = text_at w.place in
    let args = c.in_ok-bind_name-in-Binding.ensures in
    let binder = c.in-Binding.binder in
    let v = c.in-Binding.bound in
    record {
      page = refl;
      rest = w.step c.args.out;
      next_is = (
        within-as s c.args.node c.args.waiting _ w c.in-Binding.is,
        record {
          bindings = named_binding k.value found k.bindings;
          bound = record {
            shows = subst (λ x. ShowsBindings parsed x (named_binding k.value found k.bindings)) (sym args) (shows-named parsed binder.args k.bindings found v k.value k.value_is k.bound.shows);
            lists = subst (HasLists parsed) (sym args) (has-named parsed binder.args found v (some_of (list_with parsed v.value) k.value (k.value_is (codes "")).value) k.bound.lists);
            few = k.bound.few;
          };
          is = k.is c.args.out;
        },
      );
      passes = passes-as seen (w.step c.args.out) (w.step c.args.out) s refl;
    }

pub returns-in_ok-within_inclusion_limit-in-Included : goal.returns-in_ok-within_inclusion_limit-in-Included
returns-in_ok-within_inclusion_limit-in-Included c =
    λ seen w.
    let s = c.args.self.now in
    let within = within-as s c.args.node c.args.waiting _ w c.in-Included.is in
    let k = rest-as s c.args.node c.args.waiting _ w c.in-Included.is in
    let v = c.leave-level.new.self in
    let given = c.in_ok-within_inclusion_limit-in-Included.field-0 in
    let u = c.within_inclusion_limit.new.self in
    let come = c.in_ok-within_inclusion_limit-in-Included.ensures seen in
    let home : v ≡ w.place.home =
    ap₂ (λ r levels. record { root = r; included = levels })
    (c.leave-level.ensures.root ∙ ap (λ (x : LevelsShown). x.root) within.1)
    (ap (drop 1) (sym c.leave-level.ensures.included ∙ ap (λ (x : LevelsShown). x.included) within.1))
    in
    record {
      page = come.same.page;
      rest = give given;
      next_is = (come.same.levels ∙ home, refl);
      passes = passes-in seen (w.step c.args.out) (inclusion_within_limit c.in-Included.title c.args.out) (give given) s u (k c.args.out)
          (passes-levels seen (inclusion_within_limit c.in-Included.title c.args.out) (give given) s u v come.passes);
    }

pub returns-in_ok-bare_item-in-Bare : goal.returns-in_ok-bare_item-in-Bare
returns-in_ok-bare_item-in-Bare c =
    λ seen w.
    let s = c.args.self.now in
    let h = waits-here s c.args.node c.args.waiting w (within-as s c.args.node c.args.waiting _ w c.in-Bare.is) in
    let k = rest-as s c.args.node c.args.waiting _ w c.in-Bare.is in
    let p = w.place in
    leads-in seen p (w.step c.args.out) (switch_output p.inner p.viewed p.frame (behind_bare_item (search_of (text_at p) c.in-Bare.search) (trimmed_output c.args.out)) (drop c.in-Bare.next (parts_at p))) s c.in_ok-bare_item-in-Bare.field-0 s
    (k.is c.args.out) (c.in_ok-bare_item-in-Bare.ensures seen p h)

pub returns-in_ok-named_item-in-Named : goal.returns-in_ok-named_item-in-Named
returns-in_ok-named_item-in-Named c =
    λ seen w.
    let s = c.args.self.now in
    let h = waits-here s c.args.node c.args.waiting w (within-as s c.args.node c.args.waiting _ w c.in-Named.is) in
    let k = rest-as s c.args.node c.args.waiting _ w c.in-Named.is in
    let p = w.place in
    leads-in seen p (w.step c.args.out) (searched p k.value (drop c.in-Named.next (parts_at p)) (behind_turned (named_item c.in-Named.search.decides (trimmed_output c.args.out)) (search_of (text_at p) c.in-Named.search) k.value)) s c.in_ok-named_item-in-Named.field-0 s
    (k.is c.args.out) (c.in_ok-named_item-in-Named.ensures seen p k.value h k.there)
