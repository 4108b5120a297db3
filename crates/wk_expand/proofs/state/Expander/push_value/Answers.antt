use Rattle.std.proofs.Common.{◌≡◌, ℕ, ◌/◌, ◌++◌, List, [], ◌∷◌, IsSome, refl, sym, subst, ap, ◌∙◌}
use Rattle.std.proofs.lemmas.List.{length-map}
use Rattle.std.specs.Bool.{if◌then◌else◌}
use Rattle.wk_text_rules.specs.Blank.{trimmed}
use Rattle.wk_text_rules.specs.Marked.{plain, all_plain}
use Rattle.wk_tree.specs.Parsed.{ParsedText, list_with}
use Rattle.wk_tree.specs.declared.item.NodeId.{NodeId}
use Rattle.wk_view_rules.specs.Expand.{argument_value}
use Rattle.wk_view_rules.specs.Expansions.{Expansion, Output, argument_within_limit, charged, give, ◌>>=◌}
use Rattle.wk_view_rules.specs.Frames.{Binding, binding_length, caller}
use Rattle.wk_view_rules.specs.Texts.{argument_error, node_error}
use Rattle.wk_view_rules.specs.Worlds.{Seen}
use Rattle.wk_expand.specs.Items.{IsPlainText}
use Rattle.wk_expand.specs.Running.{ComesTo}
use Rattle.wk_expand.specs.Stack.{IsHere, Place}
use Rattle.wk_frames.specs.Frames.{IsBinding}
use Rattle.wk_expand.specs.State.{caller_tree, progress_of}
use Rattle.wk_frames.specs.declared.levels.Bound.{Bound}
use Rattle.wk_expand.specs.declared.state.Expander.{Expander}
use Rattle.wk_expand.proofs.LeadLaws.{frame-here, here-later, leads-comes}
use Rattle.wk_expand.proofs.PlainLaws.{counted, value-plain}
use Rattle.wk_expand.proofs.PageLaws.{behind_value, caller-same, charged-as, frame-left, list-left, run_value, value-is, within-same}
use Rattle.wk_expand.proofs.RunLaws.{comes-in, comes-on, comes-out, gives-then, passes-at, passes-on}
use Rattle.wk_expand.proofs.WrittenLaws.{bind-same}
use Rattle.wk_expand.proofs.state.Expander.push_value.Goals as goal

-- a value that is one plain part is counted next
value-begun : (seen : Seen) (s t : Expander) (p : Place) (id : NodeId) (b : Binding) (v : Bound) (text shown : List ℕ) → IsHere s id p → IsBinding (caller_tree s) v b → ((rest : Expansion Output) → ComesTo seen (charged (v.len / 64) rest) s rest t) → (outer : ParsedText) → outer ≡ caller_tree t → IsPlainText outer v.value text → shown ≡ (if v.named then trimmed text else text) → ComesTo seen (argument_value p.inner p.viewed p.frame b) s (argument_within_limit (all_plain shown)) t
value-begun seen s t p id b v text shown h is_b charges outer is alone is_shown =
    let whole = argument_value p.inner p.viewed p.frame b in
    let rest = run_value p.inner p.viewed p.frame b in
    let begun : ComesTo seen whole s rest t =
    comes-in seen whole (charged (binding_length b / 64) rest) rest s t (value-is p.inner p.viewed p.frame b)
    (charged-as seen v.len (binding_length b) rest rest s t is_b.len (charges rest))
    in
    comes-out seen whole rest (argument_within_limit (all_plain shown)) s t
    (value-plain p.inner p.viewed p.frame h.is.plainly (caller_tree s) v b text shown (subst (λ (parsed : ParsedText). IsPlainText parsed v.value text) (is ∙ caller-same s t begun.same) alone) is_b is_shown)
    begun

pub returns-then-not-charge : goal.returns-then-not-charge
returns-then-not-charge c =
    λ seen p id b h is_b.
    let s = c.args.self.now in
    let t = c.charge.new.self in
    let whole = argument_value p.inner p.viewed p.frame b in
    let rest = run_value p.inner p.viewed p.frame b in (
      leads-comes s id p h seen whole c.in_ok-node_error.field-0 t
          (gives-then seen whole (give node_error) s t node_error c.in_ok-node_error.field-0
          (comes-in seen whole (charged (binding_length b / 64) rest) (give node_error) s t (value-is p.inner p.viewed p.frame b)
          (charged-as seen c.args.bound.len (binding_length b) rest (give node_error) s t is_b.len (c.if-not-charge.ensures.spent seen rest)))
          refl c.in_ok-node_error.ensures),
      refl,
    )

pub plain_text-requires : goal.plain_text-requires
plain_text-requires c =
    let s = c.args.self.now in
    let t = c.charge.new.self in
    let same = (c.if-not-charge.ensures.within [] (give [])).same in
    subst (λ (parsed : ParsedText). IsSome (list_with parsed c.args.bound.value)) (sym (c.outer.ensures ∙ caller-same s t same)) c.requires.list

pub returns-then-not-add_argument : goal.returns-then-not-add_argument
returns-then-not-add_argument c =
    λ seen p id b h is_b.
    let s = c.args.self.now in
    let t = c.charge.new.self in
    let u : Expander = record t { counts = c.add_argument.new.self } in
    let whole = argument_value p.inner p.viewed p.frame b in
    let shown = c.value_text-text.result.now in
    let begun = value-begun seen s t p id b c.args.bound c.in-Some.text.now shown h is_b (c.if-not-charge.ensures.within seen) c.outer.result.now c.outer.ensures c.in-Some.ensures c.value_text-text.ensures in
    let over = counted seen t c.add_argument.new.self (all_plain shown) argument_error (c.if-not-add_argument.ensures.beyond (all_plain shown) t.tested.items (length-map shown plain)) in (
      leads-comes s id p h seen whole c.in_ok-argument_error.field-0 u
          (subst (λ (o : Output). ComesTo seen whole s (give o) u) (sym c.in_ok-argument_error.ensures)
          (comes-on seen whole (argument_within_limit (all_plain shown)) (give argument_error) s t u begun over)),
      refl,
    )

pub returns-in-Some : goal.returns-in-Some
returns-in-Some c =
    λ seen p id b h is_b.
    let s = c.args.self.now in
    let t = c.charge.new.self in
    let u : Expander = record t { counts = c.add_argument.new.self } in
    let whole = argument_value p.inner p.viewed p.frame b in
    let shown = c.value_text-text.result.now in
    let begun = value-begun seen s t p id b c.args.bound c.in-Some.text.now shown h is_b (c.if-not-charge.ensures.within seen) c.outer.result.now c.outer.ensures c.in-Some.ensures c.value_text-text.ensures in
    let fits = counted seen t c.add_argument.new.self (all_plain shown) (all_plain shown) (c.if-not-add_argument.ensures.within (all_plain shown) t.tested.items (length-map shown plain)) in
    record {
      one = all_plain shown;
      comes = comes-on seen whole (argument_within_limit (all_plain shown)) (give (all_plain shown)) s t u begun fits;
      behind = c.in_ok-push_plain.ensures.ok;
    }

pub leave-level-requires : goal.leave-level-requires
leave-level-requires c = within-same c.args.self.now c.charge.new.self (c.if-not-charge.ensures.within [] (give [])).same c.requires.within

pub returns : goal.returns
returns c =
    λ seen p id b h is_b.
    let s = c.args.self.now in
    let t = c.charge.new.self in
    let whole = argument_value p.inner p.viewed p.frame b in
    let rest = run_value p.inner p.viewed p.frame b in
    let v = c.leave-level.new.self in
    let level = c.leave-level.result in
    let u = record t { levels = v } in
    let before = c.new-before.result in
    let behind = behind_value p.inner p.viewed p.frame c.args.bound.named in
    let begun : ComesTo seen whole s rest t =
    comes-in seen whole (charged (binding_length b / 64) rest) rest s t (value-is p.inner p.viewed p.frame b)
    (charged-as seen c.args.bound.len (binding_length b) rest rest s t is_b.len (c.if-not-charge.ensures.within seen rest))
    in
    let later = here-later s id p h t begun.same in
    let in_caller = frame-left t p.viewed p.frame level v c.leave-level.ensures.included c.leave-level.ensures.root (frame-here t id p later) in
    let home : p.home ≡ record v { included = level ∷ v.included } =
    sym later.home ∙ (λ i. record { root = sym c.leave-level.ensures.root i; included = c.leave-level.ensures.included i })
    in
    let value = p.inner (caller p.frame) b.value in
    let next : Expansion Output = value >>= (λ out. behind (before ++ out)) in
    let same : rest ≡ next =
    bind-same value (behind_value p.inner p.viewed p.frame b.named) (λ out. behind (before ++ out)) (λ out.
    ap (λ n. behind_value p.inner p.viewed p.frame n out) (sym is_b.named) ∙ ap (λ (o : Output). behind (o ++ out)) (sym c.new-before.ensures))
    in (
      record {
        page = begun.same.page;
        rest = next;
        next_is = record {
          within = (home, c.leave-level.ensures.lists);
          frame = caller p.frame;
          shows = in_caller.shows;
          items = b.value;
          there = list-left s t level v c.args.bound.value b.value begun.same c.leave-level.ensures.included c.leave-level.ensures.root is_b.value;
          step = behind;
          step_is = λ out. refl;
          is = refl;
        };
        passes = passes-on seen whole rest next s t u begun.passes (passes-at seen rest next t u refl (ap (λ (e : Expansion Output). e (progress_of t)) same));
      },
      refl,
    )
