-- What is bound in a page, in the code and in the rules.
use Rattle.std.proofs.Common.{ℕ, cond, Bool, true, false, List, [], ◌∷◌, Option, Some, None, IsSome, sym, subst}
use Rattle.std.specs.Prelude.{bytes_eq, find}
use Rattle.std.specs.Option.{IfSome}
use Rattle.std.specs.FinMap.{FinMap, insert, empty}
use Rattle.std.specs.Ordering.{nat_cmp}
use Rattle.std.specs.Cmp.Lexicographic.{slice_cmp}
use Rattle.wk_args.specs.Args.{bound}
use Rattle.wk_args.proofs.Bindings.{bound-insert, bound-empty}
use Rattle.wk_tree_rules.specs.Trees.{Item}
use Rattle.wk_tree.specs.Parsed.{ParsedText, list_with}
use Rattle.wk_view_rules.specs.Frames.{Binding}
use Rattle.wk_frames.specs.Bindings.{named_binding, named_in}
use Rattle.wk_frames.specs.Frames.{IsBinding, IsBindingIn, ShowsBindings}
use Rattle.wk_frames.specs.Levels.{HasLists}
use Rattle.wk_frames.specs.declared.levels.Bound.{Bound}

bound_if : (caller : ParsedText) (t : Bool) (v : Bound) (b : Binding) (o : Option Bound) (p : Option Binding) → IsBinding caller v b → IsBindingIn caller o p → IsBindingIn caller (cond t (Some v) o) (cond t (Some b) p)
bound_if caller true v b o p new old = new
bound_if caller false v b o p new old = old

-- one more name is bound
pub shows-more : (caller : ParsedText) (args : FinMap (slice_cmp nat_cmp) Bound) (bindings : List Binding) (v : Bound) (b : Binding) → IsBinding caller v b → ShowsBindings caller args bindings → ShowsBindings caller (insert args b.name v) (b ∷ bindings)
shows-more caller args bindings v b new old = record {
  shows = λ name.
      subst (λ o. IsBindingIn caller o (find (λ (x : Binding). bytes_eq x.name name) (b ∷ bindings))) (sym (bound-insert args b.name v name))
      (bound_if caller (bytes_eq b.name name) v b (bound args name) (find (λ (x : Binding). bytes_eq x.name name) bindings) new (old.shows name));
}

pub shows-none : (caller : ParsedText) → ShowsBindings caller (empty {X = Bound} {R = slice_cmp nat_cmp}) []
shows-none caller = record { shows = λ name. subst (λ o. IsBindingIn caller o None) (sym (bound-empty name)) tt }

list_if : (caller : ParsedText) (t : Bool) (v : Bound) (o : Option Bound) → IsSome (list_with caller v.value) → IfSome o (λ (w : Bound). IsSome (list_with caller w.value)) → IfSome (cond t (Some v) o) (λ (w : Bound). IsSome (list_with caller w.value))
list_if caller true v o new old = new
list_if caller false v o new old = old

pub has-more : (caller : ParsedText) (args : FinMap (slice_cmp nat_cmp) Bound) (name : List ℕ) (v : Bound) → IsSome (list_with caller v.value) → HasLists caller args → HasLists caller (insert args name v)
has-more caller args name v new old = record {
  lists = λ other.
      subst (λ o. IfSome o (λ (w : Bound). IsSome (list_with caller w.value))) (sym (bound-insert args name v other))
      (list_if caller (bytes_eq name other) v (bound args other) new (old.lists other));
}

pub has-none : (caller : ParsedText) → HasLists caller (empty {X = Bound} {R = slice_cmp nat_cmp})
has-none caller = record {
  lists = λ name. subst (λ o. IfSome o (λ (w : Bound). IsSome (list_with caller w.value))) (sym (bound-empty name)) tt;
}

pub has-named : (caller : ParsedText) (args : FinMap (slice_cmp nat_cmp) Bound) (found : Option (List ℕ)) (v : Bound) → IsSome (list_with caller v.value) → HasLists caller args → HasLists caller (named_in args found v)
has-named caller args None v new old = old
has-named caller args (Some name) v new old = has-more caller args name v new old

pub shows-named : (caller : ParsedText) (args : FinMap (slice_cmp nat_cmp) Bound) (bindings : List Binding) (found : Option (List ℕ)) (v : Bound) (value : List Item) → ((name : List ℕ) → IsBinding caller v (record { name = name; value = value; named = true })) → ShowsBindings caller args bindings → ShowsBindings caller (named_in args found v) (named_binding value found bindings)
shows-named caller args bindings None v value new old = old
shows-named caller args bindings (Some name) v value new old = shows-more caller args bindings v (record { name = name; value = value; named = true }) (new name) old
