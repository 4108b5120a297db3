-- Values that are bound to names, as the code keeps them and as the rules see them.
use Rattle.std.proofs.Common.{◌≡◌, ℕ, zero, suc, ◌<◌, cond, Bool, true, false, List, [], ◌∷◌, ◌++◌, length, map, reverse, Option, Some, None, refl, sym, ap, subst, arith, ◌∙◌}
use Rattle.std.specs.Prelude.{bytes_eq, find, string_bytes}
use Rattle.std.specs.List.{slice_get}
use Rattle.std.specs.Option.{IfSome, option_map}
use Rattle.std.specs.FinMap.{FinMap, insert, empty}
use Rattle.std.specs.Ordering.{nat_cmp}
use Rattle.std.specs.Cmp.Lexicographic.{slice_cmp}
use Rattle.std.proofs.lemmas.List.{length-append, map-append, reverse-append}
use Rattle.wk_args.specs.Args.{bound}
use Rattle.wk_args.proofs.Bindings.{bound-insert, bound-empty}
use Rattle.wk_subst_rules.specs.Places.{Bound, value_bound}
use Rattle.wk_subst.specs.Bindings.{IsLast, bound_of, one_bound, value_at}
use Rattle.wk_subst.specs.declared.bindings.Binding.{Binding}

abbrev Places : Type 0
Places = FinMap (slice_cmp nat_cmp) ℕ

pub last-none : (all : List Binding) (last : Places) → all ≡ [] → last ≡ empty → IsLast all last
last-none all last all_is last_is =
    subst (λ (x : List Binding). IsLast x last) (sym all_is)
    (subst (λ (m : Places). IsLast [] m) (sym last_is) (record {
      within = λ name. subst (λ (o : Option ℕ). IfSome o (λ at. at < 0)) (sym (bound-empty name)) tt;
      shows = λ name. ap (value_at []) (bound-empty name);
    }))

-- ---- one more

pub bound-more : (all : List Binding) (b : Binding) → bound_of (all ++ b ∷ []) ≡ one_bound b ∷ bound_of all
bound-more all b = ap reverse (map-append one_bound all (b ∷ [])) ∙ reverse-append (map one_bound all) (one_bound b ∷ [])

get-before : (all : List Binding) (b : Binding) (at : ℕ) → at < length all → slice_get (all ++ b ∷ []) at ≡ slice_get all at
get-before [] b at h = absurd (omega arith)
get-before (x ∷ all) b zero h = refl
get-before (x ∷ all) b (suc at) h = get-before all b at (omega arith)

get-last : (all : List Binding) (b : Binding) → slice_get (all ++ b ∷ []) (length all) ≡ Some b
get-last [] b = refl
get-last (x ∷ all) b = get-last all b

at-before : (all : List Binding) (b : Binding) (o : Option ℕ) → IfSome o (λ at. at < length all) → value_at (all ++ b ∷ []) o ≡ value_at all o
at-before all b None h = refl
at-before all b (Some at) h = ap (option_map (λ (x : Binding). x.value)) (get-before all b at h)

within-more : (all : List Binding) (b : Binding) (o : Option ℕ) → IfSome o (λ at. at < length all) → IfSome o (λ at. at < length (all ++ b ∷ []))
within-more all b None h = tt
within-more all b (Some at) h = omega (arith, h, length-append all (b ∷ []))

module _ (all : List Binding) (b : Binding) (o : Option ℕ) (name : List ℕ) (h : IfSome o (λ at. at < length all)) where
  within-by : (t : Bool) → IfSome (cond t (Some (length all)) o) (λ at. at < length (all ++ b ∷ []))
  within-by true = omega (arith, length-append all (b ∷ []))
  within-by false = within-more all b o h

  shows-by : (t : Bool) → value_at all o ≡ value_bound (bound_of all) name → value_at (all ++ b ∷ []) (cond t (Some (length all)) o) ≡ option_map (λ (x : Bound). x.value) (cond t (Some (one_bound b)) (find (λ (x : Bound). bytes_eq x.name name) (bound_of all)))
  shows-by true e = ap (option_map (λ (x : Binding). x.value)) (get-last all b)
  shows-by false e = at-before all b o h ∙ e

pub last-more : (all next : List Binding) (b : Binding) (name : List ℕ) (last later : Places) → next ≡ all ++ b ∷ [] → string_bytes b.name ≡ name → later ≡ insert last name (length all) → IsLast all last → IsLast next later
last-more all next b name last later next_is name_is later_is h =
    subst (λ (x : List Binding). IsLast x later) (sym next_is)
    (subst (λ (m : Places). IsLast (all ++ b ∷ []) m) (sym later_is)
    (subst (λ (n : List ℕ). IsLast (all ++ b ∷ []) (insert last n (length all))) name_is (record {
      within = λ other.
          subst (λ (o : Option ℕ). IfSome o (λ at. at < length (all ++ b ∷ []))) (sym (bound-insert last (string_bytes b.name) (length all) other))
          (within-by all b (bound last other) other (h.within other) (bytes_eq (string_bytes b.name) other));
      shows = λ other.
          ap (value_at (all ++ b ∷ [])) (bound-insert last (string_bytes b.name) (length all) other)
          ∙ shows-by all b (bound last other) other (h.within other) (bytes_eq (string_bytes b.name) other) (h.shows other)
          ∙ ap (λ (xs : List Bound). value_bound xs other) (sym (bound-more all b));
    })))
