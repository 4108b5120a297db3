-- A loop that adds a row for each item.
use Rattle.std.proofs.Common.{◌≡◌, ◌+◌, ◌<◌, ◌≤◌, ℕ, List, [], ◌∷◌, ◌++◌, map, take, length, get_or, append-nil, eqb, true, arith, refl, sym, ap, subst, ◌∙◌}
use Rattle.std.proofs.lemmas.List.{take_more, take_all, append_assoc}
use Rattle.std.proofs.lemmas.Bool.Decides.{nat_tests}
use Rattle.sqlite_value.specs.Order.{Row}
use Rattle.sqlite_trees.specs.Tree.{Trees}
use Rattle.sqlite.specs.Effect.{Database}
use Rattle.sqlite.specs.State.{State, IsUnchanged}
use Rattle.wk_sqltables.specs.Held.{AreStored, IsInStore, KeepsBut, RewritesAll}
use Rattle.wk_sqltables.proofs.Frames.{keeps_on, keeps_same}
use Rattle.wk_sqltables.proofs.Stored.{map_append}

module _ {X Y : Type 0} (tree : ℕ) (values : X → Row) (row : Y → X) where
  abbrev Added : List Y → State → State → Type 0
  Added ys old new = RewritesAll tree values (λ items. items ++ map row ys) old new

  pub adds_nothing : (s : State) → Added [] s s
  adds_nothing s items in_store are = record {
    in_store = in_store;
    items_are = subst (AreStored values (s.now.trees tree)) (sym (append-nil items)) are;
    others = keeps_same tree s.now.trees s.now.trees refl;
  }

  take_none : (ys : List Y) → take 0 ys ≡ []
  take_none [] = refl
  take_none (y ∷ ys) = refl

  pub adds_first : (s : State) (ys : List Y) → Added (take 0 ys) s s
  adds_first s ys = subst (λ l. Added l s s) (sym (take_none ys)) (adds_nothing s)

  no_items : (ys : List Y) → eqb (length ys) 0 ≡ true → ys ≡ []
  no_items [] none = refl
  no_items (y ∷ ys) none = absurd (grind (arith, nat_tests))

  pub adds_empty : (s : State) (ys : List Y) → eqb (length ys) 0 ≡ true → Added ys s s
  adds_empty s ys none = subst (λ l. Added l s s) (sym (no_items ys none)) (adds_nothing s)

  pub adds_more : (old mid new : State) (ys : List Y) (i : ℕ) (y : Y) → i < length ys → y ≡ get_or ys i y → Added (take i ys) old mid → RewritesAll tree values (λ items. items ++ row y ∷ []) mid new
      → Added (take (i + 1) ys) old new
  adds_more old mid new ys i y low is before adds items in_store are =
      let done = take i ys in
      let first = before items in_store are in
      let second = adds (items ++ map row done) first.in_store first.items_are in
      let more : take (i + 1) ys ≡ done ++ y ∷ [] = take_more ys i y low ∙ ap (λ z. done ++ z ∷ []) (sym is) in
      let both : items ++ map row done ++ row y ∷ [] ≡ items ++ map row (take (i + 1) ys) =
      append_assoc items (map row done) (row y ∷ []) ∙ ap (λ l. items ++ l) (sym (map_append row done (y ∷ [])) ∙ ap (map row) (sym more)) in
      record {
        in_store = second.in_store;
        items_are = subst (AreStored values (new.now.trees tree)) both second.items_are;
        others = keeps_on tree old.now.trees mid.now.trees new.now.trees first.others second.others;
      }

  pub adds_all : (old new : State) (ys : List Y) (i : ℕ) → length ys ≤ i → Added (take i ys) old new → Added ys old new
  adds_all old new ys i high h = subst (λ l. Added l old new) (take_all i ys high) h

-- what comes after a step that changed nothing
pub after_unchanged : {X : Type 0} (tree : ℕ) (values : X → Row) (change : List X → List X) (old mid new : State) → IsUnchanged old mid → RewritesAll tree values change mid new → RewritesAll tree values change old new
after_unchanged tree values change old mid new same later items in_store are =
    let trees : mid.now.trees ≡ old.now.trees = ap (λ (d : Database). d.trees) same.0.now_is in
    let mid_store : IsInStore mid = record { inside = rw same.0.mode in_store.inside; schema = ap (λ (d : Database). d.schema) same.0.now_is ∙ in_store.schema } in
    let it = later items mid_store (subst (λ l. AreStored values l items) (sym (ap (λ (db : Trees). db tree) trees)) are) in
    record { in_store = it.in_store; items_are = it.items_are; others = subst (λ db. KeepsBut tree db new.now.trees) trees it.others }
