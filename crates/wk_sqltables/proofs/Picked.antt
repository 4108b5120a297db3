-- What a statement on one table picks, and what a DELETE of it leaves.
use Rattle.std.proofs.Common.{◌≡◌, inl, inr, ℕ, ℤ, pos, negsuc, List, [], ◌∷◌, ◌++◌, map, filter, flat_map, Bool, true, false, not, ◌&&◌, ◌||◌, cond, if◌then◌else◌, None, refl, sym, ap, subst, ◌∙◌, Ordering, Less, Equal, Greater}
use Rattle.std.specs.List.{AllByRecursion, list_any, list_all}
use Rattle.std.specs.List.Sorted.{IsPermutation}
use Rattle.std.specs.Ordering.{is_eq}
use Rattle.std.proofs.lemmas.List.Sorted.{list_any-IsPermutation, IsPermutation-map}
use Rattle.std.proofs.lemmas.Cmp.{tied_itself}
use Rattle.sqlite_value.specs.declared.value.Value.TheVariants.{Int}
use Rattle.sqlite_value.specs.Order.{Row, value_cmp}
use Rattle.sqlite_value.proofs.OrderLemmas.{value_cmp_total}
use Rattle.sqlite_trees.specs.Tree.{Trees, IsTable, rowid, has_rowid, without_rowid}
use Rattle.sqlite_trees.specs.View.{is_int}
use Rattle.sqlite_sql.specs.Term.{Term, lit, holds, eval_all}
use Rattle.sqlite_sql.specs.Query.{Query, inner, end, IsAnswer, Output, output}
use Rattle.sqlite_rules.specs.Lists.{Has}
use Rattle.sqlite_rules.specs.Calls.{ids_of}
use Rattle.sqlite_rules.specs.Edit.{id_in, without_all}
use Rattle.sqlite_rules.proofs.ListLemmas.{some_has, some_from, has_filtered, has_kept}
use Rattle.sqlite_rules.proofs.TableLemmas.{int_is}
use Rattle.sqlite_rules.proofs.PlaceLemmas.{tied_same}

-- the rows of one table that pass the tests, as these terms show them
abbrev pub picked : ℕ → List Term → List Term → Query
picked tree tests project = record {
  from = inner tree end;
  filter = tests;
  group = None;
  project = project;
  distinct = false;
  collations = [];
  order = [];
  limit = lit (Int (negsuc 0));
  offset = lit (Int (pos 0));
}

abbrev pub passes_all : List Term → Row → Row → Bool
passes_all tests params r = list_all (holds (params ∷ r ∷ [])) tests

abbrev pub shows : List Term → Row → Row → Row
shows project params r = eval_all project (params ∷ r ∷ [])

outputs : (tree : ℕ) (tests project : List Term) (params : Row) (rows : List Row)
    → map (output (picked tree tests project)) (flat_map (λ r. if list_all (holds (params ∷ r ∷ [])) tests then (params ∷ r ∷ []) ∷ [] else []) rows)
    ≡ map (λ r. ([], shows project params r)) (filter (passes_all tests params) rows)
outputs tree tests project params [] = refl
outputs tree tests project params (r ∷ rows) = go (passes_all tests params r) (outputs tree tests project params rows)
  where
    go : (b : Bool)
        → map (output (picked tree tests project)) (flat_map (λ r. if list_all (holds (params ∷ r ∷ [])) tests then (params ∷ r ∷ []) ∷ [] else []) rows)
        ≡ map (λ r. ([], shows project params r)) (filter (passes_all tests params) rows)
        → map (output (picked tree tests project)) ((if b then (params ∷ r ∷ []) ∷ [] else []) ++ flat_map (λ r. if list_all (holds (params ∷ r ∷ [])) tests then (params ∷ r ∷ []) ∷ [] else []) rows)
        ≡ map (λ r. ([], shows project params r)) (cond b (r ∷ filter (passes_all tests params) rows) (filter (passes_all tests params) rows))
    go true h = ap (λ xs. ([], shows project params r) ∷ xs) h
    go false h = h

map_second : {X Y Z : Type 0} (f : X → Y × Z) (xs : List X) → map (λ (p : Y × Z). p.1) (map f xs) ≡ map (λ x. (f x).1) xs
map_second f [] = refl
map_second f (x ∷ xs) = ap (λ l. (f x).1 ∷ l) (map_second f xs)

pub picks : (tree : ℕ) (tests project : List Term) (db : Trees) (params : Row) (rows : List Row) → IsAnswer (picked tree tests project) db params rows
    → IsPermutation (map (shows project params) (filter (passes_all tests params) (db tree))) rows
picks tree tests project db params rows a =
    let q = picked tree tests project in
    let kept : a.kept ≡ map (λ r. ([], shows project params r)) (filter (passes_all tests params) (db tree)) =
    a.distinct ∙ ap (map (output q)) a.grouped ∙ outputs tree tests project params (db tree) in
    let moved = IsPermutation-map (λ (o : Output). o.1) a.kept a.ordered a.same in
    let left = ap (map (λ (o : Output). o.1)) kept ∙ map_second (λ r. ([], shows project params r)) (filter (passes_all tests params) (db tree)) in
    subst (λ l. IsPermutation l rows) left (subst (IsPermutation (map (λ (o : Output). o.1) a.kept)) (sym a.shown) moved)

-- ---- DELETE

filter_twice : {X : Type 0} (p q : X → Bool) (xs : List X) → filter p (filter q xs) ≡ filter (λ x. q x && p x) xs
filter_twice p q [] = refl
filter_twice p q (x ∷ xs) = go (q x) (filter_twice p q xs)
  where
    go : (b : Bool) → filter p (filter q xs) ≡ filter (λ x. q x && p x) xs
        → filter p (cond b (x ∷ filter q xs) (filter q xs)) ≡ cond (b && p x) (x ∷ filter (λ x. q x && p x) xs) (filter (λ x. q x && p x) xs)
    go true h = ap (λ l. cond (p x) (x ∷ l) l) h
    go false h = h

pub filter_alike : {X : Type 0} (p q : X → Bool) (xs : List X) → ((x : X) → Has xs x → p x ≡ q x) → filter p xs ≡ filter q xs
filter_alike p q [] same = refl
filter_alike p q (x ∷ xs) same =
    ap (λ b. cond b (x ∷ filter p xs) (filter p xs)) (same x (inl refl)) ∙ ap (λ l. cond (q x) (x ∷ l) l) (filter_alike p q xs (λ y h. same y (inr h)))

not_or : (a b : Bool) → (not b && not a) ≡ not (b || a)
not_or true true = refl
not_or true false = refl
not_or false true = refl
not_or false false = refl

without_all_is : (ids : List ℤ) (rows : List Row) → without_all rows ids ≡ filter (λ r. not (list_any (λ id. has_rowid id r) ids)) rows
without_all_is [] [] = refl
without_all_is [] (r ∷ rows) = ap (λ l. r ∷ l) (without_all_is [] rows)
without_all_is (id ∷ ids) rows =
    without_all_is ids (without_rowid id rows)
    ∙ filter_twice _ _ rows
    ∙ filter_alike _ _ rows (λ r h. not_or (list_any (λ i. has_rowid i r) ids) (has_rowid id r))

equal_is : (o : Ordering) → is_eq o ≡ true → o ≡ Equal
equal_is Less h = absurd (cc)
equal_is Equal h = refl
equal_is Greater h = absurd (cc)

both_true : (a b : Bool) → (a ≡ true → b ≡ true) → (b ≡ true → a ≡ true) → a ≡ b
both_true true b f g = sym (f refl)
both_true false true f g = g refl
both_true false false f g = refl

has_mapped : {X Y : Type 0} (f : X → Y) (xs : List X) (x : X) → Has xs x → Has (map f xs) (f x)
has_mapped f [] x h = absurd h
has_mapped f (y ∷ ys) x (inl h) = inl (ap f h)
has_mapped f (y ∷ ys) x (inr h) = inr (has_mapped f ys x h)

was_mapped : {X Y : Type 0} (f : X → Y) (xs : List X) (y : Y) → Has (map f xs) y → (x : X) × Has xs x × (y ≡ f x)
was_mapped f [] y h = absurd h
was_mapped f (x ∷ xs) y (inl h) = (x, inl refl, h)
was_mapped f (x ∷ xs) y (inr h) = let found = was_mapped f xs y h in (found.0, inr found.1, found.2)

module _ (rows : List Row) (rise : IsTable rows) (keyed : AllByRecursion (λ r. is_int (rowid r) ≡ true) rows) (p : Row → Bool) where
  key_of : (r : Row) → Has rows r → rowid r ≡ Int (id_in (rowid r))
  key_of r h = int_is (rowid r) (Rattle.sqlite_rules.proofs.ListLemmas.all_has _ rows r keyed h)

  -- a row's number is among those of the rows that pass exactly where it passes
  named : (r : Row) → Has rows r → list_any (λ id. has_rowid id r) (ids_of (map (λ x. rowid x ∷ []) (filter p rows))) ≡ p r
  named r here = both_true _ _ down up
    where
      down : list_any (λ id. has_rowid id r) (ids_of (map (λ x. rowid x ∷ []) (filter p rows))) ≡ true → p r ≡ true
      down any =
          let hit = some_has _ (ids_of (map (λ x. rowid x ∷ []) (filter p rows))) any in
          let shown = was_mapped (λ x. id_in (rowid x)) (map (λ x. rowid x ∷ []) (filter p rows)) hit.0 hit.1 in
          let kept = was_mapped (λ x. rowid x ∷ []) (filter p rows) shown.0 shown.1 in
          let there = has_filtered p rows kept.0 kept.1 in
          let id : hit.0 ≡ id_in (rowid kept.0) = shown.2 ∙ ap (λ row. id_in (rowid row)) kept.2 in
          let tie = equal_is _ (rw (id, sym (key_of kept.0 there.0)) at hit.2) in
          let same = tied_same rows r kept.0 rise here there.0 tie in
          ap p same ∙ there.1

      up : p r ≡ true → list_any (λ id. has_rowid id r) (ids_of (map (λ x. rowid x ∷ []) (filter p rows))) ≡ true
      up passes =
          let id = id_in (rowid r) in
          let in_ids = has_mapped (λ x. id_in (rowid x)) _ _ (has_mapped (λ x. rowid x ∷ []) _ r (has_kept p rows r here passes)) in
          some_from _ _ id in_ids (ap is_eq (ap (λ v. value_cmp v (Int id)) (key_of r here) ∙ tied_itself value_cmp_total (Int id)))

  -- So a DELETE leaves the rows that don't pass, in whatever order the query gave them.
  pub leaves : (found : List Row) → IsPermutation (map (λ x. rowid x ∷ []) (filter p rows)) found → without_all rows (ids_of found) ≡ filter (λ r. not (p r)) rows
  leaves found same =
      let ids = IsPermutation-map (λ x. id_in (rowid x)) _ found same in
      without_all_is (ids_of found) rows
      ∙ filter_alike _ _ rows (λ r here. ap not (sym (list_any-IsPermutation (λ id. has_rowid id r) _ _ ids) ∙ named r here))
