-- The queries that read whole tables, and the rows that they give.
use Rattle.std.proofs.Common.{◌≡◌, ℕ, pos, negsuc, List, [], ◌∷◌, map, flat_map, drop, false, None, refl, sym, ap, subst, ◌∙◌, Less}
use Rattle.std.specs.List.{AllByRecursion}
use Rattle.std.specs.List.Sorted.{IsPermutation}
use Rattle.std.proofs.lemmas.List.Sorted.{IsPermutation-map}
use Rattle.sqlite_value.specs.declared.keys.Collation.TheVariants.{Binary}
use Rattle.sqlite_value.specs.declared.keys.Key.{Key}
use Rattle.sqlite_value.specs.declared.value.Value.TheVariants.{Null, Int}
use Rattle.sqlite_value.specs.Order.{Row, value_cmp}
use Rattle.sqlite_trees.specs.Tree.{Trees, IsTable, IsAscending, rowid}
use Rattle.sqlite_sql.specs.Term.{Term, lit, col}
use Rattle.sqlite_sql.specs.Query.{Query, inner, end, IsAnswer, Output, output, output_cmp, page}
use Rattle.sqlite.specs.Command.TheVariants.{Select}
use Rattle.sqlite.specs.Program.{overlay}
use Rattle.sqlite.specs.Listing.{understood, reads_listing}
use Rattle.sqlite.specs.State.{State, Shown}
use Rattle.sqlite.proofs.Callers.{IsPlain, command_of, reads_as}
use Rattle.sqlite_sql.proofs.QueryLemmas.{output_cmp_total}
use Rattle.sqlite_keyed.proofs.SortLemmas.{sorted_unique}
use Rattle.wk_sqltables.specs.StoreSchema.{store_schema}
use Rattle.wk_sqltables.specs.Entries.{entry}
use Rattle.wk_sqltables.specs.Held.{AreKeyed, AreStored}

abbrev ascending : Key
ascending = record { collation = Binary; descending = false }

-- all rows of a table, as these terms show them, in the order of these
abbrev pub listed : ℕ → List Term → List Term → Query
listed tree project keys = record {
  from = inner tree end;
  filter = [];
  group = None;
  project = project;
  distinct = false;
  collations = [];
  order = map (λ key. (key, ascending)) keys;
  limit = lit (Int (negsuc 0));
  offset = lit (Int (pos 0));
}

-- what the text of a query means
pub record Lists (text : List ℕ) (tree : ℕ) (project keys : List Term) (names : List (List ℕ)) : Type 0 where
  pub is : command_of (understood store_schema text) ≡ Select (record { lets = []; body = listed tree project keys }) names
  pub plain : IsPlain (understood store_schema text)
  pub unlisted : reads_listing store_schema text ≡ false
  pub stays : (db : Trees) → overlay db [] tree ≡ db tree

second_of : {X Y Z : Type 0} (f : X → Y × Z) (xs : List X) → map (λ (p : Y × Z). p.1) (map f xs) ≡ map (λ x. (f x).1) xs
second_of f [] = refl
second_of f (x ∷ xs) = ap (λ l. (f x).1 ∷ l) (second_of f xs)

-- ---- a table whose first column is the row number

module _ {X : Type 0} (values : X → Row) (key : X → ℕ) (tree : ℕ) (project : List Term) where
  abbrev by_number : Query
  by_number = listed tree project (col 1 0 ∷ [])

  abbrev numbered : X → Output
  numbered x = (Int (pos (key x)) ∷ [], values x)

  -- each row shows its values behind its number
  abbrev pub ShowsKeyed : Type 0
  ShowsKeyed = (x : X) → (output by_number ([] ∷ entry (values x) ∷ []) ≡ numbered x) × (rowid (entry (values x)) ≡ Int (pos (key x)))

  module _ (shows : ShowsKeyed) where
    outputs : (xs : List X) → map (output by_number) (flat_map (λ r. ([] ∷ r ∷ []) ∷ []) (map (λ x. entry (values x)) xs)) ≡ map numbered xs
    outputs [] = refl
    outputs (x ∷ xs) = rw (shows x).0 (ap (λ l. numbered x ∷ l) (outputs xs))

    lower : (a b : X) → value_cmp (Int (pos (key a))) (Int (pos (key b))) ≡ Less → output_cmp by_number (numbered a) (numbered b) ≡ Less
    lower a b h = rw h refl

    below : (x : X) (xs : List X) → AllByRecursion (λ r. value_cmp (rowid (entry (values x))) (rowid r) ≡ Less) (map (λ y. entry (values y)) xs) → AllByRecursion (λ o. output_cmp by_number (numbered x) o ≡ Less) (map numbered xs)
    below x [] all = tt
    below x (y ∷ ys) all = (lower x y (rw ((shows x).1, (shows y).1) at all.0), below x ys all.1)

    rises : (xs : List X) → IsTable (map (λ x. entry (values x)) xs) → IsAscending (λ a b. output_cmp by_number a b ≡ Less) (map numbered xs)
    rises [] up = tt
    rises (x ∷ xs) up = (below x xs up.0, rises xs up.1)

    pub gives_keyed : (text : List ℕ) (names : List (List ℕ)) → Lists text tree project (col 1 0 ∷ []) names → (old new : State) (xs : List X) (rows : List Row) → old.now.schema ≡ store_schema → AreKeyed values (old.now.trees tree) xs
        → Shown text [] old new rows → rows ≡ map values xs
    gives_keyed text names lists old new xs rows has are h =
        let got = reads_as text [] old new store_schema has _ lists.is lists.plain lists.unlisted rows h in
        let a : IsAnswer by_number (overlay old.now.trees []) [] rows = got.answer Null in
        let kept : a.kept ≡ map numbered xs = a.distinct ∙ ap (map (output by_number)) (a.grouped ∙ ap (flat_map (λ r. ([] ∷ r ∷ []) ∷ [])) (lists.stays old.now.trees ∙ are.rows_are)) ∙ outputs xs in
        let ordered : a.ordered ≡ map numbered xs = sorted_unique (output_cmp by_number) (output_cmp_total by_number) (map numbered xs) a.ordered (rises xs (subst IsTable are.rows_are are.rise)) (subst (λ k. IsPermutation k a.ordered) kept a.same) a.sorted in
        a.shown ∙ ap (λ l. page by_number [] (map (λ (o : Output). o.1) l)) ordered ∙ second_of numbered xs

-- ---- a table whose row numbers the database chose

module _ {X : Type 0} (values : X → Row) (tree : ℕ) (project keys : List Term) where
  -- each row shows what stands behind its number, in some order
  abbrev pub ShowsListed : (Row → Output) → Type 0
  ShowsListed shown = ((r : Row) → output (listed tree project keys) ([] ∷ r ∷ []) ≡ shown (drop 1 r)) × ((x : X) → (shown (values x)).1 ≡ values x)

  module _ (shown : Row → Output) (shows : ShowsListed shown) where
    shown_outputs : (rows : List Row) → map (output (listed tree project keys)) (flat_map (λ r. ([] ∷ r ∷ []) ∷ []) rows) ≡ map shown (map (drop 1) rows)
    shown_outputs [] = refl
    shown_outputs (r ∷ rows) = rw (shows.0 r) (ap (λ l. shown (drop 1 r) ∷ l) (shown_outputs rows))

    again : (xs : List X) → map (λ (o : Output). o.1) (map shown (map values xs)) ≡ map values xs
    again [] = refl
    again (x ∷ xs) = rw (shows.1 x) (ap (λ l. values x ∷ l) (again xs))

    pub gives_listed : (text : List ℕ) (names : List (List ℕ)) → Lists text tree project keys names → (old new : State) (xs : List X) (rows : List Row) → old.now.schema ≡ store_schema → AreStored values (old.now.trees tree) xs
        → Shown text [] old new rows → IsPermutation (map values xs) rows
    gives_listed text names lists old new xs rows has are h =
        let q = listed tree project keys in
        let got = reads_as text [] old new store_schema has _ lists.is lists.plain lists.unlisted rows h in
        let a : IsAnswer q (overlay old.now.trees []) [] rows = got.answer Null in
        let kept : a.kept ≡ map shown (map values xs) = a.distinct ∙ ap (map (output q)) (a.grouped ∙ ap (flat_map (λ r. ([] ∷ r ∷ []) ∷ [])) (lists.stays old.now.trees)) ∙ shown_outputs (old.now.trees tree) ∙ ap (map shown) are.rows_are in
        let moved = IsPermutation-map (λ (o : Output). o.1) a.kept a.ordered a.same in
        subst (λ l. IsPermutation l rows) (ap (map (λ (o : Output). o.1)) kept ∙ again xs) (subst (IsPermutation (map (λ (o : Output). o.1) a.kept)) (sym a.shown) moved)
