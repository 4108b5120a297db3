-- The tables of a name, among pairs of names and tables.
use Rattle.std.proofs.Common.{◌≡◌, ℕ, Bool, List, [], ◌∷◌, map, Option, Some, None, Result, Ok, Err, refl, sym, ap, ◌∙◌, inl, inr}
use Rattle.std.specs.Prelude.{IfOk, find, option_map, bytes_eq, string_bytes}
use Rattle.std.specs.declared.string.String.{String}
use Rattle.std.proofs.lemmas.Bool.{cases_Bool}
use Rattle.wk_table_rules.specs.Rows.{StoreTables, no_tables}
use Rattle.wk_tables.specs.Held.{Held}
use Rattle.wk_keeper.specs.NamedTables.{NamedTables, tables_named}
use Rattle.wk_keeper.specs.Stores.{store_of}

find-map : {X Y : Type 0} (f : X → Y) (p : Y → Bool) (xs : List X) → find p (map f xs) ≡ option_map f (find (λ x. p (f x)) xs)
find-map f p [] = refl
find-map f p (x ∷ xs) = elim (cases_Bool (p (f x))) [
  | inl here ↦ rw here refl
  | inr later ↦ rw later (find-map f p xs)
]

module _ {A : Type 0} (stores : List (String A × Held)) (name : List ℕ) where
  abbrev is_named : String A × Held → Bool
  is_named store = bytes_eq (string_bytes store.0) name

  abbrev tables_in : Option NamedTables → StoreTables
  tables_in o = elim o as (λ x. StoreTables) [ None ↦ no_tables | Some store ↦ store.tables ]

  pub tables_named-found : (store : String A × Held) → Some store ≡ find is_named stores → tables_named (map store_of stores) name ≡ store.1.tables
  tables_named-found store found = ap tables_in (find-map store_of (λ s. bytes_eq s.name name) stores) ∙ ap (λ o. tables_in (option_map store_of o)) (sym found)

  pub tables_named-none : None ≡ find is_named stores → tables_named (map store_of stores) name ≡ no_tables
  tables_named-none none = ap tables_in (find-map store_of (λ s. bytes_eq s.name name) stores) ∙ ap (λ o. tables_in (option_map store_of o)) (sym none)

pub IfOk-weaker : {T E : Type 0} {P Q : T → Type 0} (r : Result T E) → ((x : T) → P x → Q x) → IfOk r P → IfOk r Q
IfOk-weaker (Ok x) weaker holds = weaker x holds
IfOk-weaker (Err e) weaker holds = tt
