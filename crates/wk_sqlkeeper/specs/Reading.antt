-- Which columns can be read as the fields of a wiki's rows, and which rows of a query were read (own).
use Rattle.std.specs.Prelude.{◌≡◌, ◌≢◌, ℕ, ℤ, pos, ◌<◌, ◌^◌, Bool, List, [], ◌∷◌, length, IsUtf8, ⊤}
use Rattle.std.specs.declared.cmp.Ordering.{Ordering}
use Rattle.std.specs.List.Sorted.{IsPermutation, IsSorted}
use Rattle.sqlite_value.specs.declared.value.Value.{Value}
use Rattle.sqlite_value.specs.declared.value.Value.TheVariants.{Int, Text}
use Rattle.sqlite_value.specs.Order.{column}
use Rattle.sqlite.specs.declared.error.ErrorCode.TheVariants.{OutOfMemory}
use Rattle.sqlite.specs.declared.error.Error.{Error}
use Rattle.sqlite.specs.declared.error.Error.TheVariants.{SqliteFailure}
use Rattle.sqlite.specs.State.{State, Shown}
use Rattle.wk_sqltables.specs.Entries.{stored_flag}

-- ---- columns

-- UTF-8 text of fewer than 2^32 bytes
pub record HasText (values : List Value) (at : ℕ) : Type 0 where
  pub within : at < length values
  pub text : List ℕ
  pub is : column values at ≡ Text text
  pub utf8 : IsUtf8 text
  pub short : length text < 2 ^ 32

-- a whole number of 0 or more
pub record HasNumber (values : List Value) (at : ℕ) : Type 0 where
  pub within : at < length values
  pub number : ℕ
  pub is : column values at ≡ Int (pos number)

-- a whole number
pub record HasWhole (values : List Value) (at : ℕ) : Type 0 where
  pub within : at < length values
  pub number : ℤ
  pub is : column values at ≡ Int number

-- 1 or 0
pub record HasFlag (values : List Value) (at : ℕ) : Type 0 where
  pub within : at < length values
  pub flag : Bool
  pub is : column values at ≡ Int (stored_flag flag)

-- an error that isn't want of memory comes only where this doesn't hold
abbrev pub OnlyUnless : Type 0 → Error → Type 0
OnlyUnless holds error = error ≢ SqliteFailure OutOfMemory → ¬ holds

-- ---- rows

pub record IsPageRow (values : List Value) : Type 0 where
  pub id : HasNumber values 0
  pub namespace : HasWhole values 1
  pub title : HasText values 2
  pub latest : HasNumber values 3
  pub len : HasNumber values 4

pub record IsRevisionRow (values : List Value) : Type 0 where
  pub id : HasNumber values 0
  pub page : HasNumber values 1
  pub parent : HasNumber values 2
  pub timestamp : HasWhole values 3
  pub len : HasNumber values 4
  pub gone : HasFlag values 5
  pub text : HasText values 6

pub record IsLinkRow (values : List Value) : Type 0 where
  pub from : HasNumber values 0
  pub from_namespace : HasWhole values 1
  pub namespace : HasWhole values 2
  pub title : HasText values 3

pub record IsMemberRow (values : List Value) : Type 0 where
  pub from : HasNumber values 0
  pub to : HasText values 1
  pub sortkey : HasText values 2
  pub prefix : HasText values 3

pub record IsRedirectRow (values : List Value) : Type 0 where
  pub from : HasNumber values 0
  pub namespace : HasWhole values 1
  pub title : HasText values 2

pub record IsJobRow (values : List Value) : Type 0 where
  pub id : HasNumber values 0
  pub cmd : HasText values 1
  pub namespace : HasWhole values 2
  pub title : HasText values 3
  pub params : HasText values 4

-- ---- queries

-- the rows of a query stand, one for one, as rows of a table
abbrev pub StandAs : {R : Type 0} → (List Value → R → Type 0) → List (List Value) → List R → Type 0
StandAs stands [] [] = ⊤
StandAs stands [] (row ∷ rows) = ⊥
StandAs stands (values ∷ shown) [] = ⊥
StandAs stands (values ∷ shown) (row ∷ rows) = stands values row × StandAs stands shown rows

-- they are all that the query shows between these two states
pub record ReadsAll {R : Type 0} (stands : List Value → R → Type 0) (query : List ℕ) (old new : State) (rows : List R) : Type 0 where
  pub shown : List (List Value)
  pub all : Shown query [] old new shown
  pub read : StandAs stands shown rows

-- the rows are all that the query shows between these two states, in this order
pub record ReadsSorted {R : Type 0} (stands : List Value → R → Type 0) (cmp : R → R → Ordering) (query : List ℕ) (old new : State) (rows : List R) : Type 0 where
  pub read : List R
  pub all : ReadsAll stands query old new read
  pub same : IsPermutation read rows
  pub sorted : IsSorted cmp rows
