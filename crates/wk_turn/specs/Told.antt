-- What contracts see of a turn and of a pass (own).
use Rattle.std.specs.Prelude.{◌≡◌, ℕ, List, [], ◌∷◌, length, Option, Some, None, IsSome}
use Rattle.atomic_table.specs.Seated.{TableId}
use Rattle.wk_turn.specs.declared.board.View.{View}
use Rattle.wk_turn.specs.Journal.{AreOwn}
use Rattle.wk_turn.specs.declared.board.Stage.{Stage}
use Rattle.wk_turn.specs.declared.board.Stage.TheVariants.{Idle, Holds}

-- which turn it is, and the start of its state
pub record Begun (A : Type 0) : Type 0 where
  pub id : TableId
  pub start : A

-- Which turn it is of, the state's start, the journal as it was seen, the places in it of the entries that the pass made, and the journal at `enter` where the pass has the turn
pub record Story (A E : Type 0) : Type 0 where
  pub turn : TableId
  pub start : Option A
  pub seen : List E
  pub own : List ℕ
  pub held : Option (List E)

-- the pass is of this turn, and so has its start
abbrev pub IsOf : {A E : Type 0} → Begun A → Story A E → Type 0
IsOf turn pass = (pass.turn ≡ turn.id) × (pass.start ≡ Some turn.start)

module _ {E : Type 0} where
  -- the journal at `enter`, where the seat has the turn
  abbrev pub held_of : Stage E → Option (List E)
  held_of (Holds n at) = Some at
  held_of _ = None

  -- between two calls a pass has no number, or it has the turn and the empty slot
  abbrev pub Rests : {S : Type 0} → Stage E → List (ℕ × Option S) → Type 0
  Rests Idle carried = carried ≡ []
  Rests (Holds n at) carried = carried ≡ (0, None) ∷ []
  Rests _ carried = ⊥

-- what is so of a pass between two calls
pub record Settled {A E S : Type 0} (closes : E → Option ℕ) (point : ℕ) (v : View A E) (carried : List (ℕ × Option S)) : Type 0 where
  pub point_is : point ≡ length v.seen
  pub bare : v.seats ≡ 0
  pub begun : IsSome v.start
  pub rests : Rests v.stage carried
  pub own : AreOwn closes v.seen v.own

-- the story of a seat of this turn
abbrev pub story : {A E : Type 0} → TableId → View A E → Story A E
story turn v = record { turn = turn; start = v.start; seen = v.seen; own = v.own; held = held_of v.stage }
