-- The rule of the table, and what each step tells (own).
-- Word 0 counts the seats, word 1 is the next number to be drawn, word 2 the number that is served, and word 3 the length of the journal. The one slot has the state.
-- Callers that wait sleep on the other words, of which the rule asks nothing.
-- Numbers are drawn and served without end. The words keep them modulo 2 ^ 64.
use Rattle.std.specs.Prelude.{◌≡◌, ◌≢◌, ℕ, ◌+◌, ◌%◌, ◌^◌, ◌<◌, ◌≤◌, List, [], ◌∷◌, ◌++◌, length, Option, Some, None}
use Rattle.std.specs.List.{sum_by}
use mathlib.Core.List.{IsPrefix}
use mathlib.Core.Option.{some, none}
use mathlib.Core.Option as maybe
use lib.ListN.{get_elem?}
use Rattle.atomic_table.specs.Table.{State, Me, Step}
use Rattle.wk_turn.specs.declared.board.View.{View}
use Rattle.wk_turn.specs.declared.board.Stage.{Stage}
use Rattle.wk_turn.specs.declared.board.Stage.TheVariants.{Idle, Waits, Holds, Marked, Ended}
use Rattle.wk_turn.specs.Journal.{times, added, longer, AreOwn, IsListed}

module _ {E : Type 0} where
  -- whether a number is held
  abbrev pub in_line : Stage E → ℕ
  in_line Idle = 0
  in_line _ = 1

  -- whether the slot was taken and not given back
  abbrev pub busy : Stage E → ℕ
  busy Idle = 0
  busy (Waits n) = 0
  busy _ = 1

module _ {E S : Type 0} (serving ticket : ℕ) (log : List E) (home : maybe.Option (Option S)) (owner : ℕ → ℕ) (seat : ℕ) (seen : List E) where
  -- who waits has a number of its own, and who has the turn the number that is served
  abbrev pub AtStage : Stage E → Type 0
  AtStage Idle = Unit {0}
  AtStage (Waits n) = (serving ≤ n) × (n < ticket) × (owner n ≡ seat)
  AtStage (Holds n at) = (n ≡ serving) × (n < ticket) × (owner n ≡ seat) × (home ≡ none) × (at ≡ log)
  AtStage (Marked n) = (n ≡ serving) × (n < ticket) × (owner n ≡ seat) × (home ≡ none) × (seen ≡ log)
  AtStage (Ended n) = (n ≡ serving) × (n < ticket) × (owner n ≡ seat) × (home ≡ some None)

module _ {S : Type 0} where
  -- whether the state is not at home
  abbrev pub away : maybe.Option (Option S) → ℕ
  away none = 1
  away (some None) = 1
  away (some (Some x)) = 0

module _ {A E S : Type 0} (start_of : S → A) (journal_of : S → List E) (closes : E → Option ℕ) where
  -- what a seat knows: beginnings of the journal, entries of its own in what it has seen, and its place in the line
  pub record Knows (start : A) (serving ticket : ℕ) (log : List E) (home : maybe.Option (Option S)) (owner : ℕ → ℕ) (seat : ℕ) (v : View A E) : Type 0 where
    pub start_is : (a : A) → v.start ≡ Some a → a ≡ start
    pub seen : IsPrefix v.seen log
    pub one : IsPrefix v.one log
    pub two : IsPrefix v.two log
    pub own : AreOwn closes log v.own
    pub own_one : AreOwn closes log v.own_one
    pub own_two : AreOwn closes log v.own_two
    pub one_in : (p : ℕ) → IsListed v.own_one p → IsListed v.own p
    pub two_in : (p : ℕ) → IsListed v.own_two p → IsListed v.own p
    pub within : (p : ℕ) → IsListed v.own p → p < length v.seen
    pub stage : AtStage serving ticket log home owner seat v.seen v.stage

  -- Between any two steps: the numbers from the one that is served to the next one are held by one seat each, and whoever has taken the state holds the one that is served.
  -- The state at home has the start, and its journal is the log, of which every seat has seen a beginning. A place in the log is an own entry of one seat at most.
  pub record Kept (start : A) (s : State (Option S) (View A E)) : Type 0 where
    pub seats : ℕ
    pub ticket : ℕ
    pub serving : ℕ
    pub log : List E
    pub home : maybe.Option (Option S)
    pub owner : ℕ → ℕ
    pub calls : List ℕ
    pub words : s.words ≡ seats ∷ (ticket % 2 ^ 64) ∷ (serving % 2 ^ 64) ∷ (length log) ∷ calls
    pub homes : s.homes ≡ home ∷ []
    pub room : length s.views + sum_by (λ v. v.seats) s.views ≡ seats
    pub few : seats < 2 ^ 64
    pub line : serving + sum_by (λ v. in_line v.stage) s.views ≡ ticket
    pub turn : sum_by (λ v. busy v.stage) s.views ≡ away home
    pub value : (x : S) → home ≡ some (Some x) → (start_of x ≡ start) × (journal_of x ≡ log)
    pub apart : (p : ℕ) → sum_by (λ v. times p v.own) s.views ≤ 1
    pub each : (j : ℕ) (v : View A E) → get_elem? s.views j ≡ some v → Knows start serving ticket log home owner j v

module _ {A E : Type 0} where
  -- the view of a seat that has made nothing
  abbrev pub newcomer : Option A → List E → View A E
  newcomer start seen = record { start = start; seen = seen; own = []; one = []; two = []; own_one = []; own_two = []; stage = Idle; seats = 0 }

  -- a view that was joined to another
  abbrev pub spent : View A E
  spent = newcomer None []

  -- the view of a seat that takes in another, beside what both had seen and made
  abbrev pub joined : View A E → View A E → View A E
  joined v w = record v { seen = longer v.seen w.seen; own = v.own ++ w.own; one = v.seen; two = w.seen; own_one = v.own; own_two = w.own }

abbrev Seated : Type 0 → Type 0 → Type 0 → Type 0
Seated A E S = Me (Option S) (View A E)

module _ {A E S : Type 0} where
  -- the seat at another stage, with these slots
  abbrev pub staged : Seated A E S → Stage E → List (ℕ × Option S) → Seated A E S
  staged m stage carried = (record m.0 { stage = stage }, carried)

  -- one more seat was counted, if the count was the one expected
  abbrev pub counted : Step (Option S) → Seated A E S → ℕ → Seated A E S → Type 0
  counted st m r m' = (r ≡ st.first → m' ≡ (record m.0 { seats = 1 }, m.1)) × (r ≢ st.first → m' ≡ m)

  -- a number was drawn, and the word shows what it is modulo 2 ^ 64
  abbrev pub drew : Step (Option S) → Seated A E S → ℕ → Seated A E S → Type 0
  drew st m r m' = (n : ℕ) × (r ≡ n % 2 ^ 64) × (m' ≡ staged m (Waits n) m.1)

  -- a word that callers sleep on was changed, and nothing else
  abbrev pub called : Step (Option S) → Seated A E S → ℕ → Seated A E S → Type 0
  called st m r m' = m' ≡ m

  -- the slot was given back with the state, and the next number is served
  abbrev pub handed_on : Step (Option S) → Seated A E S → ℕ → Seated A E S → Type 0
  handed_on st m r m' = m' ≡ staged m Idle []

  -- the slot was given back empty
  abbrev pub ended : Step (Option S) → Seated A E S → ℕ → Seated A E S → Type 0
  ended st m r m' = (n : ℕ) × (m' ≡ staged m (Ended n) [])

module _ {A E S : Type 0} (start_of : S → A) (journal_of : S → List E) (closes : E → Option ℕ) where
  -- the state has the start, its journal begins with what was seen, and the own entries stand in it
  pub record Finds (v : View A E) (x : S) : Type 0 where
    pub start_is : (a : A) → v.start ≡ Some a → a ≡ start_of x
    pub seen : IsPrefix v.seen (journal_of x)
    pub own : AreOwn closes (journal_of x) v.own

  -- the slot was taken, where the number is served, and the state found in it; and else nothing changed
  abbrev pub looked : Step (Option S) → Seated A E S → ℕ → Seated A E S → Type 0
  looked st m r m' = (n : ℕ) → m.0.stage ≡ Waits n
      → (r ≡ n % 2 ^ 64 → (x : S) × (m' ≡ staged m (Holds n (journal_of x)) ((0, Some x) ∷ m.1)) × Finds m.0 x) × (r ≢ n % 2 ^ 64 → m' ≡ m)

  -- the state that is put into the slot has the log from now on, and what it has beyond the journal at `enter` is the seat's own
  abbrev pub marked : Step (Option S) → Seated A E S → ℕ → Seated A E S → Type 0
  marked st m r m' = (n : ℕ) (at : List E) (y : S) → m.0.stage ≡ Holds n at → m.1 ≡ (0, Some y) ∷ []
      → (m' ≡ (record m.0 { seen = journal_of y; own = m.0.own ++ added at (journal_of y); own_one = []; own_two = []; stage = Marked n }, m.1)) × IsPrefix m.0.seen (journal_of y) × AreOwn closes (journal_of y) (m.0.own ++ added at (journal_of y))

  -- what was joined are beginnings of what is seen, in which the entries of each seat stand, and those of both together
  abbrev pub told : Step (Option S) → Seated A E S → ℕ → Seated A E S → Type 0
  told st m r m' = let v = m.0 in v.seen ≡ longer v.one v.two → v.own ≡ v.own_one ++ v.own_two
      → (m' ≡ m) × IsPrefix v.one v.seen × IsPrefix v.two v.seen × AreOwn closes v.seen v.own_one × AreOwn closes v.seen v.own_two × AreOwn closes v.seen v.own
