-- What the calls of an expansion do: each carries out a part of the rules from how far the expansion has come.
use Rattle.std.specs.Prelude.{◌≡◌, Option, Some, None, Result, Ok, Err}
use Rattle.wk_text_rules.specs.Titles.{PageTitle}
use Rattle.wk_view_rules.specs.Expansions.{Expansion, Progress, give}
use Rattle.wk_view_rules.specs.Plans.{Outcome, done, need, run}
use Rattle.wk_view_rules.specs.Worlds.{Seen, Agrees, ask, of_seen}
use Rattle.wk_view_rules.specs.declared.Kind.{Kind}
use Rattle.wk_expand.specs.State.{progress_of}
use Rattle.wk_expand.specs.declared.state.Expander.{Expander}
use Rattle.wk_expand.specs.declared.state.Stop.{Stop}
use Rattle.wk_expand.specs.declared.state.Stop.TheVariants.{Needs, Memory}

-- the end of an expansion that goes on from here, by what was seen
abbrev pub goes : {A : Type 0} → Seen → Expansion A → Expander → Outcome (A × Progress)
goes seen e s = run (of_seen seen) (e (progress_of s)) s.reads

-- the pair that an end needs, if it isn't done
abbrev pub needed : {A : Type 0} → Outcome A → Option (PageTitle × Kind)
needed (done x reads) = None
needed (need title kind reads) = Some (title, kind)

-- an expansion that stops for a need, or for want of memory
abbrev pub Stops : {A : Type 0} → Outcome A → Stop → Type 0
Stops outcome (Needs title kind) = needed outcome ≡ Some (title, kind)
Stops outcome Memory = Unit {0}

-- An expansion stops from here, where what was seen has the reads so far.
abbrev pub StopsAt : {A : Type 0} → Seen → Expansion A → Expander → Stop → Type 0
StopsAt seen e s stop = Agrees (of_seen seen) s.reads → Stops (goes seen e s) stop

-- what no call changes
pub record IsSame (s t : Expander) : Type 0 where
  pub page : t.page ≡ s.page
  pub levels : t.levels ≡ s.levels

-- An expansion has come from s to t, where what is left to do is this: so it is by what was seen, and by all else that
-- answers alike what was read. What was seen answers what was read.
pub record Came {A : Type 0} (seen : Seen) (e : Expansion A) (s : Expander) (rest : Expansion A) (t : Expander) : Type 0 where
  pub goes_on : (later : Seen) → Agrees (of_seen later) t.reads → goes later e s ≡ goes later rest t
  pub grows : (later : Seen) → Agrees (of_seen later) t.reads → Agrees (of_seen later) s.reads
  pub answered : Agrees (of_seen seen) t.reads

-- the same, where what was seen has the reads before
abbrev pub Passes : {A : Type 0} → Seen → Expansion A → Expander → Expansion A → Expander → Type 0
Passes seen e s rest t = Agrees (of_seen seen) s.reads → Came seen e s rest t

-- A call has come from s to t, where what is left to do is this.
pub record ComesTo {A : Type 0} (seen : Seen) (e : Expansion A) (s : Expander) (rest : Expansion A) (t : Expander) : Type 0 where
  pub same : IsSame s t
  pub passes : Passes seen e s rest t

-- A call that begins an expansion has come so far that what its value stands for is left to do; or the expansion stops.
abbrev pub Leads : {A X : Type 0} → Seen → Expansion A → Expander → (X → Expansion A) → Result X Stop → Expander → Type 0
Leads seen e s rest (Ok x) t = ComesTo seen e s (rest x) t
Leads seen e s rest (Err stop) t = StopsAt seen e s stop

-- The pair isn't among what was seen; or memory ran out.
abbrev pub IsMissing : Seen → PageTitle → Kind → Stop → Type 0
IsMissing seen title kind (Needs wanted wanted_kind) = (ask (of_seen seen) title kind ≡ None) × (wanted ≡ title) × (wanted_kind ≡ kind)
IsMissing seen title kind Memory = Unit {0}

-- A call that needs an answer has changed nothing.
abbrev pub Keeps : {X : Type 0} → Result X Stop → Expander → Expander → Type 0
Keeps (Ok x) s t = Unit {0}
Keeps (Err (Needs title kind)) s t = t ≡ s
Keeps (Err Memory) s t = Unit {0}

-- A call carries out an expansion: its value is what the expansion gives.
abbrev pub Ends : {A : Type 0} → Seen → Expansion A → Expander → Result A Stop → Expander → Type 0
Ends seen e s r t = Leads seen e s give r t
