-- Plans: what is done by asking. A plan gives a value, or asks for a title with a kind and goes on with the answer
-- (own). So what is asked next can hang on the answers so far, and on nothing else.
use Rattle.std.specs.Prelude.{◌≡◌, ◌⊎◌, IsTrue, List, [], ◌∷◌, ◌++◌, Some, None, if◌then◌else◌}
use Rattle.std.specs.List.{list_any}
use Rattle.wk_text_rules.specs.Titles.{PageTitle}
use Rattle.wk_view_rules.specs.Worlds.{Answer, Read, is_read_of, Source, ask}
use Rattle.wk_view_rules.specs.declared.Kind.{Kind}

pub data Plan (A : Type 0) : Type 0 where
  gives : A → Plan A
  asks : PageTitle → Kind → (Answer → Plan A) → Plan A

-- a plan, and then one that hangs on its value
abbrev pub and_then : {A B : Type 0} → Plan A → (A → Plan B) → Plan B
and_then (gives x) next = next x
and_then (asks title kind more) next = asks title kind (λ answer. and_then (more answer) next)

-- ---- a plan is met by a source

-- a plan's end: its value, or the pair that the source doesn't answer; with the reads up to there
pub data Outcome (A : Type 0) : Type 0 where
  done : A → List Read → Outcome A
  need : PageTitle → Kind → List Read → Outcome A

-- the reads with one more at the end, where its pair isn't there yet
abbrev pub noted : List Read → Read → List Read
noted reads read = if list_any (is_read_of read.title read.kind) reads then reads else reads ++ read ∷ []

-- the end of a plan over a source, behind the reads that there are
unfoldable pub run : {A : Type 0} → Source → Plan A → List Read → Outcome A
run source (gives x) reads = done x reads
run source (asks title kind more) reads = elim (ask source title kind) [
  | None ↦ need title kind reads
  | Some answer ↦ run source (more answer) (noted reads (record { title = title; kind = kind; answer = answer }))
]

abbrev pub reads_of : {A : Type 0} → Outcome A → List Read
reads_of (done x reads) = reads
reads_of (need title kind reads) = reads

-- the source answered all that was asked
abbrev pub IsDone : {A : Type 0} → Outcome A → Type 0
IsDone (done x reads) = Unit {0}
IsDone (need title kind reads) = ⊥

-- The pair is what the source doesn't answer, with these reads before; or it is among the reads.
abbrev pub NeedsOrReads : {A : Type 0} → PageTitle → Kind → List Read → Outcome A → Type 0
NeedsOrReads title kind before outcome =
    (outcome ≡ need title kind before) ⊎ IsTrue (list_any (is_read_of title kind) (reads_of outcome))
