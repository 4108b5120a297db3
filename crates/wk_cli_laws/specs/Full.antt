-- Why a command finds no room for what it has to do (own).
use Rattle.std.specs.Prelude.{◌≡◌, ◌⊎◌, ◌+◌, ◌*◌, ◌<◌, ℕ, List, length, slice_get, take, None, Some, IfSome}
use Rattle.wk_page_rules.specs.Verdict.{EditAsked, Refusal, max_job, refuse}
use Rattle.wk_wiki_rules.specs.States.{State}
use Rattle.wk_wiki_rules.specs.Lives.{opened}
use Rattle.wk_wiki_rules.specs.Verdicts.{verdict_in}
use Rattle.wk_tool_rules.specs.Generator.{generated}
use Rattle.wk_tool_rules.specs.Saving.{SavesMade, saves_made}
use Rattle.wk_tools.specs.Drains.{HasNoJob}
use Rattle.wk_cli_laws.specs.Room.{IsForRoom}
use Rattle.wk_commands.specs.Worked.{limits_with_journal}
use Rattle.wk_commands.specs.declared.works.Work.{Work}
use Rattle.wk_commands.specs.declared.works.Work.TheVariants.{Check, Jobs, Generate}
use Rattle.wk_words.specs.Verdicts.{Wanted}
use Rattle.wk_cli.specs.Finished.{work_of}
use Rattle.wk_cli.specs.Scripted.{VaultStore}

-- A job is left, and a journal of so many events has no room for a claim and its return even where it begins anew, or the number of the
-- next job, with one for each page in each fan job, is above the greatest.
pub record CannotDrain (journal : ℕ) (state : State) : Type 0 where
  pub left : ¬ HasNoJob state
  pub cause : (journal < 2) ⊎ (max_job < state.jobs.next + length state.jobs.fans * length state.history.pages)

-- what the first saves in a state that was just opened make, with a journal of so many events
abbrev pub first_saves : ℕ → State → List EditAsked → List ℕ → SavesMade
first_saves journal state edits moments = saves_made (limits_with_journal journal) state 0 edits moments

-- The first of the edits are saved, and the next one is refused, since the journal or the wiki is full.
pub record IsRefusedForRoom (journal : ℕ) (state : State) (edits : List EditAsked) : Type 0 where
  pub count : ℕ
  pub moments : List ℕ
  pub edit : EditAsked
  pub refusal : Refusal
  pub next : slice_get edits count ≡ Some edit
  pub saved : (first_saves journal state (take count edits) moments).refused ≡ None
  pub verdict : verdict_in (limits_with_journal journal) (first_saves journal state (take count edits) moments).after
      (length (first_saves journal state (take count edits) moments).events) edit ≡ refuse refusal
  pub room : IsForRoom refusal

-- All edits are saved, and the jobs that are left then can't be done.
pub record CannotDrainBehind (journal : ℕ) (state : State) (edits : List EditAsked) : Type 0 where
  pub moments : List ℕ
  pub saved : (first_saves journal state edits moments).refused ≡ None
  pub cannot : CannotDrain journal (first_saves journal state edits moments).after

-- there is no room for this work in a state that was just opened
abbrev pub HasNoRoom : Work → ℕ → State → Type 0
HasNoRoom Check journal state = ⊥
HasNoRoom Jobs journal state = CannotDrain journal state
HasNoRoom (Generate pages number) journal state = IsRefusedForRoom journal state (generated pages number) ⊎ CannotDrainBehind journal state (generated pages number)

-- There is none for the work that is wanted, in the state that the store of the vault was opened in.
pub record FindsNoRoom (wanted : Wanted) (kept : VaultStore) : Type 0 where
  pub state : State
  pub asked : Work
  pub asked_is : work_of wanted.command wanted.pages wanted.number ≡ Some asked
  pub opened_is : IfSome kept.tables (λ tables. state ≡ opened tables)
  pub no_room : HasNoRoom asked wanted.journal_limit state
