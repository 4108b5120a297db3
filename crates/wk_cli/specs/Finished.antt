-- How the program ended (own).
use Rattle.std.specs.Prelude.{◌≡◌, ◌⊎◌, ℕ, Bool, List, [], Option, None, Some}
use Rattle.std.specs.Io.KnownBytes.{Appends}
use Rattle.wk_base.specs.Writing.{AppendsPrefix}
use Rattle.wk_table_rules.specs.Rows.{StoreTables}
use Rattle.wk_script_runs.specs.Outside.{Outside}
use Rattle.wk_commands.specs.declared.works.Work.{Work}
use Rattle.wk_commands.specs.declared.works.Work.TheVariants as work
use Rattle.wk_words.specs.Answers.{IsWithin}
use Rattle.wk_words.specs.Options as option
use Rattle.wk_words.specs.Verdicts.{Verdict, Wanted, refused, runs, shows_help, shows_version}
use Rattle.wk_words.specs.declared.commands.Command.{Command}
use Rattle.wk_words.specs.declared.commands.Command.TheVariants.{Script, Serve, Jobs, Check, Generate, Report, Replica}
use Rattle.wk_cli.specs.Followed.{IsFollowedBy}
use Rattle.wk_cli.specs.Reported.{IsReportedAt}
use Rattle.wk_cli.specs.Scripted.{HasNoStore, IsScripted, VaultStore}
use Rattle.wk_cli.specs.Works.{DoorSeen, IsServedAt, IsWorkedAt}
use Rattle.wk_cli.specs.declared.ends.Finish.{Finish}

-- what a vault tells of the stores that it has, by their names
pub record VaultTold : Type 0 where
  pub tables : List ℕ → Option StoreTables
  pub whole : List ℕ → Bool

-- the store of a name
abbrev pub store_named : VaultTold → List ℕ → VaultStore
store_named vault name = record { tables = vault.tables name; whole = vault.whole name }

-- A text was written, at status 0, or at status 4 a prefix of it; nothing was read, and no store was opened.
pub record IsShown {K : Type 0} (text : List ℕ) (before after : Outside) (finish : Finish K) : Type 0 where
  pub written : ((finish.status ≡ 0) × Appends before.taken after.taken text) ⊎ ((finish.status ≡ 4) × AppendsPrefix before.taken after.taken text)
  pub nothing_read : after.rest ≡ before.rest
  pub no_moment : after.moments ≡ before.moments
  pub no_point : finish.points.items ≡ []
  pub not_bad : finish.bad ≡ None
  pub no_store : finish.store ≡ None

-- the work that a command is, where it is neither on the input nor on connections, nor a report
abbrev pub work_of : Command → ℕ → ℕ → Option Work
work_of Script pages number = None
work_of Serve pages number = None
work_of Jobs pages number = Some work.Jobs
work_of Check pages number = Some work.Check
work_of Generate pages number = Some (work.Generate pages number)
work_of Report pages number = None
work_of Replica pages number = None

-- the command was carried out over the store of the name that is wanted, with a journal of at most so many events, which plays no part in a report; or over none, where a feed is followed. The door is touched by `serve` and `replica` alone.
pub data IsCarriedOut {K L : Type 0} (told : K → Option StoreTables) (faults : K → ℕ) (is_whole : K → Bool) (wanted : Wanted) (kept : VaultStore)
    (opens later : ℕ) (door door_later : DoorSeen L) (before after : Outside) (finish : Finish K) : Type 0 where
  scripted : wanted.command ≡ Script → IsScripted told faults is_whole wanted.journal_limit kept opens later before after finish → door_later ≡ door →
      IsCarriedOut told faults is_whole wanted kept opens later door door_later before after finish
  worked : (asked : Work) → work_of wanted.command wanted.pages wanted.number ≡ Some asked →
      IsWorkedAt told faults is_whole asked wanted.journal_limit kept opens later before after finish → door_later ≡ door →
      IsCarriedOut told faults is_whole wanted kept opens later door door_later before after finish
  reported : wanted.command ≡ Report → IsReportedAt told faults is_whole wanted.report wanted.most kept opens later before after finish → door_later ≡ door →
      IsCarriedOut told faults is_whole wanted kept opens later door door_later before after finish
  served : wanted.command ≡ Serve →
      IsServedAt told faults is_whole wanted.feed wanted.listen wanted.max_connections wanted.journal_limit kept opens later door door_later before after finish →
      IsCarriedOut told faults is_whole wanted kept opens later door door_later before after finish
  followed : wanted.command ≡ Replica → later ≡ opens → IsFollowedBy wanted.listen wanted.max_connections door door_later before after finish →
      IsCarriedOut told faults is_whole wanted kept opens later door door_later before after finish

-- Memory ran out for the words; or they were refused, and nothing was touched; or they asked for help or the version, which
-- was written; or for a command, which was carried out.
pub data IsFinished {K L : Type 0} (told : K → Option StoreTables) (faults : K → ℕ) (is_whole : K → Bool) (verdict : Verdict) (vault : VaultTold)
    (opens later : ℕ) (door door_later : DoorSeen L) (before after : Outside) (finish : Finish K) : Type 0 where
  no_memory : finish.status ≡ 1 → later ≡ opens → door_later ≡ door → HasNoStore before after finish →
      IsFinished told faults is_whole verdict vault opens later door door_later before after finish
  not_taken : verdict ≡ refused → finish.status ≡ 2 → later ≡ opens → door_later ≡ door → HasNoStore before after finish →
      IsFinished told faults is_whole verdict vault opens later door door_later before after finish
  shown : (text : List ℕ) → (verdict ≡ shows_help) ⊎ (verdict ≡ shows_version) → later ≡ opens → door_later ≡ door → IsShown text before after finish →
      IsFinished told faults is_whole verdict vault opens later door door_later before after finish
  carried_out : (wanted : Wanted) → verdict ≡ runs wanted → IsWithin option.pages wanted.pages → IsCarriedOut told faults is_whole wanted (store_named vault wanted.store) opens later door door_later before after finish →
      IsFinished told faults is_whole verdict vault opens later door door_later before after finish
