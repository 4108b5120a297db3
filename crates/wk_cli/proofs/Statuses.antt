-- The statuses of ends and causes.
use Rattle.std.proofs.Common.{◌≡◌, ◌==◌, ◌∙◌, ℕ, true, false, List, [], ◌∷◌, Result, Ok, Err, refl, sym, ap, subst, arith}
use Rattle.std.proofs.lemmas.Bool.{false≢true}
use Rattle.std.specs.List.{list_any}
use Rattle.wk_commands.specs.declared.ends.CommandEnd.{CommandEnd}
use Rattle.wk_commands.specs.declared.ends.CommandEnd.TheVariants as command
use Rattle.wk_core.specs.declared.outcomes.LoadCause.{LoadCause}
use Rattle.wk_core.specs.declared.outcomes.LoadCause.TheVariants as cause
use Rattle.wk_script.specs.declared.script.ScriptEnd.{ScriptEnd}
use Rattle.wk_script.specs.declared.script.ScriptEnd.TheVariants as end
use Rattle.wk_reports.specs.Over.{status_of_report}
use Rattle.wk_reports.specs.declared.written.ReportEnd.{ReportEnd}
use Rattle.wk_reports.specs.declared.written.ReportEnd.TheVariants as report
use Rattle.wk_commands.specs.declared.replicas.ReplicaEnd.{ReplicaEnd}
use Rattle.wk_commands.specs.declared.replicas.ReplicaEnd.TheVariants as replica
use Rattle.wk_cli.specs.Statuses.{status_of_cause, status_of_command, status_of_end, status_of_replica, status_of_work, statuses}

abbrev pub IsKnown : ℕ → Type 0
IsKnown status = list_any (λ s. status == s) statuses ≡ true

pub known-end : (status : ℕ) (how : ScriptEnd) → status ≡ status_of_end how → IsKnown status
known-end status how is = subst IsKnown (sym is) (by how)
  where
    by : (e : ScriptEnd) → IsKnown (status_of_end e)
    by end.Done = refl
    by end.Memory = refl
    by end.ReadFault = refl
    by end.WriteFault = refl
    by end.StoreFault = refl
    by (end.BadStore bad) = refl
    by end.Bound = refl

pub known-cause : (status : ℕ) (why : LoadCause) → status ≡ status_of_cause why → IsKnown status
known-cause status why is = subst IsKnown (sym is) (by why)
  where
    by : (w : LoadCause) → IsKnown (status_of_cause w)
    by cause.Memory = refl
    by cause.StoreFault = refl
    by (cause.BadStore bad) = refl

-- which end has this status
pub is-done : (how : ScriptEnd) → status_of_end how ≡ 0 → how ≡ end.Done
is-done end.Done is = refl
is-done end.Memory is = absurd (omega (arith, is))
is-done end.ReadFault is = absurd (omega (arith, is))
is-done end.WriteFault is = absurd (omega (arith, is))
is-done end.StoreFault is = absurd (omega (arith, is))
is-done (end.BadStore bad) is = absurd (omega (arith, is))
is-done end.Bound is = absurd (omega (arith, is))

pub is-read-fault : (how : ScriptEnd) → status_of_end how ≡ 3 → how ≡ end.ReadFault
is-read-fault end.Done is = absurd (omega (arith, is))
is-read-fault end.Memory is = absurd (omega (arith, is))
is-read-fault end.ReadFault is = refl
is-read-fault end.WriteFault is = absurd (omega (arith, is))
is-read-fault end.StoreFault is = absurd (omega (arith, is))
is-read-fault (end.BadStore bad) is = absurd (omega (arith, is))
is-read-fault end.Bound is = absurd (omega (arith, is))

pub is-write-fault : (how : ScriptEnd) → status_of_end how ≡ 4 → how ≡ end.WriteFault
is-write-fault end.Done is = absurd (omega (arith, is))
is-write-fault end.Memory is = absurd (omega (arith, is))
is-write-fault end.ReadFault is = absurd (omega (arith, is))
is-write-fault end.WriteFault is = refl
is-write-fault end.StoreFault is = absurd (omega (arith, is))
is-write-fault (end.BadStore bad) is = absurd (omega (arith, is))
is-write-fault end.Bound is = absurd (omega (arith, is))

pub no-end-two : (how : ScriptEnd) → status_of_end how ≡ 2 → ⊥
no-end-two end.Done is = omega (arith, is)
no-end-two end.Memory is = omega (arith, is)
no-end-two end.ReadFault is = omega (arith, is)
no-end-two end.WriteFault is = omega (arith, is)
no-end-two end.StoreFault is = omega (arith, is)
no-end-two (end.BadStore bad) is = omega (arith, is)
no-end-two end.Bound is = omega (arith, is)

-- no cause has one of these
pub no-cause-two : (why : LoadCause) → status_of_cause why ≡ 2 → ⊥
no-cause-two cause.Memory is = omega (arith, is)
no-cause-two cause.StoreFault is = omega (arith, is)
no-cause-two (cause.BadStore bad) is = omega (arith, is)

pub no-cause-three : (why : LoadCause) → status_of_cause why ≡ 3 → ⊥
no-cause-three cause.Memory is = omega (arith, is)
no-cause-three cause.StoreFault is = omega (arith, is)
no-cause-three (cause.BadStore bad) is = omega (arith, is)

pub no-cause-four : (why : LoadCause) → status_of_cause why ≡ 4 → ⊥
no-cause-four cause.Memory is = omega (arith, is)
no-cause-four cause.StoreFault is = omega (arith, is)
no-cause-four (cause.BadStore bad) is = omega (arith, is)

-- ---- commands over a store

known-command : (how : CommandEnd) → IsKnown (status_of_command how)
known-command command.Done = refl
known-command command.Memory = refl
known-command command.WriteFault = refl
known-command command.StoreFault = refl
known-command command.Differs = refl
known-command command.Full = refl
known-command command.DoorFault = refl

pub known-work : (status : ℕ) (end : Result CommandEnd LoadCause) → status ≡ status_of_work end → IsKnown status
known-work status (Ok how) is = subst IsKnown (sym is) (known-command how)
known-work status (Err why) is = known-cause status why is

no-command-two : (how : CommandEnd) → status_of_command how ≡ 2 → ⊥
no-command-two command.Done is = omega (arith, is)
no-command-two command.Memory is = omega (arith, is)
no-command-two command.WriteFault is = omega (arith, is)
no-command-two command.StoreFault is = omega (arith, is)
no-command-two command.Differs is = omega (arith, is)
no-command-two command.Full is = omega (arith, is)
no-command-two command.DoorFault is = omega (arith, is)

pub no-work-two : (end : Result CommandEnd LoadCause) → status_of_work end ≡ 2 → ⊥
no-work-two (Ok how) is = no-command-two how is
no-work-two (Err why) is = no-cause-two why is

no-command-three : (how : CommandEnd) → status_of_command how ≡ 3 → ⊥
no-command-three command.Done is = omega (arith, is)
no-command-three command.Memory is = omega (arith, is)
no-command-three command.WriteFault is = omega (arith, is)
no-command-three command.StoreFault is = omega (arith, is)
no-command-three command.Differs is = omega (arith, is)
no-command-three command.Full is = omega (arith, is)
no-command-three command.DoorFault is = omega (arith, is)

pub no-work-three : (end : Result CommandEnd LoadCause) → status_of_work end ≡ 3 → ⊥
no-work-three (Ok how) is = no-command-three how is
no-work-three (Err why) is = no-cause-three why is

command-is-write-fault : (how : CommandEnd) → status_of_command how ≡ 4 → how ≡ command.WriteFault
command-is-write-fault command.Done is = absurd (omega (arith, is))
command-is-write-fault command.Memory is = absurd (omega (arith, is))
command-is-write-fault command.WriteFault is = refl
command-is-write-fault command.StoreFault is = absurd (omega (arith, is))
command-is-write-fault command.Differs is = absurd (omega (arith, is))
command-is-write-fault command.Full is = absurd (omega (arith, is))
command-is-write-fault command.DoorFault is = absurd (omega (arith, is))

pub work-is-write-fault : (end : Result CommandEnd LoadCause) → status_of_work end ≡ 4 → end ≡ Ok command.WriteFault
work-is-write-fault (Ok how) is = ap (λ (h : CommandEnd). Ok h) (command-is-write-fault how is)
work-is-write-fault (Err why) is = absurd (no-cause-four why is)

pub work-without-write-fault : (end : Result CommandEnd LoadCause) → status_of_work end ≡ 0 → end ≡ Ok command.WriteFault → ⊥
work-without-write-fault end done is = let four : status_of_work end ≡ 4 = ap status_of_work is in omega (arith, done, four)

-- ---- a door that fails

pub no-end-six : (how : ScriptEnd) → status_of_end how ≡ 6 → ⊥
no-end-six end.Done is = omega (arith, is)
no-end-six end.Memory is = omega (arith, is)
no-end-six end.ReadFault is = omega (arith, is)
no-end-six end.WriteFault is = omega (arith, is)
no-end-six end.StoreFault is = omega (arith, is)
no-end-six (end.BadStore bad) is = omega (arith, is)
no-end-six end.Bound is = omega (arith, is)

pub no-cause-six : (why : LoadCause) → status_of_cause why ≡ 6 → ⊥
no-cause-six cause.Memory is = omega (arith, is)
no-cause-six cause.StoreFault is = omega (arith, is)
no-cause-six (cause.BadStore bad) is = omega (arith, is)

pub no-cause-nil : (why : LoadCause) → status_of_cause why ≡ 0 → ⊥
no-cause-nil cause.Memory is = omega (arith, is)
no-cause-nil cause.StoreFault is = omega (arith, is)
no-cause-nil (cause.BadStore bad) is = omega (arith, is)

pub command-is-door-fault : (how : CommandEnd) → status_of_command how ≡ 6 → how ≡ command.DoorFault
command-is-door-fault command.Done is = absurd (omega (arith, is))
command-is-door-fault command.Memory is = absurd (omega (arith, is))
command-is-door-fault command.WriteFault is = absurd (omega (arith, is))
command-is-door-fault command.StoreFault is = absurd (omega (arith, is))
command-is-door-fault command.Differs is = absurd (omega (arith, is))
command-is-door-fault command.Full is = absurd (omega (arith, is))
command-is-door-fault command.DoorFault is = refl

pub command-is-done : (how : CommandEnd) → status_of_command how ≡ 0 → how ≡ command.Done
command-is-done command.Done is = refl
command-is-done command.Memory is = absurd (omega (arith, is))
command-is-done command.WriteFault is = absurd (omega (arith, is))
command-is-done command.StoreFault is = absurd (omega (arith, is))
command-is-done command.Differs is = absurd (omega (arith, is))
command-is-done command.Full is = absurd (omega (arith, is))
command-is-done command.DoorFault is = absurd (omega (arith, is))

-- ---- reports

pub known-report : (status : ℕ) (end : Result ReportEnd LoadCause) → status ≡ status_of_report end → IsKnown status
known-report status end is = subst IsKnown (sym is) (by end)
  where
    by : (e : Result ReportEnd LoadCause) → IsKnown (status_of_report e)
    by (Ok report.Done) = refl
    by (Ok report.Memory) = refl
    by (Ok report.WriteFault) = refl
    by (Err cause.Memory) = refl
    by (Err cause.StoreFault) = refl
    by (Err (cause.BadStore bad)) = refl

-- a report ends at no other status than one of these
pub report-among : (end : Result ReportEnd LoadCause) → list_any (λ s. status_of_report end == s) (0 ∷ 1 ∷ 4 ∷ 5 ∷ 7 ∷ []) ≡ true
report-among (Ok report.Done) = refl
report-among (Ok report.Memory) = refl
report-among (Ok report.WriteFault) = refl
report-among (Err cause.Memory) = refl
report-among (Err cause.StoreFault) = refl
report-among (Err (cause.BadStore bad)) = refl

-- so at none that isn't among them
pub not-listed : (one status : ℕ) → list_any (λ s. status == s) (0 ∷ 1 ∷ 4 ∷ 5 ∷ 7 ∷ []) ≡ false → one ≡ status → list_any (λ s. one == s) (0 ∷ 1 ∷ 4 ∷ 5 ∷ 7 ∷ []) ≡ true → ⊥
not-listed one status other is among = false≢true (sym other ∙ subst (λ (n : ℕ). list_any (λ s. n == s) (0 ∷ 1 ∷ 4 ∷ 5 ∷ 7 ∷ []) ≡ true) is among)

pub no-report-at : (status : ℕ) (end : Result ReportEnd LoadCause) → list_any (λ s. status == s) (0 ∷ 1 ∷ 4 ∷ 5 ∷ 7 ∷ []) ≡ false → status_of_report end ≡ status → ⊥
no-report-at status end other is = not-listed (status_of_report end) status other is (report-among end)

pub report-is-write-fault : (end : Result ReportEnd LoadCause) → status_of_report end ≡ 4 → end ≡ Ok report.WriteFault
report-is-write-fault (Ok report.Done) is = absurd (omega (arith, is))
report-is-write-fault (Ok report.Memory) is = absurd (omega (arith, is))
report-is-write-fault (Ok report.WriteFault) is = refl
report-is-write-fault (Err cause.Memory) is = absurd (omega (arith, is))
report-is-write-fault (Err cause.StoreFault) is = absurd (omega (arith, is))
report-is-write-fault (Err (cause.BadStore bad)) is = absurd (omega (arith, is))

pub report-without-write-fault : (end : Result ReportEnd LoadCause) → status_of_report end ≡ 0 → end ≡ Ok report.WriteFault → ⊥
report-without-write-fault end done is = let four : status_of_report end ≡ 4 = ap status_of_report is in omega (arith, done, four)

-- ---- replicas

pub known-replica : (status : ℕ) (how : ReplicaEnd) → status ≡ status_of_replica how → IsKnown status
known-replica status how is = subst IsKnown (sym is) (by how)
  where
    by : (e : ReplicaEnd) → IsKnown (status_of_replica e)
    by replica.Done = refl
    by replica.Memory = refl
    by replica.ReadFault = refl
    by replica.WriteFault = refl
    by replica.DoorFault = refl
    by replica.Bound = refl
    by (replica.BadFeed number) = refl

pub no-replica-two : (how : ReplicaEnd) → status_of_replica how ≡ 2 → ⊥
no-replica-two replica.Done is = omega (arith, is)
no-replica-two replica.Memory is = omega (arith, is)
no-replica-two replica.ReadFault is = omega (arith, is)
no-replica-two replica.WriteFault is = omega (arith, is)
no-replica-two replica.DoorFault is = omega (arith, is)
no-replica-two replica.Bound is = omega (arith, is)
no-replica-two (replica.BadFeed number) is = omega (arith, is)

pub replica-is-done : (how : ReplicaEnd) → status_of_replica how ≡ 0 → how ≡ replica.Done
replica-is-done replica.Done is = refl
replica-is-done replica.Memory is = absurd (omega (arith, is))
replica-is-done replica.ReadFault is = absurd (omega (arith, is))
replica-is-done replica.WriteFault is = absurd (omega (arith, is))
replica-is-done replica.DoorFault is = absurd (omega (arith, is))
replica-is-done replica.Bound is = absurd (omega (arith, is))
replica-is-done (replica.BadFeed number) is = absurd (omega (arith, is))

pub replica-is-read-fault : (how : ReplicaEnd) → status_of_replica how ≡ 3 → how ≡ replica.ReadFault
replica-is-read-fault replica.Done is = absurd (omega (arith, is))
replica-is-read-fault replica.Memory is = absurd (omega (arith, is))
replica-is-read-fault replica.ReadFault is = refl
replica-is-read-fault replica.WriteFault is = absurd (omega (arith, is))
replica-is-read-fault replica.DoorFault is = absurd (omega (arith, is))
replica-is-read-fault replica.Bound is = absurd (omega (arith, is))
replica-is-read-fault (replica.BadFeed number) is = absurd (omega (arith, is))

pub replica-is-write-fault : (how : ReplicaEnd) → status_of_replica how ≡ 4 → how ≡ replica.WriteFault
replica-is-write-fault replica.Done is = absurd (omega (arith, is))
replica-is-write-fault replica.Memory is = absurd (omega (arith, is))
replica-is-write-fault replica.ReadFault is = absurd (omega (arith, is))
replica-is-write-fault replica.WriteFault is = refl
replica-is-write-fault replica.DoorFault is = absurd (omega (arith, is))
replica-is-write-fault replica.Bound is = absurd (omega (arith, is))
replica-is-write-fault (replica.BadFeed number) is = absurd (omega (arith, is))

pub replica-is-door-fault : (how : ReplicaEnd) → status_of_replica how ≡ 6 → how ≡ replica.DoorFault
replica-is-door-fault replica.Done is = absurd (omega (arith, is))
replica-is-door-fault replica.Memory is = absurd (omega (arith, is))
replica-is-door-fault replica.ReadFault is = absurd (omega (arith, is))
replica-is-door-fault replica.WriteFault is = absurd (omega (arith, is))
replica-is-door-fault replica.DoorFault is = refl
replica-is-door-fault replica.Bound is = absurd (omega (arith, is))
replica-is-door-fault (replica.BadFeed number) is = absurd (omega (arith, is))

-- at 0 it is done, and so ended by no fault
pub replica-without : (how fault : ReplicaEnd) → status_of_replica how ≡ 0 → (status_of_replica fault ≡ 0 → ⊥) → how ≡ fault → ⊥
replica-without how fault done not is = not (sym (ap status_of_replica is) ∙ done)
