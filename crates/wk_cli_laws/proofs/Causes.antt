-- The causes of the ends of a run over a whole store.
use Rattle.std.proofs.Common.{◌≡◌, ◌⊎◌, ℕ, Bool, true, false, eqb, List, [], ◌∷◌, Option, None, Some, Result, Ok, Err, refl, sym, ap, ◌∙◌, inl, inr, arith}
use Rattle.std.specs.Prelude.{◌==◌}
use Rattle.std.specs.List.{list_any}
use Rattle.std.proofs.lemmas.Bool.{cases_Bool, eqb-true}
use Rattle.wk_base.specs.Faults.{Rose}
use Rattle.wk_table_rules.specs.Rows.{StoreTables}
use Rattle.wk_core.specs.Seen.{WikiSeen}
use Rattle.wk_core.specs.declared.outcomes.LoadCause.{LoadCause}
use Rattle.wk_core.specs.declared.outcomes.LoadCause.TheVariants as cause
use Rattle.wk_commands.specs.declared.ends.CommandEnd.{CommandEnd}
use Rattle.wk_commands.specs.declared.ends.CommandEnd.TheVariants as command
use Rattle.wk_commands.specs.Followed.{HasFollowed}
use Rattle.wk_commands.specs.Followed as following
use Rattle.wk_commands.specs.declared.replicas.ReplicaEnd.{ReplicaEnd}
use Rattle.wk_commands.specs.declared.works.Work.{Work}
use Rattle.wk_script.specs.Report.{IsRunTo}
use Rattle.wk_script.specs.declared.script.ScriptEnd.{ScriptEnd}
use Rattle.wk_script.specs.declared.script.ScriptEnd.TheVariants as end
use Rattle.wk_script_runs.specs.Outside.{Outside}
use Rattle.wk_words.specs.Verdicts.{Wanted, runs}
use Rattle.wk_words.specs.declared.commands.Command.{Command}
use Rattle.wk_words.specs.declared.commands.Command.TheVariants.{Script, Serve, Jobs, Check, Generate, Report, Replica}
use Rattle.wk_cli.specs.Statuses.{status_of_cause, status_of_command, status_of_end, status_of_replica, status_of_work}
use Rattle.wk_cli.specs.Scripted.{IsOver, IsScripted, VaultStore}
use Rattle.wk_cli.specs.Scripted as script
use Rattle.wk_cli.specs.Works.{DoorSeen, IsServedAt, IsWorkedAt}
use Rattle.wk_cli.specs.Works as work
use Rattle.wk_cli.specs.Finished.{IsCarriedOut, IsFinished, IsShown, VaultTold, store_named, work_of}
use Rattle.wk_cli.specs.Finished as finished
use Rattle.wk_cli.specs.declared.ends.Finish.{Finish}
use Rattle.wk_cli_laws.specs.Causes.{EndsWithItsCause, ReadsBadFeed, ReadsTooMuch, bad_feed, compares, is_done, no_room, out_of_memory, pages_differ, reads_input, too_long}
use Rattle.wk_cli_laws.specs.Complete.{EndsWithoutFault, HasNoFaultOutside}
use Rattle.wk_cli_laws.specs.Full.{FindsNoRoom}
use Rattle.wk_cli.proofs.Ended.{report-not}
use Rattle.wk_cli_laws.proofs.Complete.{finished-ends, finished-whole}
use Rattle.wk_cli_laws.proofs.Full.{finished-full}

-- ---- at 9 too much was read

no-cause-nine : (why : LoadCause) → status_of_cause why ≡ 9 → ⊥
no-cause-nine cause.Memory is = omega (arith, is)
no-cause-nine cause.StoreFault is = omega (arith, is)
no-cause-nine (cause.BadStore bad) is = omega (arith, is)

no-command-nine : (how : CommandEnd) → status_of_command how ≡ 9 → ⊥
no-command-nine command.Done is = omega (arith, is)
no-command-nine command.Memory is = omega (arith, is)
no-command-nine command.WriteFault is = omega (arith, is)
no-command-nine command.StoreFault is = omega (arith, is)
no-command-nine command.DoorFault is = omega (arith, is)
no-command-nine command.Differs is = omega (arith, is)
no-command-nine command.Full is = omega (arith, is)

no-work-nine : (end : Result CommandEnd LoadCause) → status_of_work end ≡ 9 → ⊥
no-work-nine (Ok how) is = no-command-nine how is
no-work-nine (Err why) is = no-cause-nine why is

module _ {K : Type 0} (told : K → Option StoreTables) (faults : K → ℕ) (before after : Outside) where
  run-bound : (wiki : WikiSeen K) (how : ScriptEnd) (points : List ℕ) (handed : Result (WikiSeen K) K)
      → IsRunTo told faults wiki before after how points handed → status_of_end how ≡ 9 → ReadsTooMuch before after
  run-bound wiki end.Bound points handed run is = record { read = run.read; consumed = run.run.first.consumed; much = run.bound refl }
  run-bound wiki end.Done points handed run is = absurd (omega (arith, is))
  run-bound wiki end.Memory points handed run is = absurd (omega (arith, is))
  run-bound wiki end.ReadFault points handed run is = absurd (omega (arith, is))
  run-bound wiki end.WriteFault points handed run is = absurd (omega (arith, is))
  run-bound wiki end.StoreFault points handed run is = absurd (omega (arith, is))
  run-bound wiki (end.BadStore bad) points handed run is = absurd (omega (arith, is))

module _ {K : Type 0} (told : K → Option StoreTables) (faults : K → ℕ) (is_whole : K → Bool) (journal : ℕ) (before after : Outside) (finish : Finish K) where
  over-bound : (keeper : K) → IsOver told faults is_whole journal keeper before after finish → finish.status ≡ 9 → ReadsTooMuch before after
  over-bound keeper (script.not_loaded o) nine = absurd (no-cause-nine o.why (sym o.status_is ∙ nine))
  over-bound keeper (script.ran o) nine = run-bound told faults before after o.wiki o.how finish.points.items o.handed o.run (sym o.status_is ∙ nine)

  module _ (kept : VaultStore) (opens later : ℕ) where
    scripted-bound : IsScripted told faults is_whole journal kept opens later before after finish → finish.status ≡ 9 → ReadsTooMuch before after
    scripted-bound (script.no_memory is none) nine = absurd (omega (arith, is, nine))
    scripted-bound (script.not_opened is rose none) nine = absurd (omega (arith, is, nine))
    scripted-bound (script.over_a_store keeper had same over) nine = over-bound keeper over nine

    worked-bound : (asked : Work) → IsWorkedAt told faults is_whole asked journal kept opens later before after finish → finish.status ≡ 9 → ⊥
    worked-bound asked (work.no_memory is none) nine = omega (arith, is, nine)
    worked-bound asked (work.not_opened is rose none) nine = omega (arith, is, nine)
    worked-bound asked (work.over_a_store keeper had same over) nine = no-work-nine over.end (sym over.status_is ∙ nine)

    served-bound : {L : Type 0} (door door_later : DoorSeen L) (feed : Bool) (address : List ℕ) (most : ℕ)
        → IsServedAt told faults is_whole feed address most journal kept opens later door door_later before after finish → finish.status ≡ 9 → ⊥
    served-bound door door_later feed address most (work.no_memory_to_open is none same) nine = omega (arith, is, nine)
    served-bound door door_later feed address most (work.unopened is rose none same) nine = omega (arith, is, nine)
    served-bound door door_later feed address most (work.over_the_store keeper had same over) nine = no-work-nine over.end (sym over.status_is ∙ nine)

-- of a replica, and at 11 its feed is bad
module _ {L : Type 0} {address : List ℕ} {most : ℕ} {door door_later : DoorSeen L} {before after : Outside} where
  replica-bound : {how : ReplicaEnd} → HasFollowed address most door.told door_later.told door.faults door_later.faults before.rest after.rest before.taken after.taken how → status_of_replica how ≡ 9 → ReadsTooMuch before after
  replica-bound (following.too_long much none) is = record { read = much.read; consumed = much.consumed; much = much.much }
  replica-bound (following.followed events count given all same ended tells text) is = absurd (omega (arith, is))
  replica-bound (following.bad_feed number bad none) is = absurd (omega (arith, is))
  replica-bound (following.unread none) is = absurd (omega (arith, is))
  replica-bound (following.unwritten events ended tells part) is = absurd (omega (arith, is))
  replica-bound (following.broken rose none) is = absurd (omega (arith, is))
  replica-bound (following.no_memory none) is = absurd (omega (arith, is))

  replica-bad : {how : ReplicaEnd} → HasFollowed address most door.told door_later.told door.faults door_later.faults before.rest after.rest before.taken after.taken how → status_of_replica how ≡ 11 → ReadsBadFeed before after
  replica-bad (following.bad_feed number bad none) is = record { number = number; bad = bad }
  replica-bad (following.followed events count given all same ended tells text) is = absurd (omega (arith, is))
  replica-bad (following.unread none) is = absurd (omega (arith, is))
  replica-bad (following.unwritten events ended tells part) is = absurd (omega (arith, is))
  replica-bad (following.broken rose none) is = absurd (omega (arith, is))
  replica-bad (following.too_long much none) is = absurd (omega (arith, is))
  replica-bad (following.no_memory none) is = absurd (omega (arith, is))

shown-not-nine : {K : Type 0} (text : List ℕ) (before after : Outside) (finish : Finish K) → IsShown text before after finish → finish.status ≡ 9 → ⊥
shown-not-nine text before after finish shown nine = elim shown.written [ inl whole ↦ omega (arith, whole.0, nine) | inr cut ↦ omega (arith, cut.0, nine) ]

shown-not-eleven : {K : Type 0} (text : List ℕ) (before after : Outside) (finish : Finish K) → IsShown text before after finish → finish.status ≡ 11 → ⊥
shown-not-eleven text before after finish shown eleven = elim shown.written [ inl whole ↦ omega (arith, whole.0, eleven) | inr cut ↦ omega (arith, cut.0, eleven) ]

-- ---- the ends

one-of : (status n : ℕ) (ns : List ℕ) → list_any (λ s. status == s) (n ∷ ns) ≡ true → (status ≡ n) ⊎ (list_any (λ s. status == s) ns ≡ true)
one-of status n ns any = elim (cases_Bool (eqb status n)) [
  | inl here ↦ inl (eqb-true status n here)
  | inr other ↦ inr (rw other at any)
]

none-of : (status : ℕ) → list_any (λ s. status == s) [] ≡ true → ⊥
none-of status any = let e : false ≡ true = any in cc

module _ (wanted : Wanted) (kept : VaultStore) (before after : Outside) (status : ℕ)
    (bound : status ≡ 9 → ReadsTooMuch before after) (full : status ≡ 10 → FindsNoRoom wanted kept) (bad : wanted.command ≡ Replica → status ≡ 11 → ReadsBadFeed before after) where
  abbrev Ends : Type 0
  Ends = EndsWithItsCause wanted kept before after status

  -- the end by a status that may come, and what its cause is
  by-status : (n : ℕ) (ns : List ℕ) → (status ≡ n → Ends) → (list_any (λ s. status == s) ns ≡ true → Ends) → list_any (λ s. status == s) (n ∷ ns) ≡ true → Ends
  by-status n ns here others any = elim (one-of status n ns any) [ inl is ↦ here is | inr other ↦ others other ]

  at-none : list_any (λ s. status == s) [] ≡ true → Ends
  at-none any = absurd (none-of status any)

  at-ten : list_any (λ s. status == s) (10 ∷ []) ≡ true → Ends
  at-ten = by-status 10 [] (λ is. no_room is (full is)) at-none

  with-cause : (c : Command) → wanted.command ≡ c → EndsWithoutFault c status → Ends
  with-cause Script is = by-status 0 (1 ∷ 9 ∷ []) is_done (by-status 1 (9 ∷ []) out_of_memory (by-status 9 [] (λ nine. too_long nine (ap reads_input is) (bound nine)) at-none))
  with-cause Serve is = by-status 0 (1 ∷ []) is_done (by-status 1 [] out_of_memory at-none)
  with-cause Report is = by-status 0 (1 ∷ []) is_done (by-status 1 [] out_of_memory at-none)
  with-cause Replica is =
      by-status 0 (1 ∷ 9 ∷ 11 ∷ []) is_done (by-status 1 (9 ∷ 11 ∷ []) out_of_memory (by-status 9 (11 ∷ []) (λ nine. too_long nine (ap reads_input is) (bound nine))
      (by-status 11 [] (λ eleven. bad_feed eleven is (bad is eleven)) at-none)))
  with-cause Jobs is = by-status 0 (1 ∷ 10 ∷ []) is_done (by-status 1 (10 ∷ []) out_of_memory at-ten)
  with-cause Check is = by-status 0 (1 ∷ 8 ∷ []) is_done (by-status 1 (8 ∷ []) out_of_memory (by-status 8 [] (λ eight. pages_differ eight (ap compares is)) at-none))
  with-cause Generate is =
      by-status 0 (1 ∷ 8 ∷ 10 ∷ []) is_done (by-status 1 (8 ∷ 10 ∷ []) out_of_memory (by-status 8 (10 ∷ []) (λ eight. pages_differ eight (ap compares is)) at-ten))

module _ {K L : Type 0} (told : K → Option StoreTables) (faults : K → ℕ) (is_whole : K → Bool) (opens later : ℕ) (door door_later : DoorSeen L) (before after : Outside) (finish : Finish K) where
  carried-bound : (wanted : Wanted) (kept : VaultStore) → IsCarriedOut told faults is_whole wanted kept opens later door door_later before after finish
      → finish.status ≡ 9 → ReadsTooMuch before after
  carried-bound wanted kept (finished.scripted is done same) nine = scripted-bound told faults is_whole wanted.journal_limit before after finish kept opens later done nine
  carried-bound wanted kept (finished.worked asked is done same) nine = absurd (worked-bound told faults is_whole wanted.journal_limit before after finish kept opens later asked done nine)
  carried-bound wanted kept (finished.reported is done same) nine = absurd (report-not 9 refl done nine)
  carried-bound wanted kept (finished.followed is same done) nine = replica-bound done.followed (sym done.status_is ∙ nine)
  carried-bound wanted kept (finished.served is done) nine =
      absurd (served-bound told faults is_whole wanted.journal_limit before after finish kept opens later door door_later wanted.feed wanted.listen wanted.max_connections done nine)

  finished-bound : (wanted : Wanted) (vault : VaultTold) → IsFinished told faults is_whole (runs wanted) vault opens later door door_later before after finish
      → finish.status ≡ 9 → ReadsTooMuch before after
  finished-bound wanted vault (finished.no_memory is same same_door none) nine = absurd (omega (arith, is, nine))
  finished-bound wanted vault (finished.not_taken not is same same_door none) nine = absurd (omega (arith, is, nine))
  finished-bound wanted vault (finished.shown text asks same same_door shown) nine = absurd (shown-not-nine text before after finish shown nine)
  finished-bound wanted vault (finished.carried_out other is within done) nine = carried-bound other (store_named vault other.store) done nine

  carried-bad : (wanted : Wanted) (kept : VaultStore) → IsCarriedOut told faults is_whole wanted kept opens later door door_later before after finish
      → wanted.command ≡ Replica → finish.status ≡ 11 → ReadsBadFeed before after
  carried-bad wanted kept (finished.scripted is done same) asks eleven = absurd (let e : Script ≡ Replica = sym is ∙ asks in cc)
  carried-bad wanted kept (finished.worked asked is done same) asks eleven =
      absurd (let e : None ≡ Some asked = sym (ap (λ (c : Command). work_of c wanted.pages wanted.number) asks) ∙ is in cc)
  carried-bad wanted kept (finished.reported is done same) asks eleven = absurd (let e : Report ≡ Replica = sym is ∙ asks in cc)
  carried-bad wanted kept (finished.served is done) asks eleven = absurd (let e : Serve ≡ Replica = sym is ∙ asks in cc)
  carried-bad wanted kept (finished.followed is same done) asks eleven = replica-bad done.followed (sym done.status_is ∙ eleven)

  finished-bad : (wanted : Wanted) (vault : VaultTold) → IsFinished told faults is_whole (runs wanted) vault opens later door door_later before after finish
      → wanted.command ≡ Replica → finish.status ≡ 11 → ReadsBadFeed before after
  finished-bad wanted vault (finished.no_memory is same same_door none) asks eleven = absurd (omega (arith, is, eleven))
  finished-bad wanted vault (finished.not_taken not is same same_door none) asks eleven = absurd (omega (arith, is, eleven))
  finished-bad wanted vault (finished.shown text asks_for same same_door shown) asks eleven = absurd (shown-not-eleven text before after finish shown eleven)
  finished-bad wanted vault (finished.carried_out other is within done) asks eleven =
      let same : other ≡ wanted = (let equal : wanted ≡ other = (let e : runs wanted ≡ runs other = is in cc) in sym equal) in
      carried-bad other (store_named vault other.store) done (ap (λ (w : Wanted). w.command) same ∙ asks) eleven

  pub finished-with-cause : (wanted : Wanted) (vault : VaultTold) (reads reads_later writes writes_later : ℕ)
      → IsFinished told faults is_whole (runs wanted) vault opens later door door_later before after finish
      → (finish.status ≡ 3 → Rose reads reads_later) → (finish.status ≡ 4 → Rose writes writes_later)
      → vault.whole wanted.store ≡ true
      → HasNoFaultOutside (store_named vault wanted.store) opens later reads reads_later writes writes_later door door_later
      → EndsWithItsCause wanted (store_named vault wanted.store) before after finish.status
  finished-with-cause wanted vault reads reads_later writes writes_later done read written whole outside =
      with-cause wanted (store_named vault wanted.store) before after finish.status (finished-bound wanted vault done)
      (finished-full told faults is_whole opens later door door_later before after finish wanted vault done) (finished-bad wanted vault done) wanted.command refl
      (finished-ends told faults is_whole opens later door door_later before after finish wanted vault reads reads_later writes writes_later done read written
      (record { outside = outside; no_store_fault = finished-whole told faults is_whole opens later door door_later before after finish wanted vault done whole }))
