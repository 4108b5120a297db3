-- What a drain does as a command.
use Rattle.std.proofs.Common.{◌≡◌, ◌≢◌, ℕ, ◌≤◌, Bool, true, List, Option, inl, inr, refl, sym, ◌∙◌, subst}
use Rattle.std.specs.Io.KnownBytes.{Keeps}
use Rattle.std.proofs.KnownBytes.{Keeps-refl}
use Rattle.wk_tool_rules.specs.Checks.{jobs_text}
use Rattle.wk_life_laws.specs.Runs.{IsRun}
use Rattle.wk_core.specs.Loads.{HasOpened}
use Rattle.wk_core.specs.Seen.{WikiSeen, failed_where}
use Rattle.wk_serving.specs.Drains.{IsDrainedBy}
use Rattle.wk_tools.specs.Drains.{CanBeFull}
use Rattle.wk_tools.specs.declared.drains.DrainEnd.{DrainEnd}
use Rattle.wk_tools.specs.declared.drains.DrainEnd.TheVariants as drain
use Rattle.wk_commands.specs.Drained.{EndsJobs, IsDrained}
use Rattle.wk_commands.specs.Written.{HasWritten}
use Rattle.wk_commands.specs.declared.ends.CommandEnd.{CommandEnd}
use Rattle.wk_commands.specs.declared.ends.CommandEnd.TheVariants.{Done, Differs, DoorFault, Full, Memory, StoreFault, WriteFault}
use Rattle.wk_commands.proofs.Lives.{lived-on, sound-on}
use Rattle.wk_commands.proofs.Opening.{count-same}

-- an end that is no failed write is `Done`, so it is no other
whole-not : (end other : CommandEnd) → (end ≢ WriteFault → end ≡ Done) → other ≢ WriteFault → Done ≢ other → end ≢ other
whole-not end other done no_write no_done is = no_done (sym (done (λ write. no_write (sym is ∙ write))) ∙ is)

kept : (before after : Option (List ℕ)) → after ≡ before → Keeps before after
kept before after is = subst (Keeps before) (sym is) (Keeps-refl before)

module _ {K : Type 0} (is_whole : K → Bool) (faults : K → ℕ) (old new : WikiSeen K) (opening : HasOpened old old.start.limits) (run : IsRun old.start old.journal old.state)
    (held : is_whole old.keeper ≡ old.start.whole) (left : is_whole new.keeper ≡ new.start.whole)
    (had_failed : failed_where (is_whole old.keeper) (faults old.keeper) ≡ old.start.failed) (has_failed : failed_where (is_whole new.keeper) (faults new.keeper) ≡ new.start.failed)
    (before after : Option (List ℕ)) (end : CommandEnd) where
  whole-still : (drained : DrainEnd) → IsDrainedBy faults old new drained → is_whole new.keeper ≡ is_whole old.keeper
  whole-still drained by = left ∙ (by.whole ∙ sym held)

  count-still : (drained : DrainEnd) → IsDrainedBy faults old new drained → is_whole old.keeper ≡ true → faults new.keeper ≡ faults old.keeper
  count-still drained by =
      count-same (is_whole old.keeper) (is_whole new.keeper) (faults old.keeper) (faults new.keeper) (whole-still drained by) (has_failed ∙ (by.failed ∙ sym had_failed))

  -- before the end
  until : (at : CommandEnd) (drained : DrainEnd) → IsDrainedBy faults old new drained → end ≡ at → Done ≢ at → WriteFault ≢ at → Differs ≢ at → DoorFault ≢ at → HasWritten at jobs_text before after
      → (end ≡ Full → CanBeFull old) → (end ≡ StoreFault → 1 ≤ faults new.keeper) → IsDrained is_whole faults old new before after end
  until at drained by is not_done not_write not_differs not_door written full fault = record {
    lived = lived-on old opening new by.lived;
    history = by.history;
    sound = sound-on old opening new.state run (lived-on old opening new by.lived);
    none_left = λ ended. elim ended [ inl done ↦ absurd (not_done (sym done ∙ is)) | inr write ↦ absurd (not_write (sym write ∙ is)) ];
    written = subst (λ e. HasWritten e jobs_text before after) (sym is) written;
    full = full;
    fault = fault;
    compares_nothing = λ differs. not_differs (sym differs ∙ is);
    no_door = λ door. not_door (sym door ∙ is);
    tells = by.tells;
    stays_whole = whole-still drained by;
    whole_count = count-still drained by;
  }

  pub drained-by : (drained : DrainEnd) → IsDrainedBy faults old new drained → EndsJobs drained end before after → IsDrained is_whole faults old new before after end
  drained-by drain.Done by ends = record {
    lived = lived-on old opening new by.lived;
    history = by.history;
    sound = sound-on old opening new.state run (lived-on old opening new by.lived);
    none_left = λ _. by.done refl;
    written = ends.0;
    full = λ full. absurd (whole-not end Full ends.1 (λ e. cc) (λ e. cc) full);
    fault = λ fault. absurd (whole-not end StoreFault ends.1 (λ e. cc) (λ e. cc) fault);
    compares_nothing = whole-not end Differs ends.1 (λ e. cc) (λ e. cc);
    no_door = whole-not end DoorFault ends.1 (λ e. cc) (λ e. cc);
    tells = by.tells;
    stays_whole = whole-still drain.Done by;
    whole_count = count-still drain.Done by;
  }
  drained-by drain.JournalFull by ends =
      until Full drain.JournalFull by ends.0 (λ e. cc) (λ e. cc) (λ e. cc) (λ e. cc) (kept before after ends.1) (λ _. by.full refl)
      (λ fault. absurd (let e : Full ≡ StoreFault = sym ends.0 ∙ fault in cc))
  drained-by drain.StoreFault by ends =
      until StoreFault drain.StoreFault by ends.0 (λ e. cc) (λ e. cc) (λ e. cc) (λ e. cc) (kept before after ends.1) (λ full. absurd (let e : StoreFault ≡ Full = sym ends.0 ∙ full in cc))
      (λ _. by.fault refl)
  drained-by drain.Memory by ends =
      until Memory drain.Memory by ends.0 (λ e. cc) (λ e. cc) (λ e. cc) (λ e. cc) (kept before after ends.1) (λ full. absurd (let e : Memory ≡ Full = sym ends.0 ∙ full in cc))
      (λ fault. absurd (let e : Memory ≡ StoreFault = sym ends.0 ∙ fault in cc))
