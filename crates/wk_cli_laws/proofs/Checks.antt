-- `check` over an empty store, where nothing fails.
use Rattle.std.proofs.Common.{◌≡◌, ◌≤◌, ℕ, true, [], Option, Some, None, Ok, refl, sym, subst, lit≤, arith}
use Rattle.std.specs.Prelude.{IfSome}
use Rattle.wk_base.specs.Faults.{Rose}
use Rattle.wk_table_rules.specs.Rows.{no_tables}
use Rattle.wk_wiki_rules.specs.States.{no_state}
use Rattle.wk_tool_rules.specs.Computing.{computing}
use Rattle.wk_tool_rules.specs.Checks.{check_text}
use Rattle.wk_core.specs.Seen.{WikiSeen}
use Rattle.wk_commands.specs.Checked.{IsCompared}
use Rattle.wk_commands.specs.Worked.{IsDoneOver, done, limits_with_journal}
use Rattle.wk_commands.specs.declared.ends.CommandEnd.TheVariants as command
use Rattle.wk_commands.specs.declared.works.Work.TheVariants as asks
use Rattle.wk_words.specs.Verdicts.{runs}
use Rattle.wk_cli.specs.Finished.{IsFinished, carried_out, store_named, worked}
use Rattle.wk_cli.specs.Works.{over_a_store}
use Rattle.wk_cli.specs.declared.ends.Finish.{Finish}
use Rattle.wk_cli_laws.specs.Complete.{HasNoFault, HasNoFaultOutside}
use Rattle.wk_cli_laws.specs.Example.{IsDone, always_whole, counts_of_nothing, empty_vault, never_failed, outside_before, outside_behind, silent_door, tells_empty, wanted_check}

-- the wiki over the store
abbrev empty_wiki : WikiSeen (Unit {0})
empty_wiki = record {
  start = record { state = no_state; limits = limits_with_journal 33554432; whole = true; tells = true; failed = Some 0; sealed = None };
  journal = [];
  state = no_state;
  keeper = tt;
}

compared : IsCompared no_state (check_text no_state) (Some []) (Some counts_of_nothing) command.Done
unfolding computing
compared = record {
  written = refl;
  same = λ is. refl;
  differs = λ is. let e : command.Done ≡ command.Differs = is in cc;
  not_full = λ is. let e : command.Done ≡ command.Full = is in cc;
  no_fault = λ is. let e : command.Done ≡ command.StoreFault = is in cc;
  no_door = λ is. let e : command.Done ≡ command.DoorFault = is in cc;
}

checked : IsDoneOver tells_empty never_failed always_whole asks.Check 33554432 tt tt (Some []) (Some []) (Some []) (Some counts_of_nothing) command.Done
unfolding computing
checked = record {
  first = empty_wiki;
  last = empty_wiki;
  opened_is = record { journal = refl; start = refl; limits = refl; unsealed = refl; queued = refl };
  state = (refl, refl);
  whole = refl;
  faults_at_first = refl;
  worked = (refl, compared);
  lived = record { journals = []; lives = refl };
  sound = λ is. is;
  keeper_is = refl;
  tables = refl;
  tells = refl;
  stays_whole = refl;
  whole_count = λ is. refl;
  checked = λ is. record { tells = refl; never_falls = lit≤ tt; whole = λ whole. refl; stays_whole = refl };
}

-- a count that stays at 0 doesn't rise
pub no-rise : Rose 0 0 → ⊥
no-rise rose = omega (arith, rose)

pub outside : HasNoFaultOutside (store_named empty_vault wanted_check.store) 0 0 0 0 0 0 silent_door silent_door
unfolding computing
outside = record {
  tables = no_tables;
  told_is = refl;
  good = refl;
  no_open_fault = no-rise;
  no_read_fault = no-rise;
  no_write_fault = no-rise;
  no_door_fault = no-rise;
}

module _ (finish : Finish (Unit {0})) (is : IsDone finish) where
  pub finished-check : IsFinished tells_empty never_failed always_whole (runs wanted_check) empty_vault 0 0 silent_door silent_door outside_before outside_behind finish
  finished-check =
      carried_out wanted_check refl (lit≤ tt, lit≤ tt)
      (worked asks.Check refl
      (over_a_store tt (record { tables = refl; whole = λ whole. refl; no_fault = refl }) refl
      (record {
        left = tt;
        end = Ok command.Done;
        worked = done command.Done refl checked;
        nothing_read = refl;
        status_is = is.status;
        bad_is = is.not_bad;
        no_point = is.no_point;
        store_is = is.store;
      }))
      refl)

  -- the status is no other
  pub not-status : (n : ℕ) → 1 ≤ n → finish.status ≡ n → ⊥
  not-status n positive other = let zero_is = is.status in omega (arith, positive, other, zero_is)

  pub no-fault : HasNoFault never_failed (store_named empty_vault wanted_check.store) 0 0 0 0 0 0 silent_door silent_door finish
  no-fault = record {
    outside = outside;
    no_store_fault = subst (λ (o : Option (Unit {0})). IfSome o (λ left. never_failed left ≡ 0)) (sym is.store) refl;
  }
