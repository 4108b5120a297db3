use Rattle.std.proofs.Common.{refl, sym, ◌∙◌, arith}
use Rattle.wk_cli.proofs.Over.{opened-as, run-over, unloaded-over, within-as}
use Rattle.wk_cli.proofs.Statuses.{is-done, is-read-fault, is-write-fault, no-cause-four, no-cause-three}
use Rattle.wk_cli.proofs.scripts.script_over.Goals as goal

pub load-requires : goal.load-requires
load-requires g c = record { within = c.limits_with_journal.ensures.within }

pub run_script-requires : goal.run_script-requires
run_script-requires g c = record {
  begun = c.in-Ok.ensures.opened.journal;
  unsealed = c.in-Ok.ensures.opened.unsealed;
  within = within-as _ _ c.in-Ok.ensures.opened.limits c.limits_with_journal.ensures.within;
}

-- the script ran
pub returns-in-Ok : goal.returns-in-Ok
returns-in-Ok g c = record {
  over = run-over g.K.Keeper.told g.K.Keeper.faults g.K.Keeper.is_whole c.args.journal c.args.keeper _ _ _ c.in-Ok.wiki c.run_script.result.end _ c.run_script.result.wiki
      (opened-as _ _ _ c.limits_with_journal.ensures.limits c.in-Ok.ensures.opened) c.in-Ok.ensures.state c.in-Ok.ensures.tells c.facts.ensures.whole c.in-Ok.ensures.whole c.in-Ok.ensures.no_fault
      c.run_script.ensures.run c.run_script.ensures.handed c.run_script.ensures.not_bad
      c.reported.ensures.status c.reported.ensures.points c.reported.ensures.bad c.reported.ensures.store;
  reads_never_fall = c.run_script.ensures.reads_never_fall;
  no_read_fault = λ is. c.run_script.ensures.no_read_fault (is-done _ (sym c.reported.ensures.status ∙ is));
  read_fault = λ is. c.run_script.ensures.read_fault (is-read-fault _ (sym c.reported.ensures.status ∙ is));
  writes_never_fall = c.run_script.ensures.writes_never_fall;
  no_write_fault = λ is. c.run_script.ensures.no_write_fault (is-done _ (sym c.reported.ensures.status ∙ is));
  write_fault = λ is. c.run_script.ensures.write_fault (is-write-fault _ (sym c.reported.ensures.status ∙ is));
}

-- the wiki wasn't opened
pub returns-in-Err : goal.returns-in-Err
returns-in-Err g c = record {
  over = unloaded-over g.K.Keeper.told g.K.Keeper.faults g.K.Keeper.is_whole c.args.journal c.args.keeper _ _ c.in-Err.refusal.cause c.in-Err.refusal.keeper
      c.in-Err.ensures.bad c.in-Err.ensures.refused c.in-Err.ensures.fault c.in-Err.ensures.never_falls c.in-Err.ensures.whole_count
      c.unloaded.ensures.status c.unloaded.ensures.points c.unloaded.ensures.bad c.unloaded.ensures.store;
  reads_never_fall = omega arith;
  no_read_fault = λ is. refl;
  read_fault = λ is. absurd (no-cause-three _ (sym c.unloaded.ensures.status ∙ is));
  writes_never_fall = omega arith;
  no_write_fault = λ is. refl;
  write_fault = λ is. absurd (no-cause-four _ (sym c.unloaded.ensures.status ∙ is));
}
