use Rattle.std.proofs.Common.{Err, ap, arith, refl}
use Rattle.wk_cli.specs.Scripted.{no_memory, not_opened, over_a_store}
use Rattle.wk_cli.proofs.scripts.script.Goals as goal

-- the store was opened
pub returns-in-Ok : goal.returns-in-Ok
returns-in-Ok g c = record {
  scripted = over_a_store c.in-Ok.store
      (record { tables = c.in-Ok.ensures.given; whole = c.in-Ok.ensures.whole; no_fault = c.in-Ok.ensures.no_faults })
      (c.in-Ok.ensures.no_fault (λ e. cc)) c.script_over.ensures.over;
  reads_never_fall = c.script_over.ensures.reads_never_fall;
  no_read_fault = c.script_over.ensures.no_read_fault;
  read_fault = c.script_over.ensures.read_fault;
  writes_never_fall = c.script_over.ensures.writes_never_fall;
  no_write_fault = c.script_over.ensures.no_write_fault;
  write_fault = c.script_over.ensures.write_fault;
  opens_never_fall = c.open.ensures.never_falls;
}

-- it wasn't
pub returns-in-Err-Failed : goal.returns-in-Err-Failed
returns-in-Err-Failed g c = record {
  scripted = not_opened c.unopened.ensures.status (c.in-Err-Failed.ensures.cause (ap Err c.in-Err-Failed.field-0-is))
      (record { untouched = record { same = refl; nothing = c.unopened.ensures.points }; not_bad = c.unopened.ensures.bad; no_store = c.unopened.ensures.store });
  reads_never_fall = omega arith;
  no_read_fault = λ is. refl;
  read_fault = λ is. absurd (omega (arith, c.unopened.ensures.status, is));
  writes_never_fall = omega arith;
  no_write_fault = λ is. refl;
  write_fault = λ is. absurd (omega (arith, c.unopened.ensures.status, is));
  opens_never_fall = c.open.ensures.never_falls;
}

-- memory ran out
pub returns-in-Err-Memory : goal.returns-in-Err-Memory
returns-in-Err-Memory g c = record {
  scripted = no_memory c.unopened-in-Err-Memory.ensures.status
      (record { untouched = record { same = refl; nothing = c.unopened-in-Err-Memory.ensures.points }; not_bad = c.unopened-in-Err-Memory.ensures.bad; no_store = c.unopened-in-Err-Memory.ensures.store });
  reads_never_fall = omega arith;
  no_read_fault = λ is. refl;
  read_fault = λ is. absurd (omega (arith, c.unopened-in-Err-Memory.ensures.status, is));
  writes_never_fall = omega arith;
  no_write_fault = λ is. refl;
  write_fault = λ is. absurd (omega (arith, c.unopened-in-Err-Memory.ensures.status, is));
  opens_never_fall = c.open.ensures.never_falls;
}
