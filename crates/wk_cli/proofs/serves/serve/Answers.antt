use Rattle.std.proofs.Common.{Err, sym, ◌∙◌, ap, arith, refl}
use Rattle.wk_cli.specs.Works.{no_memory_to_open, over_the_store, unopened}
use Rattle.wk_cli.proofs.Ended.{served-rose, served-same}
use Rattle.wk_cli.proofs.Statuses.{work-is-write-fault, work-without-write-fault}
use Rattle.wk_cli.proofs.serves.serve.Goals as goal

-- the store was opened
pub returns-in-Ok : goal.returns-in-Ok
returns-in-Ok g c = record {
  served = λ rest. over_the_store c.in-Ok.store
      (record { tables = c.in-Ok.ensures.given; whole = c.in-Ok.ensures.whole; no_fault = c.in-Ok.ensures.no_faults })
      (c.in-Ok.ensures.no_fault (λ e. cc))
      (record {
        left = c.serve_over.result.keeper;
        end = c.serve_over.result.end;
        served = c.serve_over.ensures.served;
        nothing_read = refl;
        status_is = c.ended.ensures.status;
        bad_is = c.ended.ensures.bad;
        no_point = c.ended.ensures.points;
        store_is = c.ended.ensures.store;
      });
  writes_never_fall = c.serve_over.ensures.never_falls;
  no_write_fault = λ is. c.serve_over.ensures.no_write_fault (work-without-write-fault _ (sym c.ended.ensures.status ∙ is));
  write_fault = λ is. c.serve_over.ensures.write_fault (work-is-write-fault _ (sym c.ended.ensures.status ∙ is));
  opens_never_fall = c.open.ensures.never_falls;
  doors_never_fall = c.serve_over.ensures.door_never_falls;
  no_door_fault = λ is. served-same c.serve_over.ensures.served (sym c.ended.ensures.status ∙ is);
  door_fault = λ is. served-rose c.serve_over.ensures.served (sym c.ended.ensures.status ∙ is);
}

-- it wasn't
pub returns-in-Err-Failed : goal.returns-in-Err-Failed
returns-in-Err-Failed g c = record {
  served = λ rest. unopened c.unopened.ensures.status (c.in-Err-Failed.ensures.cause (ap Err c.in-Err-Failed.field-0-is))
      (record { untouched = record { same = refl; nothing = c.unopened.ensures.points }; not_bad = c.unopened.ensures.bad; no_store = c.unopened.ensures.store }) refl;
  writes_never_fall = omega arith;
  no_write_fault = λ is. refl;
  write_fault = λ is. absurd (omega (arith, c.unopened.ensures.status, is));
  opens_never_fall = c.open.ensures.never_falls;
  doors_never_fall = omega arith;
  no_door_fault = λ is. refl;
  door_fault = λ is. absurd (omega (arith, c.unopened.ensures.status, is));
}

-- memory ran out
pub returns-in-Err-Memory : goal.returns-in-Err-Memory
returns-in-Err-Memory g c = record {
  served = λ rest. no_memory_to_open c.unopened-in-Err-Memory.ensures.status
      (record { untouched = record { same = refl; nothing = c.unopened-in-Err-Memory.ensures.points }; not_bad = c.unopened-in-Err-Memory.ensures.bad; no_store = c.unopened-in-Err-Memory.ensures.store }) refl;
  writes_never_fall = omega arith;
  no_write_fault = λ is. refl;
  write_fault = λ is. absurd (omega (arith, c.unopened-in-Err-Memory.ensures.status, is));
  opens_never_fall = c.open.ensures.never_falls;
  doors_never_fall = omega arith;
  no_door_fault = λ is. refl;
  door_fault = λ is. absurd (omega (arith, c.unopened-in-Err-Memory.ensures.status, is));
}
