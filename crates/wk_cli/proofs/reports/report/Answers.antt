use Rattle.std.proofs.Common.{Err, sym, ◌∙◌, ap, arith, refl}
use Rattle.wk_cli.specs.Reported.{no_memory, not_opened, over_a_store}
use Rattle.wk_cli.proofs.Statuses.{report-is-write-fault, report-without-write-fault}
use Rattle.wk_cli.proofs.reports.report.Goals as goal

-- the store was opened
pub returns-in-Ok : goal.returns-in-Ok
returns-in-Ok g c = record {
  reported = λ rest moments. over_a_store c.in-Ok.store
      (record { tables = c.in-Ok.ensures.given; whole = c.in-Ok.ensures.whole; no_fault = c.in-Ok.ensures.no_faults })
      (c.in-Ok.ensures.no_fault (λ e. cc))
      (record {
        left = c.report_over.result.keeper;
        end = c.report_over.result.end;
        reported = c.report_over.ensures.reported;
        nothing_read = refl;
        no_moment = refl;
        status_is = c.ended.ensures.status;
        bad_is = c.ended.ensures.bad;
        no_point = c.ended.ensures.points;
        store_is = c.ended.ensures.store;
      });
  writes_never_fall = c.report_over.ensures.never_falls;
  no_write_fault = λ is. c.report_over.ensures.no_write_fault (report-without-write-fault _ (sym c.ended.ensures.status ∙ is));
  write_fault = λ is. c.report_over.ensures.write_fault (report-is-write-fault _ (sym c.ended.ensures.status ∙ is));
  opens_never_fall = c.open.ensures.never_falls;
}

-- it wasn't
pub returns-in-Err-Failed : goal.returns-in-Err-Failed
returns-in-Err-Failed g c = record {
  reported = λ rest moments. not_opened c.unopened.ensures.status (c.in-Err-Failed.ensures.cause (ap Err c.in-Err-Failed.field-0-is))
      (record { untouched = record { same = refl; nothing = c.unopened.ensures.points }; not_bad = c.unopened.ensures.bad; no_store = c.unopened.ensures.store });
  writes_never_fall = omega arith;
  no_write_fault = λ is. refl;
  write_fault = λ is. absurd (omega (arith, c.unopened.ensures.status, is));
  opens_never_fall = c.open.ensures.never_falls;
}

-- memory ran out
pub returns-in-Err-Memory : goal.returns-in-Err-Memory
returns-in-Err-Memory g c = record {
  reported = λ rest moments. no_memory c.unopened-in-Err-Memory.ensures.status
      (record { untouched = record { same = refl; nothing = c.unopened-in-Err-Memory.ensures.points }; not_bad = c.unopened-in-Err-Memory.ensures.bad; no_store = c.unopened-in-Err-Memory.ensures.store });
  writes_never_fall = omega arith;
  no_write_fault = λ is. refl;
  write_fault = λ is. absurd (omega (arith, c.unopened-in-Err-Memory.ensures.status, is));
  opens_never_fall = c.open.ensures.never_falls;
}
