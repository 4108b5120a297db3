use Rattle.std.proofs.Common.{Ok, refl, ap, arith}
use Rattle.wk_reports.proofs.Opened.{ends-same, not-ended, reported-on}
use Rattle.wk_reports.proofs.over.report_over.Goals as goal

pub returns-in-Ok : goal.returns-in-Ok
returns-in-Ok g c = record {
  reported = record {
    wiki = c.in-Ok.wiki;
    opened_is = c.in-Ok.ensures.opened;
    state = c.in-Ok.ensures.state;
    written = c.write_report-end.ensures.written;
    tables = c.release.ensures.told;
    keeper_goes_on = reported-on g.K.Keeper.told g.K.Keeper.faults g.K.Keeper.is_whole c.args.keeper c.in-Ok.wiki.keeper c.release.result
        c.release.ensures.keeper c.in-Ok.ensures.tells c.in-Ok.ensures.no_fault c.in-Ok.ensures.whole;
  };
  never_falls = c.write_report-end.ensures.never_falls;
  no_write_fault = λ not. c.write_report-end.ensures.no_write_fault (λ is. not (ap Ok is));
  write_fault = λ is. c.write_report-end.ensures.write_fault (ends-same _ _ is);
}

pub returns-in-Err : goal.returns-in-Err
returns-in-Err g c = record {
  reported = record {
    nothing_written = refl;
    tables = c.in-Err.ensures.refused;
    broken = c.in-Err.ensures.bad;
    fault = c.in-Err.ensures.fault;
    never_falls = c.in-Err.ensures.never_falls;
    whole = c.in-Err.ensures.whole_count;
    stays_whole = c.in-Err.ensures.refused_whole;
  };
  never_falls = omega arith;
  no_write_fault = λ _. refl;
  write_fault = λ is. absurd (not-ended _ _ is);
}
