use Rattle.std.proofs.Common.{refl, subst, inl, inr, arith}
use Rattle.std.specs.Io.KnownBytes.{Appends}
use Rattle.wk_base.specs.Writing.{AppendsPrefix}
use Rattle.wk_cli.proofs.helps.show.Goals as goal

pub returns-in-Ok : goal.returns-in-Ok
returns-in-Ok g c = record {
  shown = λ rest moments. record {
    written = inl (c.unopened.ensures.status, subst (Appends (g.O.Sink.taken c.args.output.now) (g.O.Sink.taken c.write_all.new.output)) c.as_bytes.ensures.value c.in-Ok.ensures.ok);
    nothing_read = refl;
    no_moment = refl;
    no_point = c.unopened.ensures.points;
    not_bad = c.unopened.ensures.bad;
    no_store = c.unopened.ensures.store;
  };
  writes_never_fall = c.write_all.ensures.never_falls;
  no_write_fault = λ _. c.in-Ok.ensures.no_fault;
  write_fault = λ is. absurd (omega (arith, c.unopened.ensures.status, is));
}

pub returns-in-Err : goal.returns-in-Err
returns-in-Err g c = record {
  shown = λ rest moments. record {
    written = inr (c.unopened-in-Err.ensures.status, subst (AppendsPrefix (g.O.Sink.taken c.args.output.now) (g.O.Sink.taken c.write_all.new.output)) c.as_bytes.ensures.value c.in-Err.ensures.err);
    nothing_read = refl;
    no_moment = refl;
    no_point = c.unopened-in-Err.ensures.points;
    not_bad = c.unopened-in-Err.ensures.bad;
    no_store = c.unopened-in-Err.ensures.store;
  };
  writes_never_fall = c.write_all.ensures.never_falls;
  no_write_fault = λ is. absurd (omega (arith, c.unopened-in-Err.ensures.status, is));
  write_fault = λ _. c.in-Err.ensures.cause;
}
