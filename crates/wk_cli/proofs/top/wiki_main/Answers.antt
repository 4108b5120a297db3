use Rattle.std.proofs.Common.{◌≡◌, true, refl, sym, subst, inl, inr, arith}
use Rattle.wk_words.specs.Verdicts.{is_refused, runs, shows_help, shows_version, verdict}
use Rattle.wk_words.specs.Answers.{Tells, texts, wanted_of}
use Rattle.wk_cli.specs.Finished.{carried_out, no_memory, not_taken, shown}
use Rattle.wk_cli.proofs.Ended.{carried-known, carried-not-two, carried-opens, not-refused, shown-known, shown-not-six, shown-not-three, shown-not-two}
use Rattle.wk_cli.proofs.Statuses.{IsKnown}
use Rattle.wk_cli.proofs.top.wiki_main.Goals as goal

-- a command
pub returns-in-Ok : goal.returns-in-Ok
returns-in-Ok g c = record {
  known = carried-known c.carry_out.ensures.carried_out;
  refused = λ is. absurd (carried-not-two c.carry_out.ensures.carried_out is);
  only_so = λ is. absurd (not-refused _ (runs (wanted_of c.in-Ok.line)) c.in-Ok.ensures.asked refl is);
  finished = carried_out (wanted_of c.in-Ok.line) c.in-Ok.ensures.asked c.in-Ok.ensures.within.pages c.carry_out.ensures.carried_out;
  reads_never_fall = c.carry_out.ensures.reads_never_fall;
  no_read_fault = c.carry_out.ensures.no_read_fault;
  read_fault = c.carry_out.ensures.read_fault;
  writes_never_fall = c.carry_out.ensures.writes_never_fall;
  no_write_fault = c.carry_out.ensures.no_write_fault;
  write_fault = c.carry_out.ensures.write_fault;
  opens_never_fall = c.carry_out.ensures.opens_never_fall;
  no_open_fault = carried-opens c.carry_out.ensures.carried_out;
  doors_never_fall = c.carry_out.ensures.doors_never_fall;
  no_door_fault = c.carry_out.ensures.no_door_fault;
  door_fault = c.carry_out.ensures.door_fault;
}

-- words that are refused
pub returns-in-Err-Words : goal.returns-in-Err-Words
returns-in-Err-Words g c = record {
  known = subst IsKnown (sym c.unopened.ensures.status) refl;
  refused = λ _. subst (λ v. is_refused v ≡ true) (sym (subst (Tells (verdict (texts c.args.words.now))) c.in-Err-Words.field-0-is c.in-Err-Words.ensures.refused)) refl;
  only_so = λ _. inl c.unopened.ensures.status;
  finished = not_taken (subst (Tells (verdict (texts c.args.words.now))) c.in-Err-Words.field-0-is c.in-Err-Words.ensures.refused) c.unopened.ensures.status refl refl
      (record { untouched = record { same = refl; nothing = c.unopened.ensures.points }; not_bad = c.unopened.ensures.bad; no_store = c.unopened.ensures.store });
  reads_never_fall = omega arith;
  no_read_fault = λ is. refl;
  read_fault = λ is. absurd (omega (arith, c.unopened.ensures.status, is));
  writes_never_fall = omega arith;
  no_write_fault = λ is. refl;
  write_fault = λ is. absurd (omega (arith, c.unopened.ensures.status, is));
  opens_never_fall = omega arith;
  no_open_fault = λ is. refl;
  doors_never_fall = omega arith;
  no_door_fault = λ is. refl;
  door_fault = λ is. absurd (omega (arith, c.unopened.ensures.status, is));
}

-- help
pub returns-in-Err-Help : goal.returns-in-Err-Help
returns-in-Err-Help g c = record {
  known = shown-known (c.show.ensures.shown (g.I.Source.rest c.args.input.now) (g.C.Clock.left c.args.clock.now));
  refused = λ is. absurd (shown-not-two (c.show.ensures.shown (g.I.Source.rest c.args.input.now) (g.C.Clock.left c.args.clock.now)) is);
  only_so = λ is. absurd (not-refused _ shows_help (subst (Tells (verdict (texts c.args.words.now))) c.in-Err-Help.field-0-is c.in-Err-Help.ensures.refused) refl is);
  finished = shown _ (inl (subst (Tells (verdict (texts c.args.words.now))) c.in-Err-Help.field-0-is c.in-Err-Help.ensures.refused)) refl refl (c.show.ensures.shown (g.I.Source.rest c.args.input.now) (g.C.Clock.left c.args.clock.now));
  reads_never_fall = omega arith;
  no_read_fault = λ is. refl;
  read_fault = λ is. absurd (shown-not-three (c.show.ensures.shown (g.I.Source.rest c.args.input.now) (g.C.Clock.left c.args.clock.now)) is);
  writes_never_fall = c.show.ensures.writes_never_fall;
  no_write_fault = c.show.ensures.no_write_fault;
  write_fault = c.show.ensures.write_fault;
  opens_never_fall = omega arith;
  no_open_fault = λ is. refl;
  doors_never_fall = omega arith;
  no_door_fault = λ is. refl;
  door_fault = λ is. absurd (shown-not-six (c.show.ensures.shown (g.I.Source.rest c.args.input.now) (g.C.Clock.left c.args.clock.now)) is);
}

-- the version
pub returns-in-Err-Version : goal.returns-in-Err-Version
returns-in-Err-Version g c = record {
  known = shown-known (c.show-in-Err-Version.ensures.shown (g.I.Source.rest c.args.input.now) (g.C.Clock.left c.args.clock.now));
  refused = λ is. absurd (shown-not-two (c.show-in-Err-Version.ensures.shown (g.I.Source.rest c.args.input.now) (g.C.Clock.left c.args.clock.now)) is);
  only_so = λ is. absurd (not-refused _ shows_version (subst (Tells (verdict (texts c.args.words.now))) c.in-Err-Version.field-0-is c.in-Err-Version.ensures.refused) refl is);
  finished = shown _ (inr (subst (Tells (verdict (texts c.args.words.now))) c.in-Err-Version.field-0-is c.in-Err-Version.ensures.refused)) refl refl (c.show-in-Err-Version.ensures.shown (g.I.Source.rest c.args.input.now) (g.C.Clock.left c.args.clock.now));
  reads_never_fall = omega arith;
  no_read_fault = λ is. refl;
  read_fault = λ is. absurd (shown-not-three (c.show-in-Err-Version.ensures.shown (g.I.Source.rest c.args.input.now) (g.C.Clock.left c.args.clock.now)) is);
  writes_never_fall = c.show-in-Err-Version.ensures.writes_never_fall;
  no_write_fault = c.show-in-Err-Version.ensures.no_write_fault;
  write_fault = c.show-in-Err-Version.ensures.write_fault;
  opens_never_fall = omega arith;
  no_open_fault = λ is. refl;
  doors_never_fall = omega arith;
  no_door_fault = λ is. refl;
  door_fault = λ is. absurd (shown-not-six (c.show-in-Err-Version.ensures.shown (g.I.Source.rest c.args.input.now) (g.C.Clock.left c.args.clock.now)) is);
}

-- memory ran out
pub returns : goal.returns
returns g c = record {
  known = subst IsKnown (sym c.unopened-in-Err-Memory.ensures.status) refl;
  refused = λ is. absurd (omega (arith, c.unopened-in-Err-Memory.ensures.status, is));
  only_so = λ _. inr c.unopened-in-Err-Memory.ensures.status;
  finished = no_memory c.unopened-in-Err-Memory.ensures.status refl refl
      (record { untouched = record { same = refl; nothing = c.unopened-in-Err-Memory.ensures.points }; not_bad = c.unopened-in-Err-Memory.ensures.bad; no_store = c.unopened-in-Err-Memory.ensures.store });
  reads_never_fall = omega arith;
  no_read_fault = λ is. refl;
  read_fault = λ is. absurd (omega (arith, c.unopened-in-Err-Memory.ensures.status, is));
  writes_never_fall = omega arith;
  no_write_fault = λ is. refl;
  write_fault = λ is. absurd (omega (arith, c.unopened-in-Err-Memory.ensures.status, is));
  opens_never_fall = omega arith;
  no_open_fault = λ is. refl;
  doors_never_fall = omega arith;
  no_door_fault = λ is. refl;
  door_fault = λ is. absurd (omega (arith, c.unopened-in-Err-Memory.ensures.status, is));
}
