use Rattle.std.proofs.Common.{refl, ap, arith}
use Rattle.wk_commands.specs.declared.works.Work.TheVariants as work
use Rattle.wk_words.specs.declared.commands.Command.{Command}
use Rattle.wk_cli.specs.Finished.{followed, reported, scripted, served, work_of, worked}
use Rattle.wk_cli.proofs.Ended.{report-not, script-not-six, serve-not-three, work-not-six, work-not-three}
use Rattle.wk_cli.proofs.top.carry_out.Goals as goal

pub returns-in-Script : goal.returns-in-Script
returns-in-Script g c = record {
  carried_out = scripted c.in-Script.is c.script.ensures.scripted refl;
  reads_never_fall = c.script.ensures.reads_never_fall;
  no_read_fault = c.script.ensures.no_read_fault;
  read_fault = c.script.ensures.read_fault;
  writes_never_fall = c.script.ensures.writes_never_fall;
  no_write_fault = c.script.ensures.no_write_fault;
  write_fault = c.script.ensures.write_fault;
  opens_never_fall = c.script.ensures.opens_never_fall;
  doors_never_fall = omega arith;
  no_door_fault = λ _. refl;
  door_fault = λ is. absurd (script-not-six c.script.ensures.scripted is);
}

pub returns-in-Jobs : goal.returns-in-Jobs
returns-in-Jobs g c = record {
  carried_out = worked work.Jobs (ap (λ (k : Command). work_of k c.args.line.now.pages c.args.line.now.number) c.in-Jobs.is) (c.work.ensures.worked (g.I.Source.rest c.args.input.now)) refl;
  reads_never_fall = omega arith;
  no_read_fault = λ is. refl;
  read_fault = λ is. absurd (work-not-three (c.work.ensures.worked (g.I.Source.rest c.args.input.now)) is);
  writes_never_fall = c.work.ensures.writes_never_fall;
  no_write_fault = c.work.ensures.no_write_fault;
  write_fault = c.work.ensures.write_fault;
  opens_never_fall = c.work.ensures.opens_never_fall;
  doors_never_fall = omega arith;
  no_door_fault = λ _. refl;
  door_fault = λ is. absurd (work-not-six (c.work.ensures.worked (g.I.Source.rest c.args.input.now)) is);
}

pub returns-in-Check : goal.returns-in-Check
returns-in-Check g c = record {
  carried_out = worked work.Check (ap (λ (k : Command). work_of k c.args.line.now.pages c.args.line.now.number) c.in-Check.is) (c.work-in-Check.ensures.worked (g.I.Source.rest c.args.input.now)) refl;
  reads_never_fall = omega arith;
  no_read_fault = λ is. refl;
  read_fault = λ is. absurd (work-not-three (c.work-in-Check.ensures.worked (g.I.Source.rest c.args.input.now)) is);
  writes_never_fall = c.work-in-Check.ensures.writes_never_fall;
  no_write_fault = c.work-in-Check.ensures.no_write_fault;
  write_fault = c.work-in-Check.ensures.write_fault;
  opens_never_fall = c.work-in-Check.ensures.opens_never_fall;
  doors_never_fall = omega arith;
  no_door_fault = λ _. refl;
  door_fault = λ is. absurd (work-not-six (c.work-in-Check.ensures.worked (g.I.Source.rest c.args.input.now)) is);
}

pub returns-in-Generate : goal.returns-in-Generate
returns-in-Generate g c = record {
  carried_out = worked (work.Generate c.args.line.now.pages c.args.line.now.number) (ap (λ (k : Command). work_of k c.args.line.now.pages c.args.line.now.number) c.in-Generate.is) (c.work-in-Generate.ensures.worked (g.I.Source.rest c.args.input.now)) refl;
  reads_never_fall = omega arith;
  no_read_fault = λ is. refl;
  read_fault = λ is. absurd (work-not-three (c.work-in-Generate.ensures.worked (g.I.Source.rest c.args.input.now)) is);
  writes_never_fall = c.work-in-Generate.ensures.writes_never_fall;
  no_write_fault = c.work-in-Generate.ensures.no_write_fault;
  write_fault = c.work-in-Generate.ensures.write_fault;
  opens_never_fall = c.work-in-Generate.ensures.opens_never_fall;
  doors_never_fall = omega arith;
  no_door_fault = λ _. refl;
  door_fault = λ is. absurd (work-not-six (c.work-in-Generate.ensures.worked (g.I.Source.rest c.args.input.now)) is);
}

pub returns-in-Serve : goal.returns-in-Serve
returns-in-Serve g c = record {
  carried_out = served c.in-Serve.is (c.serve.ensures.served (g.I.Source.rest c.args.input.now));
  reads_never_fall = omega arith;
  no_read_fault = λ is. refl;
  read_fault = λ is. absurd (serve-not-three (c.serve.ensures.served (g.I.Source.rest c.args.input.now)) is);
  writes_never_fall = c.serve.ensures.writes_never_fall;
  no_write_fault = c.serve.ensures.no_write_fault;
  write_fault = c.serve.ensures.write_fault;
  opens_never_fall = c.serve.ensures.opens_never_fall;
  doors_never_fall = c.serve.ensures.doors_never_fall;
  no_door_fault = c.serve.ensures.no_door_fault;
  door_fault = c.serve.ensures.door_fault;
}

pub returns-in-Report : goal.returns-in-Report
returns-in-Report g c =
    let done = c.report.ensures.reported (g.I.Source.rest c.args.input.now) (g.C.Clock.left c.args.clock.now) in record {
      carried_out = reported c.in-Report.is done refl;
      reads_never_fall = omega arith;
      no_read_fault = λ is. refl;
      read_fault = λ is. absurd (report-not 3 refl done is);
      writes_never_fall = c.report.ensures.writes_never_fall;
      no_write_fault = c.report.ensures.no_write_fault;
      write_fault = c.report.ensures.write_fault;
      opens_never_fall = c.report.ensures.opens_never_fall;
      doors_never_fall = omega arith;
      no_door_fault = λ _. refl;
      door_fault = λ is. absurd (report-not 6 refl done is);
    }

pub returns-in-Replica : goal.returns-in-Replica
returns-in-Replica g c =
    let done = c.replica.ensures in record {
      carried_out = followed c.in-Replica.is refl (done.followed (g.C.Clock.left c.args.clock.now));
      reads_never_fall = done.reads_never_fall;
      no_read_fault = done.no_read_fault;
      read_fault = done.read_fault;
      writes_never_fall = done.writes_never_fall;
      no_write_fault = done.no_write_fault;
      write_fault = done.write_fault;
      opens_never_fall = omega arith;
      doors_never_fall = done.doors_never_fall;
      no_door_fault = done.no_door_fault;
      door_fault = done.door_fault;
    }
