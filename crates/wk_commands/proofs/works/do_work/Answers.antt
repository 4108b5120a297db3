use Rattle.std.proofs.Common.{refl, sym, subst}
use Rattle.wk_commands.specs.Worked.{IsWorked}
use Rattle.wk_commands.specs.declared.works.Work.{Work}
use Rattle.wk_commands.proofs.Lives.{same-on}
use Rattle.wk_commands.proofs.works.do_work.Goals as goal

pub returns-in-Check : goal.returns-in-Check
returns-in-Check g c =
    let left = g.C.Clock.left c.args.clock.now in
    let wiki = c.args.wiki in record {
      worked = subst (λ (w : Work). IsWorked g.K.Keeper.is_whole g.K.Keeper.faults w wiki wiki left left (g.O.Sink.taken c.args.output.now) (g.O.Sink.taken c.check_pages-end.new.output) c.check_pages-end.result)
          (sym c.in-Check.is) (refl, c.check_pages-end.ensures.compared);
      lived = same-on wiki c.requires.opened;
      sound = λ sound. sound;
      tells = refl;
      stays_whole = refl;
      whole_count = λ _. refl;
      never_falls = c.check_pages-end.ensures.never_falls;
      no_write_fault = c.check_pages-end.ensures.no_write_fault;
      write_fault = c.check_pages-end.ensures.write_fault;
    }

pub returns-in-Jobs : goal.returns-in-Jobs
returns-in-Jobs g c =
    let left = g.C.Clock.left c.args.clock.now in
    let drained = c.drain_jobs.ensures.drained in record {
      worked = subst (λ (w : Work). IsWorked g.K.Keeper.is_whole g.K.Keeper.faults w c.args.wiki c.drain_jobs.result.0 left left (g.O.Sink.taken c.args.output.now) (g.O.Sink.taken c.drain_jobs.new.output) c.drain_jobs.result.1)
          (sym c.in-Jobs.is) drained;
      lived = drained.lived;
      sound = drained.sound;
      tells = drained.tells;
      stays_whole = drained.stays_whole;
      whole_count = drained.whole_count;
      never_falls = c.drain_jobs.ensures.never_falls;
      no_write_fault = c.drain_jobs.ensures.no_write_fault;
      write_fault = c.drain_jobs.ensures.write_fault;
    }

pub returns-in-Generate : goal.returns-in-Generate
returns-in-Generate g c = record {
  worked = subst (λ (w : Work). IsWorked g.K.Keeper.is_whole g.K.Keeper.faults w c.args.wiki c.generate_pages.result.0 (g.C.Clock.left c.args.clock.now) (g.C.Clock.left c.generate_pages.new.clock)
      (g.O.Sink.taken c.args.output.now) (g.O.Sink.taken c.generate_pages.new.output) c.generate_pages.result.1)
      (sym c.in-Generate.is) c.generate_pages.ensures.generated;
  lived = c.generate_pages.ensures.lived;
  sound = c.generate_pages.ensures.sound;
  tells = c.generate_pages.ensures.tells;
  stays_whole = c.generate_pages.ensures.stays_whole;
  whole_count = c.generate_pages.ensures.whole_count;
  never_falls = c.generate_pages.ensures.never_falls;
  no_write_fault = c.generate_pages.ensures.no_write_fault;
  write_fault = c.generate_pages.ensures.write_fault;
}
