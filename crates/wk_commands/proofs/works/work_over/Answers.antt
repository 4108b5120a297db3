use Rattle.std.proofs.Common.{◌≡◌, Ok, refl, sym, ap, ◌∙◌, arith}
use Rattle.wk_commands.specs.Worked.{done, not_opened}
use Rattle.wk_commands.proofs.Opening.{checked-on, err-is-not, left-tells, ok-is, opened-as, unopened-left}
use Rattle.wk_commands.proofs.works.work_over.Goals as goal

pub load-requires : goal.load-requires
load-requires g c = record { within = c.limits_with_journal.ensures.within }

pub returns-in-Ok : goal.returns-in-Ok
returns-in-Ok g c =
    let tells =
    left-tells g.K.Keeper.told c.in-Ok.wiki c.do_work-wiki.result.0 c.args.keeper c.released.result.keeper c.released.ensures.tells c.do_work-wiki.ensures.tells c.facts.ensures.tells c.in-Ok.ensures.tells in
    let stays_whole : g.K.Keeper.is_whole c.released.result.keeper ≡ g.K.Keeper.is_whole c.args.keeper =
    ap g.K.Keeper.is_whole c.released.ensures.keeper ∙ (c.do_work-wiki.ensures.stays_whole ∙ c.in-Ok.ensures.whole) in record {
      worked = done c.do_work-wiki.result.1 c.released.ensures.end (record {
        first = c.in-Ok.wiki;
        last = c.do_work-wiki.result.0;
        opened_is = opened-as c.in-Ok.wiki _ _ c.limits_with_journal.ensures.limits c.in-Ok.ensures.opened;
        state = c.in-Ok.ensures.state;
        whole = sym c.facts.ensures.whole ∙ c.in-Ok.ensures.whole;
        faults_at_first = c.in-Ok.ensures.no_fault;
        worked = c.do_work-wiki.ensures.worked;
        lived = c.do_work-wiki.ensures.lived;
        sound = c.do_work-wiki.ensures.sound;
        keeper_is = c.released.ensures.keeper;
        tables = c.released.ensures.told;
        tells = tells;
        stays_whole = stays_whole;
        whole_count = λ is.
            ap g.K.Keeper.faults c.released.ensures.keeper ∙ (c.do_work-wiki.ensures.whole_count (c.in-Ok.ensures.whole ∙ is) ∙ c.in-Ok.ensures.no_fault);
        checked = checked-on g.K.Keeper.told g.K.Keeper.faults g.K.Keeper.is_whole c.args.work c.in-Ok.wiki c.do_work-wiki.result.0 c.args.keeper c.released.result.keeper
            (g.C.Clock.left c.args.clock.now) (g.C.Clock.left c.do_work-wiki.new.clock) (g.O.Sink.taken c.args.output.now) (g.O.Sink.taken c.do_work-wiki.new.output) c.do_work-wiki.result.1
            c.do_work-wiki.ensures.worked c.released.ensures.keeper c.in-Ok.ensures.no_fault tells stays_whole;
      });
      never_falls = c.do_work-wiki.ensures.never_falls;
      no_write_fault = λ not. c.do_work-wiki.ensures.no_write_fault (λ is. not (c.released.ensures.end ∙ ap Ok is));
      write_fault = λ is. c.do_work-wiki.ensures.write_fault (ok-is _ _ (sym c.released.ensures.end ∙ is));
    }

pub returns-in-Err : goal.returns-in-Err
returns-in-Err g c = record {
  worked = not_opened c.in-Err.refusal.cause c.unopened.ensures.end
      (unopened-left g.K.Keeper.told g.K.Keeper.faults g.K.Keeper.is_whole c.args.keeper c.unopened.result.keeper c.in-Err.refusal.keeper (g.C.Clock.left c.args.clock.now) (g.O.Sink.taken c.args.output.now)
      c.in-Err.refusal.cause c.unopened.ensures.keeper c.in-Err.ensures.refused c.in-Err.ensures.bad c.in-Err.ensures.fault c.in-Err.ensures.never_falls c.in-Err.ensures.whole_count c.in-Err.ensures.refused_whole);
  never_falls = omega arith;
  no_write_fault = λ _. refl;
  write_fault = λ is. absurd (err-is-not _ _ (sym c.unopened.ensures.end ∙ is));
}
