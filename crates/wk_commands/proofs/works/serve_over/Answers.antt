use Rattle.std.proofs.Common.{None, Ok, refl, sym, ap, ◌∙◌, arith}
use Rattle.wk_commands.specs.Worked.{not_loaded, served_over}
use Rattle.wk_commands.proofs.Opening.{err-is-not, left-count, left-tells, left-whole, ok-is, opened-as, unopened-left}
use Rattle.wk_commands.proofs.works.serve_over.Goals as goal

pub load-requires : goal.load-requires
load-requires g c = record { within = c.limits_with_journal.ensures.within }

pub returns-in-Ok : goal.returns-in-Ok
returns-in-Ok g c = record {
  served = served_over c.serve_links-wiki.result.1 c.released.ensures.end (record {
    first = c.in-Ok.wiki;
    last = c.serve_links-wiki.result.0;
    opened_is = opened-as c.in-Ok.wiki _ _ c.limits_with_journal.ensures.limits c.in-Ok.ensures.opened;
    state = c.in-Ok.ensures.state;
    whole = sym c.facts.ensures.whole ∙ c.in-Ok.ensures.whole;
    served = c.serve_links-wiki.ensures.served;
    links = c.serve_links-wiki.ensures.links;
    from = c.serve_links-wiki.ensures.wiki;
    keeper_is = c.released.ensures.keeper;
    tables = c.released.ensures.told;
    tells = left-tells g.K.Keeper.told c.in-Ok.wiki c.serve_links-wiki.result.0 c.args.keeper c.released.result.keeper c.released.ensures.tells (ap (λ s. s.tells) c.serve_links-wiki.ensures.wiki.start) c.facts.ensures.tells
        c.in-Ok.ensures.tells;
    stays_whole = left-whole g.K.Keeper.is_whole g.K.Keeper.faults c.in-Ok.wiki c.serve_links-wiki.result.0 c.args.keeper c.released.result.keeper c.serve_links-wiki.ensures.wiki.start c.in-Ok.ensures.whole
        c.facts.ensures.whole c.released.ensures.whole;
    whole_count = left-count g.K.Keeper.is_whole g.K.Keeper.faults c.in-Ok.wiki c.serve_links-wiki.result.0 c.args.keeper c.released.result.keeper c.serve_links-wiki.ensures.wiki.start c.in-Ok.ensures.whole
        c.facts.ensures.whole c.released.ensures.whole c.in-Ok.ensures.no_fault c.facts.ensures.failed c.released.ensures.failed;
  });
  never_falls = c.serve_links-wiki.ensures.never_falls;
  no_write_fault = λ not. c.serve_links-wiki.ensures.no_write_fault (λ is. not (c.released.ensures.end ∙ ap Ok is));
  write_fault = λ is. c.serve_links-wiki.ensures.write_fault (ok-is _ _ (sym c.released.ensures.end ∙ is));
  door_never_falls = c.serve_links-wiki.ensures.door_never_falls;
}

pub returns-in-Err : goal.returns-in-Err
returns-in-Err g c = record {
  served = not_loaded c.in-Err.refusal.cause c.unopened.ensures.end refl refl
      (unopened-left g.K.Keeper.told g.K.Keeper.faults g.K.Keeper.is_whole c.args.keeper c.unopened.result.keeper c.in-Err.refusal.keeper None (g.O.Sink.taken c.args.output.now)
      c.in-Err.refusal.cause c.unopened.ensures.keeper c.in-Err.ensures.refused c.in-Err.ensures.bad c.in-Err.ensures.fault c.in-Err.ensures.never_falls c.in-Err.ensures.whole_count c.in-Err.ensures.refused_whole);
  never_falls = omega arith;
  no_write_fault = λ _. refl;
  write_fault = λ is. absurd (err-is-not _ _ (sym c.unopened.ensures.end ∙ is));
  door_never_falls = omega arith;
}
