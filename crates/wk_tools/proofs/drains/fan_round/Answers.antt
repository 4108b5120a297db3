use Rattle.std.proofs.Common.{Err, ap}
use Rattle.wk_core.specs.Seen.{WikiSeen}
use Rattle.wk_tools.specs.Rounds.{by_fan, with_nothing}
use Rattle.wk_tools.proofs.Rounds.{fan-full, round-faults, round-goes, round-lacks, round-renews}
use Rattle.wk_tools.proofs.drains.fan_round.Goals as goal
use Rattle.wk_tools.proofs.drains.fan_round.Goals.{in-Ok-Some, in-Err-JournalFull, in-Err-StoreFault, in-Err-Memory}

pub returns : goal.returns
returns g c = elim c.match-fan.branch [
  | in-Ok-Some w ↦
      let made = rw w.in-Ok-Some.field-0-is at w.in-Ok-Some.ensures.event in
      rw (w.wiki-is, w.result-is) (round-goes g.K.Keeper.told g.K.Keeper.faults c.args.wiki.now c.fan.new.self (by_fan made) w.in-Ok-Some.ensures.keeper (w.in-Ok-Some.ensures.no_fault (λ e. cc)))
  | in-Err-JournalFull w ↦
      let nothing = w.in-Err-JournalFull.ensures.refused in
      rw (w.wiki-is, w.result-is) (round-renews g.K.Keeper.told g.K.Keeper.faults c.args.wiki.now c.fan.new.self w.begin_anew.new.wiki w.begin_anew.result
      nothing w.in-Err-JournalFull.ensures.keeper (w.in-Err-JournalFull.ensures.no_fault (λ e. let is = w.in-Err-JournalFull.field-0-is in cc)) (ap (λ (v : WikiSeen _). v.start.whole) nothing.wiki)
      w.begin_anew.ensures.goes w.begin_anew.ensures.ends w.begin_anew.ensures.full w.begin_anew.ensures.not_done w.begin_anew.ensures.no_fault w.begin_anew.ensures.keeper
      (λ empty. fan-full c.args.wiki.now c.facts.ensures.run empty c.requires (w.in-Err-JournalFull.ensures.full (ap (λ r. Err r) w.in-Err-JournalFull.field-0-is)).1))
  | in-Err-StoreFault w ↦
      rw (w.wiki-is, w.result-is) (round-faults g.K.Keeper.told g.K.Keeper.faults c.args.wiki.now c.fan.new.self (with_nothing w.in-Err-StoreFault.ensures.refused)
      (w.in-Err-StoreFault.ensures.fault (ap (λ r. Err r) w.in-Err-StoreFault.field-0-is)) w.in-Err-StoreFault.ensures.keeper)
  | in-Err-Memory w ↦
      rw (w.wiki-is, w.result-is) (round-lacks g.K.Keeper.told g.K.Keeper.faults c.args.wiki.now c.fan.new.self (with_nothing w.in-Err-Memory.ensures.refused) w.in-Err-Memory.ensures.keeper (w.in-Err-Memory.ensures.no_fault (λ e. let is = w.in-Err-Memory.field-0-is in cc)))
]
