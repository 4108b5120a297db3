use Rattle.std.proofs.Common.{ap, sym, ◌∙◌}
use Rattle.wk_wiki_rules.specs.Starts.{Start}
use Rattle.wk_script_steps.proofs.Reopening.{IsReleased, is-lost, reopens}
use Rattle.wk_script_steps.proofs.restarts.reopen.Goals as goal

pub returns-in-Ok-clause-ok : goal.returns-in-Ok-clause-ok
returns-in-Ok-clause-ok g c =
    let released : IsReleased g.K.Keeper.told g.K.Keeper.is_whole c.args.wiki c.give_all_back.new.wiki c.args.tickets.items c.release.result = record {
      run = c.facts.ensures.run;
      ended = c.give_all_back.ensures.script;
      start = c.give_all_back.ensures.start;
      kept = c.give_all_back.ensures.keeper;
      same = c.release.ensures.keeper;
      tables = c.facts.ensures.told;
      whole = c.facts.ensures.whole;
    } in
    reopens g.K.Keeper.told g.K.Keeper.faults g.K.Keeper.is_whole c.args.wiki c.give_all_back.new.wiki c.args.tickets.items c.release.result released c.in-Ok.opened _
    (c.limits-limits.ensures ∙ sym (ap (λ (s : Start). s.limits) c.give_all_back.ensures.start)) c.in-Ok.ensures.opened c.in-Ok.ensures.state c.in-Ok.ensures.tells c.in-Ok.ensures.whole
    c.facts-in-Ok.ensures.whole c.in-Ok.ensures.no_fault

pub returns-in-Err-clause-err : goal.returns-in-Err-clause-err
returns-in-Err-clause-err g c =
    let released : IsReleased g.K.Keeper.told g.K.Keeper.is_whole c.args.wiki c.give_all_back.new.wiki c.args.tickets.items c.release.result = record {
      run = c.facts.ensures.run;
      ended = c.give_all_back.ensures.script;
      start = c.give_all_back.ensures.start;
      kept = c.give_all_back.ensures.keeper;
      same = c.release.ensures.keeper;
      tables = c.facts.ensures.told;
      whole = c.facts.ensures.whole;
    } in
    is-lost g.K.Keeper.told g.K.Keeper.faults g.K.Keeper.is_whole c.args.wiki c.give_all_back.new.wiki c.args.tickets.items c.release.result released c.in-Err.refusal.cause c.in-Err.refusal.keeper
    c.in-Err.ensures.bad c.in-Err.ensures.refused c.in-Err.ensures.fault c.in-Err.ensures.never_falls c.in-Err.ensures.whole_count
