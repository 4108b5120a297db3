use Rattle.wk_wiki_rules.specs.SaveOutcomes.{deletion}
use Rattle.wk_core.specs.Seen.{verdict_now}
use Rattle.wk_wiki_rules.specs.Verdicts.{event_of}
use Rattle.wk_complete_laws.proofs.Completing.{no-rise, save-answer, save-event, save-nothing, start-kept, still-whole}
use Rattle.wk_complete_laws.proofs.wikis.granted_deletions_are_made.Goals as goal

pub returns-clause-answered : goal.returns-clause-answered
returns-clause-answered g c = λ memory.
    save-answer c.args.wiki.now.state.history (verdict_now c.args.wiki.now (deletion c.args.title.now c.args.base)) c.remove.result c.remove.ensures.saved c.remove.ensures.refusal
    (λ is. no-rise g.K.Keeper.told g.K.Keeper.faults c.args.wiki.now c.remove.new.self c.requires.whole c.remove.ensures.keeper (c.remove.ensures.fault is)) memory

pub returns-clause-event : goal.returns-clause-event
returns-clause-event g c = λ memory.
    save-event g.K.Keeper.told c.args.wiki.now c.remove.new.self c.args.wiki.now.state.history (verdict_now c.args.wiki.now (deletion c.args.title.now c.args.base)) c.args.now c.remove.result
    (returns-clause-answered g c memory) c.remove.ensures.event c.remove.ensures.refused

pub returns-clause-memory : goal.returns-clause-memory
returns-clause-memory g c = λ is. save-nothing c.remove.result _ c.remove.ensures.refused is

start : goal.returns-clause-start
start g c =
    start-kept g.K.Keeper.told g.K.Keeper.faults c.args.wiki.now c.remove.new.self (event_of (verdict_now c.args.wiki.now (deletion c.args.title.now c.args.base)) c.args.now) c.remove.result
    c.remove.ensures.event c.remove.ensures.refused

pub returns-clause-start : goal.returns-clause-start
returns-clause-start = start

pub returns-clause-whole : goal.returns-clause-whole
returns-clause-whole g c = still-whole g.K.Keeper.told g.K.Keeper.faults c.args.wiki.now c.remove.new.self (start g c) c.requires.whole c.remove.ensures.keeper
