use Rattle.wk_wiki_rules.specs.States.{world_of}
use Rattle.wk_wiki_rules.specs.Staleness.{event_of_finish}
use Rattle.wk_core.specs.Answers.{event_of_answer}
use Rattle.wk_complete_laws.proofs.Completing.{finish-answer, finish-event, given-back, made-by, no-rise, still-whole}
use Rattle.wk_complete_laws.proofs.wikis.current_reads_are_finished.Goals as goal

pub returns-clause-answered : goal.returns-clause-answered
returns-clause-answered g c = λ memory.
    finish-answer (world_of c.args.wiki.now.state) c.args.draft.reads c.finish.result c.finish.ensures.stale
    (λ is. no-rise g.K.Keeper.told g.K.Keeper.faults c.args.wiki.now c.finish.new.self c.requires.whole c.finish.ensures.keeper (c.finish.ensures.fault is)) memory

pub returns-clause-event : goal.returns-clause-event
returns-clause-event g c = λ memory.
    made-by c.args.wiki.now c.finish.new.self (event_of_answer c.args.ticket.ticket c.finish.result) (event_of_finish (world_of c.args.wiki.now.state) c.args.draft.reads c.args.ticket.ticket)
    (finish-event (world_of c.args.wiki.now.state) c.args.draft.reads c.args.ticket.ticket c.finish.result (returns-clause-answered g c memory) memory) c.finish.ensures.event

pub returns-clause-memory : goal.returns-clause-memory
returns-clause-memory g c = λ is. given-back c.args.wiki.now c.finish.new.self c.args.ticket.ticket c.finish.result is c.finish.ensures.event

pub returns-clause-start : goal.returns-clause-start
returns-clause-start g c = c.finish.ensures.event.start

pub returns-clause-whole : goal.returns-clause-whole
returns-clause-whole g c = still-whole g.K.Keeper.told g.K.Keeper.faults c.args.wiki.now c.finish.new.self c.finish.ensures.event.start c.requires.whole c.finish.ensures.keeper
