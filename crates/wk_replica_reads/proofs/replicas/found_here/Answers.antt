use Rattle.std.proofs.Common.{length, ap, ◌∙◌, subst}
use Rattle.wk_wiki_rules.specs.States.{State, world_of}
use Rattle.wk_wiki_rules.specs.Passes.{shown_number}
use Rattle.wk_shared.specs.Looks.{TellsCurrent}
use Rattle.wk_replica_reads.proofs.replicas.found_here.Goals as goal

pub returns-clause-run : goal.returns-clause-run
returns-clause-run c = c.facts.ensures.run c.requires

pub returns-clause-point : goal.returns-clause-point
returns-clause-point c = c.found_in.ensures.point ∙ ap length c.wiki.ensures.journal

pub returns-clause-id : goal.returns-clause-id
returns-clause-id c = c.found_in.ensures.id ∙ ap (λ (s : State). shown_number s.history c.args.draft.now.page) c.wiki.ensures.state

pub returns-clause-current : goal.returns-clause-current
returns-clause-current c =
    subst (λ (s : State). TellsCurrent (world_of s) c.args.draft.now.reads c.found_in.result.current) c.wiki.ensures.state c.found_in.ensures.current
