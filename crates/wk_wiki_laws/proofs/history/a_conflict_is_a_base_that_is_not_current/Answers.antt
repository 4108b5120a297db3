use Rattle.wk_wiki_rules.specs.Verdicts.{journal_use}
use Rattle.wk_wiki_laws.proofs.Conflicts.{judged-conflict, conflict-judged, verdict-conflict, conflict-verdict}
use Rattle.wk_wiki_laws.proofs.history.a_conflict_is_a_base_that_is_not_current.Goals as goal

pub returns-clause-judged_conflict : goal.returns-clause-judged_conflict
returns-clause-judged_conflict c = judged-conflict

pub returns-clause-judged_only_so : goal.returns-clause-judged_only_so
returns-clause-judged_only_so c = conflict-judged

pub returns-clause-verdict_conflict : goal.returns-clause-verdict_conflict
returns-clause-verdict_conflict c = verdict-conflict

pub returns-clause-verdict_only_so : goal.returns-clause-verdict_only_so
returns-clause-verdict_only_so c = conflict-verdict

pub returns-clause-state_conflict : goal.returns-clause-state_conflict
returns-clause-state_conflict c = λ most state journal edit current.
    verdict-conflict state.history most (journal_use state journal) edit current

pub returns-clause-state_only_so : goal.returns-clause-state_only_so
returns-clause-state_only_so c = λ most state journal edit current.
    conflict-verdict state.history most (journal_use state journal) edit current
