use Rattle.wk_wiki_rules.specs.Verdicts.{journal_use}
use Rattle.wk_wiki_laws.proofs.Conflicts.{conflict-verdict, verdict-conflict}
use Rattle.wk_life_laws.proofs.saves.a_run_refuses_conflicts_alone.Goals as goal

pub returns-clause-conflict : goal.returns-clause-conflict
returns-clause-conflict c = λ start state point edit current. verdict-conflict state.history start.limits (journal_use state point) edit current

pub returns-clause-only_so : goal.returns-clause-only_so
returns-clause-only_so c = λ start state point edit current. conflict-verdict state.history start.limits (journal_use state point) edit current
