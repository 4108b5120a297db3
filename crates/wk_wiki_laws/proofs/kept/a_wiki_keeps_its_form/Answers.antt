use Rattle.wk_wiki_laws.proofs.GoodJobs.{IsKept-opened}
use Rattle.wk_wiki_laws.proofs.KeptStates.{IsKept-none, IsKept-reopened}
use Rattle.wk_wiki_laws.proofs.Reached.{IsKept-reached}
use Rattle.wk_wiki_laws.proofs.KeptCalls.{kept-step, kept-calls}
use Rattle.wk_wiki_laws.proofs.StoresOpened.{kept-good}
use Rattle.wk_wiki_laws.proofs.kept.a_wiki_keeps_its_form.Goals as goal

pub returns-clause-none : goal.returns-clause-none
returns-clause-none c = IsKept-none

pub returns-clause-stood_for : goal.returns-clause-stood_for
returns-clause-stood_for c = kept-good

pub returns-clause-opened : goal.returns-clause-opened
returns-clause-opened c = IsKept-opened

pub returns-clause-stepped : goal.returns-clause-stepped
returns-clause-stepped c = kept-step

pub returns-clause-called : goal.returns-clause-called
returns-clause-called c = kept-calls

pub returns-clause-reopened : goal.returns-clause-reopened
returns-clause-reopened c = IsKept-reopened

pub returns-clause-reached : goal.returns-clause-reached
returns-clause-reached c = IsKept-reached
