use Rattle.wk_view_laws.proofs.RedirectLemmas.{run-redirect, reads-redirect}
use Rattle.wk_view_laws.proofs.redirects_are_followed_once.Goals as goal

pub returns-clause-goes_on : goal.returns-clause-goes_on
returns-clause-goes_on c = run-redirect

pub returns-clause-reads : goal.returns-clause-reads
returns-clause-reads c = reads-redirect
