use Rattle.std.proofs.Common.{inr}
use Rattle.wk_sqltables.proofs.Inside.{on_ok, stays_kept}
use Rattle.wk_sqlkeeper.proofs.Olders.{older_is_made}
use Rattle.wk_sqlkeeper.proofs.Makings.{never_then}
use Rattle.wk_sqlkeeper.proofs.adoption.make_missing.Goals as goal

pub returns-in-None-clause-whole : goal.returns-in-None-clause-whole
returns-in-None-clause-whole g c clean = never_then c.make_all.result (c.make_all.ensures.never clean) (λ never apart tables holds. absurd (never holds.inside (older_is_made _ tables holds)))

pub returns-in-None-clause-all : goal.returns-in-None-clause-all
returns-in-None-clause-all g c clean inside = on_ok c.make_all.result (c.make_all.ensures.never clean inside) (λ never whole. absurd (never (inr whole)))

pub returns-in-AllButRedirect-clause-whole : goal.returns-in-AllButRedirect-clause-whole
returns-in-AllButRedirect-clause-whole g c clean = on_ok c.make_redirect.result (c.make_redirect.ensures.whole clean) (λ makes apart. makes)

pub returns-in-AllButRedirect-clause-all : goal.returns-in-AllButRedirect-clause-all
returns-in-AllButRedirect-clause-all g c clean inside = on_ok c.make_redirect.result (c.make_redirect.ensures.never clean inside) (λ never whole. absurd (never whole))

pub returns-in-All-clause-whole : goal.returns-in-All-clause-whole
returns-in-All-clause-whole g c clean apart = absurd (apart c.in-All.is)

pub returns-in-All-clause-all : goal.returns-in-All-clause-all
returns-in-All-clause-all g c clean inside whole = c.in-All.is

pub returns-in-All-clause-kept : goal.returns-in-All-clause-kept
returns-in-All-clause-kept g c clean inside = stays_kept _

pub returns-in-Others-clause-kept : goal.returns-in-Others-clause-kept
returns-in-Others-clause-kept g c clean inside = stays_kept _
