use Rattle.wk_table_laws.proofs.ClaimOrder.{claims-of-claimed, claims-of-queued, claims-of-given_back, claims-of-dropped}
use Rattle.wk_table_laws.proofs.claims.claims_stand_in_order.Goals as goal

pub returns-clause-claimed : goal.returns-clause-claimed
returns-clause-claimed c = claims-of-claimed

pub returns-clause-queued : goal.returns-clause-queued
returns-clause-queued c = claims-of-queued

pub returns-clause-given_back : goal.returns-clause-given_back
returns-clause-given_back c = claims-of-given_back

pub returns-clause-dropped : goal.returns-clause-dropped
returns-clause-dropped c = claims-of-dropped
