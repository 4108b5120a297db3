use Rattle.wk_shared.specs.Calls.{MayFail}
use Rattle.wk_session_laws.proofs.Transformed.{answered-transformed, reply-transformed}
use Rattle.wk_session_laws.proofs.a_substituted_save_on_a_connection.Goals as goal

pub returns-clause-answered : goal.returns-clause-answered
returns-clause-answered c = λ start. answered-transformed (MayFail start)

pub returns-clause-replied : goal.returns-clause-replied
returns-clause-replied c = λ start. reply-transformed (MayFail start)
