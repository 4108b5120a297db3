use Rattle.wk_http.proofs.MessageLemmas.{message_takes, path_is_short, query_is_short, body_is_short}
use Rattle.wk_http.proofs.laws.a_message_is_short.Goals as goal

pub returns-clause-takes : goal.returns-clause-takes
returns-clause-takes c = message_takes

pub returns-clause-path : goal.returns-clause-path
returns-clause-path c = path_is_short

pub returns-clause-query : goal.returns-clause-query
returns-clause-query c = query_is_short

pub returns-clause-body : goal.returns-clause-body
returns-clause-body c = body_is_short
