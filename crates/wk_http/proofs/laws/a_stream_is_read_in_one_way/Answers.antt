use Rattle.wk_http.proofs.MessageLemmas.{IsMessage_unique, IsBad_unique, not_both, some_reading, Messages_unique}
use Rattle.wk_http.proofs.laws.a_stream_is_read_in_one_way.Goals as goal

pub returns-clause-message : goal.returns-clause-message
returns-clause-message c = IsMessage_unique

pub returns-clause-status : goal.returns-clause-status
returns-clause-status c = IsBad_unique

pub returns-clause-not_both : goal.returns-clause-not_both
returns-clause-not_both c = not_both

pub returns-clause-some : goal.returns-clause-some
returns-clause-some c = some_reading

pub returns-clause-stream : goal.returns-clause-stream
returns-clause-stream c = Messages_unique
