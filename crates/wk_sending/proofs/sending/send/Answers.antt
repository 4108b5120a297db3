use Rattle.wk_sending.proofs.Sent.{nothing-sent}
use Rattle.wk_sending.proofs.sending.send.Goals as goal

pub returns-in-Err-clause-sent : goal.returns-in-Err-clause-sent
returns-in-Err-clause-sent g c = nothing-sent c.args.status c.args.body.now c.args.close _
