use Rattle.wk_request.specs.Asked.{request_asked}
use Rattle.wk_session.proofs.Asking.{timed}
use Rattle.wk_session.proofs.Reading.{reads-list, reads-site, saves-save}
use Rattle.wk_session.proofs.asks.carry_out.Goals as goal

pub save_now-requires-clause-asks : goal.save_now-requires-clause-asks
save_now-requires-clause-asks g c = saves-save (request_asked c.args.request.now).ask c.in-Save.save c.in-Save.ensures

pub answer_now-requires-clause-asks : goal.answer_now-requires-clause-asks
answer_now-requires-clause-asks g c = reads-list (request_asked c.args.request.now).ask _ c.in-List.ensures

pub answer_now-requires-in-Site-clause-asks : goal.answer_now-requires-in-Site-clause-asks
answer_now-requires-in-Site-clause-asks g c = reads-site (request_asked c.args.request.now).ask _ c.in-Site.ensures

pub returns-in-Save : goal.returns-in-Save
returns-in-Save g c = timed _ _ _ _ _ _ _ c.now-moment.result _ c.now-moment.ensures c.save_now.ensures
