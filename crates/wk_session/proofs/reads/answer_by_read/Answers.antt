use Rattle.std.proofs.Common.{◌≡◌, [], refl, subst}
use Rattle.wk_request.specs.Asked.{request_asked}
use Rattle.wk_request_rules.specs.Requests.{Ask, valid}
use Rattle.wk_shared.specs.Calls.{MayFail}
use Rattle.wk_readers.specs.Reads.{IsAnswered}
use Rattle.wk_session.specs.Telling.{IsTitleOf, text_asked}
use Rattle.wk_session.proofs.Passing.{on-since}
use Rattle.wk_session.proofs.Reading.{expands-no-save, expands-read, fit-read, read-told, starved-told}
use Rattle.wk_session.proofs.reads.answer_by_read.Goals as goal

pub read_reply-requires-clause-asked : goal.read_reply-requires-clause-asked
read_reply-requires-clause-asked g c = expands-read (request_asked c.args.request.now).ask c.args.asked.now c.requires.asks

pub read_reply-requires-clause-fit : goal.read_reply-requires-clause-fit
read_reply-requires-clause-fit g c =
    let ask = (request_asked c.args.request.now).ask in
    fit-read ask c.args.title.now c.in-Ok.read (subst (λ (a : Ask). IsTitleOf a c.args.title.now) c.requires.asks c.requires.title)
    (subst (λ (a : Ask). c.in-Ok.read.draft.given ≡ text_asked a) c.requires.asks c.in-Ok.ensures.read.given_is)

pub returns-in-Ok-read_reply : goal.returns-in-Ok-read_reply
returns-in-Ok-read_reply g c =
    let request = request_asked c.args.request.now in
    let a = subst (λ (k : Ask). IsAnswered c.args.shared.now c.args.worker.now.reader.pass c.read_asked.new.worker.reader.pass c.args.title.now (text_asked k) request.least c.in-Ok.read) c.requires.asks c.in-Ok.ensures.read in
    read-told c.args.shared.now (MayFail c.args.shared.now.start) c.args.worker.now.reader.pass c.read_asked.new.worker.reader.pass request c.args.title.now
    c.in-Ok.read c.requires.kept (subst (λ (k : Ask). IsTitleOf k c.args.title.now) c.requires.asks c.requires.title) c.read_asked.ensures.pass a
    (expands-no-save request.ask (expands-read request.ask c.args.asked.now c.requires.asks)) c.in-Ok-read_reply.value
    (λ right reached. c.in-Ok-read_reply.ensures.value c.in-Ok.read c.args.shared.now.start.limits a.right.state 0 refl right reached)

pub returns-in-Ok : goal.returns-in-Ok
returns-in-Ok g c =
    let a = c.in-Ok.ensures.read in
    starved-told c.args.shared.now (MayFail c.args.shared.now.start) c.args.worker.now.reader.pass c.read_asked.new.worker.reader.pass (request_asked c.args.request.now)
    c.in-Ok.read.point c.no_memory.result c.read_asked.ensures.pass a.right.state a.fresh a.right.seen a.right.at c.no_memory.ensures.point c.no_memory.ensures.value

pub returns-in-Err-Memory : goal.returns-in-Err-Memory
returns-in-Err-Memory g c =
    on-since c.args.shared.now (MayFail c.args.shared.now.start) c.args.worker.now.reader.pass c.read_asked.new.worker.reader.pass c.starve.new.reader.pass
    (valid (request_asked c.args.request.now)) [] c.starve.result c.read_asked.ensures.pass (c.starve.ensures.unread (valid (request_asked c.args.request.now)))
