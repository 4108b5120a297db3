use Rattle.std.proofs.Common.{◌≡◌, refl, subst}
use Rattle.wk_page_rules.specs.Verdict.{full_limits}
use Rattle.wk_request.specs.Asked.{request_asked}
use Rattle.wk_request_rules.specs.Requests.{Ask, valid}
use Rattle.wk_session.specs.Telling.{IsTitleOf, text_asked}
use Rattle.wk_session.proofs.Reading.{expands-no-save, expands-read, fit-read}
use Rattle.wk_replica_reads.specs.Looks.{IsReadNow}
use Rattle.wk_replica_reads.proofs.Answering.{on-since, read-told, wanting-told}
use Rattle.wk_replica_reads.proofs.reads.answer_by_read.Goals as goal

pub read_reply-requires-clause-asked : goal.read_reply-requires-clause-asked
read_reply-requires-clause-asked g c = expands-read (request_asked c.args.request.now).ask c.args.asked.now c.requires.asks

pub read_reply-requires-clause-fit : goal.read_reply-requires-clause-fit
read_reply-requires-clause-fit g c =
    let ask = (request_asked c.args.request.now).ask in
    fit-read ask c.args.title.now c.in-Ok.read (subst (λ (a : Ask). IsTitleOf a c.args.title.now) c.requires.asks c.requires.title)
    (subst (λ (a : Ask). c.in-Ok.read.draft.given ≡ text_asked a) c.requires.asks c.in-Ok.ensures.read.1.given_is)

pub returns-in-Ok-read_reply : goal.returns-in-Ok-read_reply
returns-in-Ok-read_reply g c =
    let request = request_asked c.args.request.now in
    let n = subst (λ (k : Ask). IsReadNow c.args.shared.now.start.wiki c.read_asked.new.pass.seen c.args.title.now (text_asked k) c.in-Ok.read) c.requires.asks c.in-Ok.ensures.read in
    read-told c.args.shared.now c.read_asked.new.pass request c.args.title.now c.in-Ok.read (subst (λ (k : Ask). IsTitleOf k c.args.title.now) c.requires.asks c.requires.title) n
    c.args.pass.now c.read_asked.ensures.pass (expands-no-save request.ask (expands-read request.ask c.args.asked.now c.requires.asks)) c.requires.reached c.in-Ok-read_reply.value
    (λ right reached. c.in-Ok-read_reply.ensures.value c.in-Ok.read full_limits n.0 0 refl right reached)

pub returns-in-Ok : goal.returns-in-Ok
returns-in-Ok g c =
    let request = request_asked c.args.request.now in
    let n = subst (λ (k : Ask). IsReadNow c.args.shared.now.start.wiki c.read_asked.new.pass.seen c.args.title.now (text_asked k) c.in-Ok.read) c.requires.asks c.in-Ok.ensures.read in
    wanting-told c.args.shared.now c.read_asked.new.pass request c.args.title.now c.in-Ok.read (subst (λ (k : Ask). IsTitleOf k c.args.title.now) c.requires.asks c.requires.title) n
    c.args.pass.now c.read_asked.ensures.pass c.no_memory.result c.no_memory.ensures.point c.no_memory.ensures.value

pub returns : goal.returns
returns g c =
    on-since c.args.shared.now c.args.pass.now c.read_asked.new.pass c.starve.new.pass (valid (request_asked c.args.request.now)) c.starve.result c.read_asked.ensures.pass
    (c.starve.ensures (valid (request_asked c.args.request.now)))
