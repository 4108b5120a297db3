use Rattle.std.proofs.Common.{◌≡◌, ◌∙◌, ap, length}
use Rattle.serde_json.specs.View.{view}
use Rattle.wk_request_rules.specs.Requests.{Ask, Request, parse}
use Rattle.wk_request.specs.Asked.{request_asked}
use Rattle.wk_answer_rules.specs.Answers.{answer_to_request}
use Rattle.wk_answer_rules.specs.Saves.{Answered}
use Rattle.wk_complete_laws.proofs.Answering.{parse-shows, told-value}
use Rattle.wk_complete_laws.proofs.requests.a_page_is_told.Goals as goal

pub returns : goal.returns
returns g c = λ page title asked named there reached.
    let wiki = c.args.wiki.now in
    let request : Request = request_asked c.args.request.now in
    let same : answer_to_request wiki.start.limits wiki.state (length wiki.journal) 0 request ≡ answer_to_request wiki.start.limits wiki.state (length wiki.journal) 0 (record request { ask = parse page }) =
    ap (λ (a : Ask). answer_to_request wiki.start.limits wiki.state (length wiki.journal) 0 (record request { ask = a })) asked in
    told-value view _ _ c.answer.result
    (ap (λ (a : Answered). a.reply.value) (same ∙ parse-shows wiki.start.limits wiki.state (length wiki.journal) 0 request.least page request.subst title named there reached))
    (c.answer.ensures 0)
