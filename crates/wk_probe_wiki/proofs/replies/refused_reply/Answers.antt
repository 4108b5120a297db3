use Rattle.std.proofs.Common.{subst}
use Rattle.wk_answer.specs.Declined.{IsDeclined}
use Rattle.wk_request.specs.Refusals.{Refuses}
use Rattle.wk_request.specs.declared.refusal.RequestRefusal.{RequestRefusal}
use Rattle.wk_probe_wiki.proofs.Acted.{declined_is_refusal}
use Rattle.wk_probe_wiki.proofs.replies.refused_reply.Goals as goal

pub returns-in-Refused : goal.returns-in-Refused
returns-in-Refused c = λ parsed refuses.
    declined_is_refusal c.in-Refused.number c.in-Refused.parameter c.args.point c.declined.result
    (subst (λ (r : RequestRefusal). IsDeclined r c.args.point c.declined.result) c.in-Refused.is c.declined.ensures)
    parsed (subst (λ (r : RequestRefusal). Refuses parsed r) c.in-Refused.is refuses)
