use Rattle.std.proofs.Common.{◌≡◌, [], ◌∷◌, ◌++◌, Some, None, Err, codes, length, refl, sym, ap, ◌∙◌}
use Rattle.wk_wiki_rules.specs.Claims.{ClaimOutcome, claim_outcome}
use Rattle.wk_answer_rules.specs.ApiErrors.{api_error, journalfull, nomemory}
use Rattle.wk_answer_rules.specs.Values.{reply_beside}
use Rattle.wk_core.specs.Seen.{WikiSeen}
use Rattle.wk_script_rules.specs.Replies.{claim_entries, nothing_entries}
use Rattle.wk_script_rules.specs.Runs.{claim_out_of_memory}
use Rattle.wk_script_rules.specs.ScriptLines.{claim_line}
use Rattle.wk_script_rules.specs.WikiScripts.{TicketDraft}
use Rattle.wk_script_steps.specs.Drafts.{begun}
use Rattle.wk_script_steps.specs.Seen.{script_of}
use Rattle.wk_script_steps.proofs.Calls.{answers-same, claim-shown, claim-told, shows-at, starved-same}
use Rattle.wk_script_steps.proofs.LineRuns.{claim-full, nothing-claimed}
use Rattle.wk_script_steps.proofs.claims.claim.Goals as goal

pub returns-in-Err : goal.returns-in-Err
returns-in-Err g c =
    let old = c.args.wiki.now in
    starved-same g.K.Keeper.told g.K.Keeper.faults 0 claim_line old old c.args.tickets.now.items c.reserve.new.self.items c.no_memory.result c.requires.holds refl c.reserve.ensures.items
    claim_out_of_memory (shows-at c.point.result (length old.journal) (api_error nomemory) c.no_memory.result c.point.ensures c.no_memory.ensures)

pub returns-in-Ok-None : goal.returns-in-Ok-None
returns-in-Ok-None g c =
    let old = c.args.wiki.now in
    let same = rw c.in-Ok-None.field-0-is at c.in-Ok-None.ensures.none in
    let none : claim_outcome old.state (length old.journal) ≡ None = sym (rw c.in-Ok-None.field-0-is at c.in-Ok-None.ensures.claimed) in
    answers-same g.K.Keeper.told g.K.Keeper.faults 0 claim_line old c.claim.new.self c.args.tickets.now.items c.reserve.new.self.items c.no_claim.result c.requires.holds same c.reserve.ensures.items
    (reply_beside (nothing_entries (codes "claim")) (length old.journal)) (nothing-claimed old.start.limits (script_of old c.args.tickets.now.items) 0 none)
    (shows-at c.point-in-Ok-None.result (length old.journal) (reply_beside (nothing_entries (codes "claim"))) c.no_claim.result
    (c.point-in-Ok-None.ensures ∙ ap (λ (w : WikiSeen _). length w.journal) same) c.no_claim.ensures)

pub returns-in-Ok-Some : goal.returns-in-Ok-Some
returns-in-Ok-Some g c =
    let old = c.args.wiki.now in
    let new = c.claim.new.self in
    let claim : ClaimOutcome = c.in-Ok-Some.ticket in
    let some : claim_outcome old.state (length old.journal) ≡ Some claim = sym (rw c.in-Ok-Some.field-0-is at c.in-Ok-Some.ensures.claimed) in
    let room = rw c.in-Ok-Some.field-0-is at c.in-Ok-Some.ensures.room in
    let made = rw c.in-Ok-Some.field-0-is at c.in-Ok-Some.ensures.event in
    let out = rw c.in-Ok-Some.field-0-is at c.in-Ok-Some.ensures.out in
    let list : c.push_reserved.new.self.items ≡ c.args.tickets.now.items ++ begun claim ∷ [] =
    c.push_reserved.ensures.items ∙ (λ i. (c.reserve.ensures.items i) ++ (c.new-open.ensures i) ∷ [])
    in
    let number : c.number.result ≡ claim.ticket = c.number.ensures ∙ ap (λ (d : TicketDraft). d.ticket) c.new-open.ensures in
    let title : c.title.result.now ≡ claim.title = c.title.ensures ∙ ap (λ (d : TicketDraft). d.title) c.new-open.ensures in
    claim-told g.K.Keeper.told g.K.Keeper.faults old new claim c.args.tickets.now.items c.push_reserved.new.self.items c.claimed-reply.result c.facts.ensures.run c.requires.holds
    some room made out c.claim.ensures.keeper list
    (shows-at c.point-in-Ok-Some.result (length new.journal) (reply_beside (claim_entries claim)) c.claimed-reply.result c.point-in-Ok-Some.ensures
    (claim-shown c.number.result c.point-in-Ok-Some.result c.title.result.now claim c.claimed-reply.result number title c.claimed-reply.ensures))

pub returns-in-Err-JournalFull : goal.returns-in-Err-JournalFull
returns-in-Err-JournalFull g c =
    let old = c.args.wiki.now in
    let same = c.in-Err-JournalFull.ensures.refused in
    let full = c.in-Err-JournalFull.ensures.full (ap (λ r. Err r) c.in-Err-JournalFull.field-0-is) in
    answers-same g.K.Keeper.told g.K.Keeper.faults 0 claim_line old c.claim.new.self c.args.tickets.now.items c.reserve.new.self.items c.journal_full.result c.requires.holds same c.reserve.ensures.items
    (api_error journalfull (length old.journal)) (claim-full old.start.limits (script_of old c.args.tickets.now.items) 0 full.0 full.1)
    (shows-at c.point-in-Err-JournalFull.result (length old.journal) (api_error journalfull) c.journal_full.result
    (c.point-in-Err-JournalFull.ensures ∙ ap (λ (w : WikiSeen _). length w.journal) same) c.journal_full.ensures)

pub returns-in-Err-Memory : goal.returns-in-Err-Memory
returns-in-Err-Memory g c =
    let old = c.args.wiki.now in
    let same = c.in-Err-Memory.ensures.refused in
    starved-same g.K.Keeper.told g.K.Keeper.faults 0 claim_line old c.claim.new.self c.args.tickets.now.items c.reserve.new.self.items c.no_memory-in-Err-Memory.result c.requires.holds same c.reserve.ensures.items
    claim_out_of_memory
    (shows-at c.point-in-Err-Memory.result (length old.journal) (api_error nomemory) c.no_memory-in-Err-Memory.result
    (c.point-in-Err-Memory.ensures ∙ ap (λ (w : WikiSeen _). length w.journal) same) c.no_memory-in-Err-Memory.ensures)
