use Rattle.std.proofs.Common.{sym, ◌∙◌, arith}
use Rattle.wk_script_steps.specs.Drafts.{has_number}
use Rattle.wk_script_steps.proofs.Lists.{found-at, same-number}
use Rattle.wk_script_steps.proofs.list.place.Goals as goal

pub returns-then-number-clause-found : goal.returns-then-number-clause-found
returns-then-number-clause-found c =
    let draft = c.index-tickets-at.result in
    found-at (has_number c.args.number) c.args.tickets.now c.loop-at.at draft c.index-tickets-at.is (omega arith)
    (same-number draft.ticket c.args.number (sym c.number.ensures ∙ c.if-number.true)) c.loop-at.invariant
