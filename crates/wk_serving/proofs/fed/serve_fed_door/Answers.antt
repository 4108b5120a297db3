use Rattle.std.proofs.Common.{sym, ◌∙◌}
use Rattle.wk_feeder.proofs.Turns.{told-of}
use Rattle.wk_serving.proofs.Sent.{not-both}
use Rattle.wk_serving.proofs.fed.serve_fed_door.Goals as goal

pub new-feed-requires-clause-turn : goal.new-feed-requires-clause-turn
new-feed-requires-clause-turn g c = told-of g.F.Begins.turn c.args.shared c.args.feeder.pass c.requires.turn c.requires.feeder.turn

-- a send was refused, so not all events were sent, and links may be left
pub returns-then-is_refused-clause-over : goal.returns-then-is_refused-clause-over
returns-then-is_refused-clause-over g c = λ sent.
    absurd (not-both c.finish-fed-then-is_refused.result.sent (c.finish-fed-then-is_refused.ensures.refused (sym c.is_refused.ensures ∙ c.if-is_refused.true)) sent)
