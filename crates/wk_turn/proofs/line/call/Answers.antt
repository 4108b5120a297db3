use Rattle.std.proofs.Common.{rules}
use Rattle.wk_turn.proofs.Steps.{calls}
use Rattle.wk_turn.proofs.line.call.Goals as goal

pub fetch_add-requires : goal.fetch_add-requires
fetch_add-requires g c = let word = c.waiting-word.ensures in
    (search rules, search rules, calls g.S.Storied.start g.S.Storied.journal g.S.Storied.closes _ _ _ _ word.0 _ word.1)
