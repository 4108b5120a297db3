use Rattle.std.proofs.Common.{rules, ap, ◌∙◌, ◌∷◌, Some}
use Rattle.wk_turn.proofs.Steps.{draws, looks}
use Rattle.wk_turn.proofs.line.take_turn.Goals as goal

pub fetch_add-number-requires : goal.fetch_add-number-requires
fetch_add-number-requires g c = (search rules, search rules, draws g.S.Storied.start g.S.Storied.journal g.S.Storied.closes _ _ _ _ c.requires.idle.0)

pub load-serving-requires : goal.load-serving-requires
load-serving-requires g c = let drew = c.fetch_add-number.ensures.2 in
    (search rules, search rules, looks g.S.Storied.start g.S.Storied.journal g.S.Storied.closes _ _ _ _ drew.0 (ap (λ m. m.0.stage) c.waiting.invariant.2 ∙ ap (λ m. m.0.stage) drew.2))

pub take_state-requires-clause-there : goal.take_state-requires-clause-there
take_state-requires-clause-there g c =
    let drew = c.fetch_add-number.ensures.2 in
    let hit = (c.load-serving.ensures.2 drew.0 (ap (λ m. m.0.stage) c.waiting.invariant.2 ∙ ap (λ m. m.0.stage) drew.2)).0 (c.if-serving-number.true ∙ drew.1) in
    let none = ap (λ m. m.1) c.waiting.invariant.2 ∙ ap (λ m. m.1) drew.2 ∙ c.requires.idle.1 in
    (hit.0, ap (λ m. m.1) hit.1 ∙ ap (λ cs. (0, Some hit.0) ∷ cs) none)
