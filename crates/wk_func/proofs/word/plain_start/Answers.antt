use Rattle.std.proofs.Common.{[], ap, sym, ◌∙◌, if◌then◌else◌}
use Rattle.wk_func.proofs.WordLaws.{plain_start-first}
use Rattle.wk_func.proofs.word.plain_start.Goals as goal

pub returns-then-sealed : goal.returns-then-sealed
returns-then-sealed c =
    sym (plain_start-first _ _ _ _ c.in-Some.ensures.steps c.runs-runs.ensures.joined c.runs-runs.ensures.maximal ∙ ap (λ b. if b then [] else c.in-Some.text.now) c.if-sealed.true)

pub returns-else-sealed : goal.returns-else-sealed
returns-else-sealed c =
    sym (plain_start-first _ _ _ _ c.in-Some.ensures.steps c.runs-runs.ensures.joined c.runs-runs.ensures.maximal ∙ ap (λ b. if b then [] else c.in-Some.text.now) c.if-sealed.false)
