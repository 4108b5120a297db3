use Rattle.std.proofs.Common.{◌≡◌, ℕ, ◌+◌, ◌++◌, ◌∷◌, [], List, ap₂, sym, ◌∙◌, arith}
use Rattle.wk_changes.proofs.RefreshEdits.{numbers-more}
use Rattle.wk_changes.proofs.migrations.page_numbers.Goals as goal

pub loop-place-preserved : goal.loop-place-preserved
loop-place-preserved c =
    let next : c.loop-place.place + 1 ≡ 1 + c.loop-place.place = omega arith in
    c.in_ok-push.ensures.items
    ∙ (ap₂ (λ (pages : List ℕ) (page : ℕ). pages ++ page ∷ []) c.loop-place.invariant next ∙ sym (numbers-more 1 c.loop-place.place))
