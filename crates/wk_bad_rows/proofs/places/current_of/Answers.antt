use Rattle.std.proofs.Common.{◌≡◌, ◌∙◌, ap, sym, arith}
use Rattle.wk_bad_rows.specs.Keys.{current_with}
use Rattle.wk_bad_rows.proofs.Currents.{current-next}
use Rattle.wk_bad_rows.proofs.places.current_of.Goals as goal

pub loop-i-preserved : goal.loop-i-preserved
loop-i-preserved c =
    let row = c.index-revisions-i.result in
    let page = c.args.page in
    c.current_with-current.ensures ∙ ap (λ n. current_with n row page) c.loop-i.invariant
    ∙ sym (current-next c.args.revisions.now c.loop-i.i row page (omega arith) c.index-revisions-i.is)
