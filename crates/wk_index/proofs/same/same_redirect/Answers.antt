use Rattle.std.proofs.Common.{sym, ◌∙◌}
use Rattle.wk_index.proofs.SameLaws.{Decides-redirect}
use Rattle.wk_index.proofs.same.same_redirect.Goals as goal

pub returns : goal.returns
returns c =
    let decides = Decides-redirect c.args.a.now c.args.b.now in
    (λ is. decides.0 (sym c.eq.ensures ∙ is), λ same. c.eq.ensures ∙ decides.1 same)
