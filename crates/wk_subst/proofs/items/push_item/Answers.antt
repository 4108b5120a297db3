use Rattle.std.proofs.Common.{◌++◌, List, ℕ, ap, ◌∙◌}
use Rattle.std.proofs.lemmas.Result.{on_ok_weaker}
use Rattle.wk_subst.proofs.ItemLaws.{given-not, given-stays}
use Rattle.wk_subst.proofs.items.push_item.Goals.{in-Nothing+else-not-stays, in_default}
use Rattle.wk_subst.proofs.items.push_item.Goals as goal

pub returns : goal.returns
returns c =
    on_ok_weaker c.push.result (λ is i h. is ∙ ap (λ (x : List ℕ). c.args.out.now ++ x) (c.item_text.ensures i h ∙ (elim c.match-item.branch [
      | in-Nothing+else-not-stays w ↦ given-stays i c.args.stays w.if-not-stays.false
      | in_default w ↦ given-not c.args.tree.now c.args.item i c.args.stays h w.in_default.not-Nothing
    ]))) c.push.ensures
