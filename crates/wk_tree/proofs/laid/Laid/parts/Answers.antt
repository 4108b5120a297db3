use Rattle.std.proofs.Common.{length, ap, ◌∙◌}
use Rattle.wk_tree.specs.Laid.{all_of, ranged}
use Rattle.wk_tree.specs.Shown.{from_end}
use Rattle.wk_tree.proofs.ViewLemmas.{parts-count}
use Rattle.wk_tree.proofs.laid.Laid.parts.Goals as goal

pub returns-in-Some : goal.returns-in-Some
returns-in-Some c = λ ns rest shows.
    let lists = c.in-Some.lists.now in
    parts-count (all_of c.args.self.now) ns lists (from_end rest c.args.node.0) _ (ap length (c.ranged.ensures ∙ ap (λ ps. ranged ps lists.parts) c.deref.ensures.value)) (c.in-Some.ensures ns rest shows)
