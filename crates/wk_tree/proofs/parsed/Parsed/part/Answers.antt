use Rattle.std.proofs.Common.{◌∙◌, ap, subst, Some, None, if◌then◌else◌}
use Rattle.std.specs.Option.{IfSome}
use Rattle.wk_tree.specs.Laid.{all_of, part_of}
use Rattle.wk_tree.specs.Parsed.{ParsedText, nodes_of, part_with}
use Rattle.wk_tree.specs.Shown.{ShowsPart}
use Rattle.wk_tree.specs.declared.item.ListId.TheVariants.{Name}
use Rattle.wk_tree.proofs.ViewLemmas.{is-part}
use Rattle.wk_tree.proofs.parsed.Parsed.part.Goals as goal
use Rattle.wk_tree.proofs.parsed.Parsed.part.Goals.{then-is_some, else-is_some}

pub returns-after-is_some : goal.returns-after-is_some
returns-after-is_some c =
    let inside : ParsedText = record { mode = c.self.inside.mode; text = c.self.inside.text } in
    let items = (all_of c.self.inside.laid).items in
    is-part c.args.self.now items c.args.node c.args.at c.in-Some.lists.now c.if-is_some.result
    (elim c.if-is_some.branch [
      | then-is_some w ↦ w.result-is ∙ ap (λ b. if b then Some (Name c.args.node c.args.at) else None) w.if-is_some.ensures
      | else-is_some w ↦ w.result-is ∙ ap (λ b. if b then Some (Name c.args.node c.args.at) else None) w.if-is_some.ensures
    ])
    (subst (λ (p : ParsedText). IfSome (part_with p c.args.node c.args.at) (ShowsPart (nodes_of p) (part_of items c.in-Some.lists.now))) c.self.view_is
    (c.in-Some.ensures (nodes_of inside) (nodes_of inside) c.self.invariant.nodes_show))
