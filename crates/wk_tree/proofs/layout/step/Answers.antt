use Rattle.std.proofs.Common.{subst, sym}
use Rattle.std.specs.Result.{OnOk}
use Rattle.wk_tree.specs.Layout.{IsLayout, LayoutShown, with_token}
use Rattle.wk_tree.proofs.layout.step.Goals as goal

pub returns-in-Sealed : goal.returns-in-Sealed
returns-in-Sealed c =
    subst (λ t. OnOk c.push-in-Sealed.result ((shown : LayoutShown) → IsLayout c.args.layout.now shown → IsLayout c.push-in-Sealed.new.layout (with_token t shown))) (sym c.in-Sealed.is) c.push-in-Sealed.ensures

pub returns-in-Nothing : goal.returns-in-Nothing
returns-in-Nothing c =
    subst (λ t. OnOk c.push-in-Nothing.result ((shown : LayoutShown) → IsLayout c.args.layout.now shown → IsLayout c.push-in-Nothing.new.layout (with_token t shown))) (sym c.in-Nothing.is) c.push-in-Nothing.ensures

pub returns-in-NodeEnd : goal.returns-in-NodeEnd
returns-in-NodeEnd c =
    subst (λ t. OnOk c.end_node.result ((shown : LayoutShown) → IsLayout c.args.layout.now shown → IsLayout c.end_node.new.layout (with_token t shown))) (sym c.in-NodeEnd.is) c.end_node.ensures
