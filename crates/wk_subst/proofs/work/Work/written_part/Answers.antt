use Rattle.std.proofs.Common.{List, ℕ, ◌+◌, ◌++◌, ◌<◌, ◌≤◌, ap, subst, ◌∙◌}
use Rattle.std.proofs.lemmas.Result.{on_ok_weaker}
use Rattle.wk_tree.specs.Tokens.{is_argument}
use Rattle.wk_tree_rules.specs.Trees.{closing_braces}
use Rattle.wk_subst.specs.Work.{LeadsOn, node_in, parsed_of, part_rest}
use Rattle.wk_subst.specs.declared.stack.Use.TheVariants.{Written}
use Rattle.wk_subst.specs.declared.work.Work.{Work}
use Rattle.wk_subst.proofs.NodeLaws.{count-is, kind-is, kind-of, part-within}
use Rattle.wk_subst.proofs.StepLaws.{writes-last, writes-more}
use Rattle.wk_subst.proofs.work.Work.written_part.Goals as goal

pub returns-then-next-parts : goal.returns-then-next-parts
returns-then-next-parts c =
    let w : Work = c.args.self.now in
    let count = count-is c.parts.result c.tree.result.now (parsed_of w) c.args.node c.tree.ensures c.requires.node c.parts.ensures in
    let q = part-within (parsed_of w) c.args.node c.args.next c.requires.node (subst (λ (n : ℕ). c.args.next < n) count c.if-next-parts.true) in
    on_ok_weaker c.whole.result (λ h.
    writes-more w c.args.node c.requires.sound c.requires.node c.whole.new.self c.args.next q.0 q.1
    (subst (λ (out : List ℕ). LeadsOn (record w { out = out }) (part_rest (record w { out = out }) c.args.node q.0 (Written (c.args.next + 1))) c.whole.new.self) c.in_ok-push.ensures (h q.0 q.1))) c.whole.ensures

pub returns : goal.returns
returns c =
    let w : Work = c.args.self.now in
    let count = count-is c.parts.result c.tree.result.now (parsed_of w) c.args.node c.tree.ensures c.requires.node c.parts.ensures in
    let argument = kind-is is_argument c.argument.result c.tree-2.result.now (parsed_of w) c.args.node c.tree-2.ensures c.requires.node c.argument.ensures in
    let braces = c.closing-braces.ensures ∙ ap closing_braces (kind-of c.argument.result (node_in w c.args.node).kind argument) in
    on_ok_weaker c.push-2.result (λ is.
    writes-last w c.args.node c.requires.sound c.requires.node (record w { out = c.push-2.new.self }) c.args.next (subst (λ (n : ℕ). n ≤ c.args.next) count c.if-next-parts.false)
    (ap (λ (out : List ℕ). record w { out = out }) (is ∙ ap (λ (x : List ℕ). w.out ++ x) braces))) c.push-2.ensures
