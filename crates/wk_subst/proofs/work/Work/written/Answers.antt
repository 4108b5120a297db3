use Rattle.std.proofs.Common.{List, ℕ, ◌++◌, ap, ◌∙◌}
use Rattle.std.proofs.lemmas.Result.{on_ok_weaker}
use Rattle.wk_tree.specs.Tokens.{is_argument}
use Rattle.wk_tree_rules.specs.Trees.{opening_braces}
use Rattle.wk_subst.specs.Work.{entered, node_in, parsed_of}
use Rattle.wk_subst.specs.declared.stack.Use.TheVariants.{Written}
use Rattle.wk_subst.specs.declared.stack.Waiting.TheVariants.{Part as PartOf}
use Rattle.wk_subst.proofs.NodeLaws.{kind-is, kind-of, title-is}
use Rattle.wk_subst.proofs.StepLaws.{writes}
use Rattle.wk_subst.proofs.work.Work.written.Goals as goal

pub returns : goal.returns
returns c =
    let w = c.args.self.now in
    let title = c.title-title.result in
    let argument = kind-is is_argument c.argument.result c.tree.result.now (parsed_of w) c.args.node c.tree.ensures c.requires.node c.argument.ensures in
    let braces = c.opening-braces.ensures ∙ ap opening_braces (kind-of c.argument.result (node_in w c.args.node).kind argument) in
    on_ok_weaker c.enter.result (λ is.
    writes w c.args.node c.requires.sound c.requires.node c.enter.new.self title (title-is c.tree-2.result.now (parsed_of w) c.args.node title c.tree-2.ensures c.requires.node c.title-title.ensures)
    (is ∙ ap (λ (out : List ℕ). entered (record w { out = out }) c.args.node (PartOf (Written 0)) title) (c.in_ok-push.ensures ∙ ap (λ (x : List ℕ). w.out ++ x) braces))) c.enter.ensures
