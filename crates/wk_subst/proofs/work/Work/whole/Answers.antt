use Rattle.std.proofs.lemmas.Result.{on_ok_weaker}
use Rattle.wk_subst.specs.Work.{parsed_of}
use Rattle.wk_subst.proofs.NodeLaws.{part-is}
use Rattle.wk_subst.proofs.StepLaws.{whole-bares, whole-names}
use Rattle.wk_subst.proofs.work.Work.whole.Goals as goal

pub returns-in-Some : goal.returns-in-Some
returns-in-Some c =
    let w = c.args.self.now in
    on_ok_weaker c.enter.result (λ is q e.
    let part = part-is c.tree.result.now (parsed_of w) c.args.node c.args.at c.part-part.result q c.tree.ensures c.part-part.ensures e in
    whole-names w c.args.node c.requires.sound c.requires.node c.enter.new.self q c.args.used c.part-part.result c.in-Some.name part c.in-Some.is is) c.enter.ensures

pub returns-in-None : goal.returns-in-None
returns-in-None c =
    let w = c.args.self.now in
    on_ok_weaker c.enter-in-None.result (λ is q e.
    let part = part-is c.tree.result.now (parsed_of w) c.args.node c.args.at c.part-part.result q c.tree.ensures c.part-part.ensures e in
    whole-bares w c.args.node c.requires.sound c.requires.node c.enter-in-None.new.self q c.args.used c.part-part.result part c.in-None.is is) c.enter-in-None.ensures
