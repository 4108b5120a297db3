use Rattle.wk_lex.proofs.PlaceLemmas.{behind_angle-some, behind_angle-none}
use Rattle.wk_lex.proofs.tags.Tags.behind_angle.Goals as goal
use Rattle.wk_lex.proofs.tags.Tags.behind_angle.Goals.{in-Some, in-None}

pub returns-clause-end : goal.returns-clause-end
returns-clause-end c =
    elim c.match-place.branch [
      | in-Some w ↦ behind_angle-some c.self.inside.text.now c.args.self.now c.args.at c.nearest_angle-place.result c.match-place.result w.in-Some.place c.self.view_is c.nearest_angle-place.ensures w.in-Some.is w.result-is
      | in-None w ↦ behind_angle-none c.self.inside.text.now c.args.self.now c.args.at c.nearest_angle-place.result c.match-place.result c.self.view_is c.nearest_angle-place.ensures w.in-None.is w.result-is
    ]
