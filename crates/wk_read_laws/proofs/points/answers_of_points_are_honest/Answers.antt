use Rattle.wk_read_laws.proofs.PointLaws.{reads-formed, reads-honest, reads-stale}
use Rattle.wk_read_laws.proofs.points.answers_of_points_are_honest.Goals as goal

pub returns-clause-honest : goal.returns-clause-honest
returns-clause-honest c = reads-honest

pub returns-clause-formed : goal.returns-clause-formed
returns-clause-formed c = reads-formed

pub returns-clause-stale : goal.returns-clause-stale
returns-clause-stale c = λ start journal from pages reads stale are is. reads-stale start journal from pages stale reads are is
