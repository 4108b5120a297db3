use Rattle.wk_read_laws.proofs.PointLaws.{reads-among, reads-later, reads-more, reads-none}
use Rattle.wk_read_laws.proofs.points.answers_are_of_points.Goals as goal

pub returns-clause-none : goal.returns-clause-none
returns-clause-none c = reads-none

pub returns-clause-more : goal.returns-clause-more
returns-clause-more c = reads-more

pub returns-clause-later : goal.returns-clause-later
returns-clause-later c = reads-later

pub returns-clause-among : goal.returns-clause-among
returns-clause-among c = reads-among
