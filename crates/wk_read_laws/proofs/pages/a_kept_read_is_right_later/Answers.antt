use Rattle.wk_read_laws.proofs.PageLaws.{kept-current, kept-longer}
use Rattle.wk_read_laws.proofs.pages.a_kept_read_is_right_later.Goals as goal

pub returns-clause-longer : goal.returns-clause-longer
returns-clause-longer c = kept-longer

pub returns-clause-current : goal.returns-clause-current
returns-clause-current c = kept-current
