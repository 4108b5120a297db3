use Rattle.wk_expand.proofs.StepLaws.{longer-agrees}
use Rattle.wk_expand.proofs.laws.longer_seens_agree.Goals as goal

pub returns : goal.returns
returns c = λ seen more reads h. longer-agrees seen more reads h
