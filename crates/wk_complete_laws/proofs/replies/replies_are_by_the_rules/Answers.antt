use Rattle.wk_shared.specs.Calls.{MayFail}
use Rattle.wk_complete_laws.proofs.Answering.{by-the-rules}
use Rattle.wk_complete_laws.proofs.Completing.{never-fails}
use Rattle.wk_complete_laws.proofs.replies.replies_are_by_the_rules.Goals as goal

pub returns : goal.returns
returns c = λ start old new parsed moments reply made began x.
    by-the-rules old new parsed (MayFail start) moments reply made (never-fails start began) x
