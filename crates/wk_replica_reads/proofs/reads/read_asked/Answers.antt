use Rattle.std.proofs.Common.{subst, arith}
use Rattle.wk_request.specs.Asked.{read_of}
use Rattle.wk_request.specs.declared.asked.ReadAsked.{ReadAsked}
use Rattle.wk_session.specs.Telling.{IsTitleOf}
use Rattle.wk_replica_reads.proofs.reads.read_asked.Goals as goal

-- the text isn't too long
pub new-requires : goal.new-requires
new-requires g c =
    let short = (subst (λ (a : ReadAsked). IsTitleOf (read_of a) c.args.title.now) c.in-Text.is c.requires.title).1 in
    omega (arith, short)
