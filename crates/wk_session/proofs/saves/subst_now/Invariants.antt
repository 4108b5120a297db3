use Rattle.wk_shared.specs.Looks.{HasRead}
use Rattle.wk_session.proofs.saves.subst_now.Given as goal

-- nothing was made yet
abbrev pub invariant-tries : goal.invariant-tries
invariant-tries g l = HasRead l.shared l.fn.worker.reader.pass l.worker.reader.pass
