use Rattle.std.proofs.Common.{refl, rules}
use Rattle.wk_refresh.specs.Drained.{IsFree}
use Rattle.wk_refresh.proofs.DrainLaws.{all-unmapped, free-drained, left-drained}
use Rattle.wk_refresh.proofs.drains.drain.Goals as goal

pub returns-clause-free : goal.returns-clause-free
returns-clause-free g c = all-unmapped (λ w. w.reader.pass) (IsFree c.args.shared.now) c.drain_by.new.back.items _ refl (free-drained c.args.shared.now _ _ _ c.drain_by.ensures)

pub returns-clause-none_left : goal.returns-clause-none_left
returns-clause-none_left g c = left-drained c.args.shared.now (λ w. w.reader.pass) c.args.workers.now.items _ _ _ c.requires.some (search rules) c.drain_by.ensures
