use Rattle.std.proofs.Common.{◌≡◌, drop}
use Rattle.std.specs.Prelude.{find}
use Rattle.wk_wiki_rules.specs.States.{world_of}
use Rattle.wk_live.specs.Stale.{is_mark_stale}
use Rattle.wk_live.proofs.live.Live.first_stale.Given as goal

abbrev pub invariant-loop-read : goal.invariant-loop-read
invariant-loop-read l = find (is_mark_stale (world_of l.self.state)) l.reads ≡ find (is_mark_stale (world_of l.self.state)) (drop l.read-index l.reads)
