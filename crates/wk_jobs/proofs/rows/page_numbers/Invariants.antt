use Rattle.std.proofs.Common.{take}
use Rattle.wk_jobs.specs.Loaded.{AreNumbers}
use Rattle.wk_jobs.proofs.rows.page_numbers.Given as goal

abbrev pub invariant-rows : goal.invariant-rows
invariant-rows l = AreNumbers l.numbers (take l.row-index l.rows)
