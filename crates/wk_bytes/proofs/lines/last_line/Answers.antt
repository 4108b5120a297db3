use Rattle.std.proofs.Common.{◌≡◌, ◌<◌, length, arith, sym}
use Rattle.std.proofs.lemmas.Bool.Decides.{nat_tests}
use Rattle.wk_bytes.proofs.LineLaws.{lines-last, lines-none, lines-short}
use Rattle.wk_bytes.proofs.lines.last_line.Goals as goal

pub returns-then-is_empty-clause-line : goal.returns-then-is_empty-clause-line
returns-then-is_empty-clause-line c =
    let none : length c.args.rest.items ≡ 0 = grind (arith, nat_tests) in
    sym (lines-none c.args.most c.args.rest.items none)

pub returns-then-len-most-clause-line : goal.returns-then-len-most-clause-line
returns-then-len-most-clause-line c = rw (lines-last c.args.most c.args.rest.items c.requires) (grind (arith, nat_tests))

pub returns-else-len-most-clause-line : goal.returns-else-len-most-clause-line
returns-else-len-most-clause-line c =
    let some : 0 < length c.args.rest.items = grind (arith, nat_tests) in
    sym (lines-short c.args.most c.args.rest.items c.requires some (omega arith))
