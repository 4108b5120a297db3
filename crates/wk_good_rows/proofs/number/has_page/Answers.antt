use Rattle.std.proofs.Common.{◌≡◌, true, false, ltb, leb, ◌&&◌, length, sym, ap, ◌∙◌, arith}
use Rattle.std.proofs.lemmas.Bool.{lt-ltb, le-ltb, lt-leb}
use Rattle.wk_good_rows.proofs.PageNumbers.{there-is}
use Rattle.wk_good_rows.proofs.number.has_page.Goals as goal

pub returns-then-id-ge1 : goal.returns-then-id-ge1
returns-then-id-ge1 c =
    let low : ltb 0 c.args.id ≡ true = lt-ltb 0 c.args.id (omega (arith, c.if-id-ge1.true)) in
    sym (there-is c.args.pages.now c.requires c.args.id ∙ ap (λ b. b && leb c.args.id (length c.args.pages.now)) low)

pub returns-else-id-ge1 : goal.returns-else-id-ge1
returns-else-id-ge1 c =
    let low : ltb 0 c.args.id ≡ false = le-ltb 0 c.args.id (omega (arith, c.if-id-ge1.false)) in
    lt-leb 1 c.args.id c.if-id-ge1.false ∙ sym (there-is c.args.pages.now c.requires c.args.id ∙ ap (λ b. b && leb c.args.id (length c.args.pages.now)) low)
