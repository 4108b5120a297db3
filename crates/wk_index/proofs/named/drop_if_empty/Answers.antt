use Rattle.std.proofs.Common.{sym}
use Rattle.wk_index.proofs.NamedLaws.{no-pages, title-gone}
use Rattle.wk_index.proofs.named.drop_if_empty.Goals as goal

pub returns-then-is_empty : goal.returns-then-is_empty
returns-then-is_empty c =
    title-gone c.args.named.now c.remove.new.self c.args.title.now c.in-Some.pages.now (sym c.in-Some.ensures.value)
    (no-pages c.in-Some.pages.now.keys (c.is_empty.ensures.0 c.if-is_empty.true)) (λ q. c.remove.ensures.updates.0 q)
