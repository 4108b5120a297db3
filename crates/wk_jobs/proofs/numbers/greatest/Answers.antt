use Rattle.std.proofs.Common.{◌∙◌, ap, max, map, arith}
use Rattle.std.specs.List.{fold}
use Rattle.std.proofs.lemmas.List.{take_all}
use Rattle.wk_jobs.proofs.Numbered.{greatest-more}
use Rattle.wk_jobs.proofs.numbers.greatest.Goals as goal

pub loop-item-preserved : goal.loop-item-preserved
loop-item-preserved g c =
    let number = g.T.Numbered.number in
    c.max-greatest.ensures ∙ ap (max c.loop-item.greatest) c.number.ensures ∙ ap (λ n. max n (number c.item-item.result)) c.loop-item.invariant
    ∙ greatest-more number c.args.number c.args.items.now c.loop-item.item-index c.item-item.result c.loop-item-test.true c.item-item.is

pub returns : goal.returns
returns g c = c.loop-item.invariant ∙ ap (λ xs. fold max c.args.number (map g.T.Numbered.number xs)) (take_all c.loop-item.item-index c.args.items.now (omega arith))
