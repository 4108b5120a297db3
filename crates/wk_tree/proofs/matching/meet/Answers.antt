use Rattle.std.proofs.Common.{◌∙◌, sym, refl}
use Rattle.wk_tree.proofs.MeetingLemmas.{pops, popped, meets-by-way, way-at}
use Rattle.wk_tree.proofs.matching.meet.Goals as goal

pub returns-in_ok-left-in-Node : goal.returns-in_ok-left-in-Node
returns-in_ok-left-in-Node c = λ seen k long fits.
    let p = pops seen.first seen.openers _ _ (sym k.openers_are ∙ c.in-Some.ensures.items) in
    let way = sym c.find_way.ensures ∙ c.in-Node.is in
    meets-by-way c.args.run seen.first seen.openers p.top p.openers _ _ _ p.is (way-at c.args.run _ _ _ _ p _ way)
    (c.in_ok-left-in-Node.ensures seen.first p.top p.openers (popped seen _ c.args.matching.now _ p k refl refl) way long fits)

pub returns-in_ok-left-in-Brackets : goal.returns-in_ok-left-in-Brackets
returns-in_ok-left-in-Brackets c = λ seen k long fits.
    let p = pops seen.first seen.openers _ _ (sym k.openers_are ∙ c.in-Some.ensures.items) in
    let way = sym c.find_way.ensures ∙ c.in-Brackets.is in
    meets-by-way c.args.run seen.first seen.openers p.top p.openers _ _ _ p.is (way-at c.args.run _ _ _ _ p _ way)
    (c.in_ok-left-in-Brackets.ensures seen.first p.top p.openers (popped seen _ c.args.matching.now _ p k refl refl) long fits)
