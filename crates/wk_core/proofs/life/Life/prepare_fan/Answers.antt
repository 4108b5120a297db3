use Rattle.std.proofs.Common.{length, sym, subst, ap, arith}
use Rattle.std.specs.Prelude.{IsSome}
use Rattle.wk_wiki_rules.specs.Jobs.{first_fan}
use Rattle.wk_core.specs.LifeHeld.{LifeHeld}
use Rattle.wk_core.proofs.FanFacts.{served-few}
use Rattle.wk_core.proofs.life.Life.prepare_fan.Goals as goal

pub overflow_cast-told : goal.overflow_cast-told
overflow_cast-told c =
    let there = subst (λ (h : LifeHeld). IsSome (first_fan h.life.state.jobs)) (sym c.self.view_is) c.requires.there in
    let few = served-few c.self.inside.live.state c.in_ok-served.served.items c.in_ok-served.is_last c.in_ok-served.ensures there in
    let len = c.len.ensures in
    let items = c.in_ok-served.served.ok.0 in
    omega (arith, few, len, items)

pub count_new-requires : goal.count_new-requires
count_new-requires c =
    let there = subst (λ (h : LifeHeld). IsSome (first_fan h.life.state.jobs)) (sym c.self.view_is) c.requires.there in
    let few = served-few c.self.inside.live.state c.in_ok-served.served.items c.in_ok-served.is_last c.in_ok-served.ensures there in
    let same = ap (λ xs. length xs) c.deref-2.ensures.value in
    omega (arith, few, same)
