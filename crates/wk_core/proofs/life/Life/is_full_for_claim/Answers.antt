use Rattle.std.proofs.Common.{◌+◌, ltb, length, sym, ap, ◌∙◌}
use Rattle.wk_wiki_rules.specs.Room.{tickets_out}
use Rattle.wk_life_laws.specs.Lives.{journal_of}
use Rattle.wk_life_laws.proofs.Lives.{counted_life}
use Rattle.wk_core.specs.LifeHeld.{LifeHeld}
use Rattle.wk_core.specs.LifeInside.{held}
use Rattle.wk_core.proofs.life.Life.is_full_for_claim.Goals as goal

pub returns : goal.returns
returns c =
    let counted = ap (λ (h : LifeHeld). length h.life.entries) (sym c.self.view_is) ∙ (sym (counted_life (held c.self.inside).life c.self.invariant.life) ∙ ap (λ (h : LifeHeld). length (journal_of h.life)) c.self.view_is) in
    let used = c.used.ensures.used ∙ ap (λ n. n + tickets_out c.args.self.now.life.state) counted in
    ap (λ n. ltb c.self.inside.limits.journal (n + 2)) used
    ∙ ap (λ (h : LifeHeld). ltb h.life.limits.journal (length (journal_of c.args.self.now.life) + tickets_out c.args.self.now.life.state + 2)) c.self.view_is
