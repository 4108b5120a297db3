use Rattle.std.proofs.Common.{length, sym, ap, ◌∙◌}
use Rattle.wk_life_laws.specs.Lives.{journal_of}
use Rattle.wk_life_laws.proofs.Lives.{counted_life}
use Rattle.wk_core.specs.LifeHeld.{LifeHeld}
use Rattle.wk_core.specs.LifeInside.{held}
use Rattle.wk_core.proofs.life.Life.point.Goals as goal

pub returns-clause-journal : goal.returns-clause-journal
returns-clause-journal c =
    c.len.ensures ∙ (c.self.inside.entries.ok.0 ∙ (sym (counted_life (held c.self.inside).life c.self.invariant.life) ∙ ap (λ (h : LifeHeld). length (journal_of h.life)) c.self.view_is))
