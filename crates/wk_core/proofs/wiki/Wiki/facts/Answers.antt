use Rattle.std.proofs.Common.{subst}
use Rattle.wk_wiki_laws.specs.Saves.{Continues, saves}
use Rattle.wk_life_laws.specs.Sound.{IsSoundSince}
use Rattle.wk_life_laws.specs.Lives.{journal_of, start_of}
use Rattle.wk_life_laws.proofs.RunFacts.{run_continues, run_sound}
use Rattle.wk_core.specs.Seen.{WikiSeen}
use Rattle.wk_core.proofs.wiki.Wiki.facts.Goals as goal

pub returns-clause-sound : goal.returns-clause-sound
returns-clause-sound g c =
    let life = c.self.inside.life.life in
    subst (λ (w : WikiSeen g.row.K.Denot). IsSoundSince w.start.state w.state) c.self.view_is (run_sound (start_of life) (journal_of life) life.state c.facts.ensures.run)

pub returns-clause-history : goal.returns-clause-history
returns-clause-history g c =
    let life = c.self.inside.life.life in
    subst (λ (w : WikiSeen g.row.K.Denot). Continues w.start.state.history (saves w.journal) w.state.history) c.self.view_is (run_continues (start_of life) (journal_of life) life.state c.facts.ensures.run)
