use Rattle.std.proofs.Common.{ap, ◌∙◌}
use Rattle.wk_core.specs.Entries.{entry_at, entries_seen}
use Rattle.wk_core.specs.Seen.{WikiSeen}
use Rattle.wk_core.proofs.WikiSteps.{entries-are}
use Rattle.wk_core.proofs.wiki.Wiki.event.Goals as goal

pub returns : goal.returns
returns g c =
    c.entry.ensures.value
    ∙ (ap (λ es. entry_at es c.args.number) (entries-are g.K.Keeper.is_whole g.K.Keeper.told g.K.Keeper.faults c.self.inside.life.life c.self.inside.keeper c.facts.ensures c.entry.ensures.named)
    ∙ ap (λ (w : WikiSeen g.row.K.Denot). entry_at (entries_seen w) c.args.number) c.self.view_is)
