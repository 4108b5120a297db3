use Rattle.std.proofs.Common.{◌≡◌, length, Some, refl, ap, subst}
use Rattle.wk_wiki_rules.specs.Steps.{after_fan, after_serving, fan_pages}
use Rattle.wk_wiki_rules.specs.Events.{Fan, with_jobs}
use Rattle.wk_wiki_rules.specs.Tables.{tables_of}
use Rattle.wk_wiki_rules.specs.declared.Entry.TheVariants as entry
use Rattle.wk_life_laws.specs.Lives.{Life, journal_of}
use Rattle.wk_life_laws.specs.Next.{IsNext, with_entry}
use Rattle.wk_life_laws.proofs.Lives.{fanned_life}
use Rattle.std.specs.Prelude.{option_map}
use Rattle.wk_core.proofs.FanFacts.{fan-changes, fan-there}
use Rattle.wk_core.proofs.WikiSteps.{told-fits, told-made}
use Rattle.wk_core.proofs.fans.serve_first.Goals as goal

pub apply-requires : goal.apply-requires
apply-requires g c =
    let life = c.args.life.now.life in
    let fan = fan-there life.state.jobs c.requires.there in
    let jobs = after_serving life.state.stored fan_pages life.state.jobs fan.0 in
    let after : after_fan life.state.stored fan_pages life.state.jobs ≡ Some jobs = ap (option_map (after_serving life.state.stored fan_pages life.state.jobs)) fan.1 in
    let next = fanned_life life (length (journal_of life)) jobs c.facts.ensures refl c.requires.free after in
    let makes = fan-changes life c.facts.ensures c.requires.free (with_entry life entry.Fan (with_jobs life.state jobs)) c.in-Ok.prepared.change c.requires.there next c.in-Ok.ensures.change in
    told-fits life.state (g.K.Keeper.told c.args.keeper.now) c.in-Ok.prepared.change (tables_of (with_jobs life.state jobs)) c.requires.told makes

pub returns-in-Ok-apply-clause-told : goal.returns-in-Ok-apply-clause-told
returns-in-Ok-apply-clause-told g c =
    let life = c.args.life.now.life in
    let next = subst (λ (l : Life). IsNext l Fan c.serve.new.self.life) c.in-Ok.ensures.life c.serve.ensures in
    let makes = fan-changes life c.facts.ensures c.requires.free c.serve.new.self.life c.in-Ok.prepared.change c.requires.there next c.in-Ok.ensures.change in
    told-made life.state (g.K.Keeper.told c.args.keeper.now) (g.K.Keeper.told c.apply.new.self) c.in-Ok.prepared.change c.serve.new.self.life.state c.requires.told makes c.in-Ok-apply.ensures.tells c.in-Ok-apply.ensures.made
