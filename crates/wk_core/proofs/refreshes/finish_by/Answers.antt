use Rattle.std.proofs.Common.{◌≡◌, List, map, refl, sym, ap, ◌∙◌}
use Rattle.wk_view_rules.specs.Worlds as rule
use Rattle.wk_wiki_rules.specs.States.{State, world_of}
use Rattle.wk_wiki_rules.specs.Staleness.{first_stale}
use Rattle.wk_life_laws.proofs.Marks.{agrees-now}
use Rattle.wk_expand.specs.Drafts.{with_mark}
use Rattle.wk_expand.specs.declared.answer.Read.{Read}
use Rattle.wk_live.specs.HeldState.{HeldState}
use Rattle.wk_live.specs.Stale.{first_stale_mark}
use Rattle.wk_live.proofs.ReadLaws.{stale-reads}
use Rattle.wk_core.proofs.RefreshFacts.{back-tables}
use Rattle.wk_core.proofs.WikiSteps.{told-same}
use Rattle.wk_core.proofs.refreshes.finish_by.Goals as goal

-- the first stale read by its mark is that of the rules
stale-is : (state : State) (live : HeldState) (reads : List rule.Read) (marks : List Read) → live.state ≡ state → marks ≡ map with_mark reads
    → first_stale_mark (world_of live.state) marks ≡ first_stale (world_of state) reads
stale-is state live reads marks same marked =
    ap (λ (s : State). first_stale_mark (world_of s) marks) same ∙ (ap (first_stale_mark (world_of state)) marked ∙ stale-reads (world_of state) reads)

pub finish_current-requires-clause-current : goal.finish_current-requires-clause-current
finish_current-requires-clause-current g c =
    let state = c.args.life.now.life.state in
    let same = stale-is state c.live.result.now c.args.draft.now.reads c.reads.result.now (ap (λ (s : HeldState). s.state) c.live.ensures) c.reads.ensures.value in
    agrees-now state c.args.draft.now.reads c.requires.honest c.reads.ensures.seen.formed (sym same ∙ c.in_default.ensures.none)

pub returns-in_default-clause-stale : goal.returns-in_default-clause-stale
returns-in_default-clause-stale g c =
    let state = c.args.life.now.life.state in
    let same = stale-is state c.live.result.now c.args.draft.now.reads c.reads.result.now (ap (λ (s : HeldState). s.state) c.live.ensures) c.reads.ensures.value in
    λ _. c.finish_current.ensures.not_stale ∙ (sym c.in_default.ensures.none ∙ same)

pub returns-clause-told : goal.returns-clause-told
returns-clause-told g c =
    let life = c.args.life.now.life in
    let tables = back-tables life c.facts.ensures c.args.ticket c.requires.held.0 c.requires.held.1 c.give_back.new.self.life c.give_back.ensures in
    told-same (g.K.Keeper.told c.args.keeper.now) (g.K.Keeper.told c.args.keeper.now) life.state c.give_back.new.self.life.state refl tables c.requires.told

pub returns-clause-stale : goal.returns-clause-stale
returns-clause-stale g c =
    let state = c.args.life.now.life.state in
    let same = stale-is state c.live.result.now c.args.draft.now.reads c.reads.result.now (ap (λ (s : HeldState). s.state) c.live.ensures) c.reads.ensures.value in
    λ other. c.in-Some.ensures.stale other ∙ same
