use Rattle.std.proofs.Common.{◌≡◌, ◌⊎◌, ◌+◌, ◌∷◌, [], length, Ok, Err, inl, inr, ap}
use Rattle.wk_wiki_rules.specs.Events.{Back, Claim}
use Rattle.wk_core.specs.Seen.{WikiSeen}
use Rattle.wk_tools.specs.Lived.{HasMadeEach}
use Rattle.wk_tools.specs.Rounds.{EndsBy, by_refresh, with_nothing, with_return}
use Rattle.wk_table_rules.specs.Rows.{StoreTables}
use Rattle.std.specs.Prelude.{Option}
use Rattle.wk_tools.proofs.Rounds.{claim-full, nothing-same, round-faults, round-goes, round-lacks, round-renews}
use Rattle.wk_tools.proofs.drains.refresh_round.Goals as goal

ends-by : {K : Type 0} (told : K → Option StoreTables) (old new : WikiSeen K) → (new ≡ old) ⊎ HasMadeEach old new (Claim ∷ Back (length old.journal + 1) ∷ []) → EndsBy told old new
ends-by told old new (inl same) = with_nothing (nothing-same told old new same)
ends-by told old new (inr each) = with_return each

pub returns-in-Ok-true : goal.returns-in-Ok-true
returns-in-Ok-true g c =
    round-goes g.K.Keeper.told g.K.Keeper.faults c.args.wiki.now c.refresh_here.new.wiki (by_refresh (c.in-Ok-true.ensures.done (ap (λ b. Ok b) c.in-Ok-true.field-0-test))) c.in-Ok-true.ensures.keeper (c.in-Ok-true.ensures.no_fault (λ e. cc))

pub returns-in-Err-JournalFull : goal.returns-in-Err-JournalFull
returns-in-Err-JournalFull g c =
    let full = c.in-Err-JournalFull.ensures.full (ap (λ r. Err r) c.in-Err-JournalFull.field-0-is) in
    round-renews g.K.Keeper.told g.K.Keeper.faults c.args.wiki.now c.refresh_here.new.wiki c.begin_anew.new.wiki c.begin_anew.result
    (nothing-same g.K.Keeper.told c.args.wiki.now c.refresh_here.new.wiki full.2) c.in-Err-JournalFull.ensures.keeper (ap (λ (v : WikiSeen _). g.K.Keeper.faults v.keeper) full.2) (ap (λ w. w.start.whole) full.2)
    c.begin_anew.ensures.goes c.begin_anew.ensures.ends c.begin_anew.ensures.full c.begin_anew.ensures.not_done c.begin_anew.ensures.no_fault c.begin_anew.ensures.keeper
    (λ empty. claim-full c.args.wiki.now c.facts.ensures.run empty full.0 full.1)

pub returns-in-Err-StoreFault : goal.returns-in-Err-StoreFault
returns-in-Err-StoreFault g c =
    let is = ap (λ r. Err r) c.in-Err-StoreFault.field-0-is in
    round-faults g.K.Keeper.told g.K.Keeper.faults c.args.wiki.now c.refresh_here.new.wiki (with_return (c.in-Err-StoreFault.ensures.failed is)) (c.in-Err-StoreFault.ensures.fault is) c.in-Err-StoreFault.ensures.keeper

pub returns-in-Err-Memory : goal.returns-in-Err-Memory
returns-in-Err-Memory g c =
    let is = ap (λ r. Err r) c.in-Err-Memory.field-0-is in
    round-lacks g.K.Keeper.told g.K.Keeper.faults c.args.wiki.now c.refresh_here.new.wiki (ends-by g.K.Keeper.told c.args.wiki.now c.refresh_here.new.wiki (c.in-Err-Memory.ensures.memory is)) c.in-Err-Memory.ensures.keeper
    (c.in-Err-Memory.ensures.no_fault (λ e. let memory = is in cc))
