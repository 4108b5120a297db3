use Rattle.std.proofs.Common.{◌≡◌, subst}
use Rattle.wk_wiki_rules.specs.States.{State, world_of}
use Rattle.wk_wiki_rules.specs.Passes.{shown_number}
use Rattle.wk_expand.specs.Drafts.{DraftShown}
use Rattle.wk_expand.specs.Steps.{given_text}
use Rattle.wk_shared.specs.Looks.{HasLooked, TellsCurrent}
use Rattle.wk_shared.proofs.drafting.look_behind.Goals as goal

pub look_and_keep-requires-clause-own_text : goal.look_and_keep-requires-clause-own_text
look_and_keep-requires-clause-own_text g c = subst (λ r. c.args.draft.now.given ≡ given_text r) c.in-Page.is c.requires.given

pub returns-in-Given-clause-looked : goal.returns-in-Given-clause-looked
returns-in-Given-clause-looked g c =
    let found = c.look_at in
    subst (λ (d : DraftShown). (state : State) × HasLooked c.args.shared.now c.args.pass.now found.new.pass state × (found.result.id ≡ shown_number state.history d.page)
    × TellsCurrent (world_of state) d.reads found.result.current) c.draft.ensures found.ensures.looked
