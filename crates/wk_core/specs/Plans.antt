-- What becomes of an edit, before anything is saved (own).
use Rattle.std.specs.Prelude.{◌≡◌, ℕ, length, Some, option_map}
use Rattle.wk_page_rules.specs.History.{page_to_save}
use Rattle.wk_page_rules.specs.Verdict.{EditAsked, MostHeld, refuse, no_change, accept}
use Rattle.wk_wiki_rules.specs.States.{State}
use Rattle.wk_wiki_rules.specs.Verdicts.{verdict_in}
use Rattle.wk_revs.specs.Standing.{standing}
use Rattle.wk_revs.specs.Verdict.{refusal_of}
use Rattle.wk_core.specs.PlanShown.{PlanShown}
use Rattle.wk_core.specs.Seen.{WikiSeen}
use Rattle.wk_core.specs.declared.plans.Planned.{Planned}
use Rattle.wk_core.specs.declared.plans.Planned.TheVariants.{Refused, NoChange, Save}

-- This becomes of the edit in a state behind a journal of this length: the verdict on it, the number of the page that has the
-- text already, and what stands of the title that is to be saved.
abbrev pub IsPlannedIn : MostHeld → State → ℕ → EditAsked → Planned → Type 0
IsPlannedIn most state journal edit (Refused refusal) =
    option_map refuse (refusal_of refusal) ≡ Some (verdict_in most state journal edit)
IsPlannedIn most state journal edit (NoChange title page) =
    (verdict_in most state journal edit ≡ no_change title) × (page ≡ page_to_save state.history title)
IsPlannedIn most state journal edit (Save plan) =
    (verdict_in most state journal edit ≡ accept plan.title plan.text) × (plan.standing ≡ standing state.history plan.title)

-- this becomes of the edit now
abbrev pub IsPlanned : {K : Type 0} → WikiSeen K → EditAsked → Planned → Type 0
IsPlanned wiki edit = IsPlannedIn wiki.start.limits wiki.state (length wiki.journal) edit

-- the plan is that of some edit which the wiki accepts now
pub record HasPlanned {K : Type 0} (wiki : WikiSeen K) (plan : PlanShown) : Type 0 where
  pub edit : EditAsked
  pub is : IsPlanned wiki edit (Save plan)
