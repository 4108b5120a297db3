-- Saves of edits one after the other (own).
use Rattle.std.specs.Prelude.{◌≡◌, ℕ, List, [], ◌∷◌, length, slice_get, take, Option, Some, None, IfSome}
use Rattle.wk_base.specs.Clock.{Ticks}
use Rattle.wk_page_rules.specs.Verdict.{EditAsked, refuse}
use Rattle.wk_tool_rules.specs.Saving.{SavesMade, saves_made}
use Rattle.wk_revs.specs.Verdict.{refusal_of}
use Rattle.wk_revs.specs.declared.verdict.SaveRefusal.{SaveRefusal}
use Rattle.wk_core.specs.Seen.{WikiSeen, verdict_now}
use Rattle.wk_tools.specs.Lived.{HasMadeEach}

-- the moments came from a clock one after the other, where it tells them
abbrev pub AreGiven : Option (List ℕ) → Option (List ℕ) → List ℕ → Type 0
AreGiven left later [] = left ≡ later
AreGiven left later (moment ∷ moments) = (next : Option (List ℕ)) × Ticks left next moment × AreGiven next later moments

-- what these saves make of a wiki at these moments
abbrev pub made_of : {K : Type 0} → WikiSeen K → List EditAsked → List ℕ → SavesMade
made_of wiki edits moments = saves_made wiki.start.limits wiki.state (length wiki.journal) edits moments

-- Each of the edits was saved or changed nothing, one after the other, at moments that the clock gave, one for each: the
-- events are those of the edits that changed something.
pub record HasSaved {K : Type 0} (old new : WikiSeen K) (edits : List EditAsked) (left later : Option (List ℕ)) : Type 0 where
  pub moments : List ℕ
  pub given : AreGiven left later moments
  pub one_each : length moments ≡ length edits
  pub none_refused : (made_of old edits moments).refused ≡ None
  pub made : HasMadeEach old new (made_of old edits moments).events
  pub after : new.state ≡ (made_of old edits moments).after

-- The first of the edits were saved so, and then the saves ended with this refusal: where the rules have it, the next of the
-- edits is refused for it.
pub record IsRefusedAt {K : Type 0} (old new : WikiSeen K) (edits : List EditAsked) (left : Option (List ℕ)) (refusal : SaveRefusal) : Type 0 where
  pub count : ℕ
  pub later : Option (List ℕ)
  pub saved : HasSaved old new (take count edits) left later
  pub cause : IfSome (refusal_of refusal) (λ cause. (edit : EditAsked) × (slice_get edits count ≡ Some edit) × (verdict_now new edit ≡ refuse cause))
