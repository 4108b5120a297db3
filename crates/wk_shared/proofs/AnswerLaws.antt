-- Answers that are right at the present point.
use Rattle.std.proofs.Common.{◌≡◌, ℕ, List, length, Option, Some, None, refl, sym, ap, ◌∙◌, subst, arith}
use Rattle.std.specs.Prelude.{IfSome}
use Rattle.wk_text_rules.specs.Titles.{PageTitle}
use Rattle.wk_view_rules.specs.Worlds.{World, of_world}
use Rattle.wk_wiki_rules.specs.States.{State, world_of}
use Rattle.wk_wiki_rules.specs.Events.{Event}
use Rattle.wk_wiki_rules.specs.Lives.{state_at}
use Rattle.wk_wiki_rules.specs.Passes.{drafted_in, shown_number}
use Rattle.wk_wiki_rules.specs.Staleness.{first_stale}
use Rattle.wk_wiki_rules.specs.Starts.{Start}
use Rattle.wk_life_laws.proofs.RunFacts.{run_present}
use Rattle.wk_expand.specs.Drafts.{DraftShown, IsDraft, drafted}
use Rattle.wk_live.specs.Drafted.{IsPresent}
use Rattle.wk_core.specs.declared.outcomes.PageRead.{PageRead}
use Rattle.wk_turn.specs.Told.{Begun, Story}
use Rattle.wk_read_laws.specs.Points.{AreReadSince}
use Rattle.wk_read_laws.proofs.PageLaws.{read-now}
use Rattle.wk_read_laws.proofs.PointLaws.{reads-formed, reads-honest, reads-later}
use Rattle.wk_shared.specs.Looks.{HasLooked, IsPresentRead, reading_of}

abbrev Pass : Type 0
Pass = Story Start Event

pub in-world : (w : World) (page : PageTitle) (given : Option (List ℕ)) → drafted_in w page given ≡ drafted (of_world w) page given
in-world w page None = refl
in-world w page (Some text) = refl

abbrev pub answer_with : DraftShown → ℕ → ℕ → PageRead
answer_with d point id = record { draft = d; point = point; id = id }

-- a draft of answers of points is right now where each of them is current
pub accepted : (shared : Begun Start) (old new : Pass) (state : State) (from : ℕ) (d : DraftShown) (point id : ℕ) → HasLooked shared old new state
    → IsDraft d.page d.given d.expanded d.reads → AreReadSince shared.start old.seen from d.reads → first_stale (world_of state) d.reads ≡ None
    → point ≡ length new.seen → id ≡ shown_number state.history d.page → IsPresentRead shared new d.page d.given (answer_with d point id)
accepted shared old new state from d point id looked draft since none at number =
    let since_new = reads-later shared.start old.seen new.seen from d.reads looked.read.seen since in
    record {
      page_is = refl;
      given_is = refl;
      point_is = at;
      right = read-now shared.start new.seen new.own state (reading_of (answer_with d point id)) looked.run
          (λ agrees. in-world (world_of state) d.page d.given ∙ draft.everywhere (of_world (world_of state)) agrees)
          (reads-honest shared.start new.seen state from d.reads looked.run since_new) (reads-formed shared.start new.seen from d.reads since_new) none number at;
    }

-- a draft of the present world is right now
pub drafted-present : (shared : Begun Start) (old new : Pass) (state : State) (page : PageTitle) (given : Option (List ℕ)) (d : DraftShown) (point id : ℕ) → HasLooked shared old new state
    → IsPresent (world_of state) page given d → point ≡ length new.seen → id ≡ shown_number state.history page → IsPresentRead shared new page given (answer_with d point id)
drafted-present shared old new state page given d point id looked is at number = record {
  page_is = is.page_is;
  given_is = is.given_is;
  point_is = at;
  right = record {
    state = state;
    seen = omega (arith, at);
    at = ap (state_at shared.start.state new.seen) at ∙ run_present shared.start new.seen state looked.run;
    drafted = (λ i. drafted_in (world_of state) (is.page_is i) (is.given_is i)) ∙ is.drafted;
    numbered = number ∙ ap (shown_number state.history) (sym is.page_is);
  };
}

-- an answer to a read of a draft's page and text, where these are known
pub tried : (shared : Begun Start) (new : Pass) (page : PageTitle) (given : Option (List ℕ)) (d shown : DraftShown) (answer : Option PageRead) → shown ≡ d → d.page ≡ page → d.given ≡ given
    → IfSome answer (IsPresentRead shared new shown.page shown.given) → IfSome answer (IsPresentRead shared new page given)
tried shared new page given d shown answer same page_is given_is is =
    let p = ap (λ (x : DraftShown). x.page) same ∙ page_is in
    let g = ap (λ (x : DraftShown). x.given) same ∙ given_is in
    subst (λ (z : PageTitle × Option (List ℕ)). IfSome answer (IsPresentRead shared new z.0 z.1)) (λ i. (p i, g i)) is
