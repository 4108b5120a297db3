-- What a wiki keeps of drafts that are current.
use Rattle.std.proofs.Common.{◌≡◌, ℕ, List, [], length, Option, Some, None, refl, sym, ap, ◌∙◌, subst, arith}
use Rattle.std.specs.Prelude.{IfSome}
use Rattle.wk_text_rules.specs.Titles.{PageTitle}
use Rattle.wk_view_rules.specs.Plans.{done}
use Rattle.wk_view_rules.specs.Worlds.{IsSeen, of_world}
use Rattle.wk_wiki_rules.specs.States.{State, world_of}
use Rattle.wk_wiki_rules.specs.Events.{Event}
use Rattle.wk_wiki_rules.specs.Lives.{state_at}
use Rattle.wk_wiki_rules.specs.Passes.{IsReadAt, drafted_in, shown_number}
use Rattle.wk_wiki_rules.specs.Staleness.{first_stale}
use Rattle.wk_wiki_rules.specs.Starts.{Start}
use Rattle.wk_life_laws.specs.Caches.{IsLastingEntry}
use Rattle.wk_life_laws.proofs.CacheEntries.{entry-right}
use Rattle.wk_life_laws.proofs.Marks.{agrees-now}
use Rattle.wk_life_laws.specs.Runs.{IsRun}
use Rattle.wk_life_laws.proofs.RunFacts.{run_kept, run_present}
use Rattle.wk_cache.specs.Entries.{entry_kept, marked_with, reading_kept}
use Rattle.wk_cache.specs.declared.kept.Kept.{Kept}
use Rattle.wk_expand.specs.Drafts.{DraftShown, IsDraft}
use Rattle.wk_live.specs.Drafted.{IsPresent}
use Rattle.wk_core.specs.Seen.{WikiSeen}
use Rattle.wk_turn.specs.Told.{Begun, Story}
use Rattle.wk_turn.proofs.Lists.{prefix_self}
use Rattle.wk_read_laws.specs.Points.{AreReadSince}
use Rattle.wk_read_laws.proofs.PageLaws.{kept-lasting, pass_of, read-now, right-longer}
use Rattle.wk_read_laws.proofs.PointLaws.{reads-formed, reads-honest, reads-later}
use Rattle.wk_shared.specs.Looks.{IsPresentRead, IsTakenToLook}
use Rattle.wk_shared.specs.Sought.{IsCurrentKept, IsLookedFor, IsSought, kept_of, kept_read}
use Rattle.wk_shared.specs.declared.keeping.Sought.{Sought}
use Rattle.wk_shared.specs.declared.keeping.Sought.TheVariants as sought
use Rattle.wk_shared.proofs.AnswerLaws.{in-world}

abbrev Pass : Type 0
Pass = Story Start Event

-- what is right at the present point lasts
read-lasting : (start : Start) (journal : List Event) (state : State) (d : DraftShown) (point id : ℕ) → IsRun start journal state → d.given ≡ None
    → IsReadAt (pass_of start journal []) (reading_kept (kept_of d point id)) → IsLastingEntry state (entry_kept (kept_of d point id))
read-lasting start journal state d point id run own_text right = kept-lasting start journal [] state (entry_kept (kept_of d point id)) run (record { own_text = own_text; right = right; uses = omega arith })

-- a draft of answers of points lasts where each of them is current
pub found-lasting : {K : Type 0} (shared : Begun Start) (old mid : Pass) (wiki : WikiSeen K) (from : ℕ) (d : DraftShown) (point id : ℕ) → IsTakenToLook shared old mid wiki → IsDraft d.page d.given d.expanded d.reads
    → d.given ≡ None → AreReadSince shared.start old.seen from d.reads → first_stale (world_of wiki.state) d.reads ≡ None → point ≡ length wiki.journal → id ≡ shown_number wiki.state.history d.page
    → IsLastingEntry wiki.state (entry_kept (kept_of d point id))
found-lasting shared old mid wiki from d point id taken draft own_text since none at number =
    let here = reads-later shared.start old.seen wiki.journal from d.reads taken.seen since in
    let right = read-now shared.start wiki.journal [] wiki.state (reading_kept (kept_of d point id)) taken.run
    (λ agrees. in-world (world_of wiki.state) d.page d.given ∙ draft.everywhere (of_world (world_of wiki.state)) agrees)
    (reads-honest shared.start wiki.journal wiki.state from d.reads taken.run here) (reads-formed shared.start wiki.journal from d.reads here) none number at in
    read-lasting shared.start wiki.journal wiki.state d point id taken.run own_text right

-- so does a draft of the present world
pub drafted-lasting : (start : Start) (journal : List Event) (state : State) (page : PageTitle) (d : DraftShown) (point id : ℕ) → IsRun start journal state → IsPresent (world_of state) page None d → point ≡ length journal
    → id ≡ shown_number state.history page → IsLastingEntry state (entry_kept (kept_of d point id))
drafted-lasting start journal state page d point id run is at number = read-lasting start journal state d point id run is.given_is (record {
  state = state;
  seen = omega (arith, at);
  at = ap (state_at start.state journal) at ∙ run_present start journal state run;
  drafted = (λ i. drafted_in (world_of state) (is.page_is i) (is.given_is i)) ∙ is.drafted;
  numbered = number ∙ ap (shown_number state.history) (sym is.page_is);
})

-- what is kept lasts whatever its point and its uses are
pub marked-lasting : (state : State) (kept : Kept) (point uses : ℕ) → IsLastingEntry state (entry_kept kept) → IsLastingEntry state (entry_kept (marked_with point uses kept))
marked-lasting state kept point uses lasting = record {
  honest = record { own_text = lasting.honest.own_text; honest = lasting.honest.honest; numbered = lasting.honest.numbered };
  numbered = lasting.numbered;
}

-- what is kept of a page is right at the present point where each read is current
pub current-kept : (start : Start) (journal : List Event) (state : State) (page : PageTitle) (kept : Kept) (point : ℕ) → IsRun start journal state → IsLastingEntry state (entry_kept kept) → kept.draft.page ≡ page
    → IsDraft kept.draft.page kept.draft.given kept.draft.expanded kept.draft.reads → IsSeen kept.draft.reads → first_stale (world_of state) kept.draft.reads ≡ None → point ≡ length journal
    → IsCurrentKept start journal page (marked_with point 0 kept)
current-kept start journal state page kept point run lasting is draft seen none at =
    let agrees = agrees-now state kept.draft.reads lasting.honest.honest seen.formed none in
    let drafted = in-world (world_of state) kept.draft.page kept.draft.given ∙ draft.everywhere (of_world (world_of state)) agrees in
    let right = entry-right (pass_of start journal []) state (of_world (world_of state)) (entry_kept kept) (run_present start journal state run) (run_kept start journal state run).formed lasting.honest
    (subst (λ (g : Option (List ℕ)). drafted_in (world_of state) kept.draft.page g ≡ done kept.draft.expanded kept.draft.reads) lasting.honest.own_text drafted) seen.formed none in
    record {
      page_is = is;
      own_text = lasting.honest.own_text;
      point_is = at;
      unused = refl;
      right = subst (λ (p : ℕ). IsReadAt (pass_of start journal []) (reading_kept (marked_with p 0 kept))) (sym at) right;
    }

-- ---- behind the turn

module _ (shared : Begun Start) (start : Start) (journal : List Event) (new : Pass) (begun : start ≡ shared.start) (seen : new.seen ≡ journal) (page : PageTitle) where
  pub kept-behind : (kept : Kept) → IsCurrentKept start journal page kept → IsPresentRead shared new page None (kept_read kept) × (kept.uses ≡ 0)
  kept-behind kept is = (
    record {
      page_is = is.page_is;
      given_is = is.own_text;
      point_is = is.point_is ∙ ap length (sym seen);
      right = (let b = begun in let s = sym seen in subst (λ (z : Start × List Event). IsReadAt (pass_of z.0 z.1 new.own) (reading_kept kept)) (λ i. (b i, s i))
          (right-longer start journal journal [] new.own (reading_kept kept) (prefix_self journal) is.right));
    },
    is.unused,
  )

  pub new-behind : (kept : Option Kept) → IfSome kept (IsCurrentKept start journal page) → IfSome kept (λ k. IsPresentRead shared new page None (kept_read k) × (k.uses ≡ 0))
  new-behind None is = tt
  new-behind (Some kept) is = kept-behind kept is

  pub sought-behind : (state : State) (own : DraftShown) (found : Sought) → IsSought start journal state page own found → IsLookedFor shared new state page own found
  sought-behind state own sought.Own is = is
  sought-behind state own (sought.Shared kept) is = kept-behind kept is
  sought-behind state own sought.Nothing is = tt
