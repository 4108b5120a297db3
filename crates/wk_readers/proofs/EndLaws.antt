-- How a ticket comes in whose page was drafted without the turn.
use Rattle.std.proofs.Common.{◌≡◌, ℕ, ◌+◌, List, [], ◌∷◌, ◌++◌, length, take, drop, Option, Some, None, refl, sym, ap, ◌∙◌, subst}
use Rattle.std.proofs.Math.Seq.{take-length}
use Rattle.std.proofs.lemmas.List.{take-append-drop}
use Rattle.std.proofs.lemmas.List.Elements.{All-from_recursion, All-weaker, recursion_from_All}
use Rattle.std.proofs.lemmas.Option.{option_and_then_some}
use Rattle.wk_text_rules.specs.Titles.{PageTitle}
use Rattle.wk_page_rules.specs.History.{text_of_revision}
use Rattle.wk_view_rules.specs.Worlds.{HasItsText, IsHonest, Read, page_of}
use Rattle.wk_wiki_rules.specs.Steps.{fan_pages}
use Rattle.wk_wiki_rules.specs.States.{State, world_of}
use Rattle.wk_wiki_rules.specs.Events.{Event}
use Rattle.wk_wiki_rules.specs.Lives.{replay, replay_by, replay_from, state_at}
use Rattle.wk_wiki_laws.proofs.HonestReads.{IsHonest-replayed}
use Rattle.wk_wiki_rules.specs.Claims.{ClaimOutcome}
use Rattle.wk_wiki_rules.specs.Starts.{Start}
use Rattle.wk_wiki_laws.proofs.Parts.{replay-append}
use Rattle.wk_life_laws.proofs.Marks.{answer-honest}
use Rattle.wk_expand.specs.Drafts.{DraftShown}
use Rattle.wk_core.specs.declared.outcomes.Finished.{Finished}
use Rattle.wk_core.specs.declared.outcomes.Finished.TheVariants as finished
use Rattle.wk_turn.specs.Told.{Begun, Story}
use Rattle.wk_turn.proofs.Lists.{prefix_trans}
use Rattle.wk_shared.specs.Answers.{BackTold, FinishTold}
use Rattle.wk_shared.specs.Calls.{HasSeen, HoldsDraft, HoldsTicket, IsMadeAt, MayFail}
use Rattle.wk_read_laws.specs.Points.{AreReadSince, IsReadSince}
use Rattle.wk_read_laws.proofs.PointLaws.{reads-none, reads-stale}
use Rattle.wk_shared.specs.Apart.{IsDraftSince}
use Rattle.wk_shared.specs.Looks.{HasRead}
use Rattle.wk_readers.specs.Refreshes.{ComesIn, EndTold, IsBroughtIn, refreshed_by}
use Rattle.wk_readers.specs.declared.outcome.Refreshed.TheVariants as refreshed

abbrev Pass : Type 0
Pass = Story Start Event

-- ---- a draft that is fit for its ticket

-- what follows of the state at a point that was seen
later-from : (start : State) (journal : List Event) (last middle : State) (point : ℕ) → replay start journal ≡ Some last → state_at start journal point ≡ Some middle
    → replay_from fan_pages middle (0 + length (take point journal)) (drop point journal) ≡ Some last
later-from start journal last middle point done at =
    let joined : replay start (take point journal ++ drop point journal) ≡ Some last = ap (replay start) (take-append-drop point journal) ∙ done in
    let parts = replay-append fan_pages start 0 (take point journal) (drop point journal) in
    option_and_then_some (λ mid. replay_from fan_pages mid (0 + length (take point journal)) (drop point journal)) (replay_by fan_pages start (take point journal)) last (sym parts ∙ joined)
    (λ mid first rest.
    let both : Some mid ≡ Some middle = sym first ∙ at in
    let same : mid ≡ middle = cc in
    subst (λ (s : State). replay_from fan_pages s (0 + length (take point journal)) (drop point journal) ≡ Some last) same rest)

read-true : (start : Start) (journal : List Event) (state : State) (from : ℕ) (read : Read) → replay start.state journal ≡ Some state → IsReadSince start journal from read
    → HasItsText (text_of_revision state.history) (page_of read.answer)
read-true start journal state from read done is =
    let one : IsHonest (text_of_revision is.state.history) (read ∷ []) =
    All-from_recursion (λ (r : Read). HasItsText (text_of_revision is.state.history) (page_of r.answer)) (read ∷ [])
    (subst (λ a. HasItsText (text_of_revision is.state.history) (page_of a)) is.answered (answer-honest is.state.history read.title read.kind), tt) in
    let later = IsHonest-replayed fan_pages is.state state (0 + length (take is.point journal)) (drop is.point journal) (read ∷ [])
    (later-from start.state journal state is.state is.point done is.stands) one in
    (recursion_from_All (λ (r : Read). HasItsText (text_of_revision state.history) (page_of r.answer)) (read ∷ []) later).0

-- what was answered point by point is honest in the state that was seen last
reads-true : (start : Start) (journal : List Event) (state : State) (from : ℕ) (reads : List Read) → replay start.state journal ≡ Some state → AreReadSince start journal from reads
    → IsHonest (text_of_revision state.history) reads
reads-true start journal state from reads done are =
    All-weaker (IsReadSince start journal from) (λ (r : Read). HasItsText (text_of_revision state.history) (page_of r.answer)) (λ read is. read-true start journal state from read done is) reads are

pub holds-draft : (start : Start) (old pass : Pass) (ticket : ClaimOutcome) (draft : DraftShown) → HoldsTicket start pass ticket → IsDraftSince start old pass ticket.title None draft
    → HoldsDraft start pass ticket draft
holds-draft start old pass ticket draft holds is =
    let done : replay start.state pass.seen ≡ Some holds.state = ap (replay start.state) (sym (take-length pass.seen)) ∙ holds.seen in
    record {
      state = holds.state;
      seen = holds.seen;
      fit = record {
        page = is.page_is;
        own_text = is.given_is;
        honest = reads-true start pass.seen holds.state (length old.seen) draft.reads done is.since;
      };
    }

-- ---- the end

-- a call, by less of what it tells
pub made-as : (start : Start) (old new : Pass) (One Two : Start → State → ℕ → Option Event → Type 0) → ((s : Start) (state : State) (point : ℕ) (event : Option Event) → One s state point event → Two s state point event)
    → IsMadeAt start old new One → IsMadeAt start old new Two
made-as start old new One Two less made = record {
  at = made.at;
  later = made.later;
  state = made.state;
  stands = made.stands;
  event = made.event;
  adds = made.adds;
  call = less start made.state made.at made.event made.call;
  tickets = made.tickets;
}

module _ (shared : Begun Start) (old drafted new : Pass) (read : HasRead shared old drafted) (point : ℕ) (seen : HasSeen shared drafted new point) (ticket : ClaimOutcome) where
  seen-both : HasSeen shared old new (length new.seen)
  seen-both = record {
    turn = seen.turn;
    free = seen.free;
    tells = refl;
    seen = prefix_trans old.seen drafted.seen new.seen read.seen seen.seen;
    state = seen.state;
    run = seen.run;
  }

  module _ (reads : List Read) (since : AreReadSince shared.start drafted.seen (length old.seen) reads) where
    abbrev comes-in : (Last : List Read → Start → State → ℕ → Option Event → Type 0) → IsMadeAt shared.start drafted new (Last reads) → ComesIn shared old new Last
    comes-in Last made = record { drafted = drafted; read = read; reads = reads; since = since; later = seen.seen; last = made }

    ended : (title : PageTitle) (answer : Finished) → title ≡ ticket.title → IsMadeAt shared.start drafted new (FinishTold ticket.ticket reads answer)
        → EndTold shared old new ticket (refreshed_by title answer)
    ended title finished.Done is made = (is, comes-in (λ rs. FinishTold ticket.ticket rs finished.Done) made)
    ended title (finished.Stale page kind mark now) is made = (
      comes-in (λ rs. FinishTold ticket.ticket rs (finished.Stale page kind mark now)) made,
      reads-stale shared.start drafted.seen (length old.seen) (world_of made.state) (record { title = page; kind = kind; read = mark; now = now }) reads since
          (sym (made.call.stale (λ e. absurd cc))),
    )
    ended title finished.StoreFault is made = comes-in (λ rs. FinishTold ticket.ticket rs finished.StoreFault) made
    ended title finished.Memory is made =
        comes-in (λ rs. BackTold ticket.ticket)
        (made-as shared.start drafted new (FinishTold ticket.ticket reads finished.Memory) (BackTold ticket.ticket) (λ s state at event told. told.made) made)

    is-fault : (title : PageTitle) (answer : Finished) → refreshed_by title answer ≡ refreshed.StoreFault → answer ≡ finished.StoreFault
    is-fault title finished.Done e = absurd cc
    is-fault title (finished.Stale page kind mark now) e = absurd cc
    is-fault title finished.StoreFault e = refl
    is-fault title finished.Memory e = absurd cc

    pub finished-in : (title : PageTitle) (answer : Finished) → title ≡ ticket.title → IsMadeAt shared.start drafted new (FinishTold ticket.ticket reads answer)
        → (answer ≡ finished.StoreFault → MayFail shared.start) → IsBroughtIn shared old new ticket (refreshed_by title answer)
    finished-in title answer is made fault = record {
      pass = seen-both;
      told = ended title answer is made;
      fault = λ e. fault (is-fault title answer e);
    }

  pub given-in : IsMadeAt shared.start drafted new (BackTold ticket.ticket) → IsBroughtIn shared old new ticket refreshed.Memory
  given-in made = record {
    pass = seen-both;
    told = comes-in [] (reads-none shared.start drafted.seen (length old.seen)) (λ rs. BackTold ticket.ticket) made;
    fault = λ e. absurd cc;
  }
