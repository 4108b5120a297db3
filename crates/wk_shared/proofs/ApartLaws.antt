-- What is asked of a shared wiki without the turn, and what is made of the answers.
use Rattle.std.proofs.Common.{◌≡◌, ℕ, ◌≤◌, true, List, [], ◌∷◌, ◌++◌, length, Option, Some, None, refl, sym, ap, ◌∙◌, subst, arith}
use Rattle.std.specs.Prelude.{Result, Ok, Err, IfOk, IsOkAnd}
use Rattle.std.proofs.lemmas.List.Elements.{All-nil}
use Rattle.wk_text_rules.specs.Titles.{PageTitle}
use Rattle.wk_view_rules.specs.Worlds.{Agrees, Read, World, answer_in, ask, fits_kind, of_seen}
use Rattle.wk_view_rules.specs.declared.Kind.{Kind}
use Rattle.wk_view_rules.specs.declared.Kind.TheVariants.{View, Include, Exists}
use Rattle.wk_wiki_rules.specs.States.{world_of}
use Rattle.wk_wiki_rules.specs.Events.{Event}
use Rattle.wk_wiki_rules.specs.Starts.{Start}
use Rattle.wk_expand.specs.Answers.{answer_of, read_with}
use Rattle.wk_expand.specs.Drafts.{DraftShown}
use Rattle.wk_expand.specs.Machines.{MachineShown}
use Rattle.wk_expand.specs.declared.answer.Answer as code
use Rattle.wk_turn.specs.Told.{Begun, Story}
use Rattle.wk_turn.proofs.Lists.{prefix_length}
use Rattle.wk_shared.specs.Answers.{FetchTold}
use Rattle.wk_shared.specs.Calls.{AddsOwn, HasSeen, IsFree, IsMadeAt, LeavesOut}
use Rattle.wk_read_laws.specs.Points.{AreReadSince, IsReadSince}
use Rattle.wk_read_laws.proofs.PointLaws.{reads-among, reads-later, reads-more, reads-none}
use Rattle.wk_shared.specs.Apart.{AreAnsweredSince, HasAsked, IsDraftSince}
use Rattle.wk_shared.specs.Looks.{HasRead, KeepsTickets}
use Rattle.wk_shared.proofs.LookLaws.{read-both, read-none}

abbrev Pass : Type 0
Pass = Story Start Event

form : (pages : World) (title : PageTitle) (kind : Kind) → fits_kind kind (answer_in pages title kind) ≡ true
form pages title View = refl
form pages title Include = refl
form pages title Exists = refl

adds-none : (old new : Pass) (at : ℕ) (event : Option Event) → event ≡ None → AddsOwn old new at event → (length new.seen ≡ at) × (new.own ≡ old.own)
adds-none old new at event none adds = subst (AddsOwn old new at) none adds

-- ---- an answer that is fetched

module _ {E : Type 0} (shared : Begun Start) (old new : Pass) (title : PageTitle) (kind : Kind) (point : ℕ) where
  fetched-read : (answer : Result code.Answer E) → HasSeen shared old new point → IsMadeAt shared.start old new (FetchTold title kind answer) → HasRead shared old new
  fetched-read answer seen made = record {
    turn = seen.turn;
    free = seen.free;
    seen = seen.seen;
    own = (adds-none old new made.at made.event made.call.made made.adds).1;
  }

  fetched-tickets : (answer : Result code.Answer E) → IsMadeAt shared.start old new (FetchTold title kind answer) → KeepsTickets shared.start old new
  fetched-tickets answer made = λ ticket holds. made.tickets ticket holds (subst (LeavesOut ticket) (sym made.call.made) tt)

  module _ (answer : code.Answer) (made : IsMadeAt shared.start old new (FetchTold {E = E} title kind (Ok answer))) where
    fetched-form : fits_kind kind (answer_of answer) ≡ true
    fetched-form = subst (λ a. fits_kind kind a ≡ true) (sym made.call.answered) (form (world_of made.state) title kind)

    fetched-since : (from : ℕ) → from ≤ length old.seen → IsReadSince shared.start new.seen from (read_with title kind (answer_of answer))
    fetched-since from before =
        let there = adds-none old new made.at made.event made.call.made made.adds in
        let later = made.later in
        record {
          point = made.at;
          since = omega (arith, before, later);
          within = (let e = there.0 in omega (arith, e));
          state = made.state;
          stands = made.stands;
          answered = sym made.call.answered;
        }

    fetched-more : (seen : HasSeen shared old new point) (reads : List Read) (from : ℕ) → from ≤ length old.seen → AreReadSince shared.start old.seen from reads
        → AreReadSince shared.start new.seen from (reads ++ read_with title kind (answer_of answer) ∷ [])
    fetched-more seen reads from before are =
        reads-more shared.start new.seen from reads (read_with title kind (answer_of answer)) (reads-later shared.start old.seen new.seen from reads seen.seen are) (fetched-since from before)

  pub fetched-formed : (answer : Result code.Answer E) → IsMadeAt shared.start old new (FetchTold title kind answer) → IfOk answer (λ a. fits_kind kind (answer_of a) ≡ true)
  fetched-formed (Ok a) made = fetched-form a made
  fetched-formed (Err e) made = tt

  -- one more question
  pub asked-more : (answer : Result code.Answer E) → HasSeen shared old new point → IsMadeAt shared.start old new (FetchTold title kind answer) → (begun : Pass) → HasAsked shared begun old → HasAsked shared begun new
  asked-more answer seen made begun asked = record {
    read = read-both shared begun old new asked.read (fetched-read answer seen made);
    tickets = λ ticket holds. fetched-tickets answer made ticket (asked.tickets ticket holds);
  }

  -- and its answer, which is kept behind the others
  pub asked-answers : (answer : Result code.Answer E) (answers next : List Read) → HasSeen shared old new point → IsMadeAt shared.start old new (FetchTold title kind answer) → IsOkAnd answer (λ a. next ≡ answers ++ read_with title kind (answer_of a) ∷ [])
      → (begun : Pass) → HasAsked shared begun old → AreAnsweredSince shared begun old answers → AreAnsweredSince shared begun new next
  asked-answers (Ok a) answers next seen made kept begun asked are =
      subst (AreReadSince shared.start new.seen (length begun.seen)) (sym kept) (fetched-more a made seen answers (length begun.seen) (prefix_length begun.seen old.seen asked.read.seen) are)
  asked-answers (Err e) answers next seen made kept begun asked are = absurd kept

  pub asked-longer : (answer : Result code.Answer E) (answers next : List Read) → IsOkAnd answer (λ a. next ≡ answers ++ read_with title kind (answer_of a) ∷ []) → (read : Read) × (next ≡ answers ++ read ∷ [])
  asked-longer (Ok a) answers next kept = (read_with title kind (answer_of a), kept)
  asked-longer (Err e) answers next kept = absurd kept

-- ---- what is made of answers

-- nothing was asked yet
pub asked-none : (shared : Begun Start) (pass : Pass) → IsFree shared pass → HasAsked shared pass pass
asked-none shared pass is = record { read = read-none shared pass is; tickets = λ ticket holds. holds }

pub answered-none : (shared : Begun Start) (pass : Pass) (answers : List Read) → answers ≡ [] → AreAnsweredSince shared pass pass answers
answered-none shared pass answers none = subst (AreReadSince shared.start pass.seen (length pass.seen)) (sym none) (reads-none shared.start pass.seen (length pass.seen))

pub agrees-none : (answers reads : List Read) → reads ≡ [] → Agrees (of_seen answers) reads
agrees-none answers reads none = subst (Agrees (of_seen answers)) (sym none) (All-nil (λ (r : Read). ask (of_seen answers) r.title r.kind ≡ Some r.answer))

-- a draft of this machine, whose reads are among the answers
pub drafted-since : (shared : Begun Start) (old new : Pass) (page : PageTitle) (given : Option (List ℕ)) (machine : MachineShown) (answers : List Read) (d : DraftShown) → machine ≡ record { page = page; given = given; reads = [] }
    → d.page ≡ machine.page → d.given ≡ machine.given → AreAnsweredSince shared old new answers → Agrees (of_seen answers) d.reads → IsDraftSince shared.start old new page given d
drafted-since shared old new page given machine answers d begun of_page of_given are agrees = record {
  page_is = of_page ∙ ap (λ (m : MachineShown). m.page) begun;
  given_is = of_given ∙ ap (λ (m : MachineShown). m.given) begun;
  since = reads-among shared.start new.seen (length old.seen) answers d.reads are agrees;
}
