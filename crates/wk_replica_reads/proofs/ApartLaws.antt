-- What is asked of a shared replica without the turn, and what is made of the answers.
use Rattle.std.proofs.Common.{◌≡◌, ℕ, ◌≤◌, true, List, [], ◌∷◌, ◌++◌, length, Option, Some, refl, sym, ap, ◌∙◌, subst, arith}
use Rattle.std.proofs.lemmas.List.Elements.{All-nil}
use Rattle.wk_text_rules.specs.Titles.{PageTitle}
use Rattle.wk_view_rules.specs.Worlds.{Agrees, Answer, Read, World, answer_in, ask, fits_kind, of_seen}
use Rattle.wk_view_rules.specs.declared.Kind.{Kind}
use Rattle.wk_view_rules.specs.declared.Kind.TheVariants.{View, Include, Exists}
use Rattle.wk_wiki_rules.specs.Events.{Event}
use Rattle.wk_wiki_rules.specs.States.{world_of}
use Rattle.wk_wiki_rules.specs.Starts.{Start}
use Rattle.wk_life_laws.proofs.RunFacts.{run_present}
use Rattle.wk_expand.specs.Answers.{read_with}
use Rattle.wk_expand.specs.Drafts.{DraftShown}
use Rattle.wk_expand.specs.Machines.{MachineShown}
use Rattle.wk_turn.specs.Told.{Begun}
use Rattle.wk_turn.proofs.Lists.{prefix_length}
use Rattle.wk_read_laws.specs.Points.{AreReadSince, IsReadSince}
use Rattle.wk_read_laws.proofs.PointLaws.{reads-among, reads-later, reads-more, reads-none}
use Rattle.wk_replica.specs.Replicas.{ReplicaBegun}
use Rattle.wk_replica_reads.specs.Looks.{AreAnsweredSince, HasRead, IsDraftSince, IsFetched}
use Rattle.wk_replica_reads.proofs.LookLaws.{Pass}

form : (pages : World) (title : PageTitle) (kind : Kind) → fits_kind kind (answer_in pages title kind) ≡ true
form pages title View = refl
form pages title Include = refl
form pages title Exists = refl

module _ (start : Start) (journal : List Event) (title : PageTitle) (kind : Kind) (answer : Answer) (f : IsFetched start journal title kind answer) where
  -- the answer has the form that its kind asks for
  pub fetched-form : fits_kind kind answer ≡ true
  fetched-form = subst (λ a. fits_kind kind a ≡ true) (sym f.is) (form (world_of f.state) title kind)

  fetched-since : (from : ℕ) → from ≤ length journal → IsReadSince start journal from (read_with title kind answer)
  fetched-since from before = record {
    point = length journal;
    since = before;
    within = omega arith;
    state = f.state;
    stands = run_present start journal f.state f.run;
    answered = sym f.is;
  }

-- one more answer
pub asked-more : (shared : Begun ReplicaBegun) (begun old new : Pass) (title : PageTitle) (kind : Kind) (answer : Answer) (answers next : List Read) → HasRead shared begun old → HasRead shared old new
    → IsFetched shared.start.wiki new.seen title kind answer → next ≡ answers ++ read_with title kind answer ∷ [] → AreAnsweredSince shared begun old answers → AreAnsweredSince shared begun new next
asked-more shared begun old new title kind answer answers next first later f kept are =
    let start = shared.start.wiki in
    let from = length begun.seen in
    let one = prefix_length begun.seen old.seen first.seen in
    let two = prefix_length old.seen new.seen later.seen in
    subst (AreReadSince start new.seen from) (sym kept)
    (reads-more start new.seen from answers (read_with title kind answer) (reads-later start old.seen new.seen from answers later.seen are)
    (fetched-since start new.seen title kind answer f from (omega (arith, one, two))))

-- ---- what is made of answers

pub answered-none : (shared : Begun ReplicaBegun) (pass : Pass) (answers : List Read) → answers ≡ [] → AreAnsweredSince shared pass pass answers
answered-none shared pass answers none =
    subst (AreReadSince shared.start.wiki pass.seen (length pass.seen)) (sym none) (reads-none shared.start.wiki pass.seen (length pass.seen))

pub agrees-none : (answers reads : List Read) → reads ≡ [] → Agrees (of_seen answers) reads
agrees-none answers reads none = subst (Agrees (of_seen answers)) (sym none) (All-nil (λ (r : Read). ask (of_seen answers) r.title r.kind ≡ Some r.answer))

-- a draft of this machine, whose reads are among the answers
pub drafted-since : (shared : Begun ReplicaBegun) (old new : Pass) (page : PageTitle) (given : Option (List ℕ)) (machine : MachineShown) (answers : List Read) (d : DraftShown) → machine ≡ record { page = page; given = given; reads = [] }
    → d.page ≡ machine.page → d.given ≡ machine.given → AreAnsweredSince shared old new answers → Agrees (of_seen answers) d.reads → IsDraftSince shared old new page given d
drafted-since shared old new page given machine answers d begun of_page of_given are agrees = record {
  page_is = of_page ∙ ap (λ (m : MachineShown). m.page) begun;
  given_is = of_given ∙ ap (λ (m : MachineShown). m.given) begun;
  since = reads-among shared.start.wiki new.seen (length old.seen) answers d.reads are agrees;
}
