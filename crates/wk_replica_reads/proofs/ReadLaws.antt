-- What is read in a replica, and behind the turn.
use Rattle.std.proofs.Common.{◌≡◌, ℕ, true, List, [], length, Option, Some, None, refl, sym, ap, ◌∙◌, subst, arith}
use Rattle.std.specs.Prelude.{All, Result, Ok, Err, IfOk, IfSome, OnOk}
use Rattle.serde_json.specs.View.{view}
use Rattle.serde_json.specs.declared.value.Value.{Value}
use Rattle.wk_text_rules.specs.Titles.{PageTitle}
use Rattle.wk_page_rules.specs.History.{text_of_revision}
use Rattle.wk_view_rules.specs.Worlds.{IsHonest, Read, answer_in, fits_kind, of_world}
use Rattle.wk_view_rules.specs.declared.Kind.{Kind}
use Rattle.wk_wiki_rules.specs.States.{State, world_of}
use Rattle.wk_wiki_rules.specs.Events.{Event}
use Rattle.wk_wiki_rules.specs.Lives.{state_at}
use Rattle.wk_wiki_rules.specs.Passes.{drafted_in, shown_number}
use Rattle.wk_wiki_rules.specs.Staleness.{first_stale}
use Rattle.wk_wiki_rules.specs.Starts.{Start}
use Rattle.wk_life_laws.specs.Caches.{IsLastingEntry}
use Rattle.wk_life_laws.proofs.Marks.{agrees-now}
use Rattle.wk_life_laws.specs.Runs.{IsRun}
use Rattle.wk_life_laws.proofs.RunFacts.{run_present}
use Rattle.wk_request_rules.specs.Requests.{Request}
use Rattle.wk_cache.specs.Entries.{entry_kept}
use Rattle.wk_cache.specs.declared.kept.Kept.{Kept}
use Rattle.wk_expand.specs.Answers.{answer_of}
use Rattle.wk_expand.specs.Drafts.{DraftShown, IsDraft}
use Rattle.wk_expand.specs.declared.answer.Answer as code
use Rattle.wk_live.specs.Drafted.{IsPresent}
use Rattle.wk_core.specs.declared.outcomes.PageRead.{PageRead}
use Rattle.wk_read_laws.proofs.PageLaws.{kept-lasting}
use Rattle.wk_shared.proofs.AnswerLaws.{answer_with, in-world}
use Rattle.wk_replica.specs.Answers.{replica_reply}
use Rattle.wk_replica.specs.Replicas.{ReplicaBegun}
use Rattle.wk_replica_reads.specs.Looks.{IsFetched, IsGiven, IsReadIn, IsReadNow}

-- ---- in a replica

-- what the world answers, and what a request is answered
pub fetched-as : {E : Type 0} (start : Start) (journal : List Event) (state : State) (title : PageTitle) (kind : Kind) (result : Result code.Answer E) → IsRun start journal state
    → IfOk result (λ a. answer_of a ≡ answer_in (world_of state) title kind) → IfOk result (λ a. IsFetched start journal title kind (answer_of a))
fetched-as start journal state title kind (Ok a) run is = record { state = state; run = run; is = is }
fetched-as start journal state title kind (Err e) run is = tt

pub given-as : {E : Type 0} (start : Start) (journal : List Event) (state : State) (request : Request) (Going : Type 0) (result : Result Value E) → (Going → IsRun start journal state) → OnOk result Going
    → IfOk result (λ v. view v ≡ (replica_reply state (length journal) 0 request).value) → IfOk result (λ v. IsGiven start journal request (view v))
given-as start journal state request Going (Ok v) run going is = record { state = state; run = run going; is = is }
given-as start journal state request Going (Err e) run going is = tt

module _ (start : Start) (journal : List Event) (state : State) (run : IsRun start journal state) where
  -- a draft whose texts are those of their revisions is right where each of its reads is current
  pub current-read : (d : DraftShown) (point id : ℕ) → IsDraft d.page d.given d.expanded d.reads → IsHonest (text_of_revision state.history) d.reads
      → All (λ (r : Read). fits_kind r.kind r.answer ≡ true) d.reads → first_stale (world_of state) d.reads ≡ None → point ≡ length journal → id ≡ shown_number state.history d.page
      → IsReadIn start journal state d.page d.given (answer_with d point id)
  current-read d point id draft honest formed none at number = record {
    run = run;
    page_is = refl;
    given_is = refl;
    point_is = at;
    drafted = in-world (world_of state) d.page d.given ∙ draft.everywhere (of_world (world_of state)) (agrees-now state d.reads honest formed none);
    number_is = number;
  }

  -- a draft of the present world is right
  pub present-read : (page : PageTitle) (given : Option (List ℕ)) (d : DraftShown) (point id : ℕ) → IsPresent (world_of state) page given d → point ≡ length journal
      → id ≡ shown_number state.history d.page → IsReadIn start journal state page given (answer_with d point id)
  present-read page given d point id is at number = record {
    run = run;
    page_is = is.page_is;
    given_is = is.given_is;
    point_is = at;
    drafted = is.drafted;
    number_is = number ∙ ap (shown_number state.history) is.page_is;
  }

abbrev pub kept_of_read : PageRead → Kept
kept_of_read read = record { draft = read.draft; point = read.point; uses = 0; id = read.id }

-- what is right of a page's own text lasts
pub read-lasting : (start : Start) (journal : List Event) (state : State) (page : PageTitle) (read : PageRead) → IsReadIn start journal state page None read
    → IsLastingEntry state (entry_kept (kept_of_read read))
read-lasting start journal state page read is =
    kept-lasting start journal [] state (entry_kept (kept_of_read read)) is.run (record {
      own_text = is.given_is;
      right = record {
        state = state;
        seen = (let at = is.point_is in omega (arith, at));
        at = ap (state_at start.state journal) is.point_is ∙ run_present start journal state is.run;
        drafted = (λ i. drafted_in (world_of state) (is.page_is i) (is.given_is i)) ∙ is.drafted;
        numbered = is.number_is ∙ ap (shown_number state.history) (sym is.page_is);
      };
      uses = omega arith;
    })

-- a read of a draft's page and text, where these are known
pub read-of : (start : Start) (journal : List Event) (state : State) (page other : PageTitle) (given text : Option (List ℕ)) (read : PageRead) → page ≡ other → given ≡ text
    → IsReadIn start journal state page given read → IsReadIn start journal state other text read
read-of start journal state page other given text read same_page same_text is =
    subst (λ (z : PageTitle × Option (List ℕ)). IsReadIn start journal state z.0 z.1 read) (λ i. (same_page i, same_text i)) is

-- ---- behind the turn

module _ (begun start : ReplicaBegun) (journal seen : List Event) (same : begun ≡ start) (all : seen ≡ journal) where
  moved : (P : Start → List Event → Type 0) → P begun.wiki journal → P start.wiki seen
  moved P is = let s = same in let j = sym all in subst (λ (z : ReplicaBegun × List Event). P z.0.wiki z.1) (λ i. (s i, j i)) is

  pub read-behind : (state : State) (page : PageTitle) (given : Option (List ℕ)) (read : PageRead) → IsReadIn begun.wiki journal state page given read → IsReadNow start.wiki seen page given read
  read-behind state page given read is = (state, moved (λ s j. IsReadIn s j state page given read) is)

  pub found-behind : (state : State) (page : PageTitle) (given : Option (List ℕ)) (read : Option PageRead) → IfSome read (IsReadIn begun.wiki journal state page given) → IfSome read (IsReadNow start.wiki seen page given)
  found-behind state page given None is = tt
  found-behind state page given (Some read) is = read-behind state page given read is

  pub drafted-behind : {E : Type 0} (state : State) (page : PageTitle) (given : Option (List ℕ)) (read : Result PageRead E) → IfOk read (IsReadIn begun.wiki journal state page given) → IfOk read (IsReadNow start.wiki seen page given)
  drafted-behind state page given (Ok read) is = read-behind state page given read is
  drafted-behind state page given (Err e) is = tt

  pub fetched-behind : {E : Type 0} (title : PageTitle) (kind : Kind) (answer : Result code.Answer E) → IfOk answer (λ a. IsFetched begun.wiki journal title kind (answer_of a))
      → IfOk answer (λ a. IsFetched start.wiki seen title kind (answer_of a))
  fetched-behind title kind (Ok a) is = moved (λ s j. IsFetched s j title kind (answer_of a)) is
  fetched-behind title kind (Err e) is = tt

  pub given-behind : (request : Request) (value : Value) → IsGiven begun.wiki journal request (view value) → IsGiven start.wiki seen request (view value)
  given-behind request value is = moved (λ s j. IsGiven s j request (view value)) is

-- a read of a draft that is shared, by the page and the text of the draft
pub tried : (start : Start) (seen : List Event) (page : PageTitle) (given : Option (List ℕ)) (d shown : DraftShown) (read : Option PageRead) → shown ≡ d → d.page ≡ page → d.given ≡ given
    → IfSome read (IsReadNow start seen shown.page shown.given) → IfSome read (IsReadNow start seen page given)
tried start seen page given d shown read same page_is given_is is =
    let p = ap (λ (x : DraftShown). x.page) same ∙ page_is in
    let g = ap (λ (x : DraftShown). x.given) same ∙ given_is in
    subst (λ (z : PageTitle × Option (List ℕ)). IfSome read (IsReadNow start seen z.0 z.1)) (λ i. (p i, g i)) is
