-- What the reads of a draft are, by what was seen.
use Rattle.std.proofs.Common.{◌≡◌, ℕ, Bool, true, false, cond, List, [], ◌∷◌, Option, Some, None, unwrap_or, ap, subst}
use Rattle.std.specs.Prelude.{find, option_map}
use Rattle.std.specs.List.{AllByRecursion}
use Rattle.std.proofs.lemmas.List.Elements.{All-from_recursion, All-nil, recursion_from_All}
use Rattle.wk_view_rules.specs.Worlds.{Agrees, HasItsText, IsHonest, Read, ask, is_read_of, of_seen, page_of}
use Rattle.wk_text_rules.specs.Titles.{PageTitle}
use Rattle.wk_view_rules.specs.declared.Kind.{Kind}
use Rattle.wk_view_rules.specs.Plans.{Outcome, done, need, reads_of}
use Rattle.wk_view_rules.specs.Views.{Expanded, view_plan}
use Rattle.wk_view_laws.proofs.PlanLemmas.{agrees-itself}
use Rattle.wk_page_rules.specs.History.{text_of_revision}
use Rattle.wk_wiki_rules.specs.States.{State}
use Rattle.wk_expand.specs.Running.{needed}
use Rattle.wk_script_rules.specs.WikiScripts.{TicketDraft, drafted}
use Rattle.wk_script_steps.specs.Seen.{IsFit}

module _ (text_of : ℕ → Option (List ℕ)) where
  Honest : Read → Type 0
  Honest r = HasItsText text_of (page_of r.answer)

  -- an answer that was seen is honest
  honest-answer : (seen : List Read) (test : Read → Bool) (r : Read) → AllByRecursion (λ (s : Read). HasItsText text_of (page_of s.answer)) seen
      → option_map (λ (s : Read). s.answer) (find test seen) ≡ Some r.answer → HasItsText text_of (page_of r.answer)
  honest-answer [] test r all is = absurd (let e : None ≡ Some r.answer = is in cc)
  honest-answer (s ∷ seen) test r all is = by (test s) is (honest-answer seen test r all.1)
    where
      by : (b : Bool) → option_map (λ (x : Read). x.answer) (cond b (Some s) (find test seen)) ≡ Some r.answer
          → (option_map (λ (x : Read). x.answer) (find test seen) ≡ Some r.answer → HasItsText text_of (page_of r.answer)) → HasItsText text_of (page_of r.answer)
      by true same later = subst (λ a. HasItsText text_of (page_of a)) (let e : Some s.answer ≡ Some r.answer = same in let p : s.answer ≡ r.answer = cc in p) all.0
      by false same later = later same

  honest-all : (seen reads : List Read) → AllByRecursion (λ (s : Read). HasItsText text_of (page_of s.answer)) seen
      → AllByRecursion (λ (r : Read). ask (of_seen seen) r.title r.kind ≡ Some r.answer) reads → AllByRecursion (λ (r : Read). HasItsText text_of (page_of r.answer)) reads
  honest-all seen [] all agrees = tt
  honest-all seen (r ∷ reads) all agrees = (honest-answer seen (is_read_of r.title r.kind) r all agrees.0, honest-all seen reads all agrees.1)

  -- reads that were seen are honest where all that was seen is
  pub honest-reads : (seen reads : List Read) → IsHonest text_of seen → Agrees (of_seen seen) reads → IsHonest text_of reads
  honest-reads seen reads honest agrees =
      All-from_recursion (λ (r : Read). HasItsText text_of (page_of r.answer)) reads
      (honest-all seen reads (recursion_from_All (λ (r : Read). HasItsText text_of (page_of r.answer)) seen honest)
      (recursion_from_All (λ (r : Read). ask (of_seen seen) r.title r.kind ≡ Some r.answer) reads agrees))

-- the reads of a ticket's draft are honest
pub draft-honest : (state : State) (draft : TicketDraft) (expanded : Expanded) (reads : List Read) → IsFit state draft → drafted draft ≡ done expanded reads → IsHonest (text_of_revision state.history) reads
draft-honest state draft expanded reads fit is =
    honest-reads (text_of_revision state.history) draft.seen reads fit.honest
    (subst (λ (o : Outcome Expanded). Agrees (of_seen draft.seen) (reads_of o)) is (agrees-itself (of_seen draft.seen) (view_plan draft.title) [] (All-nil _)))

-- what a draft needs, where that is all that is told of it
pub need-of : {A : Type 0} (o : Outcome A) (title : PageTitle) (kind : Kind) → needed o ≡ Some (title, kind) → (reads : List Read) × (o ≡ need title kind reads)
need-of (done x reads) title kind is = absurd (let e : None ≡ Some (title, kind) = is in cc)
need-of (need asked as_kind reads) title kind is =
    let pair : Some (asked, as_kind) ≡ Some (title, kind) = is in
    let same : asked ≡ title = ap (λ (o : Option (PageTitle × Kind)). (unwrap_or o (asked, as_kind)).0) pair in
    let same_kind : as_kind ≡ kind = ap (λ (o : Option (PageTitle × Kind)). (unwrap_or o (asked, as_kind)).1) pair in
    (reads, λ i. need (same i) (same_kind i) reads)
