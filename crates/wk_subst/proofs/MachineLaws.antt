-- What is left of a substitution, by what was seen.
use Rattle.std.proofs.Common.{◌≡◌, ℕ, List, [], Option, Some, None, option_map, refl, sym, ap, subst, ◌∙◌}
use Rattle.wk_text_rules.specs.Titles.{PageTitle}
use Rattle.wk_tree_rules.specs.Tree.{tree}
use Rattle.wk_tree_rules.specs.declared.Mode.TheVariants as mode
use Rattle.wk_tree.specs.declared.item.NodeId.{NodeId}
use Rattle.wk_view_rules.specs.Expansions.{Expansion, Progress, give, most_open, no_progress}
use Rattle.wk_view_rules.specs.Plans.{Plan, gives, asks, and_then, done, noted, run}
use Rattle.wk_view_rules.specs.Worlds.{Agrees, Answer, PageText, Seen, ask, of_seen, page_of}
use Rattle.wk_view_rules.specs.declared.Kind.TheVariants.{Include}
use Rattle.wk_view_laws.proofs.PlanLemmas.{agrees-before, met, noted-agrees, noted-has, run-asks, same_answer}
use Rattle.wk_expand.specs.Answers.{read_with, text_in}
use Rattle.wk_expand.specs.Running.{needed}
use Rattle.wk_subst_rules.specs.Places.{saved_place}
use Rattle.wk_subst_rules.specs.Substitution.{call_text, put_in, substituted, substituted_items, substitution_plan, text_alone}
use Rattle.wk_subst.specs.Begun.{begun_of}
use Rattle.wk_subst.specs.Budget.{progress_of}
use Rattle.wk_subst.specs.Nodes.{items_of, parts_of}
use Rattle.wk_subst.specs.Paused.{IsLeft}
use Rattle.wk_subst.specs.Stack.{behind}
use Rattle.wk_subst.specs.Work.{IsMade, Leads, LeadsOn, answered_rest, answered_text, inner_of, list_rest, node_in, node_rest, place_in, plan_of, source_in}
use Rattle.wk_subst.specs.declared.work.Now.{Now}
use Rattle.wk_subst.specs.declared.work.Now.TheVariants.{List as ListNow, Calls as CallsNow}
use Rattle.wk_subst.specs.declared.work.Work.{Work}
use Rattle.wk_subst.proofs.PlanLaws.{list-is}

plans-ended : {A : Type 0} (p : Plan (A × Progress)) → and_then p (λ end. gives (end.0, end.1)) ≡ p
plans-ended (gives x) = refl
plans-ended (asks title kind more) = ap (asks title kind) (λ i answer. plans-ended (more answer) i)

-- ---- the start

saved-plan : (saved : List ℕ) (w : Work) → and_then (plan_of (begun_of saved w) ListNow) text_alone ≡ substitution_plan saved
unfolding behind items_of substitution_plan
saved-plan saved w =
    let items = tree mode.View saved in
    ap (λ (e : Expansion (List ℕ)). and_then (e no_progress) text_alone) (sym (list-is most_open saved_place give [] items))
    ∙ ap (λ (p : Plan (List ℕ × Progress)). and_then p text_alone) (plans-ended (substituted_items most_open saved_place items no_progress))

pub left-begun : (saved : List ℕ) (w : Work) → IsLeft saved (begun_of saved w) ListNow []
left-begun saved w = record {
  sound = record { list = refl; opened = tt };
  node = tt;
  alike = λ later h. ap (λ (p : Plan (List ℕ)). run (of_seen later) p []) (sym (saved-plan saved w));
}

-- ---- a step

pub left-on : (saved : List ℕ) (w u : Work) (now : Now) (reads : Seen) → IsLeft saved w ListNow reads → Leads w (list_rest w) u now → IsLeft saved u now reads
left-on saved w u now reads h k = record {
  sound = k.sound;
  node = k.node;
  alike = λ later agrees. h.alike later agrees ∙ ap (λ (p : Plan (List ℕ × Progress)). run (of_seen later) (and_then p text_alone) reads) k.same;
}

pub left-made : (seen : Seen) (saved : List ℕ) (w u : Work) (reads : Seen) → IsLeft saved w ListNow reads → IsMade w u → Agrees (of_seen seen) reads → substituted (of_seen seen) saved ≡ done u.out reads
unfolding run
left-made seen saved w u reads h k agrees = h.alike seen agrees ∙ ap (λ (p : Plan (List ℕ × Progress)). run (of_seen seen) (and_then p text_alone) reads) k.same

-- the same, by what the code calls it
pub left-same : (seen : Seen) (saved : List ℕ) (w u : Work) (now next : Now) (reads after : Seen) → u ≡ w → next ≡ now → after ≡ reads → IsLeft saved w now reads × Agrees (of_seen seen) reads → IsLeft saved u next after × Agrees (of_seen seen) after
left-same seen saved w u now next reads after work_is now_is reads_are h = (
  subst (λ (x : Work). IsLeft saved x next after) (sym work_is)
      (subst (λ (x : Now). IsLeft saved w x after) (sym now_is)
      (subst (λ (x : Seen). IsLeft saved w now x) (sym reads_are) h.0)),
  subst (Agrees (of_seen seen)) (sym reads_are) h.1,
)

-- ---- an answer

answered-by : (w : Work) (id : NodeId) (title : PageTitle) (o : Option PageText) → (elim o [ None ↦ give (source_in w id) | Some p ↦ put_in (inner_of w) (place_in w) (source_in w id) title p.text (parts_of (node_in w id)) ]) ≡ answered_text w id title (option_map (λ (p : PageText). p.text) o)
answered-by w id title None = refl
answered-by w id title (Some p) = refl

-- what is done behind the answer
abbrev behind_answer : Work → NodeId → PageTitle → Answer → Plan (List ℕ)
behind_answer w id title answer = and_then (answered_rest w id title (text_in answer) (progress_of w.spent)) text_alone

asked-plan : (w : Work) (id : NodeId) (title : PageTitle) → and_then (plan_of w (CallsNow id title)) text_alone ≡ asks title Include (behind_answer w id title)
unfolding call_text
asked-plan w id title =
    ap (asks title Include) (λ i answer. and_then (node_rest w (answered-by w id title (page_of answer) i) (progress_of w.spent)) text_alone)

module _ (saved : List ℕ) (w : Work) (id : NodeId) (title : PageTitle) (reads : Seen) (h : IsLeft saved w (CallsNow id title) reads) where
  left-asks : (later : Seen) → Agrees (of_seen later) reads → substituted (of_seen later) saved ≡ met (of_seen later) title Include (behind_answer w id title) reads (ask (of_seen later) title Include)
  left-asks later agrees =
      h.alike later agrees
      ∙ ap (λ (p : Plan (List ℕ)). run (of_seen later) p reads) (asked-plan w id title)
      ∙ run-asks (of_seen later) title Include (behind_answer w id title) reads

  pub left-missing : (seen : Seen) → Agrees (of_seen seen) reads → ask (of_seen seen) title Include ≡ None → needed (substituted (of_seen seen) saved) ≡ Some (title, Include)
  left-missing seen agrees missing = ap needed (left-asks seen agrees ∙ ap (met (of_seen seen) title Include (behind_answer w id title) reads) missing)

  module _ (seen : Seen) (answer : Answer) (after : Seen) (agrees : Agrees (of_seen seen) reads) (found : ask (of_seen seen) title Include ≡ Some answer) (after_is : after ≡ noted reads (read_with title Include answer)) where
    pub left-agrees : Agrees (of_seen seen) after
    left-agrees = subst (Agrees (of_seen seen)) (sym after_is) (noted-agrees (of_seen seen) reads (read_with title Include answer) agrees found)

    pub left-answered : (text : Option (List ℕ)) (u : Work) → text ≡ text_in answer → LeadsOn w (answered_rest w id title text) u → IsLeft saved u ListNow after
    left-answered text u text_is k = record {
      sound = k.sound;
      node = tt;
      alike = λ later there.
          let r = read_with title Include answer in
          let there_too : Agrees (of_seen later) (noted reads r) = subst (Agrees (of_seen later)) after_is there in
          let here : Agrees (of_seen seen) (noted reads r) = noted-agrees (of_seen seen) reads r agrees found in
          let alike : ask (of_seen seen) title Include ≡ ask (of_seen later) title Include = same_answer (of_seen seen) (of_seen later) (noted reads r) title Include here there_too (noted-has reads r) in
          left-asks later (agrees-before (of_seen later) reads r there_too)
          ∙ ap (met (of_seen later) title Include (behind_answer w id title) reads) (sym alike ∙ found)
          ∙ ap (λ (o : Option (List ℕ)). run (of_seen later) (and_then (answered_rest w id title o (progress_of w.spent)) text_alone) (noted reads r)) (sym text_is)
          ∙ ap (λ (p : Plan (List ℕ × Progress)). run (of_seen later) (and_then p text_alone) (noted reads r)) k.same
          ∙ ap (λ (rs : Seen). run (of_seen later) (and_then (plan_of u ListNow) text_alone) rs) (sym after_is);
    }
