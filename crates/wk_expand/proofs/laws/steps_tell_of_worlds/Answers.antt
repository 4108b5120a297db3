use Rattle.std.proofs.Common.{◌≡◌, Some, None, IsTrue, ap, subst, inl, inr}
use Rattle.std.specs.List.{list_any}
use Rattle.wk_text_rules.specs.Titles.{PageTitle}
use Rattle.wk_view_rules.specs.Plans.{reads_of, IsDone}
use Rattle.wk_view_rules.specs.Worlds.{World, Seen, Agrees, ask, is_read_of, of_seen, of_world}
use Rattle.wk_view_rules.specs.declared.Kind.{Kind}
use Rattle.wk_expand.specs.Drafts.{drafted, plan_of}
use Rattle.wk_expand.specs.Running.{needed}
use Rattle.wk_expand.specs.Steps.{given_text}
use Rattle.wk_expand.specs.declared.drafts.Root.{Root}
use Rattle.wk_expand.specs.declared.drafts.Root.TheVariants.{Page, Given}
use Rattle.wk_expand.proofs.StepLaws.{agrees-seen, need-is}
use Rattle.wk_expand.proofs.laws.steps_tell_of_worlds.Goals as goal
use Rattle.wk_expand.proofs.laws.steps_tell_of_worlds.Goals.{After-worlds_are_never_in_need}

-- ---- the laws of views and of given texts, by what is drafted

answered-by : (c : After-worlds_are_never_in_need) (page : PageTitle) (root : Root) (seen : Seen) → Agrees (of_seen seen) (reads_of (drafted (of_seen seen) page (given_text root)))
answered-by c page Page seen = c.reads_are_answers.ensures.view (of_seen seen) page
answered-by c page (Given text) seen = c.reads_are_answers.ensures.text (of_seen seen) page text

done-in : (c : After-worlds_are_never_in_need) (page : PageTitle) (root : Root) (pages : World) → IsDone (drafted (of_world pages) page (given_text root))
done-in c page Page pages = c.worlds_are_never_in_need.ensures.view pages page
done-in c page (Given text) pages = c.worlds_are_never_in_need.ensures.text pages page text

unanswered-by : (c : After-worlds_are_never_in_need) (page title : PageTitle) (root : Root) (seen : Seen) (kind : Kind) → needed (drafted (of_seen seen) page (given_text root)) ≡ Some (title, kind) → ask (of_seen seen) title kind ≡ None
unanswered-by c page title Page seen kind step =
    c.needs_are_unanswered.ensures.view (of_seen seen) page title kind _ (need-is (drafted (of_seen seen) page None) title kind step)
unanswered-by c page title (Given text) seen kind step =
    c.needs_are_unanswered.ensures.text (of_seen seen) page title text kind _ (need-is (drafted (of_seen seen) page (Some text)) title kind step)

needed-by : (c : After-worlds_are_never_in_need) (page title : PageTitle) (root : Root) (seen : Seen) (kind : Kind) → needed (drafted (of_seen seen) page (given_text root)) ≡ Some (title, kind) → (pages : World) → Agrees (of_world pages) (reads_of (drafted (of_seen seen) page (given_text root))) → IsTrue (list_any (is_read_of title kind) (reads_of (drafted (of_world pages) page (given_text root))))
needed-by c page title root seen kind step pages agrees =
    elim (c.needed_by_the_reads_alone.ensures.plan (of_seen seen) (of_world pages) (plan_of page (given_text root)) title kind (reads_of (drafted (of_seen seen) page (given_text root))) (need-is (drafted (of_seen seen) page (given_text root)) title kind step) agrees) [
      | inl needs ↦ absurd (subst IsDone needs (done-in c page root pages))
      | inr there ↦ there
    ]

-- ---- the clauses

pub returns-clause-answered : goal.returns-clause-answered
returns-clause-answered c = λ page root seen d step. subst (λ reads. Agrees (of_seen seen) reads) (ap reads_of step.2) (answered-by c page root seen)

pub returns-clause-done : goal.returns-clause-done
returns-clause-done c = λ page root seen d step pages agrees. c.done_by_the_reads_alone.ensures.plan (of_seen seen) (of_world pages) (plan_of page (given_text root)) d.expanded d.reads step.2 agrees

pub returns-clause-unanswered : goal.returns-clause-unanswered
returns-clause-unanswered c = λ page title root seen kind step. unanswered-by c page title root seen kind step

pub returns-clause-needed : goal.returns-clause-needed
returns-clause-needed c = λ page title root seen kind step pages agrees. needed-by c page title root seen kind step pages agrees

pub returns-clause-needed_by_all : goal.returns-clause-needed_by_all
returns-clause-needed_by_all c = λ page title root seen kind step pages agrees.
    needed-by c page title root seen kind step pages (agrees-seen (of_world pages) seen (reads_of (drafted (of_seen seen) page (given_text root))) agrees (answered-by c page root seen))
