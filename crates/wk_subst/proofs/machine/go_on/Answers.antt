use Rattle.std.proofs.Common.{◌≡◌, ℕ, List, Option, None, Some, ap, sym, subst, ◌∙◌}
use Rattle.std.specs.Option.{option_copied, option_map}
use Rattle.wk_text_rules.specs.Titles.{PageTitle}
use Rattle.wk_view_rules.specs.Plans.{done}
use Rattle.wk_view_rules.specs.Worlds.{ask, of_seen}
use Rattle.wk_view_rules.specs.declared.Kind.TheVariants.{Include}
use Rattle.wk_expand.specs.Answers.{answer_of}
use Rattle.wk_subst_rules.specs.Substitution.{substituted}
use Rattle.wk_subst.specs.Machines.{IsNeeded}
use Rattle.wk_subst.specs.Paused.{IsLeft}
use Rattle.wk_subst.specs.Substituted.{IsSubstituted}
use Rattle.wk_subst.specs.Work.{IsStep}
use Rattle.wk_subst.specs.declared.work.Now.{Now}
use Rattle.wk_subst.specs.declared.work.Work.{Work}
use Rattle.wk_subst.proofs.MachineLaws.{left-agrees, left-answered, left-made, left-missing, left-on, left-same}
use Rattle.wk_subst.proofs.machine.go_on.Goals.{in-List+in_ok-next-in-List+in-Some, in-Calls+in_ok-answer-in-Calls+in-Some-2+in_ok-note-in-Calls+in_ok-call-in-Calls}
use Rattle.wk_subst.proofs.machine.go_on.Goals as goal

pub invariant_of-result : goal.invariant_of-result
invariant_of-result c =
    let seen = c.args.seen.now in
    let saved = c.args.saved.now in
    let w : Work = c.steps.work in
    let u : Work = c.step.new.self in
    let left = subst (λ (n : Now). IsLeft saved w n c.steps.reads) c.in-List.is c.steps.invariant.0 in
    let made = subst (λ (n : Option Now). IsStep w n u) c.in-None.is c.in_ok-next-in-List.ensures in
    let ends : substituted (of_seen seen) saved ≡ done u.out c.steps.reads = left-made seen saved w u c.steps.reads left made c.steps.invariant.1 in
    subst (λ (s : List ℕ). IsSubstituted s u.out c.steps.reads) (sym c.in_ok-share-in-None.ensures)
    (record { everywhere = λ source agrees. c.done_by_the_reads_alone.ensures.text (of_seen seen) source saved u.out c.steps.reads ends agrees })

pub returns-in-None : goal.returns-in-None
returns-in-None c =
    let seen = c.args.seen.now in
    let saved = c.args.saved.now in
    let w : Work = c.steps.work in
    let u : Work = c.step.new.self in
    let left = subst (λ (n : Now). IsLeft saved w n c.steps.reads) c.in-List.is c.steps.invariant.0 in
    let made = subst (λ (n : Option Now). IsStep w n u) c.in-None.is c.in_ok-next-in-List.ensures in
    let ends : substituted (of_seen seen) saved ≡ done u.out c.steps.reads = left-made seen saved w u c.steps.reads left made c.steps.invariant.1 in
    record { saved_is = c.in_ok-share-in-None.ensures; is = ends }

pub returns-in_default : goal.returns-in_default
returns-in_default c =
    let seen = c.args.seen.now in
    let saved = c.args.saved.now in
    let w : Work = c.steps.work in
    let title = c.in-Calls.title in
    let left = subst (λ (n : Now). IsLeft saved w n c.steps.reads) c.in-Calls.is c.steps.invariant.0 in
    let missing : ask (of_seen seen) title Include ≡ None = sym c.in_ok-answer-in-Calls.ensures.answer ∙ ap (λ o. option_map answer_of (option_copied o)) c.in_default.is in (
      subst (λ (t : PageTitle). IsNeeded saved seen t) (sym c.in_ok-needed-in-Calls.ensures)
          (record { needed_is = left-missing saved w c.in-Calls.node title c.steps.reads left seen c.steps.invariant.1 missing; unseen = missing }),
      c.steps.invariant.1,
      left,
    )

pub steps-preserved : goal.steps-preserved
steps-preserved c =
    let seen = c.args.seen.now in
    let saved = c.args.saved.now in
    let w : Work = c.steps.work in
    let reads = c.steps.reads in
    let agrees = c.steps.invariant.1 in
    elim c.match-now.branch [
      | in-List+in_ok-next-in-List+in-Some b ↦
          let u : Work = b.step.new.self in
          let left = subst (λ (n : Now). IsLeft saved w n reads) b.in-List.is c.steps.invariant.0 in
          let leads = subst (λ (n : Option Now). IsStep w n u) b.in-Some.is b.in_ok-next-in-List.ensures in
          left-same seen saved u c.match-now.work b.in-Some.next c.match-now.now reads c.match-now.reads b.work-is b.now-is b.reads-is
          (left-on saved w u b.in-Some.next reads left leads, agrees)
      | in-Calls+in_ok-answer-in-Calls+in-Some-2+in_ok-note-in-Calls+in_ok-call-in-Calls b ↦
          let u : Work = b.call.new.self in
          let title = b.in-Calls.title in
          let answer = answer_of b.in-Some-2.answer.now in
          let after = b.note.new.self in
          let left = subst (λ (n : Now). IsLeft saved w n reads) b.in-Calls.is c.steps.invariant.0 in
          let found : ask (of_seen seen) title Include ≡ Some answer = sym b.in_ok-answer-in-Calls.ensures.answer ∙ ap (λ o. option_map answer_of (option_copied o)) b.in-Some-2.is in
          left-same seen saved u c.match-now.work _ c.match-now.now after c.match-now.reads b.work-is b.now-is b.reads-is (
            left-answered saved w b.in-Calls.node title reads left seen answer after agrees found b.in_ok-note-in-Calls.ensures (option_copied b.text_of.result) u b.text_of.ensures b.in_ok-call-in-Calls.ensures,
            left-agrees saved w b.in-Calls.node title reads left seen answer after agrees found b.in_ok-note-in-Calls.ensures,
          )
    ]
