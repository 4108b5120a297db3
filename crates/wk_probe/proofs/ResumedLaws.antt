-- What a machine comes to, to which known answers are given one at a time.
use Rattle.std.proofs.Common.{◌≡◌, [], Some, None, ap, subst, ◌∙◌}
use Rattle.wk_text_rules.specs.Titles.{PageTitle}
use Rattle.wk_view_rules.specs.Plans.{done}
use Rattle.wk_view_rules.specs.Worlds.{Agrees, Seen, ask, of_seen}
use Rattle.wk_view_rules.specs.declared.Kind.{Kind}
use Rattle.wk_expand.specs.Drafts.{DraftShown, IsDraft, drafted}
use Rattle.wk_expand.specs.Machines.{MachineShown}
use Rattle.wk_expand.specs.Running.{needed}
use Rattle.wk_expand.specs.Runs.{IsNeeded}
use Rattle.wk_expand.specs.Steps.{IsStep, given_text}
use Rattle.wk_expand.specs.declared.drafts.Root.{Root}
use Rattle.wk_expand.specs.declared.drafts.Step.TheVariants.{Done, Needs}
use Rattle.wk_expand.proofs.RoundLaws.{needed-by, own-reads, read_by}
use Rattle.wk_expand.proofs.StepLaws.{agrees-seen}

module _ (page : PageTitle) (root : Root) (m : MachineShown) (is : m ≡ record { page = page; given = given_text root; reads = [] }) where
  -- a draft is the step by all that answers its reads
  pub draft-step : (seen : Seen) (d : DraftShown) → (d.page ≡ m.page) × (d.given ≡ m.given) → IsDraft d.page d.given d.expanded d.reads → Agrees (of_seen seen) d.reads → IsStep page root seen (Done d)
  draft-step seen d of drafts read =
      let of_page : d.page ≡ page = of.0 ∙ ap (λ (x : MachineShown). x.page) is in
      let of_given : d.given ≡ given_text root = of.1 ∙ ap (λ (x : MachineShown). x.given) is in (
        of_page,
        of_given,
        subst (λ t. drafted (of_seen seen) page t ≡ done d.expanded d.reads) of_given
            (subst (λ p. drafted (of_seen seen) p d.given ≡ done d.expanded d.reads) of_page (drafts.everywhere (of_seen seen) read)),
      )

  -- what is needed is the step by what was given
  pub need-step : (given : Seen) (title : PageTitle) (kind : Kind) → IsNeeded given m.page m.given title kind → IsStep page root given (Needs title kind)
  need-step given title kind n = subst (λ (x : MachineShown). needed (drafted (of_seen given) x.page x.given) ≡ Some (title, kind)) is n.needed_is

  -- and by what is known, where it isn't among that
  pub need-known : (known given : Seen) (title : PageTitle) (kind : Kind) → Agrees (of_seen known) given → IsNeeded given m.page m.given title kind → ask (of_seen known) title kind ≡ None
      → IsStep page root known (Needs title kind)
  need-known known given title kind are_known n missing =
      needed-by page title root given known kind (agrees-seen (of_seen known) given (read_by given page root) are_known (own-reads given page root))
      (need-step given title kind n) missing
