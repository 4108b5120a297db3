-- What is read for a draft.
use Rattle.std.proofs.Common.{◌≡◌, ℕ, [], List, Option, subst, arith}
use Rattle.wk_text_rules.specs.Titles.{PageTitle}
use Rattle.wk_view_rules.specs.Plans.{done, reads_of}
use Rattle.wk_view_rules.specs.Worlds.{Agrees, Seen, of_seen}
use Rattle.wk_view_laws.proofs.PlanLemmas.{agrees-itself}
use Rattle.wk_expand.specs.Drafts.{DraftShown, drafted, plan_of}

-- what a draft read was seen
pub draft-among : (seen : Seen) (page : PageTitle) (given : Option (List ℕ)) (d : DraftShown) → drafted (of_seen seen) page given ≡ done d.expanded d.reads → Agrees (of_seen seen) d.reads
draft-among seen page given d is =
    let none : Agrees (of_seen seen) [] = λ k r at. absurd (omega (arith, at)) in
    subst (λ o. Agrees (of_seen seen) (reads_of o)) is (agrees-itself (of_seen seen) (plan_of page given) [] none)
