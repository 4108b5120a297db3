-- What is read for what a text becomes.
use Rattle.std.proofs.Common.{◌≡◌, ℕ, [], List, subst, arith}
use Rattle.wk_view_rules.specs.Plans.{done, reads_of}
use Rattle.wk_view_rules.specs.Worlds.{Agrees, Seen, of_seen}
use Rattle.wk_view_laws.proofs.PlanLemmas.{agrees-itself}
use Rattle.wk_subst_rules.specs.Substitution.{substituted, substitution_plan}
use Rattle.wk_subst.specs.Substituted.{SubstitutedShown}

-- what was read for a text was seen
pub made-among : (seen : Seen) (saved : List ℕ) (made : SubstitutedShown) → substituted (of_seen seen) saved ≡ done made.text made.reads → Agrees (of_seen seen) made.reads
made-among seen saved made is =
    let none : Agrees (of_seen seen) [] = λ k r at. absurd (omega (arith, at)) in
    subst (λ o. Agrees (of_seen seen) (reads_of o)) is (agrees-itself (of_seen seen) (substitution_plan saved) [] none)
