-- Drafts of the ticket's page.
use Rattle.std.proofs.Common.{◌≡◌, ℕ, [], List, Option, None, subst}
use Rattle.wk_text_rules.specs.Titles.{PageTitle}
use Rattle.wk_view_rules.specs.Worlds.{Seen}
use Rattle.wk_expand.specs.Machines.{MachineShown}
use Rattle.wk_expand.specs.Runs.{IsRan}
use Rattle.wk_expand.specs.declared.machine.Ran.{Ran}
use Rattle.wk_expand.specs.declared.machine.Ran.TheVariants.{Done, Needs}

-- what a run comes to hangs on the page and the given text alone
pub ran-of : (title : PageTitle) (m : MachineShown) (seen : Seen) (ran : Ran) → m.page ≡ title → m.given ≡ None → IsRan m seen ran
    → IsRan (record { page = title; given = None; reads = [] }) seen ran
ran-of title m seen (Done draft) page given is =
    subst (λ (p : PageTitle). IsRan (record { page = p; given = None; reads = [] }) seen (Done draft)) page
    (subst (λ (g : Option (List ℕ)). IsRan (record { page = m.page; given = g; reads = [] }) seen (Done draft)) given is)
ran-of title m seen (Needs asked kind next) page given is =
    subst (λ (p : PageTitle). IsRan (record { page = p; given = None; reads = [] }) seen (Needs asked kind next)) page
    (subst (λ (g : Option (List ℕ)). IsRan (record { page = m.page; given = g; reads = [] }) seen (Needs asked kind next)) given is)
