use Rattle.std.proofs.Common.{◌≡◌, ◌+◌, ◌-◌, ◌≤◌, false, [], ◌∷◌, ◌++◌, length, sym, ap, ◌∙◌, subst, arith}
use Rattle.std.specs.Prelude.{IsSome, vec_capacity}
use Rattle.wk_wiki_rules.specs.Jobs.{claimed_by, first_queued}
use Rattle.wk_wiki_rules.specs.Events.{Claim, with_jobs}
use Rattle.wk_wiki_rules.specs.Room.{is_claim_refused}
use Rattle.wk_wiki_rules.specs.declared.Entry.TheVariants as entry
use Rattle.wk_life_laws.specs.Lives.{journal_of}
use Rattle.wk_life_laws.specs.Next.{IsNext, with_entry}
use Rattle.wk_core.specs.LifeHeld.{LifeHeld, KeepsLife}
use Rattle.wk_core.specs.LifeInside.{held}
use Rattle.wk_core.proofs.HeldLives.{behind, held-as, held-claimed, next-as, some-is}
use Rattle.wk_core.proofs.life.Life.claim.Goals as goal

claimed : (c : goal.After-self-1)
    → KeepsLife (behind (held c.self.inside) (c.self.inside.entries.items ++ entry.Claim ∷ []) c.claim.new.self.state c.claim.new.self.room (c.self.inside.spare - 2)) (vec_capacity c.self.inside.entries)
    × IsNext (held c.self.inside).life Claim (with_entry (held c.self.inside).life entry.Claim c.claim.new.self.state)
claimed c =
    let queued = subst (λ (h : LifeHeld). IsSome (first_queued h.life.state.jobs)) (sym c.self.view_is) c.requires.queued in
    let free = subst (λ (h : LifeHeld). is_claim_refused h.life.limits h.life.state (length (journal_of h.life)) ≡ false) (sym c.self.view_is) c.requires.free in
    let spare = subst (λ (h : LifeHeld). 2 ≤ h.spare) (sym c.self.view_is) c.requires.spare in
    let first = some-is (first_queued c.self.inside.live.state.jobs) queued in
    let point = c.point-ticket.ensures.journal ∙ ap (λ (h : LifeHeld). length (journal_of h.life)) (sym c.self.view_is) in
    let state = c.claim.ensures.state ∙ ap (λ n. with_jobs c.self.inside.live.state (claimed_by c.self.inside.live.state.jobs (n + 1))) point in
    held-claimed (held c.self.inside) (vec_capacity c.self.inside.entries) c.self.invariant first.0 c.claim.new.self.state c.claim.new.self.room (c.self.inside.spare - 2) first.1 free state (omega (arith, spare))

pub invariant_of-self : goal.invariant_of-self
invariant_of-self c =
    held-as (held c.self.inside) (c.self.inside.entries.items ++ entry.Claim ∷ []) c.push_reserved.new.self.items c.claim.new.self.state c.claim.new.self.room (c.self.inside.spare - 2)
    (vec_capacity c.self.inside.entries) (vec_capacity c.push_reserved.new.self) c.push_reserved.ensures.items c.push_reserved.ensures.capacity (claimed c).0

pub returns-clause-next : goal.returns-clause-next
returns-clause-next c =
    next-as (held c.self.inside).life c.args.self.now.life Claim entry.Claim c.push_reserved.new.self.items c.claim.new.self.state
    c.push_reserved.ensures.items (ap (λ (h : LifeHeld). h.life) c.self.view_is) (claimed c).1
