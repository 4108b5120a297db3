use Rattle.std.proofs.Common.{◌≡◌, ◌+◌, ◌-◌, ◌≤◌, false, [], ◌∷◌, ◌++◌, length, sym, ap, ◌∙◌, subst, arith}
use Rattle.std.specs.Prelude.{vec_capacity}
use Rattle.wk_wiki_rules.specs.Steps.{fan_pages}
use Rattle.wk_wiki_rules.specs.Events.{Fan, with_jobs}
use Rattle.wk_wiki_rules.specs.States.{State}
use Rattle.wk_wiki_rules.specs.Room.{is_fan_refused}
use Rattle.wk_wiki_rules.specs.declared.Entry.TheVariants as entry
use Rattle.wk_life_laws.specs.Lives.{journal_of}
use Rattle.wk_life_laws.specs.Next.{IsNext, with_entry}
use Rattle.wk_live.specs.Fanned.{IsNextServed}
use Rattle.wk_core.specs.LifeHeld.{LifeHeld, KeepsLife}
use Rattle.wk_core.specs.LifeInside.{held}
use Rattle.wk_core.proofs.HeldLives.{behind, held-as, held-fanned, next-as}
use Rattle.wk_core.proofs.life.Life.serve.Goals as goal

fanned : (c : goal.After-self-1)
    → KeepsLife (behind (held c.self.inside) (c.self.inside.entries.items ++ entry.Fan ∷ []) c.serve_fan.new.self.state c.serve_fan.new.self.room (c.self.inside.spare - 1)) (vec_capacity c.self.inside.entries)
    × IsNext (held c.self.inside).life Fan (with_entry (held c.self.inside).life entry.Fan c.serve_fan.new.self.state)
fanned c =
    let serves = subst (λ (h : LifeHeld). IsNextServed h.life.state fan_pages c.args.served.now c.args.is_last) (sym c.self.view_is) c.requires.served in
    let free = subst (λ (h : LifeHeld). is_fan_refused h.life.limits h.life.state (length (journal_of h.life)) ≡ false) (sym c.self.view_is) c.requires.free in
    let spare = subst (λ (h : LifeHeld). 1 ≤ h.spare) (sym c.self.view_is) c.requires.spare in
    let after = c.serve_fan.ensures.fanned fan_pages serves in
    let jobs = ap (λ (s : State). s.jobs) c.serve_fan.ensures.state in
    let state : c.serve_fan.new.self.state ≡ with_jobs c.self.inside.live.state c.serve_fan.new.self.state.jobs =
    c.serve_fan.ensures.state ∙ ap (with_jobs c.self.inside.live.state) (sym jobs) in
    held-fanned (held c.self.inside) (vec_capacity c.self.inside.entries) c.self.invariant c.serve_fan.new.self.state.jobs c.serve_fan.new.self.state c.serve_fan.new.self.room (c.self.inside.spare - 1)
    after free state (omega (arith, spare))

pub invariant_of-self : goal.invariant_of-self
invariant_of-self c =
    held-as (held c.self.inside) (c.self.inside.entries.items ++ entry.Fan ∷ []) c.push_reserved.new.self.items c.serve_fan.new.self.state c.serve_fan.new.self.room (c.self.inside.spare - 1)
    (vec_capacity c.self.inside.entries) (vec_capacity c.push_reserved.new.self) c.push_reserved.ensures.items c.push_reserved.ensures.capacity (fanned c).0

pub returns : goal.returns
returns c =
    next-as (held c.self.inside).life c.args.self.now.life Fan entry.Fan c.push_reserved.new.self.items c.serve_fan.new.self.state
    c.push_reserved.ensures.items (ap (λ (h : LifeHeld). h.life) c.self.view_is) (fanned c).1
