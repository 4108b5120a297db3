use Rattle.std.proofs.Common.{◌≡◌, ℕ, ◌+◌, ◌-◌, ◌≤◌, [], ◌∷◌, ◌++◌, None, sym, ap, ◌∙◌, subst, arith}
use Rattle.std.specs.Prelude.{vec_capacity}
use Rattle.wk_page_rules.specs.History.{next_revision}
use Rattle.wk_wiki_rules.specs.States.{State}
use Rattle.wk_wiki_rules.specs.Events.{Save, with_saved}
use Rattle.wk_wiki_rules.specs.declared.Entry.TheVariants as entry
use Rattle.wk_life_laws.specs.Next.{IsNext, with_entry}
use Rattle.wk_live.specs.HeldState.{Rooms}
use Rattle.wk_core.specs.Accepted.{IsAccepted}
use Rattle.wk_core.specs.LifeHeld.{LifeHeld, KeepsLife}
use Rattle.wk_core.specs.LifeInside.{held}
use Rattle.wk_core.specs.PlanShown.{PlanShown}
use Rattle.wk_core.proofs.HeldLives.{behind, held-as, held-saved, next-as}
use Rattle.wk_core.proofs.SaveFacts.{parts-accepted, parts-fan, parts-stand, save-fits, save-numbers, save-possible}
use Rattle.wk_core.proofs.life.Life.save.Goals as goal

pub save-revision-requires-clause-possible : goal.save-revision-requires-clause-possible
save-revision-requires-clause-possible c =
    save-possible (held c.self.inside).life c.self.invariant.life c.plan.inside.title c.plan.inside.text
    (parts-accepted (held c.self.inside) c.args.self.now _ c.args.plan c.self.view_is c.plan.view_is c.requires.accepted)

pub save-revision-requires-clause-fits : goal.save-revision-requires-clause-fits
save-revision-requires-clause-fits c =
    save-fits (held c.self.inside).life c.self.invariant.life c.plan.inside.title c.plan.inside.text
    (parts-accepted (held c.self.inside) c.args.self.now _ c.args.plan c.self.view_is c.plan.view_is c.requires.accepted)

pub save-revision-requires-clause-numbers : goal.save-revision-requires-clause-numbers
save-revision-requires-clause-numbers c =
    save-numbers (held c.self.inside).life c.self.invariant.life c.plan.inside.title c.plan.inside.text
    (parts-accepted (held c.self.inside) c.args.self.now _ c.args.plan c.self.view_is c.plan.view_is c.requires.accepted)

pub save-revision-requires-clause-standing : goal.save-revision-requires-clause-standing
save-revision-requires-clause-standing c = parts-stand (held c.self.inside) c.args.self.now _ c.args.plan c.self.view_is c.plan.view_is c.requires.standing

pub save-revision-requires-clause-fan : goal.save-revision-requires-clause-fan
save-revision-requires-clause-fan c = parts-fan (held c.self.inside) c.args.self.now _ c.args.plan c.self.view_is c.plan.view_is c.args.fan c.requires.fan

saved : (before seen : LifeHeld) (capacity : ℕ) (parts plan : PlanShown) (moment revision : ℕ) (state : State) (room : Rooms) → KeepsLife before capacity → before ≡ seen → parts ≡ plan
    → IsAccepted seen.life plan.title plan.text → seen.life.sealed ≡ None → 1 ≤ seen.spare
    → state ≡ with_saved before.life.state parts.title parts.text moment → revision ≡ next_revision before.life.state.history
    → KeepsLife (behind before (before.life.entries ++ entry.Save revision ∷ []) state room (before.spare - 1)) capacity
    × IsNext before.life (Save parts.title parts.text moment) (with_entry before.life (entry.Save revision) state)
saved before seen capacity parts plan moment revision state room keeps same is accepts unsealed spare state_is number_is =
    let unsealed-here : before.life.sealed ≡ None = ap (λ (h : LifeHeld). h.life.sealed) same ∙ unsealed in
    let spare-here : 1 ≤ before.spare = subst (λ (h : LifeHeld). 1 ≤ h.spare) (sym same) spare in
    held-saved before capacity keeps parts.title parts.text moment revision state room (before.spare - 1) (parts-accepted before seen parts plan same is accepts) unsealed-here
    state_is number_is (omega (arith, spare-here))

pub invariant_of-self : goal.invariant_of-self
invariant_of-self c =
    held-as (held c.self.inside) (c.self.inside.entries.items ++ entry.Save c.save-revision.result ∷ []) c.push_reserved.new.self.items c.save-revision.new.self.state c.save-revision.new.self.room
    (c.self.inside.spare - 1) (vec_capacity c.self.inside.entries) (vec_capacity c.push_reserved.new.self) c.push_reserved.ensures.items c.push_reserved.ensures.capacity
    (saved (held c.self.inside) c.args.self.now (vec_capacity c.self.inside.entries) (record { title = c.plan.inside.title; text = c.plan.inside.text; standing = c.plan.inside.standing }) c.args.plan c.args.moment
    c.save-revision.result c.save-revision.new.self.state c.save-revision.new.self.room c.self.invariant c.self.view_is c.plan.view_is c.requires.accepted c.requires.unsealed c.requires.spare
    c.save-revision.ensures.state c.save-revision.ensures.number).0

pub returns : goal.returns
returns c =
    subst
    (λ (p : PlanShown). IsNext c.args.self.now.life (Save p.title p.text c.args.moment) (record (held c.self.inside).life { entries = c.push_reserved.new.self.items; state = c.save-revision.new.self.state }))
    c.plan.view_is
    (next-as (held c.self.inside).life c.args.self.now.life (Save c.plan.inside.title c.plan.inside.text c.args.moment) (entry.Save c.save-revision.result) c.push_reserved.new.self.items c.save-revision.new.self.state
    c.push_reserved.ensures.items (ap (λ (h : LifeHeld). h.life) c.self.view_is)
    (saved (held c.self.inside) c.args.self.now (vec_capacity c.self.inside.entries) (record { title = c.plan.inside.title; text = c.plan.inside.text; standing = c.plan.inside.standing }) c.args.plan c.args.moment
    c.save-revision.result c.save-revision.new.self.state c.save-revision.new.self.room c.self.invariant c.self.view_is c.plan.view_is c.requires.accepted c.requires.unsealed c.requires.spare
    c.save-revision.ensures.state c.save-revision.ensures.number).1)
