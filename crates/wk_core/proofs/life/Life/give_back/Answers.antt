use Rattle.std.proofs.Common.{◌+◌, [], ◌∷◌, ◌++◌, sym, ap, ◌∙◌, arith}
use Rattle.std.specs.Prelude.{vec_capacity}
use Rattle.wk_wiki_rules.specs.Jobs.{page_held_by}
use Rattle.wk_wiki_rules.specs.Events.{Back}
use Rattle.wk_wiki_rules.specs.declared.Entry.TheVariants as entry
use Rattle.wk_wiki_laws.proofs.TicketsOut.{out-one}
use Rattle.wk_life_laws.specs.Next.{IsNext, with_entry}
use Rattle.wk_jobs.specs.HeldJobs.{HeldJobs}
use Rattle.wk_core.specs.LifeHeld.{LifeHeld, KeepsLife}
use Rattle.wk_core.specs.LifeInside.{held}
use Rattle.wk_live.proofs.TicketLaws.{held-is-claimed}
use Rattle.wk_core.proofs.HeldLives.{behind, held-as, held-back, next-as}
use Rattle.wk_core.proofs.life.Life.give_back.Goals as goal

given : (c : goal.After-push_reserved)
    → KeepsLife (behind (held c.self.inside) (c.self.inside.entries.items ++ entry.Back c.args.ticket ∷ []) c.back.new.self.state c.back.new.self.room c.self.inside.spare) (vec_capacity c.self.inside.entries)
    × IsNext (held c.self.inside).life (Back c.args.ticket) (with_entry (held c.self.inside).life (entry.Back c.args.ticket) c.back.new.self.state)
given c = held-back (held c.self.inside) (vec_capacity c.self.inside.entries) c.self.invariant c.args.ticket c.in-Some.page c.back.new.self.state c.back.new.self.room (sym (c.in-Some.ensures ∙ ap (λ (j : HeldJobs). page_held_by j.lists c.args.ticket) c.jobs.ensures)) c.back.ensures.state

pub back-requires : goal.back-requires
back-requires c = held-is-claimed c.self.inside.live.state.jobs c.args.ticket c.in-Some.page (sym (c.in-Some.ensures ∙ ap (λ (j : HeldJobs). page_held_by j.lists c.args.ticket) c.jobs.ensures))

pub push_reserved-requires : goal.push_reserved-requires
push_reserved-requires c =
    let room = c.self.invariant.room in
    let one = out-one c.self.inside.live.state.jobs c.args.ticket c.in-Some.page (sym (c.in-Some.ensures ∙ ap (λ (j : HeldJobs). page_held_by j.lists c.args.ticket) c.jobs.ensures)) in
    let len = c.self.inside.entries.ok.0 in
    omega (arith, room, one, len)

pub invariant_of-self : goal.invariant_of-self
invariant_of-self c =
    held-as (held c.self.inside) (c.self.inside.entries.items ++ entry.Back c.args.ticket ∷ []) c.push_reserved.new.self.items c.back.new.self.state c.back.new.self.room c.self.inside.spare
    (vec_capacity c.self.inside.entries) (vec_capacity c.push_reserved.new.self) c.push_reserved.ensures.items c.push_reserved.ensures.capacity (given c).0

pub returns : goal.returns
returns c =
    next-as (held c.self.inside).life c.args.self.now.life (Back c.args.ticket) (entry.Back c.args.ticket) c.push_reserved.new.self.items c.back.new.self.state
    c.push_reserved.ensures.items (ap (λ (h : LifeHeld). h.life) c.self.view_is) (given c).1
