use Rattle.std.proofs.Common.{◌≡◌, ◌+◌, [], ◌∷◌, ◌++◌, Some, sym, ap, ◌∙◌, subst, arith}
use Rattle.std.specs.Prelude.{vec_capacity}
use Rattle.wk_view_rules.specs.Rows.{rows}
use Rattle.wk_wiki_rules.specs.Jobs.{page_held_by}
use Rattle.wk_wiki_rules.specs.States.{stored_at, title_at, world_of}
use Rattle.wk_wiki_rules.specs.Events.{Done}
use Rattle.wk_wiki_rules.specs.declared.Entry.TheVariants as entry
use Rattle.wk_wiki_laws.proofs.TicketsOut.{out-one}
use Rattle.wk_life_laws.specs.Next.{IsNext, with_entry}
use Rattle.wk_live.proofs.TicketLaws.{held-is-claimed}
use Rattle.wk_core.specs.LifeHeld.{LifeHeld, KeepsLife}
use Rattle.wk_core.specs.LifeInside.{held}
use Rattle.wk_core.proofs.HeldLives.{behind, held-as, held-done, next-as}
use Rattle.wk_core.proofs.RefreshFacts.{refreshed-same}
use Rattle.wk_core.proofs.life.Life.drop_job.Goals as goal

pub drop_refresh-requires : goal.drop_refresh-requires
drop_refresh-requires c =
    held-is-claimed c.self.inside.live.state.jobs c.args.ticket c.args.page (subst (λ (h : LifeHeld). page_held_by h.life.state.jobs c.args.ticket ≡ Some c.args.page) (sym c.self.view_is) c.requires.held)

pub push_reserved-requires : goal.push_reserved-requires
push_reserved-requires c =
    let holds = subst (λ (h : LifeHeld). page_held_by h.life.state.jobs c.args.ticket ≡ Some c.args.page) (sym c.self.view_is) c.requires.held in
    let room = c.self.invariant.room in
    let one = out-one c.self.inside.live.state.jobs c.args.ticket c.args.page holds in
    let len = c.self.inside.entries.ok.0 in
    omega (arith, room, one, len)

done : (c : goal.After-push_reserved)
    → KeepsLife (behind (held c.self.inside) (c.self.inside.entries.items ++ entry.Done c.args.ticket ∷ []) c.drop_refresh.new.self.state c.drop_refresh.new.self.room c.self.inside.spare) (vec_capacity c.self.inside.entries)
    × IsNext (held c.self.inside).life (Done c.args.ticket) (with_entry (held c.self.inside).life (entry.Done c.args.ticket) c.drop_refresh.new.self.state)
done c =
    let holds = subst (λ (h : LifeHeld). page_held_by h.life.state.jobs c.args.ticket ≡ Some c.args.page) (sym c.self.view_is) c.requires.held in
    let stored = subst (λ (h : LifeHeld). stored_at h.life.state c.args.page ≡ rows (world_of h.life.state) (title_at h.life.state.history c.args.page)) (sym c.self.view_is) c.requires.stored in
    let same = refreshed-same (held c.self.inside).life c.self.invariant.life c.args.ticket c.args.page holds stored in
    held-done (held c.self.inside) (vec_capacity c.self.inside.entries) c.self.invariant c.args.ticket c.args.page c.drop_refresh.new.self.state c.drop_refresh.new.self.room holds (c.drop_refresh.ensures.state ∙ same)

pub invariant_of-self : goal.invariant_of-self
invariant_of-self c =
    held-as (held c.self.inside) (c.self.inside.entries.items ++ entry.Done c.args.ticket ∷ []) c.push_reserved.new.self.items c.drop_refresh.new.self.state c.drop_refresh.new.self.room c.self.inside.spare
    (vec_capacity c.self.inside.entries) (vec_capacity c.push_reserved.new.self) c.push_reserved.ensures.items c.push_reserved.ensures.capacity (done c).0

pub returns : goal.returns
returns c =
    next-as (held c.self.inside).life c.args.self.now.life (Done c.args.ticket) (entry.Done c.args.ticket) c.push_reserved.new.self.items c.drop_refresh.new.self.state
    c.push_reserved.ensures.items (ap (λ (h : LifeHeld). h.life) c.self.view_is) (done c).1
