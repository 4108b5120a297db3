use Rattle.std.proofs.Common.{◌≡◌, ℕ, ◌+◌, true, List, [], ◌∷◌, ◌++◌, Some, refl, sym, ap, ◌∙◌, subst, arith}
use Rattle.std.specs.Prelude.{vec_capacity}
use Rattle.wk_page_rules.specs.PageRows.{PageRows}
use Rattle.wk_view_rules.specs.Rows.{rows}
use Rattle.wk_table_rules.specs.Changes.{TableEdit}
use Rattle.wk_wiki_rules.specs.Jobs.{JobLists, IsOneAPage, RefreshEntry, has_claimed, has_refresh, page_held_by, refresh_dropped}
use Rattle.wk_wiki_rules.specs.States.{State, title_at, world_of}
use Rattle.wk_wiki_rules.specs.Events.{Done, with_refreshed}
use Rattle.wk_wiki_rules.specs.Tables.{tables_of}
use Rattle.wk_wiki_rules.specs.TableChanges.{job_held_by, refresh_change}
use Rattle.wk_wiki_rules.specs.declared.Entry.TheVariants as entry
use Rattle.wk_wiki_laws.specs.Makes.{Makes}
use Rattle.wk_wiki_laws.proofs.TicketsOut.{out-one}
use Rattle.wk_life_laws.specs.Lives.{Life}
use Rattle.wk_life_laws.specs.Next.{IsNext, with_entry}
use Rattle.wk_life_laws.proofs.Lives.{done_life}
use Rattle.wk_wiki_rules.specs.Names.{with_rows_at}
use Rattle.wk_jobs.specs.HeldJobs.{HeldJobs}
use Rattle.wk_live.proofs.TicketLaws.{held-is-claimed}
use Rattle.wk_core.specs.LifeHeld.{LifeHeld, KeepsLife}
use Rattle.wk_core.specs.LifeInside.{held}
use Rattle.wk_core.specs.Seen.{IsTold}
use Rattle.wk_core.proofs.HeldLives.{behind, held-as, held-done, next-as}
use Rattle.wk_core.proofs.RefreshFacts.{claimed-there, done-changes, one-a-page, page-there}
use Rattle.wk_core.proofs.WikiSteps.{told-fits, told-made}
use Rattle.wk_core.proofs.life.Life.replace_rows.Given as given
use Rattle.wk_core.proofs.life.Life.replace_rows.Goals as goal

-- the facts that are required, of the life that is opened
record Asked (h : LifeHeld) (ticket page : ℕ) (new : PageRows) : Type 0 where
  holds : page_held_by h.life.state.jobs ticket ≡ Some page
  current : new ≡ rows (world_of h.life.state) (title_at h.life.state.history page)

asked : (h told : LifeHeld) (ticket page : ℕ) (new : PageRows) → h ≡ told → page_held_by told.life.state.jobs ticket ≡ Some page
    → new ≡ rows (world_of told.life.state) (title_at told.life.state.history page) → Asked h ticket page new
asked h told ticket page new same holds current = subst (λ (l : LifeHeld). Asked l ticket page new) (sym same) (record { holds = holds; current = current })

-- the same of rows that are equal
shared : {h : LifeHeld} {ticket page : ℕ} {rows new : PageRows} → rows ≡ new → Asked h ticket page new → Asked h ticket page rows
shared same facts = record { holds = facts.holds; current = same ∙ facts.current }

pub refresh_change-requires-clause-there : goal.refresh_change-requires-clause-there
refresh_change-requires-clause-there g c =
    let facts = asked (held c.self.inside) c.args.self.now c.args.ticket c.args.page c.args.new c.self.view_is c.requires.held c.requires.rows in
    let there = claimed-there c.self.inside.live.state.jobs c.args.page (held-is-claimed c.self.inside.live.state.jobs c.args.ticket c.args.page facts.holds) in
    subst (λ (j : HeldJobs). has_refresh j.lists c.args.page ≡ true) (sym c.jobs.ensures) there

pub refresh_change-requires-clause-one : goal.refresh_change-requires-clause-one
refresh_change-requires-clause-one g c =
    let facts = asked (held c.self.inside) c.args.self.now c.args.ticket c.args.page c.args.new c.self.view_is c.requires.held c.requires.rows in
    subst (λ (j : HeldJobs). IsOneAPage j.lists) (sym c.jobs.ensures) (one-a-page (held c.self.inside).life c.self.invariant.life c.args.ticket c.args.page facts.holds)

pub stored_rows-requires : goal.stored_rows-requires
stored_rows-requires g c =
    let facts = asked (held c.self.inside) c.args.self.now c.args.ticket c.args.page c.args.new c.self.view_is c.requires.held c.requires.rows in
    let there = page-there (held c.self.inside).life c.self.invariant.life c.args.ticket c.args.page facts.holds in
    rw there.1 refl

-- the change makes the tables those of the state behind the refresh
changes : (h : LifeHeld) (capacity ticket page : ℕ) (new : PageRows) (change : List TableEdit) (now : JobLists) → KeepsLife h capacity → Asked h ticket page new → now ≡ h.life.state.jobs
    → ((t : ℕ) (job : RefreshEntry) → job_held_by now t ≡ Some job → job.page ≡ page → change ≡ refresh_change job new)
    → (next : Life) → IsNext h.life (Done ticket) next → Makes (tables_of h.life.state) change (tables_of next.state)
changes h capacity ticket page new change now keeps facts lists is_change next made =
    done-changes h.life keeps.life ticket page facts.holds next change made
    (λ job found at. is_change ticket job (ap (λ l. job_held_by l ticket) lists ∙ found) at ∙ ap (refresh_change job) facts.current)

pub write_rows-requires-clause-fits : goal.write_rows-requires-clause-fits
write_rows-requires-clause-fits g c =
    let h = held c.self.inside in
    let facts = asked h c.args.self.now c.args.ticket c.args.page c.args.new c.self.view_is c.requires.held c.requires.rows in
    let told = subst (λ (l : LifeHeld). IsTold g.K.Keeper.told l.life.state c.args.keeper.now) (sym c.self.view_is) c.requires.told in
    let next = done_life h.life c.args.ticket c.args.page c.self.invariant.life facts.holds in
    let makes = changes h (vec_capacity c.self.inside.entries) c.args.ticket c.args.page c.rows.result.now c.in_ok-change.change c.jobs.result.now.lists c.self.invariant (shared c.rows.ensures facts) (ap (λ (j : HeldJobs). j.lists) c.jobs.ensures) c.in_ok-change.ensures
    (with_entry h.life (entry.Done c.args.ticket) (with_refreshed h.life.state c.args.page)) next in
    told-fits h.life.state (g.K.Keeper.told c.args.keeper.now) c.in_ok-change.change (tables_of (with_refreshed h.life.state c.args.page)) told makes

pub invariant_of-self : goal.invariant_of-self
invariant_of-self g c =
    let keeps : KeepsLife (behind (held c.self.inside) c.self.inside.entries.items c.self.inside.live.state c.write_rows.new.live.room c.self.inside.spare) (vec_capacity c.self.inside.entries) = record {
      life = c.self.invariant.life;
      few = c.self.invariant.few;
      named = c.self.invariant.named;
      room = c.self.invariant.room;
    } in
    subst (λ (s : State). KeepsLife (behind (held c.self.inside) c.self.inside.entries.items s c.write_rows.new.live.room c.self.inside.spare) (vec_capacity c.self.inside.entries)) (sym c.in_err-write_rows.ensures.refused) keeps

pub drop_refresh-requires : goal.drop_refresh-requires
drop_refresh-requires g c =
    let facts = asked (held c.self.inside) c.args.self.now c.args.ticket c.args.page c.args.new c.self.view_is c.requires.held c.requires.rows in
    subst (λ (s : State). has_claimed s.jobs c.args.page ≡ true) (sym c.in_ok-write_rows.ensures.written) (held-is-claimed c.self.inside.live.state.jobs c.args.ticket c.args.page facts.holds)

pub push_reserved-requires : goal.push_reserved-requires
push_reserved-requires g c =
    let facts = asked (held c.self.inside) c.args.self.now c.args.ticket c.args.page c.args.new c.self.view_is c.requires.held c.requires.rows in
    let room = c.self.invariant.room in
    let one = out-one c.self.inside.live.state.jobs c.args.ticket c.args.page facts.holds in
    let len = c.self.inside.entries.ok.0 in
    omega (arith, room, one, len)

done : (g : given.Over) (c : goal.After-drop-change-inside-2 g)
    → KeepsLife (behind (held c.self.inside) (c.self.inside.entries.items ++ entry.Done c.args.ticket ∷ []) c.drop_refresh.new.self.state c.drop_refresh.new.self.room c.self.inside.spare) (vec_capacity c.self.inside.entries)
    × IsNext (held c.self.inside).life (Done c.args.ticket) (with_entry (held c.self.inside).life (entry.Done c.args.ticket) c.drop_refresh.new.self.state)
done g c =
    let facts = asked (held c.self.inside) c.args.self.now c.args.ticket c.args.page c.args.new c.self.view_is c.requires.held c.requires.rows in
    let written = c.drop_refresh.ensures.state ∙ ap (λ (s : State). let next : State = record { history = s.history; stored = s.stored; jobs = refresh_dropped s.jobs c.args.page } in next) c.in_ok-write_rows.ensures.written in
    let rows_are = facts.current in
    let state : c.drop_refresh.new.self.state ≡ with_refreshed c.self.inside.live.state c.args.page =
    written ∙ ap (λ (r : PageRows). let next : State = record {
      history = c.self.inside.live.state.history;
      stored = with_rows_at c.self.inside.live.state.stored c.args.page r;
      jobs = refresh_dropped c.self.inside.live.state.jobs c.args.page;
    } in next) rows_are in
    held-done (held c.self.inside) (vec_capacity c.self.inside.entries) c.self.invariant c.args.ticket c.args.page c.drop_refresh.new.self.state c.drop_refresh.new.self.room facts.holds state

pub invariant_of-self-2 : goal.invariant_of-self-2
invariant_of-self-2 g c =
    held-as (held c.self.inside) (c.self.inside.entries.items ++ entry.Done c.args.ticket ∷ []) c.push_reserved.new.self.items c.drop_refresh.new.self.state c.drop_refresh.new.self.room c.self.inside.spare
    (vec_capacity c.self.inside.entries) (vec_capacity c.push_reserved.new.self) c.push_reserved.ensures.items c.push_reserved.ensures.capacity (done g c).0

pub returns-clause-done : goal.returns-clause-done
returns-clause-done g c =
    next-as (held c.self.inside).life c.args.self.now.life (Done c.args.ticket) (entry.Done c.args.ticket) c.push_reserved.new.self.items c.drop_refresh.new.self.state
    c.push_reserved.ensures.items (ap (λ (h : LifeHeld). h.life) c.self.view_is) (done g c).1

pub returns-clause-told : goal.returns-clause-told
returns-clause-told g c =
    let h = held c.self.inside in
    let facts = asked h c.args.self.now c.args.ticket c.args.page c.args.new c.self.view_is c.requires.held c.requires.rows in
    let told = subst (λ (l : LifeHeld). IsTold g.K.Keeper.told l.life.state c.args.keeper.now) (sym c.self.view_is) c.requires.told in
    let makes = changes h (vec_capacity c.self.inside.entries) c.args.ticket c.args.page c.rows.result.now c.in_ok-change.change c.jobs.result.now.lists c.self.invariant (shared c.rows.ensures facts) (ap (λ (j : HeldJobs). j.lists) c.jobs.ensures) c.in_ok-change.ensures
    (with_entry h.life (entry.Done c.args.ticket) c.drop_refresh.new.self.state) (done g c).1 in
    told-made h.life.state (g.K.Keeper.told c.args.keeper.now) (g.K.Keeper.told c.write_rows.new.keeper) c.in_ok-change.change c.drop_refresh.new.self.state told makes c.in_ok-write_rows.ensures.keeper.tells c.in_ok-write_rows.ensures.applied
