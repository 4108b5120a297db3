use Rattle.std.proofs.Common.{◌≡◌, ℕ, true, List, Some, sym, ap, ◌∙◌, subst}
use Rattle.wk_view_rules.specs.Rows.{rows}
use Rattle.wk_table_rules.specs.Changes.{TableEdit}
use Rattle.wk_wiki_rules.specs.Jobs.{IsOneAPage, JobLists, RefreshEntry, has_refresh, page_held_by}
use Rattle.wk_wiki_rules.specs.States.{stored_at, title_at, world_of}
use Rattle.wk_wiki_rules.specs.Events.{Done, with_refreshed}
use Rattle.wk_wiki_rules.specs.Tables.{tables_of}
use Rattle.wk_wiki_rules.specs.TableChanges.{job_held_by, refresh_change_without_rows}
use Rattle.wk_wiki_rules.specs.declared.Entry.TheVariants as entry
use Rattle.wk_wiki_laws.specs.Makes.{Makes}
use Rattle.wk_life_laws.specs.Lives.{Life, IsLife}
use Rattle.wk_life_laws.specs.Next.{IsNext, with_entry}
use Rattle.wk_life_laws.proofs.Lives.{done_life}
use Rattle.wk_jobs.specs.HeldJobs.{HeldJobs}
use Rattle.wk_live.specs.HeldState.{HeldState}
use Rattle.wk_live.proofs.TicketLaws.{held-is-claimed}
use Rattle.wk_core.proofs.RefreshFacts.{claimed-there, done-changes-job, one-a-page, stored-there}
use Rattle.wk_core.proofs.WikiSteps.{told-fits, told-made}
use Rattle.wk_core.proofs.refreshes.store_rows.Goals as goal

pub refresh_change_without_rows-requires-clause-there : goal.refresh_change_without_rows-requires-clause-there
refresh_change_without_rows-requires-clause-there g c =
    let lists = c.args.life.now.life.state.jobs in
    let there = claimed-there lists c.args.page (held-is-claimed lists c.args.ticket c.args.page c.requires.held) in
    let same = ap (λ (j : HeldJobs). j.lists) c.jobs.ensures ∙ ap (λ (s : HeldState). s.state.jobs) c.live-then-is_stored.ensures in
    subst (λ l. has_refresh l c.args.page ≡ true) (sym same) there

pub refresh_change_without_rows-requires-clause-one : goal.refresh_change_without_rows-requires-clause-one
refresh_change_without_rows-requires-clause-one g c =
    let same = ap (λ (j : HeldJobs). j.lists) c.jobs.ensures ∙ ap (λ (s : HeldState). s.state.jobs) c.live-then-is_stored.ensures in
    subst IsOneAPage (sym same) (one-a-page c.args.life.now.life c.facts.ensures c.args.ticket c.args.page c.requires.held)

-- where the page has its rows already, the change makes the tables those of the state behind the refresh
changes : (life : Life) (ticket page : ℕ) (change : List TableEdit) (now : JobLists) → IsLife life → page_held_by life.state.jobs ticket ≡ Some page → now ≡ life.state.jobs
    → ((t : ℕ) (job : RefreshEntry) → job_held_by now t ≡ Some job → job.page ≡ page → change ≡ refresh_change_without_rows job)
    → stored_at life.state page ≡ rows (world_of life.state) (title_at life.state.history page)
    → (next : Life) → IsNext life (Done ticket) next → Makes (tables_of life.state) change (tables_of next.state)
changes life ticket page change now is holds lists is_change current next made =
    done-changes-job life is ticket page holds next change made (λ job found at. is_change ticket job (ap (λ l. job_held_by l ticket) lists ∙ found) at) current

pub apply-requires : goal.apply-requires
apply-requires g c =
    let life = c.args.life.now.life in
    let same = ap (λ (j : HeldJobs). j.lists) c.jobs.ensures ∙ ap (λ (s : HeldState). s.state.jobs) c.live-then-is_stored.ensures in
    let current : stored_at life.state c.args.page ≡ rows (world_of life.state) (title_at life.state.history c.args.page) =
    ap (λ (s : HeldState). stored_at s.state c.args.page) (sym c.live.ensures)
    ∙ (stored-there c.live.result.now.state c.args.page c.rows-2.result.now (c.is_stored.ensures.0 c.if-is_stored.true) ∙ (c.rows-2.ensures ∙ (c.in_ok-new.ensures ∙ (c.in_ok-rows.ensures.worlds (world_of life.state) c.requires.current ∙ ap (rows (world_of life.state)) c.requires.page)))) in
    let next = done_life life c.args.ticket c.args.page c.facts.ensures c.requires.held in
    let makes = changes life c.args.ticket c.args.page c.in_ok-change.change c.jobs.result.now.lists c.facts.ensures c.requires.held same c.in_ok-change.ensures current
    (with_entry life (entry.Done c.args.ticket) (with_refreshed life.state c.args.page)) next in
    told-fits life.state (g.K.Keeper.told c.args.keeper.now) c.in_ok-change.change (tables_of (with_refreshed life.state c.args.page)) c.requires.told makes

pub returns-then-is_stored-clause-told : goal.returns-then-is_stored-clause-told
returns-then-is_stored-clause-told g c =
    let life = c.args.life.now.life in
    let same = ap (λ (j : HeldJobs). j.lists) c.jobs.ensures ∙ ap (λ (s : HeldState). s.state.jobs) c.live-then-is_stored.ensures in
    let current : stored_at life.state c.args.page ≡ rows (world_of life.state) (title_at life.state.history c.args.page) =
    ap (λ (s : HeldState). stored_at s.state c.args.page) (sym c.live.ensures)
    ∙ (stored-there c.live.result.now.state c.args.page c.rows-2.result.now (c.is_stored.ensures.0 c.if-is_stored.true) ∙ (c.rows-2.ensures ∙ (c.in_ok-new.ensures ∙ (c.in_ok-rows.ensures.worlds (world_of life.state) c.requires.current ∙ ap (rows (world_of life.state)) c.requires.page)))) in
    let makes = changes life c.args.ticket c.args.page c.in_ok-change.change c.jobs.result.now.lists c.facts.ensures c.requires.held same c.in_ok-change.ensures current c.drop_job.new.self.life c.drop_job.ensures in
    told-made life.state (g.K.Keeper.told c.args.keeper.now) (g.K.Keeper.told c.apply.new.self) c.in_ok-change.change c.drop_job.new.self.life.state c.requires.told makes c.in_ok-apply.ensures.tells c.in_ok-apply.ensures.made
