use Rattle.std.proofs.Common.{◌≡◌, ◌≤◌, length, sym, ap, ◌∙◌, subst}
use Rattle.std.specs.Prelude.{IfOk}
use Rattle.wk_page_rules.specs.Verdict.{max_pages}
use Rattle.wk_table_rules.specs.Rows.{StoreTables}
use Rattle.wk_wiki_rules.specs.Jobs.{IsNumbered}
use Rattle.wk_wiki_rules.specs.Tables.{tables_of}
use Rattle.wk_life_laws.specs.Lives.{journal_of, start_of}
use Rattle.wk_life_laws.proofs.RunFacts.{run_kept, run_pages}
use Rattle.wk_revs.specs.Revs.{Stored}
use Rattle.wk_jobs.specs.HeldJobs.{HeldJobs}
use Rattle.wk_index.specs.Held.{Held}
use Rattle.wk_changes.specs.Parts.{parts}
use Rattle.wk_core.specs.LifeHeld.{LifeHeld}
use Rattle.wk_core.specs.LifeInside.{held}
use Rattle.wk_core.proofs.life.Life.tables.Goals as goal

pub tables-requires-clause-few : goal.tables-requires-clause-few
tables-requires-clause-few c =
    let life = (held c.self.inside).life in
    subst (λ (r : Stored). length r.history.pages ≤ max_pages) (sym c.revs-revs.ensures) (run_pages (start_of life) (journal_of life) life.state c.self.invariant.life.run)

pub tables-requires-clause-same : goal.tables-requires-clause-same
tables-requires-clause-same c =
    let life = (held c.self.inside).life in
    ap (λ (i : Held). length i.stored) c.index-index.ensures
    ∙ ((run_kept (start_of life) (journal_of life) life.state c.self.invariant.life.run).formed.stored ∙ ap (λ (r : Stored). length r.history.pages) (sym c.revs-revs.ensures))

pub tables-requires-clause-numbered : goal.tables-requires-clause-numbered
tables-requires-clause-numbered c =
    let life = (held c.self.inside).life in
    subst (λ (j : HeldJobs). IsNumbered j.lists) (sym c.jobs-jobs.ensures) (run_kept (start_of life) (journal_of life) life.state c.self.invariant.life.run).numbered

pub returns : goal.returns
returns c =
    let same : tables_of (parts c.revs-revs.result.now c.jobs-jobs.result.now c.index-index.result.now) ≡ tables_of c.self.inside.live.state =
    λ i. tables_of (parts (c.revs-revs.ensures i) (c.jobs-jobs.ensures i) (c.index-index.ensures i)) in
    subst (λ (t : StoreTables). IfOk c.tables.result (λ tables. tables.tables ≡ t)) (same ∙ ap (λ (h : LifeHeld). tables_of h.life.state) c.self.view_is) c.tables.ensures
