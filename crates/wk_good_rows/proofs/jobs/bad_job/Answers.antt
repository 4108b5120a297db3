use Rattle.std.proofs.Common.{◌∙◌, ◌&&◌, ltb, leb, take, Some, ap, sym, subst, arith}
use Rattle.std.specs.List.{list_all}
use Rattle.std.proofs.lemmas.Bool.{and_from, and_left, and_parts}
use Rattle.wk_table_rules.specs.Rows.{JobColumns}
use Rattle.wk_table_rules.specs.GoodStore.{first_bad, is_good_job, is_good_number, job_bound}
use Rattle.wk_good_rows.specs.JobKinds.{AreTitlesOf, is_good_kind}
use Rattle.wk_good_rows.proofs.Judging.{Judged-bad, Judged-more, item-at, take-next}
use Rattle.wk_good_rows.proofs.Orders.{IsInOrder-more}
use Rattle.wk_good_rows.proofs.jobs.bad_job.Goals as goal

pub returns-then-not-is_good_number : goal.returns-then-not-is_good_number
returns-then-not-is_good_number c =
    let tables = c.args.tables.now in
    let jobs = c.as_slice-jobs.result.now in
    let i = c.loop-i.i in
    let item = item-at jobs i (omega arith) in
    let before = take i jobs in
    let is = c.is_good_number.ensures item.0 item.1 ∙ ap (λ t. is_good_number t.version before item.0) c.tables.view_is in
    let bad = and_left (is_good_number tables.version before item.0) (is_good_kind tables before item.0) (sym is ∙ c.if-not-is_good_number.true) in
    ap Some c.row_number.ensures ∙ Judged-bad (is_good_job tables) jobs i item.0 (omega arith) item.1 bad c.loop-i.invariant.0
    ∙ ap (first_bad (is_good_job tables)) (c.as_slice-jobs.ensures.value ∙ ap (λ t. t.jobs) c.tables.view_is)

pub loop-i-preserved : goal.loop-i-preserved
loop-i-preserved c =
    let tables = c.args.tables.now in
    let jobs = c.as_slice-jobs.result.now in
    let i = c.loop-i.i in
    let row = c.index-jobs-i.result in
    let before = take i jobs in
    let number = sym (c.is_good_number.ensures row c.index-jobs-i.is ∙ ap (λ t. is_good_number t.version before row) c.tables.view_is) ∙ c.if-not-is_good_number.false in
    let kind = sym (c.in_ok-is_good_kind.ensures.good tables before c.requires c.loop-i.invariant.2) ∙ c.if-not-branch.false in
    let good = and_from (is_good_number tables.version before row) (is_good_kind tables before row) number kind in
    let parts = and_parts (leb 1 row.job_id && ltb row.job_id (job_bound tables.version)) (list_all (λ earlier. ltb earlier.job_id row.job_id) before) number in
    let titles = c.in_ok-is_good_kind.ensures.titles before c.if-not-branch.false c.loop-i.invariant.2 in (
      Judged-more (is_good_job tables) jobs i row (omega arith) c.index-jobs-i.is good c.loop-i.invariant.0,
      IsInOrder-more (λ (a b : JobColumns). ltb a.job_id b.job_id) jobs i row c.index-jobs-i.is parts.1 (omega arith),
      subst (λ front. AreTitlesOf c.is_good_kind.new.refreshes c.is_good_kind.new.fans front) (sym (take-next jobs i row (omega arith) c.index-jobs-i.is)) titles,
    )
