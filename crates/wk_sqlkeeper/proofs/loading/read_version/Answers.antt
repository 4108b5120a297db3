use Rattle.std.proofs.Common.{◌≡◌, ◌∙◌, Some, rules, sym}
use Rattle.sqlite.specs.Held.{state}
use Rattle.wk_text_rules.specs.Decimal.{decimal_number}
use Rattle.wk_sqltables.proofs.Changes.{on_err}
use Rattle.wk_sqlkeeper.specs.Queries.{version_text}
use Rattle.wk_sqlkeeper.proofs.KeptReads.{number_back, plain_there, reads_version, row_unchanged, still_keeps, version_read}
use Rattle.wk_sqlkeeper.proofs.QueryMeanings.{version_plain}
use Rattle.wk_sqlkeeper.proofs.Rests.{rests_keep, row_rests}
use Rattle.wk_sqlkeeper.proofs.loading.read_version.Goals as goal

pub returns-clause-read : goal.returns-clause-read
returns-clause-read g c clean tables keeps range =
    let old = state g.S.Store c.args.connection.now in
    let new = state g.S.Store c.run_version.new.connection in
    let found = rw c.in_ok-row.was at (c.run_version.ensures.row clean) in
    let row = reads_version old new c.in_ok-row.row found tables keeps in
    let text = version_read c.in_ok-row.row c.in_ok-value.value tables.version row c.in_ok-value.ensures.read in
    let bytes : c.as_bytes.result.now ≡ c.in_ok-value.value = search rules in
    let is : decimal_number c.as_bytes.result.now ≡ Some c.in-Some.version = sym c.decimal.ensures ∙ c.in-Some.is in
    number_back c.as_bytes.result.now c.in-Some.version tables.version is (bytes ∙ text) range.version

pub returns-clause-kept : goal.returns-clause-kept
returns-clause-kept g c clean tables keeps =
    let old = state g.S.Store c.args.connection.now in
    let new = state g.S.Store c.run_version.new.connection in
    let found = rw c.in_ok-row.was at (c.run_version.ensures.row clean) in
    still_keeps old new tables (row_unchanged version_text old new c.in_ok-row.row (plain_there version_text old tables version_plain keeps) found) keeps

pub returns-in_err-row-clause-stays : goal.returns-in_err-row-clause-stays
returns-in_err-row-clause-stays g c clean is_open =
    let old = state g.S.Store c.args.connection.now in
    let new = state g.S.Store c.run_version.new.connection in
    on_err c.from_residual.result (λ tables keeps. rests_keep old new is_open (row_rests version_text old new _ (plain_there version_text old tables version_plain keeps) (rw c.in_err-row.was at (c.run_version.ensures.row clean))) tables keeps)

pub returns-in_err-value-clause-stays : goal.returns-in_err-value-clause-stays
returns-in_err-value-clause-stays g c clean is_open =
    let old = state g.S.Store c.args.connection.now in
    let new = state g.S.Store c.run_version.new.connection in
    let found = rw c.in_ok-row.was at (c.run_version.ensures.row clean) in
    on_err c.from_residual-in_err-value.result (λ tables keeps. still_keeps old new tables (row_unchanged version_text old new c.in_ok-row.row (plain_there version_text old tables version_plain keeps) found) keeps)

pub returns-in_default-clause-stays : goal.returns-in_default-clause-stays
returns-in_default-clause-stays g c clean is_open tables keeps =
    let old = state g.S.Store c.args.connection.now in
    let new = state g.S.Store c.run_version.new.connection in
    let found = rw c.in_ok-row.was at (c.run_version.ensures.row clean) in
    still_keeps old new tables (row_unchanged version_text old new c.in_ok-row.row (plain_there version_text old tables version_plain keeps) found) keeps
