use Rattle.std.proofs.Common.{[], ◌∷◌, ◌++◌, ◌∙◌, inl, refl, rules, arith, IfErr}
use Rattle.sqlite.specs.State.{CommitsShowing, FailsToQuery, HasCleanDisk, Survives}
use Rattle.sqlite.specs.Held.{state}
use Rattle.sqlite.proofs.StateLemmas.{survives_then}
use Rattle.sqlite.proofs.Callers.{begun_plain, unchanged_then}
use Rattle.wk_sqlkeeper.specs.Reading.{ReadsAll}
use Rattle.wk_sqlkeeper.specs.Kept.{Rests}
use Rattle.wk_sqlkeeper.proofs.Rests.{at_if_err, moves_rest, query_rests}
use Rattle.wk_sqlkeeper.proofs.Queries.{shown_before, stand-more}
use Rattle.wk_sqlkeeper.proofs.loading.read_all.Goals as goal

pub rows-init : goal.rows-init
rows-init g c =
    let made = c.in_ok-rows.ensures in
    (refl, made.survives, λ plain clean. let begun = begun_plain g.S.Store _ _ c.args.connection.now _ plain (made.begun clean) in ([], begun.0, begun.1, rw c.new-read.ensures.items tt))

pub rows-preserved : goal.rows-preserved
rows-preserved g c =
    let moved = c.next.follows.holds-at-none in
    let old = state g.S.Store c.args.connection.now in
    let mid = state g.S.Store c.rows.rows.conn.now in
    let new = state g.S.Store c.next.follows.lender-at-none.conn.now in (
      moved.same_reference ∙ c.rows.invariant.0,
      survives_then old mid new _ (λ _. ⊥) _ (λ _ db commits. commits) (λ _ db no. absurd no) c.rows.invariant.1 moved.survives,
      λ plain clean.
          let was = c.rows.invariant.2 plain (omega (arith, moved.survives.clean, clean)) in
          let more = (rw (c.in_ok-row.was, c.in-Some.is) at (moved.ok clean)) c.args.query.now [] was.0 was.1 in
          let same = (rw c.in_ok-row.was at (moved.same clean)) in
          let read = (rw c.in_ok-from_columns.was at c.from_columns.ensures.read) in (
            was.0 ++ c.in-Some.row.now ∷ [],
            more,
            unchanged_then old mid new was.2 same,
            rw c.in_ok-push.ensures.items (stand-more g.R.FromColumns.stands_as was.0 c.rows.read.items c.in-Some.row.now c.in_ok-from_columns.field-0 was.3 read),
          ),
    )

pub returns-in_default-clause-clean : goal.returns-in_default-clause-clean
returns-in_default-clause-clean g c clean =
    let moved = c.next.follows.holds-at-none in
    let new = state g.S.Store c.next.follows.lender-at-none.conn.now in
    let late : HasCleanDisk new = search rules in
    omega (arith, c.rows.invariant.1.clean, moved.survives.clean, late)

pub returns-in_default-clause-all : goal.returns-in_default-clause-all
returns-in_default-clause-all g c plain clean =
    let moved = c.next.follows.holds-at-none in
    let old = state g.S.Store c.args.connection.now in
    let mid = state g.S.Store c.rows.rows.conn.now in
    let new = state g.S.Store c.next.follows.lender-at-none.conn.now in
    let late : HasCleanDisk new = search rules in
    let was = c.rows.invariant.2 plain (omega (arith, moved.survives.clean, late)) in
    let shown = (rw (c.in_ok-row.was, c.in_default.is) at (moved.ok late)) c.args.query.now [] was.0 was.1 in
    let all : ReadsAll g.R.FromColumns.stands_as c.args.query.now old new c.rows.read.items =
    record { shown = was.0; all = shown_before c.args.query.now old mid new was.0 plain was.2 shown; read = was.3 } in
    search rules

pub returns-in_err-rows-clause-refused : goal.returns-in_err-rows-clause-refused
returns-in_err-rows-clause-refused g c plain clean =
    let old = state g.S.Store c.args.connection.now in
    let new = state g.S.Store c.query.follows.lender-at-none in
    let held = c.query.follows.holds-at-none in
    let late : HasCleanDisk new = search rules in
    let err : HasCleanDisk new → IfErr c.query.result (FailsToQuery c.args.query.now [] old new) = search rules in
    let rests : Rests old new = query_rests c.args.query.now old new _ plain (at_if_err _ c.query.result c.in_err-rows.was (err late)) in
    search rules

pub returns-in_err-rows-clause-clean : goal.returns-in_err-rows-clause-clean
returns-in_err-rows-clause-clean g c clean =
    let old = state g.S.Store c.args.connection.now in
    let new = state g.S.Store c.query.follows.lender-at-none in
    let held = c.query.follows.holds-at-none in
    let late : HasCleanDisk new = search rules in
    let kept : Survives old new (CommitsShowing c.args.query.now [] old) = search rules in
    omega (arith, kept.clean, late)

pub returns-in_err-row-clause-clean : goal.returns-in_err-row-clause-clean
returns-in_err-row-clause-clean g c clean =
    let moved = c.next.follows.holds-at-none in
    let new = state g.S.Store c.next.follows.lender-at-none.conn.now in
    let late : HasCleanDisk new = search rules in
    omega (arith, c.rows.invariant.1.clean, moved.survives.clean, late)

pub returns-in_err-row-clause-refused : goal.returns-in_err-row-clause-refused
returns-in_err-row-clause-refused g c plain clean =
    let moved = c.next.follows.holds-at-none in
    let old = state g.S.Store c.args.connection.now in
    let mid = state g.S.Store c.rows.rows.conn.now in
    let new = state g.S.Store c.next.follows.lender-at-none.conn.now in
    let late : HasCleanDisk new = search rules in
    let was = c.rows.invariant.2 plain (omega (arith, moved.survives.clean, late)) in
    let rests : Rests old new = moves_rest old mid new _ was.2 (at_if_err _ c.next.result c.in_err-row.was (moved.kept late)) in
    search rules

pub returns-in_err-from_columns-clause-clean : goal.returns-in_err-from_columns-clause-clean
returns-in_err-from_columns-clause-clean g c clean =
    let moved = c.next.follows.holds-at-none in
    let new = state g.S.Store c.next.follows.lender-at-none.conn.now in
    let late : HasCleanDisk new = search rules in
    omega (arith, c.rows.invariant.1.clean, moved.survives.clean, late)

pub returns-in_err-from_columns-clause-refused : goal.returns-in_err-from_columns-clause-refused
returns-in_err-from_columns-clause-refused g c plain clean =
    let moved = c.next.follows.holds-at-none in
    let old = state g.S.Store c.args.connection.now in
    let mid = state g.S.Store c.rows.rows.conn.now in
    let new = state g.S.Store c.next.follows.lender-at-none.conn.now in
    let late : HasCleanDisk new = search rules in
    let was = c.rows.invariant.2 plain (omega (arith, moved.survives.clean, late)) in
    let rests : Rests old new = inl (unchanged_then old mid new was.2 (rw c.in_ok-row.was at (moved.same late))) in
    search rules

pub returns-in_err-push-clause-clean : goal.returns-in_err-push-clause-clean
returns-in_err-push-clause-clean g c clean =
    let moved = c.next.follows.holds-at-none in
    let new = state g.S.Store c.next.follows.lender-at-none.conn.now in
    let late : HasCleanDisk new = search rules in
    omega (arith, c.rows.invariant.1.clean, moved.survives.clean, late)

pub returns-in_err-push-clause-refused : goal.returns-in_err-push-clause-refused
returns-in_err-push-clause-refused g c plain clean =
    let moved = c.next.follows.holds-at-none in
    let old = state g.S.Store c.args.connection.now in
    let mid = state g.S.Store c.rows.rows.conn.now in
    let new = state g.S.Store c.next.follows.lender-at-none.conn.now in
    let late : HasCleanDisk new = search rules in
    let was = c.rows.invariant.2 plain (omega (arith, moved.survives.clean, late)) in
    let rests : Rests old new = inl (unchanged_then old mid new was.2 (rw c.in_ok-row.was at (moved.same late))) in
    search rules

pub returns-clause-refused : goal.returns-clause-refused
returns-clause-refused g c plain clean =
    let old = state g.S.Store c.args.connection.now in
    let now = state g.S.Store c.rows.rows.conn.now in
    let late : HasCleanDisk now = search rules in
    let rests : Rests old now = inl (c.rows.invariant.2 plain late).2 in
    search rules
