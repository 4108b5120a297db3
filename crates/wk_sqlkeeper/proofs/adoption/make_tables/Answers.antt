use Rattle.std.proofs.Common.{◌≡◌, ◌≢◌, ◌∙◌, rules, arith, sym, subst, ap, refl, count_by, IsTrue, OnErr, OnOk}
use Rattle.sqlite.specs.Held.{state}
use Rattle.sqlite.specs.Effect.{Database}
use Rattle.sqlite.specs.State.{HasCleanDisk, KeepsCommit}
use Rattle.sqlite.specs.Steps.{IsEmpty}
use Rattle.wk_table_rules.specs.Rows.{no_tables}
use Rattle.wk_sqltables.specs.StoreSchema.{no_schema, store_schema}
use Rattle.wk_sqltables.specs.Edits.{Keeps}
use Rattle.wk_sqltables.proofs.Inside.{on_ok}
use Rattle.wk_sqltables.proofs.Changes.{committed, on_err}
use Rattle.wk_sqlkeeper.specs.declared.adoption.Found.TheVariants.{All}
use Rattle.wk_sqlkeeper.specs.Making.{HasMade, redirect_made, schema_8}
use Rattle.wk_sqlkeeper.specs.Older.{HoldsOlder, IsAsBefore, IsKnown, shows_text}
use Rattle.wk_sqlkeeper.proofs.KeptReads.{still_keeps}
use Rattle.wk_sqlkeeper.proofs.Objects.{empty_is_blank, finds_none, older_objects, shows_unchanged, stays_blank, store_objects}
use Rattle.wk_sqlkeeper.proofs.Makings.{begins_blank}
use Rattle.wk_sqlkeeper.proofs.Olders.{back_is_same, begins_older, commit_is_same, finds_no_redirect, is_same, query_is_same, reads_known, some_counted, unchanged_committed}
use Rattle.wk_sqlkeeper.proofs.Rests.{at_if_err}
use Rattle.wk_sqlkeeper.proofs.adoption.make_tables.Goals as goal

pub returns-then-not-is_autocommit-clause-stays : goal.returns-then-not-is_autocommit-clause-stays
returns-then-not-is_autocommit-clause-stays g c clean is_open known settled = is_same _

pub returns-in_err-texts-clause-stays : goal.returns-in_err-texts-clause-stays
returns-in_err-texts-clause-stays g c clean is_open =
    let old = state g.S.Store c.args.connection.now in
    let asked = state g.S.Store c.query_all.new.self in
    let late : HasCleanDisk asked = search rules in
    let open_there : IsTrue asked.is_open = search rules in
    let all : OnErr c.from_residual.result (IsKnown old.now.schema → old.now ≡ old.committed → IsAsBefore old asked) = on_err c.from_residual.result (λ known settled.
    query_is_same old asked _ known settled open_there (at_if_err _ c.query_all.result c.in_err-texts.was (c.query_all.ensures.err late))) in
    search rules

pub returns-then-eq-clause-made : goal.returns-then-eq-clause-made
returns-then-eq-clause-made g c clean empty =
    let old = state g.S.Store c.args.connection.now in
    let asked = state g.S.Store c.query_all.new.self in
    let late : HasCleanDisk asked = search rules in
    let shown = c.in_ok-texts.ensures.ok late in
    let none = finds_none old asked c.in_ok-texts.texts.items (empty_is_blank old empty) shown in
    let found = c.tables_of-found.ensures.none (c.deref.ensures.value ∙ none) in
    let all : c.tables_of-found.result ≡ All = search rules in
    absurd (cc)

pub returns-then-eq-clause-whole : goal.returns-then-eq-clause-whole
returns-then-eq-clause-whole g c clean tables keeps =
    let old = state g.S.Store c.args.connection.now in
    let asked = state g.S.Store c.query_all.new.self in
    let late : HasCleanDisk asked = search rules in
    let shown = c.in_ok-texts.ensures.ok late in
    let all : c.tables_of-found.result ≡ All = search rules in
    let one : count_by (shows_text redirect_made) c.in_ok-texts.texts.items ≡ 1 = subst (λ rows. count_by (shows_text redirect_made) rows ≡ 1) c.deref.ensures.value (c.tables_of-found.ensures.all all) in
    let any = some_counted (shows_text redirect_made) c.in_ok-texts.texts.items one in
    absurd (finds_no_redirect old asked c.in_ok-texts.texts.items keeps.schema (c.is_live.ensures keeps.is_open).0 shown any)

pub returns-then-eq-clause-kept : goal.returns-then-eq-clause-kept
returns-then-eq-clause-kept g c clean tables keeps =
    let old = state g.S.Store c.args.connection.now in
    let asked = state g.S.Store c.query_all.new.self in
    let late : HasCleanDisk asked = search rules in
    let same : Keeps asked tables = still_keeps old asked tables (shows_unchanged store_schema store_objects old asked c.in_ok-texts.texts.items keeps.schema (c.in_ok-texts.ensures.ok late)) keeps in
    search rules

pub returns-in_err-make_missing-clause-stays : goal.returns-in_err-make_missing-clause-stays
returns-in_err-make_missing-clause-stays g c clean is_open =
    let old = state g.S.Store c.args.connection.now in
    let asked = c.query_all.new.self in
    let mid = c.make_missing.new.transaction.conn.now in
    let end = c.drop-transaction.new.self.0 in
    let late : HasCleanDisk (state g.S.Store end) = search rules in
    let open_there : IsTrue (state g.S.Store end).is_open = search rules in
    let begun = c.transaction-transaction.ensures.begun in
    let clean_mid : HasCleanDisk (state g.S.Store mid) = omega (arith, c.drop-transaction.ensures.survives.clean, late) in
    let k = rw begun at (c.make_missing.ensures.kept clean_mid (rw begun refl)) in
    let kept : KeepsCommit (state g.S.Store asked) (state g.S.Store mid) = record { was_open = k.was_open; committed = k.committed } in
    let clean_asked : HasCleanDisk (state g.S.Store asked) = rw begun at (c.make_missing.ensures.clean clean_mid) in
    let all : OnErr c.from_residual-in_err-make_missing.result (IsKnown old.now.schema → old.now ≡ old.committed → IsAsBefore old (state g.S.Store end)) = on_err c.from_residual-in_err-make_missing.result (λ known settled.
    let same = shows_unchanged old.now.schema (reads_known old.now.schema known) old (state g.S.Store asked) c.in_ok-texts.texts.items refl (c.in_ok-texts.ensures.ok clean_asked) in
    back_is_same old (state g.S.Store mid) (state g.S.Store end) settled (unchanged_committed old (state g.S.Store asked) (state g.S.Store mid) same kept) (c.drop-transaction.ensures.undone late) open_there) in
    search rules

pub returns-clause-stays : goal.returns-clause-stays
returns-clause-stays g c clean is_open =
    let old = state g.S.Store c.args.connection.now in
    let asked = c.query_all.new.self in
    let mid = c.make_missing.new.transaction.conn.now in
    let end = c.commit.new.self.0 in
    let late : HasCleanDisk (state g.S.Store end) = search rules in
    let open_there : IsTrue (state g.S.Store end).is_open = search rules in
    let clean_mid : HasCleanDisk (state g.S.Store mid) = omega (arith, c.commit.ensures.survives.clean, late) in
    let begun = c.transaction-transaction.ensures.begun in
    let k = rw begun at (c.make_missing.ensures.kept clean_mid (rw begun refl)) in
    let kept : KeepsCommit (state g.S.Store asked) (state g.S.Store mid) = record { was_open = k.was_open; committed = k.committed } in
    let clean_asked : HasCleanDisk (state g.S.Store asked) = rw begun at (c.make_missing.ensures.clean clean_mid) in
    let inside : IsTrue (state g.S.Store mid).in_transaction = c.in_ok-make_missing.ensures.inside clean_mid (rw begun refl) in
    let all : OnErr c.commit.result (IsKnown old.now.schema → old.now ≡ old.committed → IsAsBefore old (state g.S.Store end)) =
    commit_is_same old (state g.S.Store asked) (state g.S.Store mid) (state g.S.Store end) c.commit.result
    (λ known. shows_unchanged old.now.schema (reads_known old.now.schema known) old (state g.S.Store asked) c.in_ok-texts.texts.items refl (c.in_ok-texts.ensures.ok clean_asked)) kept inside (c.commit.ensures.err late) open_there in
    search rules

pub returns-clause-made : goal.returns-clause-made
returns-clause-made g c clean =
    let old = state g.S.Store c.args.connection.now in
    let asked = c.query_all.new.self in
    let mid = c.make_missing.new.transaction.conn.now in
    let end = c.commit.new.self.0 in
    let late : HasCleanDisk (state g.S.Store end) = search rules in
    let clean_mid : HasCleanDisk (state g.S.Store mid) = omega (arith, c.commit.ensures.survives.clean, late) in
    let begun = c.transaction-transaction.ensures.begun in
    let clean_asked : HasCleanDisk (state g.S.Store asked) = rw begun at (c.make_missing.ensures.clean clean_mid) in
    let shown = c.in_ok-texts.ensures.ok clean_asked in
    let all : OnOk c.commit.result (IsEmpty old → Keeps (state g.S.Store end) no_tables) = on_ok c.commit.result (c.commit.ensures.ok late) (λ ended empty.
    let blank = empty_is_blank old empty in
    let none = finds_none old (state g.S.Store asked) c.in_ok-texts.texts.items blank shown in
    let schema = stays_blank old (state g.S.Store asked) c.in_ok-texts.texts.items blank shown in
    let found = c.tables_of-found.ensures.none (c.deref.ensures.value ∙ none) in
    let holds = c.in_ok-make_missing.ensures.made clean_mid found (subst (λ h. HasMade no_schema (state g.S.Store h)) (sym begun) (begins_blank g.S.Store asked schema)) in
    committed (state g.S.Store mid) (state g.S.Store end) no_tables holds ended.1) in
    search rules

pub returns-clause-whole : goal.returns-clause-whole
returns-clause-whole g c clean =
    let old = c.args.connection.now in
    let asked = c.query_all.new.self in
    let mid = c.make_missing.new.transaction.conn.now in
    let end = c.commit.new.self.0 in
    let same_end : end ≡ c.connection-2-1.given.0 = search rules in
    let late : HasCleanDisk (state g.S.Store end) = search rules in
    let clean_mid : HasCleanDisk (state g.S.Store mid) = omega (arith, c.commit.ensures.survives.clean, late) in
    let begun = c.transaction-transaction.ensures.begun in
    let clean_asked : HasCleanDisk (state g.S.Store asked) = rw begun at (c.make_missing.ensures.clean clean_mid) in
    let shown = c.in_ok-texts.ensures.ok clean_asked in
    let apart : c.tables_of-found.result ≢ All = search rules in
    on_ok c.commit.result (c.commit.ensures.ok late) (λ ended tables keeps.
    let same = shows_unchanged schema_8 older_objects (state g.S.Store old) (state g.S.Store asked) c.in_ok-texts.texts.items keeps.schema shown in
    let begins = subst (λ h. HoldsOlder (state g.S.Store h) tables) (sym begun) (begins_older g.S.Store old asked tables same keeps) in
    let keeps_end = committed (state g.S.Store mid) (state g.S.Store end) tables (c.in_ok-make_missing.ensures.whole clean_mid apart tables begins) ended.1 in
    subst (λ h. Keeps (state g.S.Store h) tables) same_end keeps_end)

pub returns-clause-kept : goal.returns-clause-kept
returns-clause-kept g c clean =
    let old = state g.S.Store c.args.connection.now in
    let asked = c.query_all.new.self in
    let mid = c.make_missing.new.transaction.conn.now in
    let end = c.commit.new.self.0 in
    let late : HasCleanDisk (state g.S.Store end) = search rules in
    let clean_mid : HasCleanDisk (state g.S.Store mid) = omega (arith, c.commit.ensures.survives.clean, late) in
    let begun = c.transaction-transaction.ensures.begun in
    let clean_asked : HasCleanDisk (state g.S.Store asked) = rw begun at (c.make_missing.ensures.clean clean_mid) in
    let shown = c.in_ok-texts.ensures.ok clean_asked in
    let apart : c.tables_of-found.result ≢ All = search rules in
    on_ok c.commit.result (c.commit.ensures.ok late) (λ ended tables keeps.
    let same = shows_unchanged store_schema store_objects old (state g.S.Store asked) c.in_ok-texts.texts.items keeps.schema shown in
    let schema : (state g.S.Store asked).now.schema ≡ store_schema = ap (λ (d : Database). d.schema) same.0.now_is ∙ keeps.schema in
    absurd (apart (c.in_ok-make_missing.ensures.all clean_mid (rw begun refl) (subst (λ h. (state g.S.Store h).now.schema ≡ store_schema) (sym begun) schema))))
