-- The statement that adds a revision.
use Rattle.std.proofs.Common.{◌≡◌, ℕ, pos, [], ◌∷◌, ◌++◌, Ok, refl, sym, subst, ◌∙◌}
use Rattle.sqlite_trees.specs.Tree.{put_row}
use Rattle.sqlite_rules.specs.Edit.{edited, edit_of}
use Rattle.sqlite_rules.specs.declared.error.Rowids.TheVariants.{Chosen}
use Rattle.sqlite.specs.Effect.{value_rows}
use Rattle.sqlite.specs.Rows.{stamped}
use Rattle.sqlite.specs.State.{State, ExecutesInside}
use Rattle.wk_table_rules.specs.Rows.{RevisionColumns}
use Rattle.wk_table_rules.specs.Changes.{add_revision}
use Rattle.wk_sqltables.specs.StoreSchema.{revision_table}
use Rattle.wk_sqltables.specs.Entries.{entry, revision_values, stored_moment, stored_flag}
use Rattle.wk_sqltables.specs.Held.{AreKeyed, Makes}
use Rattle.wk_sqltables.specs.Statements.{add_revision_text}
use Rattle.wk_sqltables.proofs.Keyed.{added}
use Rattle.wk_sqltables.proofs.Casts.{cast_null, cast_int}
use Rattle.wk_sqltables.proofs.Steps.{inserts}
use Rattle.wk_sqltables.proofs.Frames.{revisions_only}
use Rattle.wk_sqltables.proofs.Meanings.{revision_terms, add_revision_is, add_revision_plain}

pub adds_revision : (old new : State) (count : ℕ) (revision : RevisionColumns) → ExecutesInside 0 add_revision_text (revision_values revision) old new (Ok count) → Makes old new (add_revision revision)
adds_revision old new count revision h tables holds fit =
    let db = old.now.trees in
    let values = revision_values revision in
    let it = inserts 1 revision_table refl refl old new values add_revision_text holds.schema add_revision_plain count h revision_terms 8 refl add_revision_is in
    let put : edited db (edit_of db revision_table [] Chosen 0 (value_rows (stamped revision_table values) 8 1 revision_terms)) ≡ put_row (entry values) (db 2) =
    rw (cast_int (pos revision.rev_id), cast_int (pos revision.rev_page), cast_int (pos revision.rev_parent_id), cast_int (stored_moment revision.rev_timestamp), cast_int (pos revision.rev_len), cast_int (stored_flag revision.rev_gone), cast_null) refl in
    let more = added revision_values (λ r. r.rev_id) (λ r. refl) revision (db 2) tables.revisions holds.tables_are.revisions fit in
    let is = subst (λ r. AreKeyed revision_values r (tables.revisions ++ revision ∷ [])) (sym (it.applies.rows ∙ put)) more in
    record { inside = it.inside; schema = it.schema; tables_are = revisions_only db new.now.trees tables holds.tables_are it.applies.tables (tables.revisions ++ revision ∷ []) is }
