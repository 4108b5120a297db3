-- What the statements on jobs and on the version mean.
use Rattle.std.proofs.Common.{◌≡◌, List, [], ◌∷◌, codes, Some, refl}
use Rattle.sqlite_value.specs.declared.keys.Collation.TheVariants.{Binary}
use Rattle.sqlite_value.specs.declared.value.Value.TheVariants.{Null, Text}
use Rattle.sqlite_sql.specs.declared.ops.BinaryOp.TheVariants.{Compare}
use Rattle.sqlite_sql.specs.declared.ops.CompareOp.TheVariants.{Eq}
use Rattle.sqlite_sql.specs.Term.{Term, lit, col, op2}
use Rattle.sqlite_schema.specs.declared.command.Source.TheVariants.{Values}
use Rattle.sqlite_schema.specs.declared.command.Conflict.TheVariants.{Abort}
use Rattle.sqlite_schema.specs.declared.command.Upsert.{Upsert}
use Rattle.sqlite.specs.Command.TheVariants.{Delete, Insert, InsertOr, Update}
use Rattle.sqlite_tied.specs.Compute.{everything}
use Rattle.sqlite.specs.Listing.{understood}
use Rattle.sqlite.proofs.Callers.{IsPlain, command_of}
use Rattle.wk_sqltables.specs.StoreSchema.{store_schema}
use Rattle.wk_sqltables.specs.Statements.{add_job_text, set_job_text, drop_job_text, set_version_text, add_revision_text, set_page_text}
use Rattle.wk_sqltables.proofs.Picked.{picked}

abbrev pub by_job : List Term
by_job = op2 (Compare Eq Binary) (col 1 0) (col 0 0) ∷ []

-- a new row of the table job
abbrev pub job_terms : List Term
job_terms = col 0 0 ∷ lit Null ∷ col 0 1 ∷ col 0 2 ∷ col 0 3 ∷ col 0 4 ∷ []

-- the old row number, and then the new row
abbrev pub job_changes : List Term
job_changes = col 1 0 ∷ col 1 0 ∷ lit Null ∷ col 0 1 ∷ col 0 2 ∷ col 0 3 ∷ col 0 4 ∷ []

abbrev pub by_version : List Term
by_version = op2 (Compare Eq Binary) (col 1 1) (lit (Text (codes "version"))) ∷ []

abbrev pub version_changes : List Term
version_changes = col 1 0 ∷ col 1 0 ∷ col 1 1 ∷ col 0 0 ∷ []

pub drop_job_is : command_of (understood store_schema drop_job_text) ≡ Delete 6 (record { lets = []; body = picked 11 by_job (col 1 0 ∷ []) })
unfolding understood everything
drop_job_is = refl

pub drop_job_plain : IsPlain (understood store_schema drop_job_text)
unfolding understood everything
drop_job_plain = (refl, refl)

pub add_job_is : command_of (understood store_schema add_job_text) ≡ Insert 6 (Values job_terms 6)
unfolding understood everything
add_job_is = refl

pub add_job_plain : IsPlain (understood store_schema add_job_text)
unfolding understood everything
add_job_plain = (refl, refl)

pub set_job_is : command_of (understood store_schema set_job_text) ≡ Update 6 (record { lets = []; body = picked 11 by_job job_changes })
unfolding understood everything
set_job_is = refl

pub set_job_plain : IsPlain (understood store_schema set_job_text)
unfolding understood everything
set_job_plain = (refl, refl)

pub set_version_is : command_of (understood store_schema set_version_text) ≡ Update 7 (record { lets = []; body = picked 12 by_version version_changes })
unfolding understood everything
set_version_is = refl

pub set_version_plain : IsPlain (understood store_schema set_version_text)
unfolding understood everything
set_version_plain = (refl, refl)

-- a new row of the table revision
abbrev pub revision_terms : List Term
revision_terms = col 0 0 ∷ lit Null ∷ col 0 1 ∷ col 0 2 ∷ col 0 3 ∷ col 0 4 ∷ col 0 5 ∷ col 0 6 ∷ []

pub add_revision_is : command_of (understood store_schema add_revision_text) ≡ Insert 1 (Values revision_terms 8)
unfolding understood everything
add_revision_is = refl

pub add_revision_plain : IsPlain (understood store_schema add_revision_text)
unfolding understood everything
add_revision_plain = (refl, refl)

-- a new row of the table page
abbrev pub page_terms : List Term
page_terms = col 0 0 ∷ lit Null ∷ col 0 1 ∷ col 0 2 ∷ col 0 3 ∷ col 0 4 ∷ []

abbrev pub by_page : List Term
by_page = op2 (Compare Eq Binary) (col 1 0) (col 0 5) ∷ []

-- the old row number, and then the new row
abbrev pub page_changes : List Term
page_changes = col 1 0 ∷ col 1 0 ∷ lit Null ∷ col 0 8 ∷ col 0 9 ∷ col 0 10 ∷ col 0 11 ∷ []

abbrev pub page_clause : Upsert
page_clause = record { target = Some (0 ∷ []); update = Some (record { lets = []; body = picked 0 by_page page_changes }) }

pub set_page_is : command_of (understood store_schema set_page_text) ≡ InsertOr 0 Abort (Values page_terms 6) (page_clause ∷ [])
unfolding understood everything
set_page_is = refl

pub set_page_plain : IsPlain (understood store_schema set_page_text)
unfolding understood everything
set_page_plain = (refl, refl)
