-- What a query that is refused leaves.
use Rattle.std.proofs.Common.{◌≡◌, ◌∙◌, ◌⊎◌, ℕ, inl, inr, List, [], Ok, Err, Result, IfErr, OnErr, IsTrue, subst}
use Rattle.sqlite_value.specs.Order.{Row}
use Rattle.sqlite.specs.declared.error.Error.{Error}
use Rattle.sqlite.specs.Clock.{timed}
use Rattle.sqlite.specs.Listing.{understood}
use Rattle.sqlite.specs.State.{State, Fails, FailsToQuery, FailsToShow, IsNotRun, IsUnchanged, QueriesRow}
use Rattle.sqlite.proofs.Callers.{IsPlain, unchanged_then}
use Rattle.wk_sqltables.specs.StoreSchema.{store_schema}
use Rattle.wk_sqltables.proofs.Changes.{undone}
use Rattle.wk_sqltables.proofs.Inside.{stays_kept}
use Rattle.wk_sqlkeeper.specs.Kept.{Rests, StillKeeps}
use Rattle.wk_sqlkeeper.proofs.KeptReads.{plain_there, shown_unchanged, still_keeps}

pub rests_then : (a b c : State) → IsUnchanged a b → Rests b c → Rests a c
rests_then a b c same (inl next) = inl (unchanged_then a b c same next)
rests_then a b c same (inr back) = inr (record {
  was_open = λ is_open. same.0.was_open;
  undone = λ is_open. ((back.undone is_open).0 ∙ same.0.committed_is, (back.undone is_open).1 ∙ same.0.committed_is);
  autocommit = back.autocommit;
  unmarked = back.unmarked;
  counts = record { changes = back.counts.changes ∙ same.1.changes; last_rowid = back.counts.last_rowid ∙ same.1.last_rowid };
})

pub fails_rest : (old new : State) (e : Error) → Fails old new ⊥ e → Rests old new
fails_rest old new e h = inr h.3

pub moves_rest : (a b c : State) (e : Error) → IsUnchanged a b → Fails b c ⊥ e ⊎ IsUnchanged b c → Rests a c
moves_rest a b c e same (inl fails) = rests_then a b c same (fails_rest b c e fails)
moves_rest a b c e same (inr still) = inl (unchanged_then a b c same still)

not_run_rests : (old new : State) (sql : List ℕ) (params : Row) (e : Error) → IsNotRun old new sql params e → Rests old new
unfolding IsNotRun
not_run_rests old new sql params e (inl h) = inl h.1
not_run_rests old new sql params e (inr h) = fails_rest old new e h

pub query_rests : (sql : List ℕ) (old new : State) (e : Error) → IsPlain (understood old.now.schema sql) → FailsToQuery sql [] old new e → Rests old new
unfolding FailsToQuery
query_rests sql old new e plain (inl h) = not_run_rests old new sql [] e h
query_rests sql old new e plain (inr h) =
    let none = (subst IsPlain h.1.is plain).0 in
    let shown = subst (FailsToShow old new sql h.0 (timed [] h.0.formats h.1.now) e) none h.2 in
    inl shown.3

pub row_rests : (sql : List ℕ) (old new : State) (e : Error) → IsPlain (understood old.now.schema sql) → QueriesRow sql [] old new (Err e) → Rests old new
unfolding QueriesRow
row_rests sql old new e plain (inl h) = query_rests sql old new e plain h
row_rests sql old new e plain (inr h) = inl (shown_unchanged sql old new [] plain h.1)

-- so the database keeps what it kept
pub rests_keep : (old new : State) → IsTrue new.is_open → Rests old new → StillKeeps old new
rests_keep old new is_open (inl same) tables keeps = still_keeps old new tables same keeps
rests_keep old new is_open (inr back) tables keeps = undone old old new tables keeps (stays_kept old) back is_open

pub keep_then : (a b c : State) → StillKeeps a b → StillKeeps b c → StillKeeps a c
keep_then a b c first then tables keeps = then tables (first tables keeps)

-- ---- answers

pub at_err : {A E P : Type 0} (r : Result A E) {e : E} → r ≡ Err e → OnErr r P → P
at_err {P = P} r was p = subst (λ (x : Result _ _). OnErr x P) was p

pub at_if_err : {A E : Type 0} (P : E → Type 0) (r : Result A E) {e : E} → r ≡ Err e → IfErr r P → P e
at_if_err P r was p = subst (λ (x : Result _ _). IfErr x P) was p

-- a query that is plain wherever the store keeps tables, and that was refused
pub kept_at_err : {A E : Type 0} (text : List ℕ) (old new : State) (r : Result A E) → IsPlain (understood store_schema text) → IsTrue new.is_open → (IsPlain (understood old.now.schema text) → OnErr r (Rests old new)) → OnErr r (StillKeeps old new)
kept_at_err text old new (Ok a) plain is_open rests = tt
kept_at_err text old new (Err e) plain is_open rests = λ tables keeps. rests_keep old new is_open (rests (plain_there text old tables plain keeps)) tables keeps
