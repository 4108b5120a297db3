-- What a statement within a transaction leaves of the last commit.
use Rattle.std.proofs.Common.{◌≡◌, inl, inr, ℕ, List, Ok, Err, Result, OnOk, IsTrue, refl, ◌∙◌, arith}
use Rattle.sqlite.specs.Order.{Row}
use Rattle.sqlite.specs.declared.error.Error.{Error}
use Rattle.sqlite.specs.State.{State, ExecutesInside, KeepsCommit, IsUnchanged, IsRolledBack, Survives}
use Rattle.sqlite.proofs.StateLemmas.{survives_then}

pub unchanged_keeps : (old new : State) → IsUnchanged old new → KeepsCommit old new
unchanged_keeps old new h = record { was_open = λ _. h.0.was_open; committed = λ _. h.0.committed_is }

pub back_keeps : (old new : State) → IsRolledBack old new → KeepsCommit old new
back_keeps old new h = record { was_open = h.was_open; committed = λ o. (h.undone o).1 }

pub inside_keeps : (sql : List ℕ) (params : Row) (old new : State) (r : Result ℕ Error) → ExecutesInside 0 sql params old new r → KeepsCommit old new
inside_keeps sql params old new (Ok count) h = record { was_open = λ _. h.1.was_open; committed = λ _. h.1.committed_is }
inside_keeps sql params old new (Err e) (inl h) = elim h.1 [ inl same ↦ unchanged_keeps old new same | inr back ↦ back_keeps old new back ]
inside_keeps sql params old new (Err e) (inr h) = unchanged_keeps old new h.2

pub stays_kept : (s : State) → KeepsCommit s s
stays_kept s = record { was_open = λ o. o; committed = λ _. refl }

pub ran_inside : (sql : List ℕ) (params : Row) (old new : State) (r : Result ℕ Error) → ExecutesInside 0 sql params old new r → {count : ℕ} → r ≡ Ok count → IsTrue new.in_transaction
ran_inside sql params old new (Ok n) h e = rw h.1.mode refl
ran_inside sql params old new (Err error) h e = absurd (cc)

pub keeps_after : (a b c : State) → KeepsCommit a b → KeepsCommit b c → KeepsCommit a c
keeps_after a b c first then = record {
  was_open = λ o. first.was_open (then.was_open o);
  committed = λ o. then.committed o ∙ first.committed (then.was_open o);
}

pub survives_both : (a b c : State) → Survives a b (λ _. ⊥) → Survives b c (λ _. ⊥) → Survives a c (λ _. ⊥)
survives_both a b c = survives_then a b c (λ _. ⊥) (λ _. ⊥) (λ _. ⊥) (λ _ db none. none) (λ _ db none. none)

pub survives_same : (s : State) → Survives s s (λ _. ⊥)
survives_same s = record { clean = omega arith; shield = λ h. h; counts = omega arith; limit = refl; closes = λ _ is_open. inl is_open; crash = λ _ db h. inl h }

pub on_ok : {A E P Q : Type 0} (r : Result A E) → OnOk r P → (P → Q) → OnOk r Q
on_ok (Ok a) p f = f p
on_ok (Err e) p f = tt

pub unchanged_inside : (a b : State) → IsUnchanged a b → IsTrue a.in_transaction → IsTrue b.in_transaction
unchanged_inside a b same inside = rw same.0.mode inside
