-- What a keeper answers, by what the database answered.
use Rattle.std.proofs.Common.{◌≡◌, ◌≢◌, ℕ, Option, Some, Result, Ok, Err, IfOk, IfErr, OnOk, OnErr, IsErr, refl, sym, ap, subst, ◌∙◌, true≢false}
use Rattle.sqlite.specs.declared.error.Error.{Error}
use Rattle.wk_keeper.specs.declared.keeper.KeeperRefusal.{KeeperRefusal}
use Rattle.wk_keeper.specs.declared.keeper.KeeperRefusal.TheVariants.{Failed, Memory as NoMemory}
use Rattle.wk_sqlkeeper.specs.declared.cause.SqlCause.{SqlCause}
use Rattle.wk_sqlkeeper.specs.declared.cause.SqlCause.TheVariants.{Memory, Statement, Value}
use Rattle.wk_sqlkeeper.specs.Causes.{cause_of}

module _ {A E F : Type 0} (P : Type 0) where
  pub ok_through : (answer : Result A E) (result : Result A F) → IfOk result (λ value. answer ≡ Ok value) → OnOk answer P → OnOk result P
  ok_through answer (Ok value) same p = subst (λ (r : Result A E). OnOk r P) same p
  ok_through answer (Err e) same p = tt

  pub err_through : (answer : Result A E) (result : Result A F) → IfErr result (λ _. IsErr answer) → OnErr answer P → OnErr result P
  err_through answer (Ok value) same p = tt
  err_through (Err f) (Err e) same p = p
  err_through (Ok value) (Err e) same p = absurd (true≢false (sym same))

-- what is refused for another cause than want of memory is a fault, and its cause is kept
pub refused_for : {A : Type 0} (why : SqlCause) → why ≢ Memory → (answer : Result A Error) (result : Result A KeeperRefusal) (cause : Option SqlCause) → IsErr answer → IfErr answer (λ error. cause_of error ≡ why) → IfErr answer (λ error. cause ≡ Some (cause_of error))
    → IfErr answer (λ _. IsErr result) → (result ≡ Err NoMemory → cause ≡ Some Memory) → (result ≡ Err Failed) × (cause ≡ Some why)
refused_for why other (Ok value) result cause refused of_why kept told memory = absurd (true≢false (sym refused))
refused_for why other (Err error) (Ok value) cause refused of_why kept told memory = absurd (true≢false (sym told))
refused_for why other (Err error) (Err Failed) cause refused of_why kept told memory = (refl, kept ∙ ap Some of_why)
refused_for why other (Err error) (Err NoMemory) cause refused of_why kept told memory =
    absurd (other (let first = memory refl in let then = kept ∙ ap Some of_why in cc))

pub statement_is_other : Statement ≢ Memory
statement_is_other same = cc

pub value_is_other : Value ≢ Memory
value_is_other same = cc

-- what is counted is as it was, but where the answer is a fault
pub uncounted : {A C : Type 0} (faults : C → ℕ) (result : Result A KeeperRefusal) (old new at_ok at_memory : C) → OnOk result (new ≡ at_ok) → (result ≡ Err NoMemory → new ≡ at_memory)
    → faults at_ok ≡ faults old → faults at_memory ≡ faults old → result ≢ Err Failed → faults new ≡ faults old
uncounted faults (Ok value) old new at_ok at_memory is memory as_ok as_memory other = ap faults is ∙ as_ok
uncounted faults (Err Failed) old new at_ok at_memory is memory as_ok as_memory other = absurd (other refl)
uncounted faults (Err NoMemory) old new at_ok at_memory is memory as_ok as_memory other = ap faults (memory refl) ∙ as_memory

pub given_through : {A E F : Type 0} (P : A → Type 0) (answer : Result A E) (result : Result A F) → IfOk result (λ value. answer ≡ Ok value) → IfOk answer P → IfOk result P
given_through P answer (Ok value) same p = subst (λ (r : Result _ _). IfOk r P) same p
given_through P answer (Err e) same p = tt
