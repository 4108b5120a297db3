-- What holds of the tables that were made holds of the keeper, or of the connection that is handed back.
use Rattle.std.proofs.Common.{◌≡◌, Result, Ok, Err, IfOk, IfErr, OnOk, OnErr, IsOk, IsErr, sym, subst, true≢false}

at_ok : {A F P : Type 0} (made : Result A F) → IsOk made → OnOk made P → P
at_ok (Ok a) is p = p
at_ok (Err e) is p = absurd (true≢false (sym is))

at_error : {A F P : Type 0} (made : Result A F) → IsErr made → OnErr made P → P
at_error (Ok a) is p = absurd (true≢false (sym is))
at_error (Err e) is p = p

module _ {K C A E F : Type 0} (Clean Q : C → Type 0) (connection : C) (made : Result A F) where
  pub ok_adopted : (of : K → C) (r : Result K E) → IfOk r (λ k. IsOk made × (of k ≡ connection)) → (Clean connection → OnOk made (Q connection)) → IfOk r (λ k. Clean (of k) → Q (of k))
  ok_adopted of (Ok k) same p = λ clean. subst Q (sym same.1) (at_ok made same.0 (p (subst Clean same.1 clean)))
  ok_adopted of (Err e) same p = tt

  pub err_adopted : (Open : C → Type 0) (of : E → C) (r : Result K E) → IfErr r (λ e. IsErr made × (of e ≡ connection)) → (Clean connection → Open connection → OnErr made (Q connection)) → IfErr r (λ e. Clean (of e) → Open (of e) → Q (of e))
  err_adopted Open of (Ok k) same p = tt
  err_adopted Open of (Err e) same p = λ clean is_open. subst Q (sym same.1) (at_error made same.0 (p (subst Clean same.1 clean) (subst Open same.1 is_open)))
