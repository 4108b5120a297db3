-- For a caller's proof of what `leave` asks, where it added nothing or one entry.
use Rattle.std.proofs.Common.{◌≡◌, ◌≢◌, ℕ, ◌-◌, ◌<◌, ◌≤◌, ◌⊎◌, List, [], ◌∷◌, ◌++◌, length, Option, Some, slice_get, refl, ap, sym, ◌∙◌, subst, arith, inl, ⊎_elim, length-append}
use Rattle.std.specs.List.{range_with_len}
use mathlib.Core.Logic.{dite}
use native.Mathlib.Decide.{dec_le}
use Rattle.wk_turn.specs.Journal.{added, Closes, ClosesOwn, IsOpen}
use Rattle.wk_turn.proofs.Lists.{get_below, get_prefix, get_last, times-append, times_here}

module _ {E : Type 0} where
  pub added_none : (log : List E) → added log log ≡ []
  added_none log = ap (range_with_len (length log)) (let zero : length log - length log ≡ 0 = omega arith in zero)

  pub added_one : (log : List E) (e : E) → added log (log ++ e ∷ []) ≡ length log ∷ []
  added_one log e = ap (range_with_len (length log)) (let l = length-append log (e ∷ []) in let one : length (log ++ e ∷ []) - length log ≡ 1 = omega arith in one)

module _ {E : Type 0} (closes : E → Option ℕ) where
  -- no entry was added
  pub adds_none : (log : List E) (own : List ℕ) → ClosesOwn closes log log own
  adds_none log own q p beyond c = let low = get_below log q c.0 c.1 in absurd (omega arith)

  module _ (log : List E) (e : E) where
    -- what an entry before the last one closes it closed before
    closed_before : (q p : ℕ) → q < length log → Closes closes (log ++ e ∷ []) q p → Closes closes log q p
    closed_before q p low c = (c.0, get_prefix log (log ++ e ∷ []) q c.0 (e ∷ [], refl) low c.1, c.2, c.3)

    closed_last : (q p : ℕ) → length log ≤ q → Closes closes (log ++ e ∷ []) q p → (q ≡ length log) × (closes e ≡ Some p)
    closed_last q p beyond c =
        let here = get_below (log ++ e ∷ []) q c.0 c.1 in let l = length-append log (e ∷ []) in let at : q ≡ length log = omega arith in
        let same : Some e ≡ Some c.0 = sym (get_last log e) ∙ (ap (slice_get (log ++ e ∷ [])) (sym at) ∙ c.1) in
        let is : e ≡ c.0 = cc in (at, ap closes is ∙ c.2)

    -- the one entry added closes, if any, what is open
    pub adds_one : (own : List ℕ) → ((p : ℕ) → closes e ≡ Some p → IsOpen closes log own p) → ClosesOwn closes log (log ++ e ∷ []) own
    adds_one own opened q p beyond c = let last = closed_last q p beyond c in let o = opened p last.1 in let at = last.0 in
        (inl o.0, λ r before d. o.1 r (closed_before r p (omega arith) d))

    -- the one entry added is open
    pub one_open : (own : List ℕ) → IsOpen closes (log ++ e ∷ []) (own ++ length log ∷ []) (length log)
    one_open own = (
      let t = times-append (length log) own (length log ∷ []) in let o = times_here (length log) (length log) [] refl in omega arith,
      λ q c. let here = get_below (log ++ e ∷ []) q c.0 c.1 in let l = length-append log (e ∷ []) in let late = c.3 in absurd (omega arith),
    )

    -- what was open and isn't closed by the one entry added is open
    pub others_open : (own : List ℕ) (p : ℕ) → closes e ≢ Some p → IsOpen closes log own p → IsOpen closes (log ++ e ∷ []) (own ++ length log ∷ []) p
    others_open own p other opened = (
      let t = times-append p own (length log ∷ []) in let o = opened.0 in omega arith,
      λ q c. dite (dec_le (length log) q) (λ beyond. other (closed_last q p beyond c).1) (λ before. opened.1 q (closed_before q p (omega arith) c)),
    )

  -- all that `leave` asks of the entries, where at most one was added, which closes, if any, what is open
  pub leaves : (before log after : List E) (own places : List ℕ) (e : E) → before ≡ log → places ≡ own → (after ≡ log) ⊎ (after ≡ log ++ e ∷ [])
      → ((p : ℕ) → closes e ≡ Some p → IsOpen closes log own p) → ClosesOwn closes before after places
  leaves before log after own places e same mine outcome opened =
      let asked : ClosesOwn closes log after own = ⊎_elim
      (λ (none : after ≡ log). subst (λ (l : List E). ClosesOwn closes log l own) (sym none) (adds_none log own))
      (λ (one : after ≡ log ++ e ∷ []). subst (λ (l : List E). ClosesOwn closes log l own) (sym one) (adds_one log e own opened)) outcome in
      subst (λ (z : List E × List ℕ). ClosesOwn closes z.0 after z.1) (λ i. (sym same i, sym mine i)) asked
