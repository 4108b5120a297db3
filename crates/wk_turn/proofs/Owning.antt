-- The own entries of a pass, as the journal grows and as passes are joined.
use Rattle.std.proofs.Common.{◌≡◌, ℕ, ◌+◌, ◌-◌, ◌<◌, ◌≤◌, List, [], ◌++◌, length, Option, arith, ◌⊎◌, inl, inr, ⊎_elim}
use mathlib.Core.List.{IsPrefix}
use mathlib.Core.Logic.{dite}
use native.Mathlib.Decide.{ℕ_discrete, dec_le}
use Rattle.wk_turn.specs.Journal.{times, IsListed, added, Closes, ClosesOwn, AreOwn, IsOpen}
use Rattle.wk_turn.proofs.Lists.{prefix_length, prefix_get, get_prefix, get_below, times-append, times-range_in, times-range_out}

module _ {E : Type 0} (closes : E → Option ℕ) where
  closes_longer : (xs log : List E) (q p : ℕ) → IsPrefix xs log → Closes closes xs q p → Closes closes log q p
  closes_longer xs log q p pre c = (c.0, prefix_get xs log q c.0 pre c.1, c.2, c.3)

  closes_shorter : (xs log : List E) (q p : ℕ) → IsPrefix xs log → q < length xs → Closes closes log q p → Closes closes xs q p
  closes_shorter xs log q p pre l c = (c.0, get_prefix xs log q c.0 pre l c.1, c.2, c.3)

  pub own_none : (log : List E) → AreOwn closes log []
  own_none log = record {
    there = λ p l. absurd (omega arith);
    single = λ p. omega arith;
    by_own = λ p q l c. absurd (omega arith);
    once = λ p q r l c d. absurd (omega arith);
  }

  -- in a beginning of the journal that has them all
  pub own_before : (xs log : List E) (own : List ℕ) → AreOwn closes log own → IsPrefix xs log → ((p : ℕ) → IsListed own p → p < length xs) → AreOwn closes xs own
  own_before xs log own o pre within = record {
    there = within;
    single = o.single;
    by_own = λ p q l c. o.by_own p q l (closes_longer xs log q p pre c);
    once = λ p q r l c d. o.once p q r l (closes_longer xs log q p pre c) (closes_longer xs log r p pre d);
  }

  -- in a journal whose further entries close none of them
  pub own_after : (log longer : List E) (own : List ℕ) → AreOwn closes log own → IsPrefix log longer → ((q p : ℕ) → length log ≤ q → Closes closes longer q p → IsListed own p → ⊥) → AreOwn closes longer own
  own_after log longer own o pre others = record {
    there = λ p l. let a = o.there p l in let b = prefix_length log longer pre in omega arith;
    single = o.single;
    by_own = λ p q l c. dite (dec_le (length log) q)
        (λ beyond. absurd (others q p beyond c l))
        (λ before. o.by_own p q l (closes_shorter log longer q p pre (omega arith) c));
    once = λ p q r l c d. dite (dec_le (length log) q)
        (λ beyond. absurd (others q p beyond c l))
        (λ before. dite (dec_le (length log) r)
        (λ beyond. absurd (others r p beyond d l))
        (λ too. o.once p q r l (closes_shorter log longer q p pre (omega arith) c) (closes_shorter log longer r p pre (omega arith) d)));
  }

  module _ (log longer : List E) (own : List ℕ) (o : AreOwn closes log own) (pre : IsPrefix log longer) where
    abbrev more : List ℕ
    more = own ++ added log longer

    old_below : (p : ℕ) → length log ≤ p → times p own ≡ 0
    old_below p l = dite (ℕ_discrete (times p own) 0) (λ e. e) (λ n. let a = o.there p (omega arith) in absurd (omega arith))

    listed_old : (p : ℕ) → IsListed more p → p < length log → IsListed own p
    listed_old p l low = let a = times-append p own (added log longer) in let b = times-range_out p (length log) (length longer - length log) (inl low) in omega arith

    listed_too : (p : ℕ) → IsListed own p → IsListed more p
    listed_too p l = let a = times-append p own (added log longer) in omega arith

    listed_new : (p : ℕ) → length log ≤ p → p < length longer → IsListed more p
    listed_new p low high = let a = times-append p own (added log longer) in let b = times-range_in p (length log) (length longer - length log) low (omega arith) in omega arith

    more_there : (p : ℕ) → IsListed more p → p < length longer
    more_there p l = dite (dec_le (length longer) p)
        (λ high. let c = prefix_length log longer pre in let a = times-append p own (added log longer) in let b = times-range_out p (length log) (length longer - length log) (inr (omega arith)) in let d = old_below p (omega arith) in absurd (omega arith))
        (λ low. omega arith)

    more_single : (p : ℕ) → times p more ≤ 1
    more_single p = let a = times-append p own (added log longer) in let s = o.single p in dite (dec_le (length log) p)
        (λ high. let d = old_below p high in dite (dec_le (length longer) p)
        (λ out. let c = prefix_length log longer pre in let b = times-range_out p (length log) (length longer - length log) (inr (omega arith)) in omega arith)
        (λ within. let b = times-range_in p (length log) (length longer - length log) high (omega arith) in omega arith))
        (λ low. let b = times-range_out p (length log) (length longer - length log) (inl (omega arith)) in omega arith)

    -- with the places of the further entries, which close only what is then own
    pub own_more : ClosesOwn closes log longer own → AreOwn closes longer more
    own_more asked = record {
      there = more_there;
      single = more_single;
      by_own = λ p q l c. dite (dec_le (length log) q)
          (λ beyond. listed_new q beyond (get_below longer q c.0 c.1))
          (λ before. let low = c.3 in listed_too q (o.by_own p q (listed_old p l (omega arith)) (closes_shorter log longer q p pre (omega arith) c)));
      once = λ p q r l c d.
          let apart : (a b : ℕ) → Closes closes longer a p → Closes closes longer b p → a < b → ⊥ = λ a b x y lt. dite (dec_le (length log) b)
          (λ beyond. (asked b p beyond y).1 a lt x)
          (λ before. let low = x.3 in let e = o.once p a b (listed_old p l (omega arith)) (closes_shorter log longer a p pre (omega arith) x) (closes_shorter log longer b p pre (omega arith) y) in omega arith) in
          dite (ℕ_discrete q r) (λ e. e) (λ n. dite (dec_le q r) (λ le. absurd (apart q r c d (omega arith))) (λ gt. absurd (apart r q d c (omega arith))));
    }

  -- of two passes together
  pub own_both : (log : List E) (one two : List ℕ) → AreOwn closes log one → AreOwn closes log two → ((p : ℕ) → times p one + times p two ≤ 1) → AreOwn closes log (one ++ two)
  own_both log one two a b apart =
      let either_of : (p : ℕ) → IsListed (one ++ two) p → IsListed one p ⊎ IsListed two p = λ p l. let t = times-append p one two in dite (ℕ_discrete (times p one) 0) (λ e. inr (omega arith)) (λ n. inl (omega arith)) in
      let first : (p : ℕ) → IsListed one p → IsListed (one ++ two) p = λ p l. let t = times-append p one two in omega arith in
      let second : (p : ℕ) → IsListed two p → IsListed (one ++ two) p = λ p l. let t = times-append p one two in omega arith in
      record {
        there = λ p l. ⊎_elim (a.there p) (b.there p) (either_of p l);
        single = λ p. let t = times-append p one two in let s = apart p in omega arith;
        by_own = λ p q l c. ⊎_elim (λ (x : IsListed one p). first q (a.by_own p q x c)) (λ (x : IsListed two p). second q (b.by_own p q x c)) (either_of p l);
        once = λ p q r l c d. ⊎_elim (λ (x : IsListed one p). a.once p q r x c d) (λ (x : IsListed two p). b.once p q r x c d) (either_of p l);
      }

  -- what is open where the pass last saw the journal is open in a longer journal in which its entries stand
  pub still_open : (seen log : List E) (own : List ℕ) → AreOwn closes seen own → AreOwn closes log own → IsPrefix seen log → (p : ℕ) → IsOpen closes seen own p → IsOpen closes log own p
  still_open seen log own then now pre p o = (o.0, λ q c. o.1 q (closes_shorter seen log q p pre (then.there q (now.by_own p q o.0 c)) c))
