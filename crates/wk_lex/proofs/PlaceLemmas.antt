-- Shapes at places, put together.
use Rattle.std.proofs.Common.{◌≡◌, ℕ, zero, suc, ◌+◌, ◌-◌, ◌<◌, ◌≤◌, ◌⊎◌, inl, inr, Bool, true, false, if◌then◌else◌, List, [], ◌∷◌, length, take, drop, codes, Option, Some, None, option_map, option_and_then, refl, ap, sym, subst, ◌∙◌, arith, length-drop}
use Rattle.std.proofs.Math.ListN.{drop_of_length-le}
use Rattle.std.proofs.lemmas.Bool.{cases_lt}
use Rattle.std.proofs.lemmas.List.{drop-drop}
use Rattle.std.specs.Option.{option_or, IfSome}
use Rattle.wk_text_rules.specs.Shapes.{Shape, exactly, run_of, ◌and_then◌, ◌or_else◌, to_the_end, split_at_nearest, up_to, part_before, such_that, repeated, one_or_more}
use Rattle.wk_lex.specs.Places.{EndsAt, RunEndsAt, IsNowhereBetween, IsNowhereFrom, IsNearestPlace, IsNearest}

-- within a text and behind a place
abbrev Behind : ℕ → ℕ → Option ℕ → Type 0
Behind at most end = IfSome end (λ n. (at < n) × (n ≤ most))

earlier : (at mid most : ℕ) (end : Option ℕ) → at ≤ mid → Behind mid most end → Behind at most end
earlier at mid most None h w = tt
earlier at mid most (Some n) h w = (omega arith, w.1)

module _ (text : List ℕ) where
  -- ---- one shape and then another

  pub and_then-ends : (f g : Shape ℕ) (at mid : ℕ) (end : Option ℕ) → EndsAt f text at (Some mid) → EndsAt g text mid end → EndsAt (f and_then g) text at end
  and_then-ends f g at mid end first second = record {
    fits = ap (option_and_then g) first.fits ∙ second.fits;
    within = earlier at mid (length text) end (omega arith) second.within;
  }

  pub and_then-none : (f g : Shape ℕ) (at : ℕ) → EndsAt f text at None → EndsAt (f and_then g) text at None
  and_then-none f g at first = record { fits = ap (option_and_then g) first.fits; within = tt }

  pub then_run-ends : (f : Shape ℕ) (test : ℕ → Bool) (at mid end : ℕ) → EndsAt f text at (Some mid) → RunEndsAt test text mid end → EndsAt (f and_then run_of test) text at (Some end)
  then_run-ends f test at mid end first run = record {
    fits = ap (option_and_then (run_of test)) first.fits ∙ ap Some run.fits;
    within = (omega arith, run.within.1);
  }

  pub run_then-ends : (test : ℕ → Bool) (g : Shape ℕ) (at mid : ℕ) (end : Option ℕ) → RunEndsAt test text at mid → EndsAt g text mid end → EndsAt (run_of test and_then g) text at end
  run_then-ends test g at mid end run second = record {
    fits = ap g run.fits ∙ second.fits;
    within = earlier at mid (length text) end run.within.0 second.within;
  }

  then_all-ends : (f : Shape ℕ) (at mid : ℕ) → EndsAt f text at (Some mid) → EndsAt (f and_then to_the_end) text at (Some (length text))
  then_all-ends f at mid first = record {
    fits = ap (option_and_then to_the_end) first.fits ∙ ap Some (sym (drop_of_length-le text (omega arith)));
    within = (omega arith, omega arith);
  }

  -- ---- one shape in the place of another

  pub or_else-first : (f g : Shape ℕ) (at end : ℕ) → EndsAt f text at (Some end) → EndsAt (f or_else g) text at (Some end)
  or_else-first f g at end first = record { fits = ap (λ o. option_or o (g (drop at text))) first.fits; within = first.within }

  pub or_else-second : (f g : Shape ℕ) (at : ℕ) (end : Option ℕ) → EndsAt f text at None → EndsAt g text at end → EndsAt (f or_else g) text at end
  or_else-second f g at end first second = record { fits = ap (λ o. option_or o (g (drop at text))) first.fits ∙ second.fits; within = second.within }

  -- a shape and all that is left
  pub all_that_is_left-ends : (f : Shape ℕ) (at mid : ℕ) → EndsAt f text at (Some mid) → EndsAt (f and_then to_the_end) text at (Some (length text))
  all_that_is_left-ends f at mid first = then_all-ends f at mid first

  -- a shape, and another or all that is left
  pub or_the_rest-ends : (f g : Shape ℕ) (at mid : ℕ) → EndsAt f text at (Some mid) → EndsAt g text mid None → EndsAt (f and_then (g or_else to_the_end)) text at (Some (length text))
  or_the_rest-ends f g at mid first second = record {
    fits = ap (option_and_then (g or_else to_the_end)) first.fits ∙ ap (λ o. option_or o (Some [])) second.fits ∙ ap Some (sym (drop_of_length-le text (omega arith)));
    within = (omega arith, omega arith);
  }

  -- ---- a shape with a test

  part-length : (at end : ℕ) → at ≤ end → end ≤ length text → part_before (drop at text) (drop end text) ≡ take (end - at) (drop at text)
  part-length at end low high =
      let n : length (drop at text) - length (drop end text) ≡ end - at = omega (arith, length-drop at text, length-drop end text) in
      ap (λ k. take k (drop at text)) n

  such_that-by : (test : List ℕ → Bool) (f : Shape ℕ) (at end : ℕ) (passes : Bool) → EndsAt f text at (Some end) → test (take (end - at) (drop at text)) ≡ passes → such_that test f (drop at text) ≡ (if passes then Some (drop end text) else None)
  such_that-by test f at end passes whole e =
      ap (option_and_then (λ rest. if test (part_before (drop at text) rest) then Some rest else None)) whole.fits
      ∙ ap (λ t. if t then Some (drop end text) else None) (ap test (part-length at end (omega arith) whole.within.1) ∙ e)

  pub such_that-passes : (test : List ℕ → Bool) (f : Shape ℕ) (at end : ℕ) → EndsAt f text at (Some end) → test (take (end - at) (drop at text)) ≡ true → EndsAt (such_that test f) text at (Some end)
  such_that-passes test f at end whole e = record { fits = such_that-by test f at end true whole e; within = whole.within }

  pub such_that-fails : (test : List ℕ → Bool) (f : Shape ℕ) (at end : ℕ) → EndsAt f text at (Some end) → test (take (end - at) (drop at text)) ≡ false → EndsAt (such_that test f) text at None
  such_that-fails test f at end whole e = record { fits = such_that-by test f at end false whole e; within = tt }

  pub such_that-none : (test : List ℕ → Bool) (f : Shape ℕ) (at : ℕ) → EndsAt f text at None → EndsAt (such_that test f) text at None
  such_that-none test f at whole = record {
    fits = ap (option_and_then (λ rest. if test (part_before (drop at text) rest) then Some rest else None)) whole.fits;
    within = tt;
  }

-- ---- the nearest place at which a shape fits

split-none : (shape : Shape ℕ) (xs : List ℕ) → ((k : ℕ) → shape (drop k xs) ≡ None) → split_at_nearest shape xs ≡ None
unfolding split_at_nearest
split-none shape [] none = ap (option_map (λ rest. ([], rest))) (none 0)
split-none shape (x ∷ xs) none =
    ap (λ o. elim o as (λ _. Option (List ℕ × List ℕ)) [ Some rest ↦ Some ([], rest) | None ↦ option_map (λ found. (x ∷ found.0, found.1)) (split_at_nearest shape xs) ]) (none 0)
    ∙ ap (option_map (λ found. (x ∷ found.0, found.1))) (split-none shape xs (λ k. none (suc k)))

split-some : (shape : Shape ℕ) (k : ℕ) (xs rest : List ℕ) → k ≤ length xs → ((j : ℕ) → j < k → shape (drop j xs) ≡ None) → shape (drop k xs) ≡ Some rest → split_at_nearest shape xs ≡ Some (take k xs, rest)
unfolding split_at_nearest
split-some shape zero [] rest short none e = ap (option_map (λ r. ([], r))) e
split-some shape (suc k) [] rest short none e = absurd (omega arith)
split-some shape zero (x ∷ xs) rest short none e =
    ap (λ o. elim o as (λ _. Option (List ℕ × List ℕ)) [ Some r ↦ Some ([], r) | None ↦ option_map (λ found. (x ∷ found.0, found.1)) (split_at_nearest shape xs) ]) e
split-some shape (suc k) (x ∷ xs) rest short none e =
    ap (λ o. elim o as (λ _. Option (List ℕ × List ℕ)) [ Some r ↦ Some ([], r) | None ↦ option_map (λ found. (x ∷ found.0, found.1)) (split_at_nearest shape xs) ]) (none 0 (omega arith))
    ∙ ap (option_map (λ found. (x ∷ found.0, found.1))) (split-some shape k xs rest (omega arith) (λ j h. none (suc j) (omega arith)) e)

pub split_at_nearest-none : (shape : Shape ℕ) (text : List ℕ) (from : ℕ) → IsNowhereFrom shape text from → split_at_nearest shape (drop from text) ≡ None
split_at_nearest-none shape text from none =
    split-none shape (drop from text) (λ k. ap shape (drop-drop k from text) ∙ none (from + k) (omega arith))

pub split_at_nearest-some : (shape : Shape ℕ) (text : List ℕ) (from place end : ℕ) → from ≤ place → IsNowhereBetween shape text from place → EndsAt shape text place (Some end) → split_at_nearest shape (drop from text) ≡ Some (take (place - from) (drop from text), drop end text)
split_at_nearest-some shape text from place end low none stands =
    let whole : from + (place - from) ≡ place = omega arith in
    split-some shape (place - from) (drop from text) (drop end text) (omega (arith, length-drop from text))
    (λ j h. ap shape (drop-drop j from text) ∙ none (from + j) (omega arith) (omega arith))
    (ap shape (drop-drop (place - from) from text ∙ ap (λ n. drop n text) whole) ∙ stands.fits)

pub up_to-none : (shape : Shape ℕ) (text : List ℕ) (from : ℕ) → IsNowhereFrom shape text from → EndsAt (up_to shape) text from None
up_to-none shape text from none = record { fits = ap (option_map (λ found. found.1)) (split_at_nearest-none shape text from none); within = tt }

pub up_to-ends : (shape : Shape ℕ) (text : List ℕ) (from place end : ℕ) → from ≤ place → IsNowhereBetween shape text from place → EndsAt shape text place (Some end) → EndsAt (up_to shape) text from (Some end)
up_to-ends shape text from place end low none stands = record {
  fits = ap (option_map (λ found. found.1)) (split_at_nearest-some shape text from place end low none stands);
  within = (omega arith, stands.within.1);
}

-- ---- a shape several times

-- once, and what is left
pub one_or_more-begun : (shape : Shape ℕ) (text : List ℕ) (at end : ℕ) → EndsAt shape text at (Some end) → (n : ℕ) × (length text - end ≤ n) × (one_or_more shape (drop at text) ≡ repeated n shape (drop end text))
one_or_more-begun shape text at end once = (
  length (drop end text),
  omega (arith, length-drop end text),
  ap (option_and_then (λ rest. repeated (length rest) shape rest)) once.fits,
)

-- one time more
pub repeated-more : (shape : Shape ℕ) (text : List ℕ) (n at end : ℕ) → length text - at ≤ n → EndsAt shape text at (Some end) → (m : ℕ) × (length text - end ≤ m) × (repeated n shape (drop at text) ≡ repeated m shape (drop end text))
unfolding repeated
repeated-more shape text zero at end room once = absurd (omega arith)
repeated-more shape text (suc n) at end room once =
    (n, omega arith, ap (λ o. elim o as (λ _. Option (List ℕ)) [ Some rest ↦ repeated n shape rest | None ↦ Some (drop at text) ]) once.fits)

-- no more
pub repeated-done : (shape : Shape ℕ) (text : List ℕ) (n at : ℕ) → EndsAt shape text at None → repeated n shape (drop at text) ≡ Some (drop at text)
unfolding repeated
repeated-done shape text zero at none = refl
repeated-done shape text (suc n) at none = ap (λ o. elim o as (λ _. Option (List ℕ)) [ Some rest ↦ repeated n shape rest | None ↦ Some (drop at text) ]) none.fits

pub further : (a b c : ℕ) → a < b → b < c → a < c
further a b c h k = omega arith

-- ---- the nearest place at which a word stands

pub up_to_word-ends : (word text : List ℕ) (from place : ℕ) → IsNearestPlace word text from place → EndsAt (up_to (exactly word)) text from (Some (place + length word))
up_to_word-ends word text from place h = up_to-ends (exactly word) text from place (place + length word) h.behind h.before h.stands

-- ---- a place behind which there is no more

pub nowhere-from : (shape : Shape ℕ) (text : List ℕ) (from at : ℕ) → shape [] ≡ None → length text ≤ at → IsNowhereBetween shape text from at → IsNowhereFrom shape text from
nowhere-from shape text from at empty past none place low = by_place (cases_lt place at)
  where
    by_place : (place < at) ⊎ (at ≤ place) → shape (drop place text) ≡ None
    by_place (inl h) = none place low h
    by_place (inr h) = ap shape (drop_of_length-le text (omega arith)) ∙ empty

pub nowhere-further : (shape : Shape ℕ) (text : List ℕ) (from at : ℕ) → from ≤ at → IsNowhereFrom shape text from → IsNowhereFrom shape text at
nowhere-further shape text from at low none place h = none place (omega arith)

-- ---- the nearest `>`

abbrev Angle : Shape ℕ
Angle = up_to (exactly (codes ">"))

-- `whole` is the text, and `result` the place behind the one that was found
pub behind_angle-some : (whole text : List ℕ) (at : ℕ) (found result : Option ℕ) (place : ℕ) → whole ≡ text → IsNearest (codes ">") whole at found → found ≡ Some place → result ≡ Some (place + 1) → EndsAt Angle text at result
behind_angle-some whole text at found result place same nearest is e =
    let n : IsNearestPlace (codes ">") whole at place = subst (λ f. IsNearest (codes ">") whole at f) is nearest in
    subst (λ r. EndsAt Angle text at r) (sym e) (subst (λ t. EndsAt Angle t at (Some (place + 1))) same (up_to_word-ends (codes ">") whole at place n))

pub behind_angle-none : (whole text : List ℕ) (at : ℕ) (found result : Option ℕ) → whole ≡ text → IsNearest (codes ">") whole at found → found ≡ None → result ≡ None → EndsAt Angle text at result
behind_angle-none whole text at found result same nearest is e =
    let n : IsNowhereFrom (exactly (codes ">")) whole at = subst (λ f. IsNearest (codes ">") whole at f) is nearest in
    subst (λ r. EndsAt Angle text at r) (sym e) (subst (λ t. EndsAt Angle t at None) same (up_to-none (exactly (codes ">")) whole at n))
