-- A text can be cut where the blank bytes at its front end, and where those at its end begin.
use Rattle.std.proofs.Common.{◌≡◌, ℕ, zero, suc, ◌+◌, ◌-◌, ◌<◌, ◌≤◌, true, List, length, get_or, refl, ap, subst, sym, ◌∙◌, arith, length-drop}
use Rattle.std.proofs.lemmas.Bool.Decides.{nat_tests}
use Rattle.std.proofs.lemmas.List.{get_or-reverse, length-take-le}
use Rattle.std.proofs.lemmas.List.Sums.{prefix_len-le-length, prefix_len_passes, suffix_len-le-length}
use Rattle.std.proofs.lemmas.Str.{IsCharBoundary-start, IsCharBoundary-end, IsCharBoundary-before_ascii, IsCharBoundary-after_ascii}
use Rattle.std.specs.Prelude.{reverse}
use Rattle.std.specs.List.{prefix_len, suffix_len}
use Rattle.std.specs.Str.{IsUtf8, IsCharBoundary}
use Rattle.wk_text_rules.specs.Blank.{is_blank_byte, trimmed_start, trimmed_end}

blank_is_ascii : (b : ℕ) → is_blank_byte b ≡ true → b < 128
blank_is_ascii b h = grind (arith, nat_tests)

module _ (text : List ℕ) where
  front_at : (n : ℕ) → n ≡ prefix_len is_blank_byte text → IsUtf8 text → IsCharBoundary text n
  front_at zero e utf8 = IsCharBoundary-start text utf8
  front_at (suc k) e utf8 =
      let within : k < length text = omega (arith, e, prefix_len-le-length is_blank_byte text) in
      let last : get_or text k 0 < 128 = blank_is_ascii _ (prefix_len_passes is_blank_byte text k 0 (omega (arith, e))) in
      let place : k + 1 ≡ suc k = omega arith in
      subst (IsCharBoundary text) place (IsCharBoundary-after_ascii text k utf8 within last)

  end_at : (m : ℕ) → m ≡ suffix_len is_blank_byte text → IsCharBoundary text (length text - m)
  end_at zero e =
      let all : length text ≡ length text - zero = omega arith in
      subst (IsCharBoundary text) all (IsCharBoundary-end text)
  end_at (suc k) e =
      let within : suc k ≤ length text = omega (arith, e, suffix_len-le-length is_blank_byte text) in
      let place : length text - 1 - k ≡ length text - suc k = omega arith in
      let passes : is_blank_byte (get_or (reverse text) k 0) ≡ true = prefix_len_passes is_blank_byte (reverse text) k 0 (omega (arith, e)) in
      let first : get_or text (length text - 1 - k) 0 < 128 =
      blank_is_ascii _ (subst (λ b. is_blank_byte b ≡ true) (get_or-reverse text k 0 (omega arith)) passes) in
      subst (IsCharBoundary text) place (IsCharBoundary-before_ascii text (length text - 1 - k) (omega arith) first)

  -- where the rest without the blank bytes at the front begins
  pub front_is_boundary : (rest : List ℕ) → rest ≡ trimmed_start text → IsUtf8 text → IsCharBoundary text (length text - length rest)
  front_is_boundary rest e utf8 =
      let place : prefix_len is_blank_byte text ≡ length text - length rest =
      omega (arith, ap length e, length-drop (prefix_len is_blank_byte text) text, prefix_len-le-length is_blank_byte text) in
      subst (IsCharBoundary text) place (front_at (prefix_len is_blank_byte text) refl utf8)

  -- where the front without the blank bytes at the end ends
  pub end_is_boundary : (front : List ℕ) → front ≡ trimmed_end text → IsCharBoundary text (length front)
  end_is_boundary front e =
      let place : length text - suffix_len is_blank_byte text ≡ length front =
      sym (ap length e ∙ length-take-le (length text - suffix_len is_blank_byte text) text (omega arith)) in
      subst (IsCharBoundary text) place (end_at (suffix_len is_blank_byte text) refl)
