-- Where the blank bytes at the end of a text begin.
use Rattle.std.proofs.Common.{◌≡◌, ℕ, ◌-◌, ◌<◌, ◌≤◌, true, List, length, get_or, reverse, sym, ap, ◌∙◌, arith}
use Rattle.std.proofs.lemmas.List.{get_or-reverse, length-take}
use Rattle.std.proofs.lemmas.List.Sums.{prefix_len_passes, suffix_len-le-length}
use Rattle.std.proofs.lemmas.Bool.Decides.{nat_tests}
use Rattle.std.specs.List.{suffix_len}
use Rattle.std.specs.String.Boundary.{IsSplitPoint}
use Rattle.wk_text_rules.specs.Blank.{is_blank_byte, trimmed_end}

blank_is_ascii : (b : ℕ) → is_blank_byte b ≡ true → b < 128
blank_is_ascii b h = grind (arith, nat_tests)

-- the byte behind the trimmed text, where there is one, is blank
blank_behind : (bs : List ℕ) (n : ℕ) → n ≡ length bs - suffix_len is_blank_byte bs → n < length bs → is_blank_byte (get_or bs n 0) ≡ true
blank_behind bs n e l =
    let k : ℕ = length bs - 1 - n in
    let short : suffix_len is_blank_byte bs ≤ length bs = suffix_len-le-length is_blank_byte bs in
    let inside : k < suffix_len is_blank_byte bs = omega arith in
    let passes = prefix_len_passes is_blank_byte (reverse bs) k 0 inside in
    let there : k < length bs = omega arith in
    let back : length bs - 1 - k ≡ n = omega arith in
    sym (ap (λ m. is_blank_byte (get_or bs m 0)) back) ∙ sym (ap is_blank_byte (get_or-reverse bs k 0 there)) ∙ passes

-- a text may be cut where its trailing blank bytes begin
pub IsSplitPoint-trimmed_end : (bs cut : List ℕ) → cut ≡ trimmed_end bs → IsSplitPoint bs (length cut)
IsSplitPoint-trimmed_end bs cut e =
    let n : ℕ = length bs - suffix_len is_blank_byte bs in
    let inside : n ≤ length bs = omega arith in
    let at : length cut ≡ n = ap length e ∙ length-take n bs ∙ omega arith in
    (omega arith, λ _ l big. absurd (omega (arith, blank_is_ascii (get_or bs (length cut) 0) (blank_behind bs (length cut) at l))))
