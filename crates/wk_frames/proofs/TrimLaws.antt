-- Outputs without the blank bytes at their ends.
use Rattle.std.proofs.Common.{◌≡◌, ℕ, ◌+◌, ◌-◌, ◌≤◌, Bool, true, false, cond, List, [], ◌∷◌, length, take, drop, reverse, sym, ap, ◌∙◌, arith}
use Rattle.std.proofs.lemmas.List.{length-drop, length-take, take_all}
use Rattle.std.proofs.lemmas.List.Sums.{prefix_len-le-length, suffix_len-le-length}
use Rattle.std.specs.List.{prefix_len, suffix_len}
use Rattle.indexmap.proofs.ReorderLemmas.{map-reverse}
use Rattle.wk_text_rules.specs.Blank.{is_blank_byte, trimmed, trimmed_start}
use Rattle.wk_text_rules.specs.Marked.{MarkedByte, plain, sealed, byte_of, is_plain_blank, text_of, trimmed_output}

-- a text that is no shorter without them has none
none-before : (text : List ℕ) → length (trimmed text) ≡ length text → prefix_len is_blank_byte text ≡ 0
none-before text e =
    let s = trimmed_start text in
    omega (arith, e, length-take (length s - suffix_len is_blank_byte s) s, length-drop (prefix_len is_blank_byte text) text, prefix_len-le-length is_blank_byte text)

none-behind : (text : List ℕ) → length (trimmed text) ≡ length text → suffix_len is_blank_byte text ≡ 0
none-behind text e =
    let whole : trimmed_start text ≡ text = ap (λ (n : ℕ). drop n text) (none-before text e) in
    let same : length (take (length text - suffix_len is_blank_byte text) text) ≡ length text =
    ap (λ s. length (take (length s - suffix_len is_blank_byte s) s)) (sym whole) ∙ e
    in
    omega (arith, same, length-take (length text - suffix_len is_blank_byte text) text, suffix_len-le-length is_blank_byte text)

-- what is plain and blank is blank
one-more : (blank : Bool) (m n : ℕ) → m ≤ n → cond blank (1 + m) 0 ≤ cond blank (1 + n) 0
one-more true m n h = omega (arith, h)
one-more false m n h = omega arith

least : (n : ℕ) → 0 ≤ n
least n = omega arith

plain-prefix : (out : List MarkedByte) → prefix_len is_plain_blank out ≤ prefix_len is_blank_byte (text_of out)
plain-prefix [] = least 0
plain-prefix (plain b ∷ out) = one-more (is_blank_byte b) (prefix_len is_plain_blank out) (prefix_len is_blank_byte (text_of out)) (plain-prefix out)
plain-prefix (sealed b ∷ out) = least (prefix_len is_blank_byte (text_of (sealed b ∷ out)))

-- an output is the same without plain blank bytes at its ends, where its text has no blank ones there
pub trimmed_already : (out : List MarkedByte) → length (trimmed (text_of out)) ≡ length (text_of out) → trimmed_output out ≡ out
trimmed_already out e =
    let start : prefix_len is_plain_blank out ≡ 0 = omega (arith, plain-prefix out, none-before (text_of out) e) in
    let same : prefix_len is_blank_byte (text_of (reverse out)) ≡ suffix_len is_blank_byte (text_of out) = ap (prefix_len is_blank_byte) (map-reverse byte_of out) in
    let end : suffix_len is_plain_blank out ≡ 0 = omega (arith, plain-prefix (reverse out), same, none-behind (text_of out) e) in
    ap (λ (n : ℕ). let s = drop n out in take (length s - suffix_len is_plain_blank s) s) start
    ∙ take_all (length out - suffix_len is_plain_blank out) out (omega (arith, end))
