-- Brackets cut a text between its characters.
use Rattle.std.proofs.Common.{◌≡◌, ◌≢◌, ℕ, ◌+◌, ◌<◌, ◌≤◌, true, ◌==◌, List, length, get_or, refl, sym, ap, ◌∙◌, inl, inr, arith}
use Rattle.std.specs.Prelude.{Option, Some, None, unwrap_or}
use Rattle.std.specs.Str.{IsUtf8, IsCharBoundary}
use Rattle.std.proofs.lemmas.Bool.{cases_lt}
use Rattle.std.proofs.lemmas.Bool.Decides.{Decides-eqb}
use Rattle.std.proofs.lemmas.List.{length-map, get_or_past}
use Rattle.std.proofs.lemmas.Str.{IsCharBoundary-before_ascii, IsCharBoundary-after_ascii}
use Rattle.wk_text_rules.specs.Marked.{MarkedByte, text_of, byte_of}
use Rattle.wk_links.specs.Brackets.{IsClosed, IsBracketsAt, end_of}
use Rattle.wk_links.specs.Cuts.{IsLabelCut, IsCutBy}
use Rattle.wk_links.specs.Pairs.{pair_at}
use Rattle.wk_links.specs.Seen.{seen_byte, seen}
use Rattle.wk_links.specs.declared.brackets.Brackets.{Brackets}
use Rattle.wk_links.proofs.SeenLemmas.{seen_is}
use Rattle.wk_links.proofs.Words.{both_true, pair_within}

first_of : (b : ℕ) (bytes : List ℕ) (at : ℕ) → pair_at b bytes at ≡ true → get_or bytes at 0 ≡ b
first_of b bytes at h = (Decides-eqb _ b).0 (both_true (get_or bytes at 0 == b) (get_or bytes (at + 1) 0 == b) h).0

second_of : (b : ℕ) (bytes : List ℕ) (at : ℕ) → pair_at b bytes at ≡ true → get_or bytes (at + 1) 0 ≡ b
second_of b bytes at h = (Decides-eqb _ b).0 (both_true (get_or bytes at 0 == b) (get_or bytes (at + 1) 0 == b) h).1

same_lengths : (out : List MarkedByte) → length (text_of out) ≡ length (seen out)
same_lengths out = length-map out byte_of ∙ sym (length-map out seen_byte)

seen_within : (out : List MarkedByte) (k b : ℕ) → b ≢ 0 → get_or (seen out) k 0 ≡ b → k < length (text_of out)
seen_within out k b z e = elim (cases_lt k (length (seen out))) [
  | inl within ↦ omega (arith, same_lengths out)
  | inr past ↦ absurd (z (sym e ∙ get_or_past (seen out) k 0 past))
]

before_seen : (out : List MarkedByte) (k b : ℕ) → b ≢ 10 → b ≢ 0 → b < 128 → get_or (seen out) k 0 ≡ b → IsCharBoundary (text_of out) k
before_seen out k b n z ascii e =
    let there = seen_is out k b n z e in
    IsCharBoundary-before_ascii (text_of out) k (seen_within out k b z e) (omega (arith, there))

behind_seen : (out : List MarkedByte) (k b : ℕ) → IsUtf8 (text_of out) → b ≢ 10 → b ≢ 0 → b < 128 → get_or (seen out) k 0 ≡ b → IsCharBoundary (text_of out) (k + 1)
behind_seen out k b utf8 n z ascii e =
    let there = seen_is out k b n z e in
    IsCharBoundary-after_ascii (text_of out) k utf8 (seen_within out k b z e) (omega (arith, there))

-- the target ends before `]]` or a bar
target_cut : (out : List MarkedByte) (t : ℕ) (label_end : Option ℕ) → IsClosed (seen out) t label_end → IsCharBoundary (text_of out) t
target_cut out t None h = before_seen out t 93 (omega arith) (omega arith) (omega arith) (first_of 93 (seen out) t h)
target_cut out t (Some end) h = before_seen out t 124 (omega arith) (omega arith) (omega arith) h.1

label_cut : (out : List MarkedByte) (t : ℕ) (label_end : Option ℕ) → IsUtf8 (text_of out) → IsClosed (seen out) t label_end → IsLabelCut (text_of out) t label_end
label_cut out t None utf8 h = tt
label_cut out t (Some end) utf8 h = (
  h.2.behind,
  behind_seen out t 124 utf8 (omega arith) (omega arith) (omega arith) h.1,
  before_seen out end 93 (omega arith) (omega arith) (omega arith) (first_of 93 (seen out) end h.2.closes),
  h.3,
)

-- brackets that are found cut the text between its characters
pub brackets_cut : (out : List MarkedByte) (s : ℕ) (b : Brackets) → IsUtf8 (text_of out) → IsBracketsAt (seen out) s b → IsCutBy (text_of out) b
brackets_cut out s b utf8 h =
    let second : get_or (seen out) (b.start + 1) 0 ≡ 91 = ap (λ k. get_or (seen out) (k + 1) 0) h.start_is ∙ second_of 91 (seen out) s h.opens in
    let next : b.start + 1 + 1 ≡ b.start + 2 = omega arith in
    record {
      in_order = omega (arith, h.start_is, h.target_end_is);
      from = rw (← next) (behind_seen out (b.start + 1) 91 utf8 (omega arith) (omega arith) (omega arith) second);
      to = target_cut out b.target_end b.label_end h.closes;
      label = label_cut out b.target_end b.label_end utf8 h.closes;
    }

end_closes : (bytes : List ℕ) (t : ℕ) (label_end : Option ℕ) → IsClosed bytes t label_end → (t ≤ unwrap_or label_end t) × (pair_at 93 bytes (unwrap_or label_end t) ≡ true)
end_closes bytes t None h = (omega arith, h)
end_closes bytes t (Some end) h = (omega (arith, h.2.behind), h.2.closes)

-- the brackets end within the output, behind their start
pub brackets_end : (out : List MarkedByte) (s : ℕ) (b : Brackets) → IsBracketsAt (seen out) s b → (s < end_of b) × (end_of b ≤ length (seen out))
brackets_end out s b h =
    let closes = end_closes (seen out) b.target_end b.label_end h.closes in
    let within = pair_within 93 (seen out) (unwrap_or b.label_end b.target_end) refl closes.1 in
    (omega (arith, closes.0, h.target_end_is), within)
