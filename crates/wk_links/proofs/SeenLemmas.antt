-- What is seen of the runs of an output.
use Rattle.std.proofs.Common.{◌≡◌, ◌≢◌, ℕ, suc, zero, ◌-◌, Bool, List, [], ◌∷◌, ◌++◌, length, get_or, take, drop, replicate, refl, sym, ap, ◌∙◌}
use Rattle.std.proofs.lemmas.List.{map-append, take-map}
use Rattle.std.specs.List.{drop-map}
use Rattle.wk_text_rules.specs.Marked.{MarkedByte, plain, sealed, all_plain, all_sealed, text_of, byte_of}
use Rattle.wk_out.specs.Runs.{joined, marked}
use Rattle.wk_links.specs.Parts.{part}
use Rattle.wk_links.specs.Seen.{seen_byte, seen}

pub seen-all_sealed : (text : List ℕ) → seen (all_sealed text) ≡ replicate (length text) 10
seen-all_sealed [] = refl
seen-all_sealed (b ∷ text) = ap (λ xs. 10 ∷ xs) (seen-all_sealed text)

pub seen-all_plain : (text : List ℕ) → seen (all_plain text) ≡ text
seen-all_plain [] = refl
seen-all_plain (b ∷ text) = ap (λ xs. b ∷ xs) (seen-all_plain text)

-- one run, and then the others
pub seen-joined : (run : List ℕ × Bool) (runs : List (List ℕ × Bool)) → seen (joined (run ∷ runs)) ≡ seen (marked run.1 run.0) ++ seen (joined runs)
seen-joined run runs = map-append seen_byte (marked run.1 run.0) (joined runs)

-- a byte that is seen is there, unless a newline is
pub seen_is : (out : List MarkedByte) (k b : ℕ) → b ≢ 10 → b ≢ 0 → get_or (seen out) k 0 ≡ b → get_or (text_of out) k 0 ≡ b
seen_is [] k b n z e = absurd (z (sym e))
seen_is (plain c ∷ out) zero b n z e = e
seen_is (sealed c ∷ out) zero b n z e = absurd (n (sym e))
seen_is (m ∷ out) (suc k) b n z e = seen_is out k b n z e

pub part-text_of : (out : List MarkedByte) (from to : ℕ) → part (text_of out) from to ≡ text_of (part out from to)
part-text_of out from to =
    ap (take (to - from)) (drop-map byte_of from out) ∙ take-map byte_of (to - from) (drop from out)
