-- The bytes of any numbers are read back as the numbers, also of those that are no characters.
use Rattle.std.proofs.Common.{◌≡◌, ℕ, zero, suc, ◌+◌, ◌-◌, ◌*◌, ◌/◌, ◌%◌, ◌≤◌, ◌<◌, List, [], ◌∷◌, ◌++◌, encode_utf8_all, refl, ap, ◌∙◌, inl, inr, arith}
use Rattle.std.proofs.lemmas.Bool.{cases_lt}
use Rattle.std.proofs.lemmas.Bool.Decides.{nat_tests}
use Rattle.std.proofs.lemmas.Str.{chars-nil}
use Rattle.std.specs.Char.{encode_utf8}
use Rattle.std.specs.Str.{chars, chars_after, continuation_len, lead_bits}

whole : (c : ℕ) (bs : List ℕ) → chars_after zero c bs ≡ c ∷ chars bs
unfolding chars
whole c [] = refl
whole c (b ∷ bs) = refl

led : (a n v : ℕ) (bs : List ℕ) → n ≡ continuation_len a → v ≡ lead_bits a → chars (a ∷ bs) ≡ chars_after n v bs
unfolding chars
led a n v bs length_is bits = rw (length_is, bits) refl

encode_one : (c : ℕ) → c < 128 → encode_utf8 c ≡ c ∷ []
unfolding encode_utf8
encode_one c small = grind (arith, nat_tests)

encode_two : (c : ℕ) → 128 ≤ c → c < 2048 → encode_utf8 c ≡ (192 + c / 64) ∷ (128 + c % 64) ∷ []
unfolding encode_utf8
encode_two c low high = grind (arith, nat_tests)

encode_three : (c : ℕ) → 2048 ≤ c → c < 65536 → encode_utf8 c ≡ (224 + c / 4096) ∷ (128 + c / 64 % 64) ∷ (128 + c % 64) ∷ []
unfolding encode_utf8
encode_three c low high = grind (arith, nat_tests)

encode_four : (c : ℕ) → 65536 ≤ c → encode_utf8 c ≡ (240 + c / 262144) ∷ (128 + c / 4096 % 64) ∷ (128 + c / 64 % 64) ∷ (128 + c % 64) ∷ []
unfolding encode_utf8
encode_four c low = grind (arith, nat_tests)

read_two : (c : ℕ) (rest : List ℕ) → 128 ≤ c → c < 2048 → chars (encode_utf8 c ++ rest) ≡ c ∷ chars rest
read_two c rest low high =
    let is : (192 + c / 64 - 192) * 64 + (128 + c % 64 - 128) ≡ c = omega arith in
    ap (λ p. chars (p ++ rest)) (encode_two c low high)
    ∙ led (192 + c / 64) (suc zero) (192 + c / 64 - 192) ((128 + c % 64) ∷ rest) (grind arith) (grind arith)
    ∙ whole _ rest ∙ ap (λ x. x ∷ chars rest) is

read_three : (c : ℕ) (rest : List ℕ) → 2048 ≤ c → c < 65536 → chars (encode_utf8 c ++ rest) ≡ c ∷ chars rest
read_three c rest low high =
    let is : ((224 + c / 4096 - 224) * 64 + (128 + c / 64 % 64 - 128)) * 64 + (128 + c % 64 - 128) ≡ c = omega arith in
    ap (λ p. chars (p ++ rest)) (encode_three c low high)
    ∙ led (224 + c / 4096) (suc (suc zero)) (224 + c / 4096 - 224) ((128 + c / 64 % 64) ∷ (128 + c % 64) ∷ rest) (grind arith) (grind arith)
    ∙ whole _ rest ∙ ap (λ x. x ∷ chars rest) is

read_four : (c : ℕ) (rest : List ℕ) → 65536 ≤ c → chars (encode_utf8 c ++ rest) ≡ c ∷ chars rest
read_four c rest low =
    let is : (((240 + c / 262144 - 240) * 64 + (128 + c / 4096 % 64 - 128)) * 64 + (128 + c / 64 % 64 - 128)) * 64 + (128 + c % 64 - 128) ≡ c = omega arith in
    ap (λ p. chars (p ++ rest)) (encode_four c low)
    ∙ led (240 + c / 262144) (suc (suc (suc zero))) (240 + c / 262144 - 240) ((128 + c / 4096 % 64) ∷ (128 + c / 64 % 64) ∷ (128 + c % 64) ∷ rest) (grind arith) (grind arith)
    ∙ whole _ rest ∙ ap (λ x. x ∷ chars rest) is

read_char : (c : ℕ) (rest : List ℕ) → chars (encode_utf8 c ++ rest) ≡ c ∷ chars rest
read_char c rest = elim (cases_lt c 128) [
  | inl one ↦ ap (λ p. chars (p ++ rest)) (encode_one c one) ∙ led c zero c rest (grind arith) (grind arith) ∙ whole c rest
  | inr more ↦ elim (cases_lt c 2048) [
    | inl two ↦ read_two c rest more two
    | inr longer ↦ elim (cases_lt c 65536) [
      | inl three ↦ read_three c rest longer three
      | inr four ↦ read_four c rest four
    ]
  ]
]

pub chars-of_numbers : (cs : List ℕ) → chars (encode_utf8_all cs) ≡ cs
chars-of_numbers [] = chars-nil
chars-of_numbers (c ∷ cs) = read_char c (encode_utf8_all cs) ∙ ap (λ l. c ∷ l) (chars-of_numbers cs)
