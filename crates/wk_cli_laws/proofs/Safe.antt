-- Characters that no rule of titles changes or refuses, and the digits of a number, which are such.
use Rattle.std.proofs.Common.{◌≡◌, ℕ, ◌+◌, ◌%◌, ◌^◌, ◌<◌, ◌≤◌, Bool, true, false, ◌==◌, List, [], ◌∷◌, ◌++◌, chars, encode_utf8_all, refl, sym, ap, ap₂, ◌∙◌, arith}
use Rattle.std.proofs.lemmas.Bool.{and_from, and_parts}
use Rattle.std.proofs.lemmas.Bool.Decides.{nat_tests}
use Rattle.std.proofs.lemmas.Fmt.{decimal_by_steps}
use Rattle.std.proofs.lemmas.Str.{encode_ascii}
use borrow.Author.Tests.{ltb-true}
use Rattle.std.specs.Char.{is_ascii}
use Rattle.std.specs.Fmt.{decimal}
use Rattle.std.specs.List.{list_all, list_any, slice_split}
use Rattle.wk_text_rules.specs.Titles.{begins_with_character_reference, begins_with_percent_code, begins_with_tildes, holds, is_colon, is_forbidden}
use Rattle.wk_title_laws.proofs.Chars.{chars-of_numbers}
use Rattle.wk_title_laws.proofs.Names.{is_plain}

pub record IsSafe (c : ℕ) : Type 0 where
  pub ascii : is_ascii c ≡ true
  pub plain : is_plain c ≡ true
  pub no_space : (c == 32) ≡ false
  pub no_colon : (c == 58) ≡ false
  pub no_slash : (c == 47) ≡ false
  pub no_percent : (c == 37) ≡ false
  pub no_ampersand : (c == 38) ≡ false
  pub no_tilde : (126 == c) ≡ false
  pub allowed : is_forbidden c ≡ false

abbrev pub AreSafe : List ℕ → Type 0
AreSafe [] = Unit {0}
AreSafe (c ∷ cs) = IsSafe c × AreSafe cs

-- no underscore either
abbrev pub HasNone : List ℕ → Type 0
HasNone [] = Unit {0}
HasNone (c ∷ cs) = ((c == 95) ≡ false) × HasNone cs

pub record IsDigit (c : ℕ) : Type 0 where
  pub safe : IsSafe c
  pub no_underscore : (c == 95) ≡ false

digit : (k : ℕ) → k < 10 → IsDigit (48 + k)
digit k small = record {
  safe = record {
    ascii = grind (arith, nat_tests);
    plain = grind (arith, nat_tests);
    no_space = grind (arith, nat_tests);
    no_colon = grind (arith, nat_tests);
    no_slash = grind (arith, nat_tests);
    no_percent = grind (arith, nat_tests);
    no_ampersand = grind (arith, nat_tests);
    no_tilde = grind (arith, nat_tests);
    allowed = grind (arith, nat_tests);
  };
  no_underscore = grind (arith, nat_tests);
}

-- ---- the digits of a number

abbrev pub AreDigits : List ℕ → Type 0
AreDigits [] = Unit {0}
AreDigits (c ∷ cs) = IsDigit c × AreDigits cs

digits-append : (xs ys : List ℕ) → AreDigits xs → AreDigits ys → AreDigits (xs ++ ys)
digits-append [] ys front back = back
digits-append (x ∷ xs) ys front back = (front.0, digits-append xs ys front.1 back)

pub digits-of : (n : ℕ) → n < 2 ^ 64 → AreDigits (decimal n)
digits-of = decimal_by_steps (λ m ds. AreDigits ds) one more
  where
    one : (m : ℕ) → m < 10 → AreDigits ((48 + m) ∷ [])
    one m small = (digit m small, tt)

    more : (m : ℕ) (ds : List ℕ) → 10 ≤ m → AreDigits ds → AreDigits (ds ++ ((48 + m % 10) ∷ []))
    more m ds long before = digits-append ds ((48 + m % 10) ∷ []) before (digit (m % 10) (omega arith), tt)

pub safe-digits : (cs : List ℕ) → AreDigits cs → AreSafe cs
safe-digits [] all = tt
safe-digits (c ∷ cs) all = (all.0.safe, safe-digits cs all.1)

pub none-digits : (cs : List ℕ) → AreDigits cs → HasNone cs
none-digits [] all = tt
none-digits (c ∷ cs) all = (all.0.no_underscore, none-digits cs all.1)

-- ---- what tests say of safe characters

pub encode-ascii : (cs : List ℕ) → list_all is_ascii cs ≡ true → encode_utf8_all cs ≡ cs
encode-ascii [] all = refl
encode-ascii (c ∷ cs) all =
    let parts = and_parts (is_ascii c) (list_all is_ascii cs) all in
    ap₂ (λ u v. u ++ v) (encode_ascii c (ltb-true c 128 parts.0)) (encode-ascii cs parts.1)

pub ascii-safe : (cs : List ℕ) → AreSafe cs → list_all is_ascii cs ≡ true
ascii-safe [] all = refl
ascii-safe (c ∷ cs) all = and_from _ _ all.0.ascii (ascii-safe cs all.1)

pub chars-safe : (cs : List ℕ) → list_all is_ascii cs ≡ true → chars cs ≡ cs
chars-safe cs all = ap chars (sym (encode-ascii cs all)) ∙ chars-of_numbers cs

pub encode-safe : (cs : List ℕ) → AreSafe cs → encode_utf8_all cs ≡ cs
encode-safe cs all = encode-ascii cs (ascii-safe cs all)

pub plain-safe : (cs : List ℕ) → AreSafe cs → list_all is_plain cs ≡ true
plain-safe [] all = refl
plain-safe (c ∷ cs) all = and_from _ _ all.0.plain (plain-safe cs all.1)

pub allowed-safe : (cs : List ℕ) → AreSafe cs → list_any is_forbidden cs ≡ false
allowed-safe [] all = refl
allowed-safe (c ∷ cs) all = rw all.0.allowed (allowed-safe cs all.1)

pub no_colon-safe : (cs : List ℕ) → AreSafe cs → list_any is_colon cs ≡ false
no_colon-safe [] all = refl
no_colon-safe (c ∷ cs) all = rw all.0.no_colon (no_colon-safe cs all.1)

pub whole-safe : (cs : List ℕ) → AreSafe cs → slice_split (λ c. c == 47) cs ≡ cs ∷ []
whole-safe [] all = refl
whole-safe (c ∷ cs) all = rw (all.0.no_slash, whole-safe cs all.1) refl

-- ---- what no end of the text begins with

no_tildes : (c : ℕ) (cs : List ℕ) → IsSafe c → begins_with_tildes (c ∷ cs) ≡ false
no_tildes c cs safe = rw safe.no_tilde refl

no_code : (c : ℕ) (cs : List ℕ) → IsSafe c → begins_with_percent_code (c ∷ cs) ≡ false
no_code c [] safe = refl
no_code c (d ∷ []) safe = refl
no_code c (d ∷ e ∷ cs) safe = rw safe.no_percent refl

no_reference : (c : ℕ) (cs : List ℕ) → IsSafe c → begins_with_character_reference (c ∷ cs) ≡ false
no_reference c cs safe = rw safe.no_ampersand refl

holds-none : (begins : List ℕ → Bool) → ((c : ℕ) (cs : List ℕ) → IsSafe c → begins (c ∷ cs) ≡ false) → begins [] ≡ false → (cs : List ℕ) → AreSafe cs → holds begins cs ≡ false
holds-none begins none empty [] all = empty
holds-none begins none empty (c ∷ cs) all = rw (none c cs all.0) (holds-none begins none empty cs all.1)

pub tildes-safe : (cs : List ℕ) → AreSafe cs → holds begins_with_tildes cs ≡ false
tildes-safe = holds-none begins_with_tildes no_tildes refl

pub codes-safe : (cs : List ℕ) → AreSafe cs → holds begins_with_percent_code cs ≡ false
codes-safe = holds-none begins_with_percent_code no_code refl

pub references-safe : (cs : List ℕ) → AreSafe cs → holds begins_with_character_reference cs ≡ false
references-safe = holds-none begins_with_character_reference no_reference refl
