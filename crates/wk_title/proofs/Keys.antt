-- What makes a key legal, by the parts that the code tests.
use Rattle.std.proofs.Common.{◌≡◌, ℕ, ◌<◌, Bool, true, false, not, ◌&&◌, ◌||◌, ◌==◌, nat_lt, nat_le, List, [], ◌∷◌, length, encode_utf8_all, refl, ap, ◌∙◌, arith, length-append}
use Rattle.std.proofs.lemmas.Bool.Decides.{nat_tests}
use Rattle.std.proofs.lemmas.List.Sums.{sum_by-cons}
use Rattle.std.proofs.lemmas.Str.{length-encode, length-le-encodes}
use Rattle.std.specs.Char.{len_utf8}
use Rattle.std.specs.List.{sum_by, list_any, starts_with}
use Rattle.wk_text_rules.specs.Titles.{holds, is_forbidden, has_dot_part, is_legal_key, begins_with_tildes, begins_with_percent_code, begins_with_character_reference}
use Rattle.wk_title.specs.Legal.{begins_with_forbidden_text}

pub length-encodes : (cs : List ℕ) → length (encode_utf8_all cs) ≡ sum_by len_utf8 cs
length-encodes [] = refl
length-encodes (c ∷ cs) = omega (arith, sum_by-cons len_utf8 c cs, length-encodes cs, length-encode c, length-append {A = ℕ})

pub too_many_bytes : (cs : List ℕ) → 255 < length cs → nat_le (length (encode_utf8_all cs)) 255 ≡ false
too_many_bytes cs long = let more = length-le-encodes cs in grind (arith, nat_tests)

-- a text that none may hold is one of three
or_parts : (a b c : Bool) (x y z : Bool) → ((a || b || c) || (x || y || z)) ≡ ((a || x) || (b || y) || (c || z))
or_parts true b c x y z = refl
or_parts false true c true y z = refl
or_parts false true c false y z = refl
or_parts false false true true y z = refl
or_parts false false true false true z = refl
or_parts false false true false false z = refl
or_parts false false false x y z = refl

pub holds-forbidden : (cs : List ℕ) → holds begins_with_forbidden_text cs ≡ (holds begins_with_tildes cs || holds begins_with_percent_code cs || holds begins_with_character_reference cs)
holds-forbidden [] = refl
holds-forbidden (c ∷ cs) =
    ap (λ later. begins_with_forbidden_text (c ∷ cs) || later) (holds-forbidden cs)
    ∙ or_parts (begins_with_tildes (c ∷ cs)) (begins_with_percent_code (c ∷ cs)) (begins_with_character_reference (c ∷ cs)) _ _ _

and_parts_of_or : (l a t p r d : Bool) → (l && not a && not t && not p && not r && not d) ≡ (l && not a && not (t || p || r) && not d)
and_parts_of_or false a t p r d = refl
and_parts_of_or true true t p r d = refl
and_parts_of_or true false true p r d = refl
and_parts_of_or true false false true r d = refl
and_parts_of_or true false false false r d = refl

pub is_legal_key_by_tests : (cs : List ℕ) →
    is_legal_key cs ≡ (
    nat_lt 0 (length cs) && nat_le (length (encode_utf8_all cs)) 255 && not (starts_with (λ a b. a == b) cs (58 ∷ []))
    && not (list_any is_forbidden cs) && not (holds begins_with_forbidden_text cs) && not (has_dot_part cs)
    )
is_legal_key_by_tests cs = rw holds-forbidden (and_parts_of_or _ _ _ _ _ _)
