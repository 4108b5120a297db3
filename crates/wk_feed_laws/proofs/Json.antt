-- An array of texts, nulls and numbers of 64 bits is read back from its compact text.
use Rattle.std.proofs.Common.{◌≡◌, pos, negsuc, ◌+◌, ◌<◌, ◌≤◌, ◌^◌, List, [], ◌∷◌, ◌++◌, Option, Some, option_map, option_and_then, refl, sym, ap, ◌∙◌, arith, append-nil}
use Rattle.std.specs.Prelude.{⊤}
use Rattle.std.specs.List.{AllByRecursion}
use Rattle.json.specs.Token.{Token}
use Rattle.json.specs.Lex.{tokens}
use Rattle.json.specs.Json as json
use Rattle.json.specs.Tree as tree
use Rattle.json.proofs.Printed.Tokens.{tokens-print}
use Rattle.json.proofs.Printed.Trees.{ArePrintable-json_tokens, value-json_tokens}
use Rattle.json.proofs.Printed.Decimals.{IsNumber-decimal, IsNumber-signed_decimal}
use Rattle.serde_json.specs.Data.{unsigned, negative, float, Data, null, boolean, number, string, array, object, item}
use Rattle.serde_json.specs.Read.{read, of_json, of_items, max_depth}
use Rattle.serde_json.specs.Written.{compact_text, outline, items_outline}
use Rattle.serde_json.proofs.Numbers.{number_of-decimal, number_of-negative}
use Rattle.serde_json.proofs.Texts.{print-outline}
use Rattle.wk_answer_rules.specs.Values.{array_of, items_of}

-- a value within a flat array
abbrev pub IsFlat : Data → Type 0
IsFlat null = ⊤
IsFlat (boolean b) = ⊥
IsFlat (number (unsigned n)) = n < 2 ^ 64
IsFlat (number (negative (pos n))) = ⊥
IsFlat (number (negative (negsuc n))) = n + 1 < 2 ^ 63
IsFlat (number (float x)) = ⊥
IsFlat (string s) = ⊤
IsFlat (array ds) = ⊥
IsFlat (object ms) = ⊥

-- ---- values

value-numbers : (d : Data) → IsFlat d → tree.HasNumbers (outline d)
value-numbers null h = tt
value-numbers (boolean b) h = tt
value-numbers (number (unsigned n)) h = IsNumber-decimal n h
value-numbers (number (negative (pos n))) h = absurd h
value-numbers (number (negative (negsuc n))) h = IsNumber-signed_decimal (negsuc n) (omega (arith, h))
value-numbers (number (float x)) h = absurd h
value-numbers (string s) h = tt
value-numbers (array ds) h = absurd h
value-numbers (object ms) h = absurd h

value-depth : (d : Data) → IsFlat d → tree.depth (outline d) ≡ 0
value-depth null h = refl
value-depth (boolean b) h = refl
value-depth (number n) h = refl
value-depth (string s) h = refl
value-depth (array ds) h = absurd h
value-depth (object ms) h = absurd h

value-back : (d : Data) → IsFlat d → of_json (outline d) ≡ Some d
value-back null h = refl
value-back (boolean b) h = absurd h
value-back (number (unsigned n)) h = ap (option_map number) (number_of-decimal n h)
value-back (number (negative (pos n))) h = absurd h
value-back (number (negative (negsuc n))) h = let less : n < 2 ^ 63 = omega (arith, h) in ap (option_map number) (number_of-negative n less)
value-back (number (float x)) h = absurd h
value-back (string s) h = refl
value-back (array ds) h = absurd h
value-back (object ms) h = absurd h

-- ---- lists of values

items-numbers : (ds : List Data) → AllByRecursion IsFlat ds → tree.ItemsHaveNumbers (items_outline (items_of ds))
items-numbers [] h = tt
items-numbers (d ∷ ds) h = (value-numbers d h.0, items-numbers ds h.1)

items-depth : (ds : List Data) → AllByRecursion IsFlat ds → tree.items_depth (items_outline (items_of ds)) ≡ 0
items-depth [] h = refl
items-depth (d ∷ ds) h = rw (value-depth d h.0, items-depth ds h.1) refl

items-back : (ds : List Data) → AllByRecursion IsFlat ds → of_items (items_outline (items_of ds)) ≡ Some (items_of ds)
items-back [] h = refl
items-back (d ∷ ds) h =
    ap (λ (o : Option Data). option_and_then (λ d. option_map (item d) (of_items (items_outline (items_of ds)))) o) (value-back d h.0)
    ∙ ap (option_map (item d)) (items-back ds h.1)

-- ---- the array

-- what the tokens are read as
abbrev whole : Option (json.Json × List Token) → Option Data
whole o = option_and_then of_json (option_and_then (λ p. json.if_last p.0 p.1) o)

pub array-back : (ds : List Data) → AllByRecursion IsFlat ds → read (compact_text (array_of ds)) ≡ Some (array_of ds)
array-back ds flat =
    let j = outline (array_of ds) in
    let shallow : tree.depth j ≤ max_depth = let none = items-depth ds flat in omega (arith, none) in
    let spelled : tokens (compact_text (array_of ds)) ≡ tree.json_tokens j ++ [] =
    ap tokens (sym (print-outline (array_of ds))) ∙ (tokens-print (tree.json_tokens j) (ArePrintable-json_tokens j (items-numbers ds flat)) ∙ sym (append-nil (tree.json_tokens j)))
    in
    ap (λ ts. whole (json.value max_depth ts)) spelled ∙ (ap whole (value-json_tokens j max_depth [] shallow) ∙ ap (option_map array) (items-back ds flat))
