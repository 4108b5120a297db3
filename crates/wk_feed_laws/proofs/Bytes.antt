-- Lines are cut again from their bytes, and the first bytes have the first lines.
use Rattle.std.proofs.Common.{◌≡◌, ℕ, zero, suc, pos, negsuc, ◌+◌, ◌-◌, ◌/◌, ◌%◌, ◌≤◌, ◌<◌, ◌^◌, Bool, true, false, cond, ◌||◌, ltb, leb, eqb, List, [], ◌∷◌, ◌++◌, length, map, take, slice_index, decimal, refl, sym, ap, ◌∙◌, subst, arith, inl, inr, append_assoc, length-append}
use Rattle.std.specs.Char.{digit_char, digit_value}
use Rattle.std.specs.List.{AllByRecursion, onto_first, slice_split}
use Rattle.std.specs.Str.Lines.{strip_carriage_return}
use Rattle.std.specs.Str.Parse.{AllDigits}
use Rattle.std.proofs.Math.Seq.{take-append-add}
use Rattle.std.proofs.lemmas.Bool.{cases_Bool, eqb-true, leb-false, leb-true, ltb-false, ne_eqb}
use Rattle.std.proofs.lemmas.Fmt.{decimal_is_IsNumeral}
use Rattle.std.proofs.lemmas.List.{take-append-le}
use Rattle.json.specs.Print.{escape, escape_byte, escape_letter, quoted}
use Rattle.serde_json.specs.Data.{unsigned, negative, float, Data, null, boolean, number, string, array, object}
use Rattle.serde_json.specs.Written.{comma_if, compact_text, items_text}
use Rattle.wk_answer_rules.specs.Values.{items_of}
use Rattle.wk_feed_rules.specs.Lines.{FeedLine, bytes_of_lines, line_text, line_values, lines_in}
use Rattle.wk_feed_laws.specs.Fits.{LineFits}
use Rattle.wk_feed_laws.proofs.Json.{IsFlat}
use Rattle.wk_feed_laws.proofs.Numbers.{all-append}
use Rattle.wk_feed_laws.proofs.Said.{flat-line}

-- ---- bytes without a newline

abbrev pub is_newline : ℕ → Bool
is_newline b = eqb b 10

abbrev pub HasNone : List ℕ → Type 0
HasNone bytes = AllByRecursion (λ b. is_newline b ≡ false) bytes

join : (xs ys : List ℕ) → HasNone xs → HasNone ys → HasNone (xs ++ ys)
join xs ys first second = all-append (λ b. is_newline b ≡ false) xs ys first second

-- ---- a text

-- the letter of a short escape is no newline
letter-other : (x : ℕ) → is_newline (escape_letter x) ≡ false
letter-other x = by (eqb x 34) (eqb x 92) refl refl
  where
    others : (b c d e f : Bool) → is_newline (cond b 98 (cond c 102 (cond d 110 (cond e 114 (cond f 116 0))))) ≡ false
    others true c d e f = refl
    others false true d e f = refl
    others false false true e f = refl
    others false false false true f = refl
    others false false false false true = refl
    others false false false false false = refl

    by : (a b : Bool) → eqb x 34 ≡ a → eqb x 92 ≡ b → is_newline (cond (a || b) x (cond (eqb x 8) 98 (cond (eqb x 12) 102 (cond (eqb x 10) 110 (cond (eqb x 13) 114 (cond (eqb x 9) 116 0)))))) ≡ false
    by true b quote slash = ap is_newline (eqb-true x 34 quote)
    by false true quote slash = ap is_newline (eqb-true x 92 slash)
    by false false quote slash = others (eqb x 8) (eqb x 12) (eqb x 10) (eqb x 13) (eqb x 9)

digit-other : (d : ℕ) → is_newline (digit_char d) ≡ false
digit-other d = elim (ltb d 10) as (λ b. is_newline (cond b (48 + d) (87 + d)) ≡ false) [
  | true ↦ ne_eqb (48 + d) 10 (λ e. omega (arith, e))
  | false ↦ ne_eqb (87 + d) 10 (λ e. omega (arith, e))
]

byte-other : (x : ℕ) → HasNone (escape_byte x)
unfolding escape_byte
byte-other x = elim (ltb 0 (escape_letter x)) as (λ b. HasNone (cond b (92 ∷ escape_letter x ∷ []) (cond (ltb x 32) (92 ∷ 117 ∷ 48 ∷ 48 ∷ digit_char (x / 16) ∷ digit_char (x % 16) ∷ []) (x ∷ [])))) [
  | true ↦ (refl, (letter-other x, tt))
  | false ↦ by (ltb x 32) refl
]
  where
    by : (b : Bool) → ltb x 32 ≡ b → HasNone (cond b (92 ∷ 117 ∷ 48 ∷ 48 ∷ digit_char (x / 16) ∷ digit_char (x % 16) ∷ []) (x ∷ []))
    by true low = (refl, (refl, (refl, (refl, (digit-other (x / 16), (digit-other (x % 16), tt))))))
    by false high = let far = ltb-false x 32 high in (ne_eqb x 10 (λ e. omega (arith, e, far)), tt)

escape-other : (s : List ℕ) → HasNone (escape s)
escape-other [] = tt
escape-other (x ∷ s) = join (escape_byte x) (escape s) (byte-other x) (escape-other s)

quoted-other : (s : List ℕ) → HasNone (quoted s)
quoted-other s = (refl, join (escape s) (34 ∷ []) (escape-other s) (refl, tt))

-- ---- a number

value-other : (c : ℕ) → digit_value c < 10 → is_newline c ≡ false
value-other c low = ne_eqb c 10 (λ e. let ten : digit_value 10 < 10 = subst (λ x. digit_value x < 10) e low in omega (arith, ten))

digits-other : (ds : List ℕ) → AllDigits 10 ds → HasNone ds
digits-other [] all = tt
digits-other (d ∷ ds) all = (value-other d all.0, digits-other ds all.1)

decimal-other : (n : ℕ) → n < 2 ^ 64 → HasNone (decimal n)
decimal-other n low = digits-other (decimal n) (decimal_is_IsNumeral n low).0.1

value-text-other : (d : Data) → IsFlat d → HasNone (compact_text d)
value-text-other null flat = (refl, (refl, (refl, (refl, tt))))
value-text-other (boolean b) flat = absurd flat
value-text-other (number (unsigned n)) flat = decimal-other n flat
value-text-other (number (negative (pos n))) flat = absurd flat
value-text-other (number (negative (negsuc n))) flat = let low : suc n < 2 ^ 64 = omega (arith, flat) in (refl, decimal-other (suc n) low)
value-text-other (number (float x)) flat = absurd flat
value-text-other (string s) flat = quoted-other s
value-text-other (array ds) flat = absurd flat
value-text-other (object ms) flat = absurd flat

-- ---- a line: it has no newline, and ends with its bracket

comma-other : (later : Bool) → HasNone (comma_if later)
comma-other true = (refl, tt)
comma-other false = tt

-- the values, without the bracket behind them
abbrev inner : Bool → List Data → List ℕ
inner later [] = []
inner later (d ∷ ds) = comma_if later ++ (compact_text d ++ inner true ds)

inner-other : (later : Bool) (ds : List Data) → AllByRecursion IsFlat ds → HasNone (inner later ds)
inner-other later [] flat = tt
inner-other later (d ∷ ds) flat =
    join (comma_if later) (compact_text d ++ inner true ds) (comma-other later) (join (compact_text d) (inner true ds) (value-text-other d flat.0) (inner-other true ds flat.1))

inner-is : (later : Bool) (ds : List Data) → items_text later (items_of ds) ≡ inner later ds ++ 93 ∷ []
inner-is later [] = refl
inner-is later (d ∷ ds) =
    ap (λ l. comma_if later ++ (compact_text d ++ l)) (inner-is true ds)
    ∙ (ap (λ l. comma_if later ++ l) (sym (append_assoc (compact_text d) (inner true ds) (93 ∷ []))) ∙ sym (append_assoc (comma_if later) (compact_text d ++ inner true ds) (93 ∷ [])))

-- a line's bytes: none of them is a newline, and the last is a bracket
pub record IsLine (bytes : List ℕ) : Type 0 where
  pub none : HasNone bytes
  pub front : List ℕ
  pub ends : bytes ≡ front ++ 93 ∷ []

pub line-is : (l : FeedLine) → LineFits l → IsLine (line_text l)
line-is l fits =
    let ds = line_values l in
    let is : line_text l ≡ (91 ∷ inner false ds) ++ 93 ∷ [] = ap (λ b. 91 ∷ b) (inner-is false ds) in
    record {
      none = subst HasNone (sym is) (join (91 ∷ inner false ds) (93 ∷ []) (refl, inner-other false ds (flat-line l fits)) (refl, tt));
      front = 91 ∷ inner false ds;
      ends = is;
    }

-- ---- no carriage return is taken from it

last-is : (front : List ℕ) (b : ℕ) → slice_index (front ++ b ∷ []) (length front) ≡ b
last-is [] b = refl
last-is (x ∷ front) b = last-is front b

pub line-stays : (bytes : List ℕ) → IsLine bytes → strip_carriage_return bytes ≡ bytes
line-stays bytes line = subst (λ (l : List ℕ). strip_carriage_return l ≡ l) (sym line.ends) (by (line.front ++ 93 ∷ []) (length (line.front ++ 93 ∷ []) - 1) at)
  where
    at : slice_index (line.front ++ 93 ∷ []) (length (line.front ++ 93 ∷ []) - 1) ≡ 93
    at = let longer = length-append line.front (93 ∷ []) in let place : length (line.front ++ 93 ∷ []) - 1 ≡ length line.front = omega (arith, longer) in
        ap (slice_index (line.front ++ 93 ∷ [])) place ∙ last-is line.front 93

    by : (l : List ℕ) (place : ℕ) → slice_index l place ≡ 93 → cond (eqb (slice_index l place) 13) (take place l) l ≡ l
    by l place is = ap (λ (b : ℕ). cond (eqb b 13) (take place l) l) is

-- ---- cutting

split-line : (line rest : List ℕ) → HasNone line → slice_split is_newline (line ++ 10 ∷ rest) ≡ line ∷ slice_split is_newline rest
split-line [] rest none = refl
split-line (b ∷ line) rest none =
    let parts = slice_split is_newline (line ++ 10 ∷ rest) in
    ap (λ t. cond t ([] ∷ parts) (onto_first b parts)) none.0 ∙ ap (onto_first b) (split-line line rest none.1)

split-rest : (rest : List ℕ) → HasNone rest → slice_split is_newline rest ≡ rest ∷ []
split-rest [] none = refl
split-rest (b ∷ rest) none =
    let parts = slice_split is_newline rest in
    ap (λ t. cond t ([] ∷ parts) (onto_first b parts)) none.0 ∙ ap (onto_first b) (split-rest rest none.1)

-- there is a part at least
abbrev HasPart : List (List ℕ) → Type 0
HasPart parts = 1 ≤ length parts

onto-some : (b : ℕ) (parts : List (List ℕ)) → HasPart (onto_first b parts)
onto-some b [] = omega arith
onto-some b (p ∷ parts) = omega arith

split-some : (bytes : List ℕ) → HasPart (slice_split is_newline bytes)
split-some [] = omega arith
split-some (b ∷ bytes) = elim (is_newline b) as (λ t. HasPart (cond t ([] ∷ slice_split is_newline bytes) (onto_first b (slice_split is_newline bytes)))) [
  | true ↦ omega arith
  | false ↦ onto-some b (slice_split is_newline bytes)
]

-- the lines of parts, of which the last has no newline behind it
abbrev of_parts : List (List ℕ) → List (List ℕ)
of_parts parts = map strip_carriage_return (take (length parts - 1) parts)

one-more : (line : List ℕ) (parts : List (List ℕ)) → HasPart parts → of_parts (line ∷ parts) ≡ strip_carriage_return line ∷ of_parts parts
one-more line [] some = absurd (omega (arith, some))
one-more line (p ∷ parts) some =
    let longer : length (line ∷ p ∷ parts) - 1 ≡ suc (length parts) = omega arith in
    let long : length parts ≡ length (p ∷ parts) - 1 = omega arith in
    ap (λ n. map strip_carriage_return (take n (line ∷ p ∷ parts))) longer ∙ ap (λ n. strip_carriage_return line ∷ map strip_carriage_return (take n (p ∷ parts))) long

lines-more : (line rest : List ℕ) → IsLine line → lines_in (line ++ 10 ∷ rest) ≡ line ∷ lines_in rest
lines-more line rest is =
    ap of_parts (split-line line rest is.none)
    ∙ (one-more line (slice_split is_newline rest) (split-some rest) ∙ ap (λ l. l ∷ lines_in rest) (line-stays line is))

lines-none : (rest : List ℕ) → HasNone rest → lines_in rest ≡ []
lines-none rest none = ap of_parts (split-rest rest none)

-- ---- lines

bytes-more : (line : List ℕ) (lines : List (List ℕ)) → bytes_of_lines (line ∷ lines) ≡ line ++ 10 ∷ bytes_of_lines lines
bytes-more line lines = append_assoc line (10 ∷ []) (bytes_of_lines lines)

pub lines-back : (lines : List (List ℕ)) → AllByRecursion IsLine lines → lines_in (bytes_of_lines lines) ≡ lines
lines-back [] all = refl
lines-back (line ∷ lines) all = ap lines_in (bytes-more line lines) ∙ (lines-more line (bytes_of_lines lines) all.0 ∙ ap (λ l. line ∷ l) (lines-back lines all.1))

none-take : (bytes : List ℕ) (n : ℕ) → HasNone bytes → HasNone (take n bytes)
none-take bytes zero none = tt
none-take [] (suc n) none = tt
none-take (b ∷ bytes) (suc n) none = (none.0, none-take bytes n none.1)

abbrev IsCut : List (List ℕ) → ℕ → Type 0
IsCut lines n = (count : ℕ) × (lines_in (take n (bytes_of_lines lines)) ≡ take count lines)

pub lines-cut : (lines : List (List ℕ)) (n : ℕ) → AllByRecursion IsLine lines → IsCut lines n
lines-cut [] zero all = (0, refl)
lines-cut [] (suc n) all = (0, refl)
lines-cut (line ∷ lines) n all = elim (cases_Bool (leb n (length line))) [
  | inl within ↦ (
    0,
    ap (λ b. lines_in (take n b)) (bytes-more line lines)
        ∙ (ap lines_in (take-append-le n line (10 ∷ bytes_of_lines lines) (leb-true n (length line) within)) ∙ lines-none (take n line) (none-take line n all.0.none)),
  )
  | inr past ↦
      let more = leb-false n (length line) past in
      let left = n - length line - 1 in
      let is : n ≡ length line + suc left = omega (arith, more) in
      let later = lines-cut lines left all.1 in (
        suc later.0,
        ap (λ m. lines_in (take m (bytes_of_lines (line ∷ lines)))) is
            ∙ (ap (λ b. lines_in (take (length line + suc left) b)) (bytes-more line lines)
            ∙ (ap lines_in (take-append-add line (10 ∷ bytes_of_lines lines) (suc left))
            ∙ (lines-more line (take left (bytes_of_lines lines)) all.0 ∙ ap (λ l. line ∷ l) later.1))),
      )
]

pub texts-are : (lines : List FeedLine) → AllByRecursion LineFits lines → AllByRecursion IsLine (map line_text lines)
texts-are [] all = tt
texts-are (l ∷ lines) all = (line-is l all.0, texts-are lines all.1)
