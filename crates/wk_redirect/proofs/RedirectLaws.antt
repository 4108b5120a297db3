-- Where the target of a redirect stands in a text, and its title.
use Rattle.std.proofs.Common.{◌≡◌, ℕ, ◌+◌, ◌-◌, ◌<◌, ◌≤◌, Bool, true, false, ◌&&◌, ◌==◌, List, [], ◌∷◌, length, get_or, map, take, drop, codes, Option, Some, None, option_and_then, refl, ap, ap₂, sym, subst, ◌∙◌, inl, inr, arith, if◌then◌else◌, take_all}
use Rattle.std.specs.Prelude.{is_some}
use Rattle.std.specs.Char.{eq_ignore_ascii_case, to_ascii_lowercase}
use Rattle.std.specs.List.{prefix_len, starts_with, take_while}
use Rattle.std.specs.Option.{IfSome, option_or}
use Rattle.std.specs.Str.{IsUtf8, IsCharBoundary}
use Rattle.std.proofs.lemmas.Bool.{cases_Bool, false≢true}
use Rattle.std.proofs.lemmas.Bool.Decides.{Decides-eqb}
use Rattle.std.proofs.lemmas.List.{drop-drop, get_or-drop, length-drop, length-take-le}
use Rattle.std.proofs.lemmas.List.Sums.{prefix_len-le-length}
use Rattle.std.proofs.lemmas.Str.{IsCharBoundary-before_ascii, IsCharBoundary-after_ascii}
use Rattle.wk_text_rules.specs.Blank.{is_blank_byte}
use Rattle.wk_text_rules.specs.Targets.{is_target_byte, page_named}
use Rattle.wk_text_rules.specs.Shapes.{Shape, exactly, in_any_case, run_of, word_by, ◌and_then◌, perhaps}
use Rattle.wk_tree_rules.specs.Redirects.{blanks, redirect_start, redirect_target, target_end}
use Rattle.wk_lex.proofs.NameLemmas.{name_at-ends, name_at-none}
use Rattle.wk_redirect.proofs.LabelLaws.{and_false, both, rest_at}
use Rattle.wk_redirect.specs.Targets.{closed_target, target_in}

-- ---- names

abbrev SameLetters : List ℕ → List ℕ → Type 0
SameLetters name part = map to_ascii_lowercase part ≡ map to_ascii_lowercase name

whole : (text : List ℕ) → take (length text - 0) text ≡ text
whole text = take_all (length text - 0) text (omega arith)

module _ (name text : List ℕ) (some : 0 < length name) where
  pub name_stands : length name ≤ length text → SameLetters name (take (length name) text) → Some (take (length text - length name) (drop (length name) text)) ≡ in_any_case name text
  name_stands room e =
      let same : SameLetters name (take (length name) (take (length text - 0) text)) = ap (λ t. map to_ascii_lowercase (take (length name) t)) (whole text) ∙ e in
      let room_too : length name ≤ length (take (length text - 0) text) = omega (arith, ap length (whole text)) in
      let stands = name_at-ends name text 0 some room_too (omega arith) same in
      ap Some (take_all (length text - length name) (drop (length name) text) (omega (arith, length-drop (length name) text)))
      ∙ ap (λ n. Some (drop n text)) (let same_size : length name ≡ 0 + length name = omega arith in same_size) ∙ sym stands.fits

  pub name_differs : (SameLetters name (take (length name) text) → ⊥) → None ≡ in_any_case name text
  name_differs differs =
      let differs_too = name_at-none name text 0 some (λ e. differs (sym (ap (λ t. map to_ascii_lowercase (take (length name) t)) (whole text)) ∙ e)) in
      sym differs_too.fits

-- ---- where the target stands

-- what is left of a text
abbrev IsLeftOf : List ℕ → List ℕ → Type 0
IsLeftOf text rest = (n : ℕ) × (rest ≡ drop n text)

-- a shape leaves a part of a text
abbrev Leaves : Shape ℕ → Type 0
Leaves shape = (text : List ℕ) → IfSome (shape text) (IsLeftOf text)

run_of-leaves : (test : ℕ → Bool) → Leaves (run_of test)
run_of-leaves test text = (prefix_len test text, refl)

word_by-leaves : (same : ℕ → ℕ → Bool) (word : List ℕ) → Leaves (word_by same word)
word_by-leaves same word text =
    elim (starts_with same text word) as (λ (t : Bool). IfSome (if t then Some (drop (length word) text) else None) (IsLeftOf text)) [
      | true ↦ (length word, refl)
      | false ↦ tt
    ]

left_or_all : (text : List ℕ) (o : Option (List ℕ)) → IfSome o (IsLeftOf text) → IfSome (option_or o (Some text)) (IsLeftOf text)
left_or_all text None h = (0, refl)
left_or_all text (Some rest) h = h

perhaps-leaves : (shape : Shape ℕ) → Leaves shape → Leaves (perhaps shape)
perhaps-leaves shape leaves text = left_or_all text (shape text) (leaves text)

-- two opening brackets stand before what is left
abbrev pub IsBehindBrackets : List ℕ → List ℕ → Type 0
IsBehindBrackets text rest = (n : ℕ) × (drop n text ≡ 91 ∷ 91 ∷ rest)

abbrev EndsInBrackets : Shape ℕ → Type 0
EndsInBrackets shape = (text : List ℕ) → IfSome (shape text) (IsBehindBrackets text)

brackets_behind : (shape : Shape ℕ) (text : List ℕ) (o : Option (List ℕ)) → EndsInBrackets shape → IfSome o (IsLeftOf text) → IfSome (option_and_then shape o) (IsBehindBrackets text)
brackets_behind shape text None brackets h = tt
brackets_behind shape text (Some rest) brackets h = further (shape rest) (brackets rest)
  where
    further : (o : Option (List ℕ)) → IfSome o (IsBehindBrackets rest) → IfSome o (IsBehindBrackets text)
    further None k = tt
    further (Some inside) k = (h.0 + k.0, sym (drop-drop k.0 h.0 text) ∙ ap (drop k.0) (sym h.1) ∙ k.1)

and_then-brackets : (first second : Shape ℕ) → Leaves first → EndsInBrackets second → EndsInBrackets (first and_then second)
and_then-brackets first second leaves brackets text = brackets_behind second text (first text) brackets (leaves text)

brackets-end : EndsInBrackets (exactly (codes "[["))
brackets-end [] = tt
brackets-end (x ∷ []) = subst (λ (t : Bool). IfSome (if t then Some [] else None) (IsBehindBrackets (x ∷ []))) (sym (and_false (91 == x))) tt
brackets-end (x ∷ y ∷ rest) = elim (cases_Bool (91 == x && (91 == y && true))) [
  | inl here ↦
      subst (λ (t : Bool). IfSome (if t then Some rest else None) (IsBehindBrackets (x ∷ y ∷ rest))) (sym here)
      (0, ap₂ (λ a b. a ∷ b ∷ rest) (sym ((Decides-eqb 91 x).0 (both (91 == x) (91 == y) here).0)) (sym ((Decides-eqb 91 y).0 (both (91 == x) (91 == y) here).1)))
  | inr other ↦ subst (λ (t : Bool). IfSome (if t then Some rest else None) (IsBehindBrackets (x ∷ y ∷ rest))) (sym other) tt
]

start-ends : EndsInBrackets redirect_start
start-ends =
    and_then-brackets blanks _ (run_of-leaves is_blank_byte)
    (and_then-brackets (in_any_case (codes "#redirect")) _ (word_by-leaves eq_ignore_ascii_case (codes "#redirect"))
    (and_then-brackets blanks _ (run_of-leaves is_blank_byte)
    (and_then-brackets (perhaps (exactly (codes ":"))) _ (perhaps-leaves (exactly (codes ":")) (word_by-leaves (λ a b. a == b) (codes ":")))
    (and_then-brackets blanks (exactly (codes "[[")) (run_of-leaves is_blank_byte) brackets-end))))

-- where what stands behind the opening brackets begins
pub record IsInside (text inside : List ℕ) : Type 0 where
  pub shorter : length inside ≤ length text
  pub is : drop (length text - length inside) text ≡ inside
  pub start : IsUtf8 text → IsCharBoundary text (length text - length inside)

inside_behind : (text inside : List ℕ) → IsBehindBrackets text inside → IsInside text inside
inside_behind text inside (n, e) =
    let size : n + 2 + length inside ≡ length text = omega (arith, ap length e, length-drop n text) in
    let place : length text - length inside ≡ n + 2 = omega arith in
    let last : length text - length inside ≡ n + 1 + 1 = omega arith in
    let bracket : get_or text (n + 1) 0 ≡ 91 = sym (get_or-drop n text 1 0) ∙ ap (λ xs. get_or xs 1 0) e in
    record {
      shorter = omega arith;
      is = ap (λ k. drop k text) place ∙ sym (drop-drop 2 n text) ∙ ap (drop 2) e;
      start = λ utf8. subst (IsCharBoundary text) (sym last) (IsCharBoundary-after_ascii text (n + 1) utf8 (omega arith) (omega arith));
    }

pub inside_start : (text inside : List ℕ) → Some inside ≡ redirect_start text → IsInside text inside
inside_start text inside e = inside_behind text inside (subst (λ o. IfSome o (IsBehindBrackets text)) (sym e) (start-ends text))

-- the end of a target begins with a bracket or a bar
end_byte : (x : ℕ) (xs : List ℕ) → is_some (target_end (x ∷ xs)) ≡ true → x < 128
end_byte x xs h = elim (cases_Bool (93 == x)) [
  | inl bracket ↦ omega (arith, (Decides-eqb 93 x).0 bracket)
  | inr other ↦ elim (cases_Bool (124 == x)) [
    | inl bar ↦ omega (arith, (Decides-eqb 124 x).0 bar)
    | inr no_end ↦ absurd (false≢true (rw (other, no_end) at h))
  ]
]

end_first : (xs : List ℕ) → is_some (target_end xs) ≡ true → (0 < length xs) × (get_or xs 0 0 < 128)
end_first [] h = absurd (false≢true h)
end_first (x ∷ xs) h = (omega arith, end_byte x xs h)

-- what is read behind the target
abbrev pub rest_behind : List ℕ → ℕ → List ℕ
rest_behind inside len = take (length inside - len) (drop len inside)

module _ (text inside : List ℕ) (len : ℕ) (begins : Some inside ≡ redirect_start text) (ends : is_some (target_end (rest_behind inside len)) ≡ true) where
  ends_here : is_some (target_end (drop len inside)) ≡ true
  ends_here = ap (λ xs. is_some (target_end xs)) (sym (rest_at inside len)) ∙ ends

  pub target_end_boundary : IsCharBoundary text (length text - length inside + len)
  target_end_boundary =
      let start = length text - length inside in
      let found = inside_start text inside begins in
      let first = end_first (drop len inside) ends_here in
      let byte : get_or text (start + len) 0 ≡ get_or (drop len inside) 0 0 =
      sym (get_or-drop start text len 0) ∙ ap (λ xs. get_or xs len 0) found.is ∙ ap (λ k. get_or inside k 0) (let same : len ≡ len + 0 = omega arith in same) ∙ sym (get_or-drop len inside 0 0) in
      IsCharBoundary-before_ascii text (start + len) (omega (arith, length-drop len inside, found.shorter)) (omega (arith, byte))

  pub target_found : len ≡ prefix_len is_target_byte inside → Some (take (length text - length inside + len - (length text - length inside)) (drop (length text - length inside) text)) ≡ target_in text
  target_found e =
      let start = length text - length inside in
      let found = inside_start text inside begins in
      let size : start + len - start ≡ prefix_len is_target_byte inside = omega arith in
      let target = take_while is_target_byte inside in
      let whole_target : len ≡ length target = e ∙ sym (length-take-le (prefix_len is_target_byte inside) inside (prefix_len-le-length is_target_byte inside)) in
      let closed : is_some (target_end (drop (length target) inside)) ≡ true = ap (λ k. is_some (target_end (drop k inside))) (sym whole_target) ∙ ends_here in
      ap (λ xs. Some (take (start + len - start) xs)) found.is
      ∙ ap (λ k. Some (take k inside)) size
      ∙ sym (ap (λ (t : Bool). if t then Some target else None) closed)
      ∙ ap (option_and_then closed_target) begins

-- ---- titles

titled : (inside : List ℕ) (ends : Bool) (target : List ℕ) → (if ends then page_named target else None) ≡ option_and_then page_named (if ends then Some target else None)
titled inside true target = refl
titled inside false target = refl

-- a text redirects to the title of its target
pub page_namedd : (text : List ℕ) → redirect_target text ≡ option_and_then page_named (target_in text)
unfolding redirect_target
page_namedd text =
    elim (redirect_start text) as (λ o. option_and_then (λ inside. let target = take_while is_target_byte inside in if is_some (target_end (drop (length target) inside)) then page_named target else None) o ≡ option_and_then page_named (option_and_then closed_target o)) [
      | None ↦ refl
      | Some inside ↦ let target = take_while is_target_byte inside in titled inside (is_some (target_end (drop (length target) inside))) target
    ]

pub no_target : (text : List ℕ) → None ≡ target_in text → None ≡ redirect_target text
no_target text e = sym (page_namedd text ∙ ap (option_and_then page_named) (sym e))

-- the page that the target names
pub target_named : (text target : List ℕ) → Some target ≡ target_in text → page_named target ≡ redirect_target text
target_named text target e = sym (page_namedd text ∙ ap (option_and_then page_named) (sym e))
