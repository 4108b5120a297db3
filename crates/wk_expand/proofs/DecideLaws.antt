-- What a title part calls, and the rules of a template, case by case.
use Rattle.std.proofs.Common.{◌≡◌, ℕ, ◌+◌, ◌-◌, ◌<◌, ◌≤◌, get_or, ◌==◌, Bool, true, false, List, [], ◌∷◌, ◌++◌, length, drop, find, codes, Option, Some, None, option_map, if◌then◌else◌, refl, sym, ap, ap₂, subst, ◌∙◌, arith, inl, inr, eqb-true, pos}
use Rattle.std.specs.Bool.{nat_lt}
use Rattle.std.specs.Char.{eq_ignore_ascii_case, to_ascii_lowercase}
use Rattle.std.specs.List.{starts_with}
use Rattle.std.specs.Option.{option_and_then}
use Rattle.std.proofs.lemmas.Bool.{cases_Bool}
use Rattle.std.proofs.lemmas.List.{drop-append-le, drop-map, length-map}
use Rattle.std.proofs.lemmas.Str.Ascii.{lowercase_is}
use borrow.Author.Tests.{ltb-true, ltb-false}
use Rattle.wk_text_rules.specs.Marked.{MarkedByte, plain, all_plain, plain_text_of, trimmed_output, has_error, is_blank_output}
use Rattle.wk_text_rules.specs.Titles.{PageTitle, normal}
use Rattle.wk_tree_rules.specs.Tree.{Part}
use Rattle.wk_tree_rules.specs.Trees.{Item}
use Rattle.wk_view_rules.specs.Expand.{function_output, template_output, page_output, template_as_written, inclusion, new_search, operand, switch_output, tested_title, existence_output, is_alone}
use Rattle.wk_view_rules.specs.Expansions.{Expansion, Output, give}
use Rattle.wk_view_rules.specs.Frames.{Frame}
use Rattle.wk_view_rules.specs.Texts.{variable_text}
use Rattle.wk_view_rules.specs.Words.{functions, function_called, word, word_by}
use Rattle.wk_view_rules.specs.declared.Func.{Func}
use Rattle.wk_view_rules.specs.declared.Func.TheVariants.{If, IfExist, IfError, Switch}
use Rattle.wk_view_rules.specs.declared.Var.{Var}
use Rattle.wk_view_rules.specs.declared.Word.{Word}
use Rattle.wk_view_rules.specs.declared.Word.TheVariants.{Variable, Function, Page}
use Rattle.wk_view_laws.proofs.PlanLemmas.{both_parts}
use Rattle.wk_out.specs.Runs.{AreMaximal, joined, marked}
use Rattle.wk_func.specs.PlainStart.{plain_start}
use Rattle.wk_func.proofs.WordLaws.{function_called-start, plain_start-first}

-- ---- the place behind a function's colon

colon-ascii : (b : ℕ) → eq_ignore_ascii_case 58 b ≡ true → b < 128
colon-ascii b e = elim (cases_Bool (nat_lt b 128)) [
  | inl below ↦ ltb-true b 128 below
  | inr above ↦
      let high : 128 ≤ b = ltb-false b 128 above in
      let same : 58 ≡ to_ascii_lowercase b = eqb-true 58 (to_ascii_lowercase b) e in
      let stays : to_ascii_lowercase b ≡ b = (lowercase_is b).2 (omega arith) in
      absurd (omega arith)
]

-- a word and a colon at the front of a text
ends-at : (name text : List ℕ) → starts_with eq_ignore_ascii_case text (name ++ codes ":") ≡ true → (length name < length text) × (get_or text (length name) 0 < 128)
ends-at [] [] e = cc
ends-at [] (b ∷ text) e = (omega arith, colon-ascii b (both_parts (eq_ignore_ascii_case 58 b) (starts_with eq_ignore_ascii_case text []) e).0)
ends-at (c ∷ name) [] e = cc
ends-at (c ∷ name) (b ∷ text) e =
    let later = ends-at name text (both_parts (eq_ignore_ascii_case c b) (starts_with eq_ignore_ascii_case text (name ++ codes ":")) e).1 in
    (omega (arith, later.0), later.1)

mapped : {A B : Type 0} (f : A → B) (o : Option A) (y : B) → option_map f o ≡ Some y → (x : A) × (o ≡ Some x) × (f x ≡ y)
mapped f None y e = cc
mapped f (Some x) y e = let same : f x ≡ y = cc in (x, refl, same)

passes : {A : Type 0} (p : A → Bool) (xs : List A) (y : A) → find p xs ≡ Some y → p y ≡ true
passes p [] y e = cc
passes p (x ∷ xs) y e = elim (cases_Bool (p x)) [
  | inl here ↦ let first : Some x ≡ Some y = rw here at e in let same : x ≡ y = cc in subst (λ z. p z ≡ true) same here
  | inr further ↦ passes p xs y (rw further at e)
]

abbrev pub place_called : List MarkedByte → Option ℕ
place_called out = option_map (λ (called : Func × ℕ). called.1) (function_called out)

abbrev pub BehindByte : List ℕ → ℕ → Type 0
BehindByte text place = (n : ℕ) × (place ≡ n + 1) × (n < length text) × (get_or text n 0 < 128)

pub place-in : (out : List MarkedByte) (place : ℕ) → place_called out ≡ Some place → BehindByte (plain_start out) place
place-in out place e =
    let called = mapped (λ (called : Func × ℕ). called.1) (function_called out) place e in
    let entry = mapped (λ (entry : List ℕ × Func). (entry.1, length entry.0 + 1)) (find (λ (entry : List ℕ × Func). starts_with eq_ignore_ascii_case (plain_start out) (entry.0 ++ codes ":")) functions) called.0 (function_called-start out ∙ called.1) in
    let at = ends-at entry.0.0 (plain_start out) (passes (λ (entry : List ℕ × Func). starts_with eq_ignore_ascii_case (plain_start out) (entry.0 ++ codes ":")) functions entry.0 entry.1) in
    (length entry.0.0, sym (ap (λ (p : Func × ℕ). p.1) entry.2 ∙ called.2), at.0, at.1)

abbrev TextRun : Type 0
TextRun = List ℕ × Bool

in-run : (text : List ℕ) (is_sealed : Bool) (place : ℕ) → BehindByte (if is_sealed then [] else text) place → (is_sealed ≡ false) × BehindByte text place
in-run text true place h = absurd (omega (arith, h.2))
in-run text false place h = (refl, h)

first-run : (all runs : List TextRun) (run : TextRun) (out : List MarkedByte) (place : ℕ) → all ≡ run ∷ runs → joined all ≡ out → AreMaximal all → place_called out ≡ Some place → (run.1 ≡ false) × BehindByte run.0 place
first-run all runs run out place e is h called =
    in-run run.0 run.1 place (subst (λ (t : List ℕ). BehindByte t place) (plain_start-first all runs run out e is h) (place-in out place called))

pub colon-place : (all runs : List TextRun) (run : TextRun) (out : List MarkedByte) (place : ℕ) → all ≡ run ∷ runs → joined all ≡ out → AreMaximal all → place_called out ≡ Some place → (0 < place) × (place ≤ length run.0) × (get_or run.0 (place - 1) 0 < 128)
colon-place all runs run out place e is h called =
    let at = (first-run all runs run out place e is h called).1 in
    let before : at.0 ≡ place - 1 = omega (arith, at.1) in
    (omega (arith, at.1), omega (arith, at.1, at.2), subst (λ n. get_or run.0 n 0 < 128) before at.3)

drop-marked : (text : List ℕ) (is_sealed : Bool) (rest : List MarkedByte) (place : ℕ) → is_sealed ≡ false → place ≤ length text → drop place (marked is_sealed text ++ rest) ≡ all_plain (drop place text) ++ rest
drop-marked text true rest place e within = cc
drop-marked text false rest place e within =
    drop-append-le place (all_plain text) rest (omega (arith, length-map text plain)) ∙ ap (λ out. out ++ rest) (drop-map plain place text)

pub colon-rest : (all runs : List TextRun) (run : TextRun) (out : List MarkedByte) (place : ℕ) → all ≡ run ∷ runs → joined all ≡ out → AreMaximal all → place_called out ≡ Some place → all_plain (drop place run.0) ++ joined runs ≡ drop place out
colon-rest all runs run out place e is h called =
    let at = first-run all runs run out place e is h called in
    let within : place ≤ length run.0 = omega (arith, at.1.1, at.1.2) in
    sym (ap (drop place) (sym is ∙ ap joined e) ∙ drop-marked run.0 run.1 (joined runs) place at.0 within)

-- a title part with no run calls no function
pub colon-none : (all : List TextRun) (out : List MarkedByte) (place : ℕ) → all ≡ [] → joined all ≡ out → place_called out ≡ Some place → [] ≡ drop place out
colon-none all out place e is called =
    let at = place-in out place called in
    let none : plain_start out ≡ [] = ap plain_start (sym is ∙ ap joined e) in
    absurd (omega (arith, ap length none, at.2))

-- ---- words

pub word-place : (found : Option Var) (called : Option (Func × ℕ)) (func : Func) (place : ℕ) → word_by found called ≡ Function func place → option_map (λ (called : Func × ℕ). called.1) called ≡ Some place
word-place (Some variable) called func place e = cc
word-place None None func place e = cc
word-place None (Some called) func place e = let same : called.1 ≡ place = cc in ap Some same

pub alone-count : (parts : List Part) (n : ℕ) → length parts ≡ n → is_alone parts ≡ (n == 0)
alone-count [] n e = ap (λ k. k == 0) e
alone-count (part ∷ parts) n e = elim (cases_Bool (n == 0)) [
  | inl none ↦ let same : n ≡ 0 = eqb-true n 0 none in absurd (omega (arith, e))
  | inr some ↦ sym some
]

-- ---- the rules of a template

module _ (inner : Frame → List Item → Expansion Output) (viewed : PageTitle) (frame : Frame) where
  abbrev pub by_word : Output → List Part → Word → Expansion Output
  by_word name parts found = elim found [
    | Variable variable ↦ give (all_plain (variable_text viewed variable))
    | Function func place ↦ function_output inner viewed frame func (trimmed_output (drop place (trimmed_output name))) parts
    | Page ↦ page_output inner viewed frame name parts
  ]

  pub template-by : (name title : Output) (parts : List Part) (n : ℕ) (found : Word) → title ≡ trimmed_output name → length parts ≡ n → word title (n == 0) ≡ found → template_output inner viewed frame name parts ≡ by_word name parts found
  unfolding template_output
  template-by name title parts n found trimmed count e =
      ap (by_word name parts) (ap₂ word (sym trimmed) (alone-count parts n count) ∙ e)

  abbrev pub by_called : Output → List Part → Option PageTitle → Expansion Output
  by_called name parts found = elim found [
    | None ↦ template_as_written inner viewed frame name parts
    | Some title ↦ inclusion inner viewed frame title parts
  ]

  pub page-by : (name title : Output) (parts : List Part) (found : Option PageTitle) → title ≡ trimmed_output name → option_and_then (λ text. normal text (pos 10)) (plain_text_of title) ≡ found → page_output inner viewed frame name parts ≡ by_called name parts found
  unfolding page_output
  page-by name title parts found trimmed e =
      ap (by_called name parts) (ap (λ t. option_and_then (λ text. normal text (pos 10)) (plain_text_of t)) (sym trimmed) ∙ e)

  abbrev pub by_tested : List Part → Option PageTitle → Expansion Output
  by_tested parts found = elim found [
    | None ↦ operand inner viewed frame 3 parts
    | Some title ↦ existence_output inner viewed frame title parts
  ]

  pub exist-by : (first : Output) (parts : List Part) (found : Option PageTitle) → tested_title first ≡ found → function_output inner viewed frame IfExist first parts ≡ by_tested parts found
  unfolding function_output
  exist-by first parts found e = ap (by_tested parts) e

  pub if-blank : (first : Output) (parts : List Part) (blank : Bool) → is_blank_output first ≡ blank → function_output inner viewed frame If first parts ≡ operand inner viewed frame (if blank then 3 else 2) parts
  unfolding function_output
  if-blank first parts blank e = ap (λ b. operand inner viewed frame (if b then 3 else 2) parts) e

  pub switch-is : (first : Output) (parts : List Part) → function_output inner viewed frame Switch first parts ≡ switch_output inner viewed frame (new_search first) parts
  unfolding function_output
  switch-is first parts = refl

  pub error-shown : (first : Output) (parts : List Part) → has_error first ≡ true → function_output inner viewed frame IfError first parts ≡ operand inner viewed frame 2 parts
  unfolding function_output
  error-shown first parts shown = rw shown refl

  pub error-first : (first : Output) (parts : List Part) → has_error first ≡ false → nat_lt (length parts) 2 ≡ true → function_output inner viewed frame IfError first parts ≡ give first
  unfolding function_output
  error-first first parts none few = rw (none, few) refl

  pub error-third : (first : Output) (parts : List Part) → has_error first ≡ false → nat_lt (length parts) 2 ≡ false → function_output inner viewed frame IfError first parts ≡ operand inner viewed frame 3 parts
  unfolding function_output
  error-third first parts none more = rw (none, more) refl
