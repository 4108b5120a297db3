-- Where an output begins with a function's name.
use Rattle.std.proofs.Common.{◌≡◌, ℕ, ◌+◌, ◌<◌, Bool, true, false, ◌&&◌, List, [], ◌∷◌, ◌++◌, length, map, Option, None, Some, find, codes, option_map, bytes_eq, if◌then◌else◌, refl, sym, ap, ap₂, ◌∙◌, subst, arith}
use Rattle.std.specs.Char.{eq_ignore_ascii_case, to_ascii_lowercase}
use Rattle.std.specs.Cmp.Lexicographic.{pointwise}
use Rattle.std.specs.List.{list_all, starts_with}
use Rattle.wk_text_rules.specs.Marked.{MarkedByte, plain, sealed, all_plain, is_plain, plain_text_of, text_of}
use Rattle.wk_view_rules.specs.Words.{functions, function_called, same_plain_letter, variable_called, variables}
use Rattle.wk_view_rules.specs.declared.Func.{Func}
use Rattle.wk_view_rules.specs.declared.Var.{Var}
use Rattle.wk_out.specs.Runs.{AreMaximal, BeginsOtherwise, joined, marked}
use Rattle.wk_out.proofs.ErrorLaws.{NoPlainStart, no_plain_start}
use Rattle.wk_func.specs.PlainStart.{plain_start}

abbrev TextRun : Type 0
TextRun = List ℕ × Bool

-- ---- the plain bytes before the first sealed one

plain_start-none : (out : List MarkedByte) → NoPlainStart out → plain_start out ≡ []
plain_start-none [] h = refl
plain_start-none (plain b ∷ out) h = absurd h
plain_start-none (sealed b ∷ out) h = refl

plain_start-plain : (text : List ℕ) (rest : List MarkedByte) → NoPlainStart rest → plain_start (all_plain text ++ rest) ≡ text
plain_start-plain [] rest h = plain_start-none rest h
plain_start-plain (b ∷ text) rest h = ap (λ (t : List ℕ). b ∷ t) (plain_start-plain text rest h)

plain_start-run : (text : List ℕ) (runs : List TextRun) (is_sealed : Bool) → 0 < length text → BeginsOtherwise is_sealed runs → AreMaximal runs →
    plain_start (marked is_sealed text ++ joined runs) ≡ (if is_sealed then [] else text)
plain_start-run [] runs true some other h = absurd (omega arith)
plain_start-run (b ∷ text) runs true some other h = refl
plain_start-run text runs false some other h = plain_start-plain text (joined runs) (no_plain_start runs other h)

pub plain_start-first : (all runs : List TextRun) (run : TextRun) (out : List MarkedByte) → all ≡ run ∷ runs → joined all ≡ out → AreMaximal all →
    plain_start out ≡ (if run.1 then [] else run.0)
plain_start-first all runs run out e is h =
    let maximal : AreMaximal (run ∷ runs) = subst AreMaximal e h in
    ap plain_start (sym is)
    ∙ ap (λ rs. plain_start (joined rs)) e
    ∙ plain_start-run run.0 runs run.1 maximal.0 maximal.1 maximal.2

pub plain_start-all : (text : List ℕ) → plain_start (all_plain text) ≡ text
plain_start-all [] = refl
plain_start-all (b ∷ text) = ap (λ (t : List ℕ). b ∷ t) (plain_start-all text)

-- ---- a text that is plain throughout

all-plain : (text : List ℕ) → list_all is_plain (all_plain text) ≡ true
all-plain [] = refl
all-plain (b ∷ text) = all-plain text

without-marks : (text : List ℕ) → text_of (all_plain text) ≡ text
without-marks [] = refl
without-marks (b ∷ text) = ap (λ (t : List ℕ). b ∷ t) (without-marks text)

pub plain-text : (text : List ℕ) → plain_text_of (all_plain text) ≡ Some text
plain-text text = ap₂ (λ plainly t. if plainly then Some t else None) (all-plain text) (without-marks text)

abbrev by-name : Option (List ℕ) → Option Var
by-name found = elim found [
  | None ↦ None
  | Some name ↦ option_map (λ (entry : List ℕ × Var). entry.1) (find (λ (entry : List ℕ × Var). bytes_eq entry.0 name) variables)
]

pub variable_called-plain : (text : List ℕ) →
    option_map (λ (entry : List ℕ × Var). entry.1) (find (λ (entry : List ℕ × Var). bytes_eq entry.0 text) variables) ≡ variable_called (all_plain text)
variable_called-plain text = ap by-name (sym (plain-text text))

-- ---- a word at the front

starts-plainly : (word : List ℕ) (out : List MarkedByte) → starts_with same_plain_letter out (all_plain word) ≡ starts_with eq_ignore_ascii_case (plain_start out) word
starts-plainly [] out = refl
starts-plainly (c ∷ word) [] = refl
starts-plainly (c ∷ word) (plain b ∷ out) = ap (λ t. eq_ignore_ascii_case c b && t) (starts-plainly word out)
starts-plainly (c ∷ word) (sealed b ∷ out) = refl

find-same : {A : Type 0} (p q : A → Bool) (xs : List A) → ((x : A) → p x ≡ q x) → find p xs ≡ find q xs
find-same p q [] same = refl
find-same p q (x ∷ xs) same = rw (same x) (ap (λ later. if q x then Some x else later) (find-same p q xs same))

-- the function that an output calls, by its plain start
pub function_called-start : (out : List MarkedByte) →
    option_map (λ entry. (entry.1, length entry.0 + 1)) (find (λ entry. starts_with eq_ignore_ascii_case (plain_start out) (entry.0 ++ codes ":")) functions) ≡ function_called out
function_called-start out =
    ap (option_map (λ entry. (entry.1, length entry.0 + 1))) (find-same _ _ functions (λ entry. sym (starts-plainly (entry.0 ++ codes ":") out)))

pub same_letters : (a b : List ℕ) → bytes_eq (map to_ascii_lowercase a) (map to_ascii_lowercase b) ≡ pointwise eq_ignore_ascii_case a b
same_letters [] [] = refl
same_letters [] (b ∷ bs) = refl
same_letters (a ∷ as') [] = refl
same_letters (a ∷ as') (b ∷ bs) = ap (λ t. eq_ignore_ascii_case a b && t) (same_letters as' bs)

-- the function that a plain text calls
pub function_called-plain : (text : List ℕ) →
    option_map (λ entry. (entry.1, length entry.0 + 1)) (find (λ entry. starts_with eq_ignore_ascii_case text (entry.0 ++ codes ":")) functions) ≡ function_called (all_plain text)
function_called-plain text =
    ap (λ (t : List ℕ). option_map (λ (entry : List ℕ × Func). (entry.1, length entry.0 + 1)) (find (λ (entry : List ℕ × Func). starts_with eq_ignore_ascii_case t (entry.0 ++ codes ":")) functions)) (sym (plain_start-all text))
    ∙ function_called-start (all_plain text)
