-- Outputs that are plain throughout, and those that are blank.
use Rattle.std.proofs.Common.{◌≡◌, ℕ, ◌<◌, Bool, true, false, not, ◌&&◌, ◌||◌, List, [], ◌∷◌, ◌++◌, length, take, drop, if◌then◌else◌, Some, None, refl, sym, ap, ◌∙◌, arith}
use Rattle.std.specs.List.{list_all, list_any}
use Rattle.wk_text_rules.specs.Blank.{is_blank, is_blank_byte}
use Rattle.wk_text_rules.specs.Marked.{MarkedByte, plain, sealed, is_plain, is_blank_output, plain_text_of, text_of}
use Rattle.wk_out.specs.declared.run.Run.{Run}
use Rattle.wk_out.specs.Kept.{cut, IsKept}
use Rattle.wk_out.specs.Runs.{AreMaximal, joined, marked}
use Rattle.wk_out.proofs.RunLaws.{text_of-cut}

all_plain-run : (sealed : Bool) (text : List ℕ) (rest : List MarkedByte) → 0 < length text → list_all is_plain (marked sealed text ++ rest) ≡ not sealed && list_all is_plain rest
all_plain-run true [] rest some = absurd (omega arith)
all_plain-run true (b ∷ text) rest some = refl
all_plain-run false text rest some = each text
  where
    each : (text : List ℕ) → list_all is_plain (marked false text ++ rest) ≡ list_all is_plain rest
    each [] = refl
    each (b ∷ text) = each text

not-or : (a b : Bool) → not (a || b) ≡ not a && not b
not-or true b = refl
not-or false b = refl

all_plain-cut : (text : List ℕ) (runs : List Run) → AreMaximal (cut text runs) → list_all is_plain (joined (cut text runs)) ≡ not (list_any (λ run. run.sealed) runs)
all_plain-cut text [] h = refl
all_plain-cut text (run ∷ runs) h =
    all_plain-run run.sealed (take run.len text) (joined (cut (drop run.len text) runs)) h.0
    ∙ ap (λ b. not run.sealed && b) (all_plain-cut (drop run.len text) runs h.2)
    ∙ sym (not-or run.sealed (list_any (λ run. run.sealed) runs))

pub plain_text-none : (text : List ℕ) (runs : List Run) (out : List MarkedByte) → IsKept text runs → joined (cut text runs) ≡ out →
    list_any (λ run. run.sealed) runs ≡ true → None ≡ plain_text_of out
plain_text-none text runs out kept e some =
    let all : list_all is_plain (joined (cut text runs)) ≡ false = all_plain-cut text runs kept.maximal ∙ ap not some in
    rw (← e, all) refl

pub plain_text-some : (text : List ℕ) (runs : List Run) (out : List MarkedByte) → IsKept text runs → joined (cut text runs) ≡ out →
    list_any (λ run. run.sealed) runs ≡ false → Some text ≡ plain_text_of out
plain_text-some text runs out kept e none =
    let all : list_all is_plain (joined (cut text runs)) ≡ true = all_plain-cut text runs kept.maximal ∙ ap not none in
    rw (← e, all) (ap Some (sym (text_of-cut text runs kept.covers)))

-- an output is blank where it is plain throughout and its text is blank
and-swap : (a b c : Bool) → a && (b && c) ≡ b && (a && c)
and-swap true true c = refl
and-swap true false c = refl
and-swap false true c = refl
and-swap false false c = refl

blank-parts : (out : List MarkedByte) → is_blank_output out ≡ list_all is_plain out && is_blank (text_of out)
blank-parts [] = refl
blank-parts (plain b ∷ out) =
    ap (λ t. is_blank_byte b && t) (blank-parts out) ∙ and-swap (is_blank_byte b) (list_all is_plain out) (is_blank (text_of out))
blank-parts (sealed b ∷ out) = refl

blank-some : (text whole : List ℕ) (test : Bool) → Some text ≡ (if test then Some whole else None) → test && is_blank whole ≡ is_blank text
blank-some text whole true e = ap is_blank (sym (the_same e))
  where
    the_same : {A : Type 0} {x y : A} → Some x ≡ Some y → x ≡ y
    the_same e = cc
blank-some text whole false e = cc

pub is_blank-some : (out : List MarkedByte) (text : List ℕ) → Some text ≡ plain_text_of out → is_blank text ≡ is_blank_output out
is_blank-some out text e = sym (blank-parts out ∙ blank-some text (text_of out) (list_all is_plain out) e)

blank-none : (whole : List ℕ) (test : Bool) → None ≡ (if test then Some whole else None) → test && is_blank whole ≡ false
blank-none whole true e = cc
blank-none whole false e = refl

pub is_blank-none : (out : List MarkedByte) → None ≡ plain_text_of out → false ≡ is_blank_output out
is_blank-none out e = sym (blank-parts out ∙ blank-none (text_of out) (list_all is_plain out) e)
