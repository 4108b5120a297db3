-- Lists of runs that aren't written where all of the text is plain.
use Rattle.std.proofs.Common.{◌≡◌, ℕ, zero, suc, ◌-◌, ◌==◌, true, false, List, [], ◌∷◌, ◌++◌, length, take, drop, refl, sym, ap, ◌∙◌, subst, arith, length-drop}
use Rattle.std.proofs.lemmas.Bool.Decides.{nat_tests}
use Rattle.std.proofs.lemmas.List.{append-nil, nil_from_length, take_all}
use Rattle.std.proofs.lemmas.Str.{IsUtf8-append}
use Rattle.std.specs.List.{list_any}
use Rattle.std.specs.Str.{IsCharBoundary, IsUtf8}
use Rattle.wk_text_rules.specs.Marked.{MarkedByte}
use Rattle.wk_out.specs.declared.run.Run.{Run}
use Rattle.wk_out.specs.Kept.{cut, Covers, IsKept, listed}
use Rattle.wk_out.specs.Runs.{joined, marked}
use Rattle.wk_out.proofs.RunLaws.{EndsWith, IsKept-front, boundary-first, boundary-last, marked-append, utf8-text}

-- a list that covers the text is written
pub listed-covers : (text : List ℕ) (runs : List Run) → Covers text runs → listed (length text) runs ≡ runs
listed-covers text (run ∷ runs) h = refl
listed-covers [] [] h = refl
listed-covers (b ∷ text) [] h = absurd (omega (arith, h))

pub listed-twice : (n : ℕ) (runs : List Run) → listed n (listed n runs) ≡ listed n runs
listed-twice n (run ∷ runs) = refl
listed-twice zero [] = refl
listed-twice (suc n) [] = refl

pub listed-sealed : (n : ℕ) (runs : List Run) → list_any (λ run. run.sealed) (listed n runs) ≡ list_any (λ run. run.sealed) runs
listed-sealed n (run ∷ runs) = refl
listed-sealed zero [] = refl
listed-sealed (suc n) [] = refl

joined-plain : (text : List ℕ) → joined (cut text (listed (length text) [])) ≡ marked false text
joined-plain [] = refl
joined-plain (b ∷ text) =
    append-nil (marked false (take (suc (length text)) (b ∷ text)))
    ∙ ap (marked false) (take_all (suc (length text)) (b ∷ text) (omega arith))

-- a text that is plain
pub IsKept-plain : (text : List ℕ) → IsUtf8 text → IsKept text (listed (length text) [])
IsKept-plain [] utf8 = record { covers = refl; maximal = tt; utf8 = tt }
IsKept-plain (b ∷ text) utf8 =
    let all : take (suc (length text)) (b ∷ text) ≡ b ∷ text = take_all (suc (length text)) (b ∷ text) (omega arith) in
    record {
      covers = (omega arith, omega (arith, length-drop (suc (length text)) (b ∷ text)));
      maximal = (omega (arith, ap length all), tt, tt);
      utf8 = (subst IsUtf8 (sym all) utf8, tt);
    }

-- plain texts, one behind the other
pub IsKept-plain_more : (text more whole : List ℕ) (runs others : List Run) → whole ≡ text ++ more → length runs ≡ 0 → length others ≡ 0 →
    IsKept text (listed (length text) runs) → IsKept more (listed (length more) others) → IsKept whole (listed (length whole) runs)
IsKept-plain_more text more whole runs others e f g k m =
    let one : IsUtf8 text = utf8-text text (listed (length text) runs) k.covers k.utf8 in
    let two : IsUtf8 more = utf8-text more (listed (length more) others) m.covers m.utf8 in
    rw (e, nil_from_length runs f) (IsKept-plain (text ++ more) (IsUtf8-append text more one two))

pub joined-plain_more : (text more whole : List ℕ) (runs others : List Run) (out added : List MarkedByte) → whole ≡ text ++ more → length runs ≡ 0 → length others ≡ 0 →
    joined (cut text (listed (length text) runs)) ≡ out → joined (cut more (listed (length more) others)) ≡ added →
    joined (cut whole (listed (length whole) runs)) ≡ out ++ added
joined-plain_more text more whole runs others out added e f g h i =
    rw (e, ← h, ← i, nil_from_length runs f, nil_from_length others g)
    (joined-plain (text ++ more) ∙ marked-append false text more ∙ sym (ap (λ (xs : List MarkedByte). xs ++ marked false more) (joined-plain text))
    ∙ sym (ap (λ (xs : List MarkedByte). joined (cut text (listed (length text) [])) ++ xs) (joined-plain more)))

-- ---- lists that are written

-- a list with a run is written
pub listed-some : (n : ℕ) (all runs : List Run) (run : Run) → all ≡ run ∷ runs → listed n all ≡ run ∷ runs
listed-some n all runs run e = ap (listed n) e

listed-last : (n : ℕ) (runs : List Run) (last : Run) → listed n (runs ++ last ∷ []) ≡ runs ++ last ∷ []
listed-last n [] last = refl
listed-last n (run ∷ runs) last = refl

pub listed-ends : (n : ℕ) (all runs : List Run) (last : Run) → all ≡ runs ++ last ∷ [] → listed n all ≡ runs ++ last ∷ []
listed-ends n all runs last e = ap (listed n) e ∙ listed-last n runs last

pub boundary-first_listed : (text : List ℕ) (all : List Run) (run : Run) (runs : List Run) → IsKept text (listed (length text) all) → all ≡ run ∷ runs → IsCharBoundary text run.len
boundary-first_listed text all run runs kept e = boundary-first text (listed (length text) all) run runs kept (listed-some (length text) all runs run e)

pub boundary-last_listed : (text : List ℕ) (all runs : List Run) (last : Run) → IsKept text (listed (length text) all) → all ≡ runs ++ last ∷ [] → IsCharBoundary text (length text - last.len)
boundary-last_listed text all runs last kept e = boundary-last text (listed (length text) all) runs last kept (listed-ends (length text) all runs last e)

pub IsKept-front_listed : (text : List ℕ) (all runs : List Run) (last : Run) → IsKept text (listed (length text) all) → all ≡ runs ++ last ∷ [] →
    EndsWith text runs last × IsKept (take (length text - last.len) text) runs × IsUtf8 (drop (length text - last.len) text)
IsKept-front_listed text all runs last kept e = IsKept-front text (listed (length text) all) runs last kept (listed-ends (length text) all runs last e)

-- a text whose list covers it is kept by the list as it is written
pub IsKept-listed : (text : List ℕ) (runs : List Run) → IsKept text runs → IsKept text (listed (length text) runs)
IsKept-listed text runs kept = subst (IsKept text) (sym (listed-covers text runs kept.covers)) kept

pub cut-listed : (text : List ℕ) (runs : List Run) → Covers text runs → cut text (listed (length text) runs) ≡ cut text runs
cut-listed text runs h = ap (cut text) (listed-covers text runs h)

-- the runs behind the first
pub IsKept-rest : (text : List ℕ) (all : List Run) (run : Run) (runs : List Run) → IsKept text (listed (length text) all) → all ≡ run ∷ runs →
    IsKept (drop run.len text) (listed (length (drop run.len text)) runs)
IsKept-rest text all run runs kept e =
    let k : IsKept text (run ∷ runs) = subst (IsKept text) (listed-some (length text) all runs run e) kept in
    IsKept-listed (drop run.len text) runs record { covers = k.covers.1; maximal = k.maximal.2; utf8 = k.utf8.1 }

pub cut-rest : (text : List ℕ) (all : List Run) (run : Run) (runs : List Run) → IsKept text (listed (length text) all) → all ≡ run ∷ runs →
    cut text (listed (length text) all) ≡ (take run.len text, run.sealed) ∷ cut (drop run.len text) (listed (length (drop run.len text)) runs)
cut-rest text all run runs kept e =
    let k : IsKept text (run ∷ runs) = subst (IsKept text) (listed-some (length text) all runs run e) kept in
    ap (cut text) (listed-some (length text) all runs run e)
    ∙ ap (λ rs. (take run.len text, run.sealed) ∷ rs) (sym (cut-listed (drop run.len text) runs k.covers.1))

-- the runs before the last
pub IsKept-others : (text : List ℕ) (all runs : List Run) (last : Run) → IsKept text (listed (length text) all) → all ≡ runs ++ last ∷ [] →
    IsKept (take (length text - last.len) text) (listed (length (take (length text - last.len) text)) runs)
IsKept-others text all runs last kept e =
    IsKept-listed (take (length text - last.len) text) runs (IsKept-front_listed text all runs last kept e).1

pub cut-others : (text : List ℕ) (all runs : List Run) (last : Run) → IsKept text (listed (length text) all) → all ≡ runs ++ last ∷ [] →
    cut text (listed (length text) all)
    ≡ cut (take (length text - last.len) text) (listed (length (take (length text - last.len) text)) runs) ++ (drop (length text - last.len) text, last.sealed) ∷ []
cut-others text all runs last kept e =
    let front = IsKept-front_listed text all runs last kept e in
    ap (cut text) (listed-ends (length text) all runs last e)
    ∙ front.0.is
    ∙ ap (λ rs. rs ++ (drop (length text - last.len) text, last.sealed) ∷ []) (sym (cut-listed (take (length text - last.len) text) runs front.0.covers))

pub none_of : (n : ℕ) → (n == 0) ≡ true → n ≡ 0
none_of n e = grind (arith, nat_tests)
