-- Runs of outputs, and texts that are cut into them.
use Rattle.std.proofs.Common.{◌≡◌, ℕ, ◌+◌, ◌-◌, ◌<◌, ◌≤◌, ◌⊎◌, inl, inr, Bool, true, false, not, if◌then◌else◌, List, [], ◌∷◌, ◌++◌, length, take, drop, get_or, set, refl, sym, ap, ◌∙◌, subst, append_assoc, arith, length-append, length-drop}
use Rattle.std.proofs.lemmas.List.{nil_from_length, take-append-drop, take-append-le, drop-append-le, take-take, drop-drop, drop-take, length-take, take_all, map-append, length-map, append-nil, get_or_default, length-take-le}
use Rattle.std.proofs.lemmas.List.Elements.{All-nil, All-cons}
use Rattle.std.proofs.lemmas.Str.{IsUtf8-nil, IsUtf8-append, IsCharBoundary-from_drop}
use Rattle.std.specs.Bool.{beq}
use Rattle.std.specs.List.{All}
use Rattle.std.specs.Str.{IsUtf8, IsCharBoundary}
use Rattle.wk_text_rules.specs.Marked.{byte_of, text_of}
use Rattle.wk_out.specs.declared.run.Run.{Run}
use Rattle.wk_out.specs.Kept.{cut, Covers, IsKept, with_run, with_run_behind, with_runs}
use Rattle.wk_out.specs.Runs.{AreMaximal, AreTexts, BeginsOtherwise, joined, marked}

abbrev TextRun : Type 0
TextRun = List ℕ × Bool

-- the whole text is UTF-8
pub utf8-text : (text : List ℕ) (runs : List Run) → Covers text runs → AreTexts (cut text runs) → IsUtf8 text
utf8-text text [] h t = subst IsUtf8 (sym (nil_from_length text h)) IsUtf8-nil
utf8-text text (run ∷ runs) h t =
    subst IsUtf8 (take-append-drop run.len text)
    (IsUtf8-append (take run.len text) (drop run.len text) t.0 (utf8-text (drop run.len text) runs h.1 t.1))

-- a text may be cut where its first run ends
pub boundary-first : (text : List ℕ) (all : List Run) (run : Run) (runs : List Run) → IsKept text all → all ≡ run ∷ runs → IsCharBoundary text run.len
boundary-first text all run runs kept e =
    let k : IsKept text (run ∷ runs) = subst (IsKept text) e kept in
    IsCharBoundary-from_drop text run.len k.covers.0 (utf8-text (drop run.len text) runs k.covers.1 k.utf8.1)

-- ---- runs behind others

pub Covers-append : (text more : List ℕ) (runs others : List Run) → Covers text runs → Covers more others → Covers (text ++ more) (runs ++ others)
Covers-append text more [] others h m = subst (λ (t : List ℕ). Covers (t ++ more) others) (sym (nil_from_length text h)) m
Covers-append text more (run ∷ runs) others h m =
    (omega (arith, length-append text more, h.0), subst (λ (t : List ℕ). Covers t (runs ++ others)) (sym (drop-append-le run.len text more h.0)) (Covers-append (drop run.len text) more runs others h.1 m))

-- the first run stays, and what follows it changes
cut-first : (text more : List ℕ) (run : Run) (runs : List Run) → run.len ≤ length text →
    cut (text ++ more) (run ∷ runs) ≡ (take run.len text, run.sealed) ∷ cut (drop run.len text ++ more) runs
cut-first text more run runs h =
    ap (λ (t : List ℕ). (t, run.sealed) ∷ cut (drop run.len (text ++ more)) runs) (take-append-le run.len text more h)
    ∙ ap (λ (t : List ℕ). (take run.len text, run.sealed) ∷ cut t runs) (drop-append-le run.len text more h)

pub cut-append : (text more : List ℕ) (runs others : List Run) → Covers text runs → cut (text ++ more) (runs ++ others) ≡ cut text runs ++ cut more others
cut-append text more [] others h = ap (λ (t : List ℕ). cut (t ++ more) others) (nil_from_length text h)
cut-append text more (run ∷ runs) others h =
    cut-first text more run (runs ++ others) h.0
    ∙ ap (λ rs. (take run.len text, run.sealed) ∷ rs) (cut-append (drop run.len text) more runs others h.1)

-- a run of the other mark stands on its own
with_run_behind-other : (text : List ℕ) (run : Run) (runs : List Run) (new : TextRun) (d : Run) → beq (get_or (run ∷ runs) (length runs) d).sealed new.1 ≡ false →
    with_run_behind (take run.len text, run.sealed) (cut (drop run.len text) runs) new ≡ cut text (run ∷ runs) ++ new ∷ []
with_run_behind-other text run [] new d h = rw h refl
with_run_behind-other text run (next ∷ runs) new d h =
    ap (λ rs. (take run.len text, run.sealed) ∷ rs) (with_run_behind-other (drop run.len text) next runs new d h)

with_run-other : (text : List ℕ) (runs : List Run) (new : TextRun) (d : Run) (at : ℕ) → at ≡ length runs - 1 →
    (length runs ≡ 0) ⊎ (beq (get_or runs at d).sealed new.1 ≡ false) → with_run (cut text runs) new ≡ cut text runs ++ new ∷ []
with_run-other text [] new d at e h = refl
with_run-other text (run ∷ runs) new d at e (inl none) = absurd (omega arith)
with_run-other text (run ∷ runs) new d at e (inr other) =
    let place : at ≡ length runs = omega arith in
    with_run_behind-other text run runs new d (subst (λ (n : ℕ). beq (get_or (run ∷ runs) n d).sealed new.1 ≡ false) place other)

pub cut-pushed : (text more : List ℕ) (runs : List Run) (new read : Run) (at : ℕ) → Covers text runs → length more ≡ new.len → at ≡ length runs - 1 →
    (length runs ≡ 0) ⊎ ((read ≡ get_or runs at read) × (beq read.sealed new.sealed ≡ false)) → cut (text ++ more) (runs ++ new ∷ []) ≡ with_run (cut text runs) (more, new.sealed)
cut-pushed text more runs new read at covers whole e h =
    cut-append text more runs (new ∷ []) covers
    ∙ ap (λ (t : List ℕ). cut text runs ++ (t, new.sealed) ∷ []) (take_all new.len more (omega arith))
    ∙ sym (with_run-other text runs (more, new.sealed) read at e (other h))
  where
    other : (length runs ≡ 0) ⊎ ((read ≡ get_or runs at read) × (beq read.sealed new.sealed ≡ false)) → (length runs ≡ 0) ⊎ (beq (get_or runs at read).sealed new.sealed ≡ false)
    other (inl none) = inl none
    other (inr h) = inr (subst (λ (r : Run). beq r.sealed new.sealed ≡ false) h.0 h.1)

pub Covers-one : (text : List ℕ) (run : Run) → length text ≡ run.len → Covers text (run ∷ [])
Covers-one text run e = (omega arith, omega (arith, length-drop run.len text))

-- a run of the same mark lengthens the last one
cut-longer : (text more : List ℕ) (run : Run) (runs : List Run) (new longer d : Run) → Covers text (run ∷ runs) → length more ≡ new.len →
    beq (get_or (run ∷ runs) (length runs) d).sealed new.sealed ≡ true → longer.len ≡ (get_or (run ∷ runs) (length runs) d).len + new.len →
    longer.sealed ≡ (get_or (run ∷ runs) (length runs) d).sealed →
    cut (text ++ more) (set (run ∷ runs) (length runs) longer) ≡ with_run_behind (take run.len text, run.sealed) (cut (drop run.len text) runs) (more, new.sealed)
cut-longer text more run [] new longer d covers whole same len mark =
    let all : length (text ++ more) ≤ longer.len = omega (arith, covers.0, covers.1, length-append text more, length-drop run.len text) in
    let first : take run.len text ≡ text = take_all run.len text (omega (arith, covers.1, length-drop run.len text)) in
    rw (same, first, mark) (ap (λ (t : List ℕ). (t, run.sealed) ∷ []) (take_all longer.len (text ++ more) all))
cut-longer text more run (next ∷ runs) new longer d covers whole same len mark =
    cut-first text more run (set (next ∷ runs) (length runs) longer) covers.0
    ∙ ap (λ rs. (take run.len text, run.sealed) ∷ rs) (cut-longer (drop run.len text) more next runs new longer d covers.1 whole same len mark)

Covers-longer : (text more : List ℕ) (run : Run) (runs : List Run) (new longer d : Run) → Covers text (run ∷ runs) → length more ≡ new.len →
    longer.len ≡ (get_or (run ∷ runs) (length runs) d).len + new.len → Covers (text ++ more) (set (run ∷ runs) (length runs) longer)
Covers-longer text more run [] new longer d covers whole len =
    Covers-one (text ++ more) longer (omega (arith, covers.0, covers.1, length-append text more, length-drop run.len text))
Covers-longer text more run (next ∷ runs) new longer d covers whole len =
    (omega (arith, length-append text more, covers.0), subst (λ (t : List ℕ). Covers t (set (next ∷ runs) (length runs) longer)) (sym (drop-append-le run.len text more covers.0)) (Covers-longer (drop run.len text) more next runs new longer d covers.1 whole len))

-- what is known where the last run is read, and written with more bytes
pub record IsLonger (runs : List Run) (at : ℕ) (read last new : Run) : Type 0 where
  pub some : 0 < length runs
  pub place : at ≡ length runs - 1
  pub is_read : read ≡ get_or runs at read
  pub same : beq read.sealed new.sealed ≡ true
  pub is_last : last ≡ get_or runs at last

pub cut-set_longer : (text more : List ℕ) (runs : List Run) (at : ℕ) (read last new : Run) → IsLonger runs at read last new → Covers text runs → length more ≡ new.len →
    cut (text ++ more) (set runs at record { len = last.len + new.len; sealed = last.sealed }) ≡ with_run (cut text runs) (more, new.sealed)
cut-set_longer text more [] at read last new is covers whole = absurd (omega (arith, is.some))
cut-set_longer text more (run ∷ runs) at read last new is covers whole =
    let place : at ≡ length runs = omega (arith, is.place) in
    let known : last ≡ get_or (run ∷ runs) (length runs) last = subst (λ (n : ℕ). last ≡ get_or (run ∷ runs) n last) place is.is_last in
    let also : read ≡ get_or (run ∷ runs) (length runs) read = subst (λ (n : ℕ). read ≡ get_or (run ∷ runs) n read) place is.is_read in
    let inside : length runs < length (run ∷ runs) = omega arith in
    let one : read ≡ get_or (run ∷ runs) (length runs) last = also ∙ get_or_default (run ∷ runs) (length runs) read last inside in
    let longer : Run = record { len = last.len + new.len; sealed = last.sealed } in
    subst (λ (n : ℕ). cut (text ++ more) (set (run ∷ runs) n longer) ≡ with_run (cut text (run ∷ runs)) (more, new.sealed)) (sym place)
    (cut-longer text more run runs new longer last covers whole (subst (λ (r : Run). beq r.sealed new.sealed ≡ true) one is.same) (ap (λ (r : Run). r.len + new.len) known) (ap (λ (r : Run). r.sealed) known))

pub Covers-set_longer : (text more : List ℕ) (runs : List Run) (at : ℕ) (read last new : Run) → IsLonger runs at read last new → Covers text runs → length more ≡ new.len →
    Covers (text ++ more) (set runs at record { len = last.len + new.len; sealed = last.sealed })
Covers-set_longer text more [] at read last new is covers whole = absurd (omega (arith, is.some))
Covers-set_longer text more (run ∷ runs) at read last new is covers whole =
    let place : at ≡ length runs = omega (arith, is.place) in
    let known : last ≡ get_or (run ∷ runs) (length runs) last = subst (λ (n : ℕ). last ≡ get_or (run ∷ runs) n last) place is.is_last in
    let longer : Run = record { len = last.len + new.len; sealed = last.sealed } in
    subst (λ (n : ℕ). Covers (text ++ more) (set (run ∷ runs) n longer)) (sym place)
    (Covers-longer text more run runs new longer last covers whole (ap (λ (r : Run). r.len + new.len) known))

-- what taking one run ensures, at each text that the runs cover
abbrev pub TakesRun : List Run → Run → List Run → Type 0
TakesRun runs new after = (text more : List ℕ) → Covers text runs → length more ≡ new.len →
    cut (text ++ more) after ≡ with_run (cut text runs) (more, new.sealed)

abbrev pub StillCovers : List Run → Run → List Run → Type 0
StillCovers runs new after = (text more : List ℕ) → Covers text runs → length more ≡ new.len → Covers (text ++ more) after

regroup : (text more : List ℕ) (n : ℕ) → (text ++ take n more) ++ drop n more ≡ text ++ more
regroup text more n = append_assoc text (take n more) (drop n more) ∙ ap (λ (t : List ℕ). text ++ t) (take-append-drop n more)

pub cut-with_runs : (text more : List ℕ) (runs mid after all others : List Run) (first : Run) → all ≡ first ∷ others → after ≡ mid ++ others →
    TakesRun runs first mid → StillCovers runs first mid → Covers text runs → Covers more all →
    cut (text ++ more) after ≡ with_runs (cut text runs) (cut more all)
cut-with_runs text more runs mid after all others first e f takes still covers m =
    let new : Covers more (first ∷ others) = subst (λ (rs : List Run). Covers more rs) e m in
    let len : length (take first.len more) ≡ first.len = length-take-le first.len more new.0 in
    rw (e, f)
    (ap (λ (t : List ℕ). cut t (mid ++ others)) (sym (regroup text more first.len))
    ∙ cut-append (text ++ take first.len more) (drop first.len more) mid others (still text (take first.len more) covers len)
    ∙ ap (λ rs. rs ++ cut (drop first.len more) others) (takes text (take first.len more) covers len))

pub Covers-with_runs : (text more : List ℕ) (runs mid after all others : List Run) (first : Run) → all ≡ first ∷ others → after ≡ mid ++ others →
    StillCovers runs first mid → Covers text runs → Covers more all → Covers (text ++ more) after
Covers-with_runs text more runs mid after all others first e f still covers m =
    let new : Covers more (first ∷ others) = subst (λ (rs : List Run). Covers more rs) e m in
    let len : length (take first.len more) ≡ first.len = length-take-le first.len more new.0 in
    rw f
    (subst (λ (t : List ℕ). Covers t (mid ++ others)) (regroup text more first.len)
    (Covers-append (text ++ take first.len more) (drop first.len more) mid others (still text (take first.len more) covers len) new.1))

-- ---- outputs of runs

pub joined-append : (runs others : List TextRun) → joined (runs ++ others) ≡ joined runs ++ joined others
joined-append [] others = refl
joined-append (run ∷ runs) others =
    ap (λ out. marked run.1 run.0 ++ out) (joined-append runs others)
    ∙ sym (append_assoc (marked run.1 run.0) (joined runs) (joined others))

pub marked-append : (sealed : Bool) (text more : List ℕ) → marked sealed (text ++ more) ≡ marked sealed text ++ marked sealed more
marked-append true text more = map-append _ text more
marked-append false text more = map-append _ text more

text_of-marked : (sealed : Bool) (text : List ℕ) → text_of (marked sealed text) ≡ text
text_of-marked true [] = refl
text_of-marked true (b ∷ text) = ap (λ (t : List ℕ). b ∷ t) (text_of-marked true text)
text_of-marked false [] = refl
text_of-marked false (b ∷ text) = ap (λ (t : List ℕ). b ∷ t) (text_of-marked false text)

-- the text of an output, and its length
pub text_of-cut : (text : List ℕ) (runs : List Run) → Covers text runs → text_of (joined (cut text runs)) ≡ text
text_of-cut text [] h = sym (nil_from_length text h)
text_of-cut text (run ∷ runs) h =
    map-append byte_of (marked run.sealed (take run.len text)) (joined (cut (drop run.len text) runs))
    ∙ ap (λ (t : List ℕ). t ++ text_of (joined (cut (drop run.len text) runs))) (text_of-marked run.sealed (take run.len text))
    ∙ ap (λ (t : List ℕ). take run.len text ++ t) (text_of-cut (drop run.len text) runs h.1)
    ∙ take-append-drop run.len text

pub length-cut : (text : List ℕ) (runs : List Run) → Covers text runs → length (joined (cut text runs)) ≡ length text
length-cut text runs h = sym (length-map (joined (cut text runs)) byte_of) ∙ ap length (text_of-cut text runs h)

-- ---- runs that are maximal, with some more behind them

joined-two : (t u : List ℕ) (a b : Bool) → joined (with_run_behind (t, a) [] (u, b)) ≡ joined ((t, a) ∷ []) ++ marked b u
joined-two t u true true = simp (append-nil, marked-append) refl
joined-two t u true false = simp append-nil refl
joined-two t u false true = simp append-nil refl
joined-two t u false false = simp (append-nil, marked-append) refl

joined-behind : (run : TextRun) (runs : List TextRun) (new : TextRun) → joined (with_run_behind run runs new) ≡ joined (run ∷ runs) ++ marked new.1 new.0
joined-behind run [] new = joined-two run.0 new.0 run.1 new.1
joined-behind run (next ∷ runs) new =
    ap (λ out. marked run.1 run.0 ++ out) (joined-behind next runs new)
    ∙ sym (append_assoc (marked run.1 run.0) (joined (next ∷ runs)) (marked new.1 new.0))

joined-with_run : (runs : List TextRun) (new : TextRun) → joined (with_run runs new) ≡ joined runs ++ marked new.1 new.0
joined-with_run [] new = append-nil (marked new.1 new.0)
joined-with_run (run ∷ runs) new = joined-behind run runs new

pub joined-with_runs : (runs more : List TextRun) → joined (with_runs runs more) ≡ joined runs ++ joined more
joined-with_runs runs [] = sym (append-nil (joined runs))
joined-with_runs runs (new ∷ others) =
    joined-append (with_run runs new) others
    ∙ ap (λ out. out ++ joined others) (joined-with_run runs new)
    ∙ append_assoc (joined runs) (marked new.1 new.0) (joined others)

-- the first run keeps its mark
begins-two : (b : Bool) (run new : TextRun) (longer : List ℕ) (others : List TextRun) (test : Bool) → run.1 ≡ not b →
    BeginsOtherwise b ((if test then (longer, run.1) ∷ [] else run ∷ new ∷ []) ++ others)
begins-two b run new longer others true e = e
begins-two b run new longer others false e = e

begins-behind : (b : Bool) (run : TextRun) (runs : List TextRun) (new : TextRun) (others : List TextRun) → run.1 ≡ not b →
    BeginsOtherwise b (with_run_behind run runs new ++ others)
begins-behind b run [] new others e = begins-two b run new (run.0 ++ new.0) others (beq run.1 new.1) e
begins-behind b run (next ∷ runs) new others e = e

maximal-two : (t u : List ℕ) (a b : Bool) (others : List TextRun) → 0 < length t → AreMaximal ((u, b) ∷ others) → AreMaximal (with_run_behind (t, a) [] (u, b) ++ others)
maximal-two t u true true others some h = (omega (arith, length-append t u), h.1, h.2)
maximal-two t u true false others some h = (some, refl, h)
maximal-two t u false true others some h = (some, refl, h)
maximal-two t u false false others some h = (omega (arith, length-append t u), h.1, h.2)

maximal-behind : (run : TextRun) (runs : List TextRun) (new : TextRun) (others : List TextRun) → AreMaximal (run ∷ runs) → AreMaximal (new ∷ others) →
    AreMaximal (with_run_behind run runs new ++ others)
maximal-behind run [] new others h m = maximal-two run.0 new.0 run.1 new.1 others h.0 m
maximal-behind run (next ∷ runs) new others h m =
    (h.0, begins-behind run.1 next runs new others h.1, maximal-behind next runs new others h.2 m)

pub maximal-with_runs : (runs more : List TextRun) → AreMaximal runs → AreMaximal more → AreMaximal (with_runs runs more)
maximal-with_runs runs [] h m = h
maximal-with_runs [] (new ∷ others) h m = m
maximal-with_runs (run ∷ runs) (new ∷ others) h m = maximal-behind run runs new others h m

texts-two : (t u : List ℕ) (a b : Bool) (others : List TextRun) → IsUtf8 t → AreTexts ((u, b) ∷ others) → AreTexts (with_run_behind (t, a) [] (u, b) ++ others)
texts-two t u true true others h m = (IsUtf8-append t u h m.0, m.1)
texts-two t u true false others h m = (h, m)
texts-two t u false true others h m = (h, m)
texts-two t u false false others h m = (IsUtf8-append t u h m.0, m.1)

texts-behind : (run : TextRun) (runs : List TextRun) (new : TextRun) (others : List TextRun) → AreTexts (run ∷ runs) → AreTexts (new ∷ others) →
    AreTexts (with_run_behind run runs new ++ others)
texts-behind run [] new others h m = texts-two run.0 new.0 run.1 new.1 others h.0 m
texts-behind run (next ∷ runs) new others h m = (h.0, texts-behind next runs new others h.1 m)

pub texts-with_runs : (runs more : List TextRun) → AreTexts runs → AreTexts more → AreTexts (with_runs runs more)
texts-with_runs runs [] h m = h
texts-with_runs [] (new ∷ others) h m = m
texts-with_runs (run ∷ runs) (new ∷ others) h m = texts-behind run runs new others h m

-- a text and its runs, with more behind them
pub IsKept-with_runs : (text more whole : List ℕ) (runs others after : List Run) → IsKept text runs → IsKept more others → whole ≡ text ++ more →
    Covers (text ++ more) after → cut (text ++ more) after ≡ with_runs (cut text runs) (cut more others) → IsKept whole after
IsKept-with_runs text more whole runs others after k m e covers is =
    rw e
    (record {
      covers = covers;
      maximal = subst AreMaximal (sym is) (maximal-with_runs (cut text runs) (cut more others) k.maximal m.maximal);
      utf8 = subst AreTexts (sym is) (texts-with_runs (cut text runs) (cut more others) k.utf8 m.utf8);
    })

pub joined-more : (text more whole : List ℕ) (runs others after : List Run) → whole ≡ text ++ more →
    cut (text ++ more) after ≡ with_runs (cut text runs) (cut more others) → joined (cut whole after) ≡ joined (cut text runs) ++ joined (cut more others)
joined-more text more whole runs others after e is =
    rw e (ap joined is ∙ joined-with_runs (cut text runs) (cut more others))

-- each run is as short as the text
pub lens-short : (n : ℕ) (text : List ℕ) (runs : List Run) → Covers text runs → length text < n → All (λ run. run.len < n) runs
lens-short n text [] h l = All-nil (λ run. run.len < n)
lens-short n text (run ∷ runs) h l =
    All-cons (λ run. run.len < n) run runs (omega (arith, h.0)) (lens-short n (drop run.len text) runs h.1 (omega (arith, length-drop run.len text)))

-- ---- the last run

-- a text that ends with a run: the run's text, and what stands before it
pub record EndsWith (text : List ℕ) (runs : List Run) (last : Run) : Type 0 where
  pub fits : last.len ≤ length text
  pub covers : Covers (take (length text - last.len) text) runs
  pub is : cut text (runs ++ last ∷ []) ≡ cut (take (length text - last.len) text) runs ++ (drop (length text - last.len) text, last.sealed) ∷ []

ends_with-next : (text : List ℕ) (run : Run) (runs : List Run) (last : Run) → run.len ≤ length text → EndsWith (drop run.len text) runs last → EndsWith text (run ∷ runs) last
ends_with-next text run runs last fits ends =
    let m : ℕ = length (drop run.len text) - last.len in
    let n : ℕ = length text - last.len in
    let sum : n ≡ run.len + m = omega (arith, length-drop run.len text, ends.fits) in
    let front : drop run.len (take n text) ≡ take m (drop run.len text) = ap (λ (k : ℕ). drop run.len (take k text)) sum ∙ drop-take run.len m text in
    let first : take run.len (take n text) ≡ take run.len text = take-take run.len n text (omega arith) in
    let back : drop m (drop run.len text) ≡ drop n text = drop-drop m run.len text ∙ ap (λ (k : ℕ). drop k text) (sym sum) in
    record {
      fits = omega (arith, ends.fits, length-drop run.len text);
      covers = (omega (arith, length-take n text), subst (λ (t : List ℕ). Covers t runs) (sym front) ends.covers);
      is = ap (λ rs. (take run.len text, run.sealed) ∷ rs) ends.is
          ∙ ap (λ (t : List ℕ). (take run.len text, run.sealed) ∷ (cut (take m (drop run.len text)) runs ++ (t, last.sealed) ∷ [])) back
          ∙ ap (λ (t : List ℕ). (take run.len text, run.sealed) ∷ (cut t runs ++ (drop n text, last.sealed) ∷ [])) (sym front)
          ∙ ap (λ (t : List ℕ). (t, run.sealed) ∷ (cut (drop run.len (take n text)) runs ++ (drop n text, last.sealed) ∷ [])) (sym first);
    }

ends_with-one : (text : List ℕ) (last : Run) → Covers text (last ∷ []) → EndsWith text [] last
ends_with-one text last h =
    let n : length text - last.len ≡ 0 = omega (arith, h.1, length-drop last.len text) in
    let all : take last.len text ≡ text = take_all last.len text (omega (arith, h.1, length-drop last.len text)) in
    record {
      fits = h.0;
      covers = rw n refl;
      is = rw n (ap (λ (t : List ℕ). (t, last.sealed) ∷ []) all);
    }

pub ends_with-last : (text : List ℕ) (runs : List Run) (last : Run) → Covers text (runs ++ last ∷ []) → EndsWith text runs last
ends_with-last text [] last h = ends_with-one text last h
ends_with-last text (run ∷ runs) last h = ends_with-next text run runs last h.0 (ends_with-last (drop run.len text) runs last h.1)

maximal-front : (runs : List TextRun) (last : TextRun) → AreMaximal (runs ++ last ∷ []) → AreMaximal runs
maximal-front [] last h = tt
maximal-front (run ∷ []) last h = (h.0, tt, tt)
maximal-front (run ∷ next ∷ runs) last h = (h.0, h.1, maximal-front (next ∷ runs) last h.2)

texts-front : (runs : List TextRun) (last : TextRun) → AreTexts (runs ++ last ∷ []) → AreTexts runs × IsUtf8 last.0
texts-front [] last h = (tt, h.0)
texts-front (run ∷ runs) last h = let later = texts-front runs last h.1 in ((h.0, later.0), later.1)

pub IsKept-front : (text : List ℕ) (all runs : List Run) (last : Run) → IsKept text all → all ≡ runs ++ last ∷ [] →
    EndsWith text runs last × IsKept (take (length text - last.len) text) runs × IsUtf8 (drop (length text - last.len) text)
IsKept-front text all runs last kept e =
    let k : IsKept text (runs ++ last ∷ []) = subst (λ (rs : List Run). IsKept text rs) e kept in
    let ends : EndsWith text runs last = ends_with-last text runs last k.covers in
    let texts = texts-front (cut (take (length text - last.len) text) runs) (drop (length text - last.len) text, last.sealed) (subst AreTexts ends.is k.utf8) in (
      ends,
      record {
        covers = ends.covers;
        maximal = maximal-front (cut (take (length text - last.len) text) runs) (drop (length text - last.len) text, last.sealed) (subst AreMaximal ends.is k.maximal);
        utf8 = texts.0;
      },
      texts.1,
    )

pub boundary-last : (text : List ℕ) (all runs : List Run) (last : Run) → IsKept text all → all ≡ runs ++ last ∷ [] → IsCharBoundary text (length text - last.len)
boundary-last text all runs last kept e =
    IsCharBoundary-from_drop text (length text - last.len) (omega arith) (IsKept-front text all runs last kept e).2
