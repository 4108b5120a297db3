-- Outputs without the plain blank bytes at their ends, run by run.
use Rattle.std.proofs.Common.{◌≡◌, ℕ, ◌+◌, ◌-◌, ◌<◌, ◌≤◌, Bool, true, false, not, cond, List, [], ◌∷◌, ◌++◌, length, take, drop, map, reverse, refl, sym, ap, ◌∙◌, subst, append_assoc, arith, length-append}
use Rattle.std.proofs.Math.Seq.{take-append-add}
use Rattle.std.proofs.lemmas.List.{append-nil, reverse-append, length-reverse, length-map, map-append, take-map, drop-map, drop-append-le, take_all}
use Rattle.std.proofs.lemmas.List.Sums.{prefix_len-le-length, suffix_len-le-length}
use Rattle.std.specs.List.{prefix_len, suffix_len}
use Rattle.wk_text_rules.specs.Blank.{is_blank_byte, trimmed_start, trimmed_end}
use Rattle.wk_text_rules.specs.Marked.{MarkedByte, plain, sealed, all_plain, all_sealed, is_plain_blank, trimmed_output, trimmed_output_start, trimmed_output_end}
use Rattle.wk_out.specs.Kept.{without_blank_start, without_blank_end}
use Rattle.wk_out.specs.Runs.{AreMaximal, BeginsOtherwise, joined, marked}
use Rattle.wk_out.proofs.RunLaws.{joined-append}

abbrev TextRun : Type 0
TextRun = List ℕ × Bool

-- ---- the front

prefix-plain : (text : List ℕ) (rest : List MarkedByte) → prefix_len is_plain_blank rest ≡ 0 → prefix_len is_plain_blank (all_plain text ++ rest) ≡ prefix_len is_blank_byte text
prefix-plain [] rest h = h
prefix-plain (b ∷ text) rest h = ap (λ n. cond (is_blank_byte b) (1 + n) 0) (prefix-plain text rest h)

start-plain : (text : List ℕ) (rest : List MarkedByte) → prefix_len is_plain_blank rest ≡ 0 → trimmed_output_start (all_plain text ++ rest) ≡ all_plain (trimmed_start text) ++ rest
start-plain text rest h =
    let n : ℕ = prefix_len is_blank_byte text in
    ap (λ (k : ℕ). drop k (all_plain text ++ rest)) (prefix-plain text rest h)
    ∙ drop-append-le n (all_plain text) rest (omega (arith, length-map text plain, prefix_len-le-length is_blank_byte text))
    ∙ ap (λ out. out ++ rest) (drop-map plain n text)

prefix-sealed : (text : List ℕ) (rest : List MarkedByte) → 0 < length text → prefix_len is_plain_blank (all_sealed text ++ rest) ≡ 0
prefix-sealed [] rest some = absurd (omega arith)
prefix-sealed (b ∷ text) rest some = refl

start-sealed : (text : List ℕ) (rest : List MarkedByte) → 0 < length text → trimmed_output_start (all_sealed text ++ rest) ≡ all_sealed text ++ rest
start-sealed [] rest some = absurd (omega arith)
start-sealed (b ∷ text) rest some = refl

prefix-run : (sealed : Bool) (text : List ℕ) (rest : List MarkedByte) → sealed ≡ true → 0 < length text → prefix_len is_plain_blank (marked sealed text ++ rest) ≡ 0
prefix-run true text rest e some = prefix-sealed text rest some
prefix-run false text rest e some = cc

-- what follows a plain run begins with no plain blank byte
prefix-others : (runs : List TextRun) → BeginsOtherwise false runs → AreMaximal runs → prefix_len is_plain_blank (joined runs) ≡ 0
prefix-others [] e h = refl
prefix-others (run ∷ runs) e h = prefix-run run.1 run.0 (joined runs) e h.0

start-run : (sealed : Bool) (text : List ℕ) (runs : List TextRun) → 0 < length text → BeginsOtherwise sealed runs → AreMaximal runs →
    trimmed_output_start (marked sealed text ++ joined runs) ≡ marked sealed (without_blank_start sealed text) ++ joined runs
start-run true text runs some other h = start-sealed text (joined runs) some
start-run false text runs some other h = start-plain text (joined runs) (prefix-others runs other h)

start-runs : (run : TextRun) (runs : List TextRun) → AreMaximal (run ∷ runs) →
    trimmed_output_start (joined (run ∷ runs)) ≡ marked run.1 (without_blank_start run.1 run.0) ++ joined runs
start-runs run runs h = start-run run.1 run.0 runs h.0 h.1 h.2

-- ---- the end

reverse-map : {A B : Type 0} (f : A → B) (xs : List A) → reverse (map f xs) ≡ map f (reverse xs)
reverse-map f [] = refl
reverse-map f (x ∷ xs) =
    reverse-append (f x ∷ []) (map f xs)
    ∙ ap (λ ys. ys ++ f x ∷ []) (reverse-map f xs)
    ∙ sym (map-append f (reverse xs) (x ∷ []))
    ∙ ap (map f) (sym (reverse-append (x ∷ []) xs))

suffix-plain : (out : List MarkedByte) (text : List ℕ) → suffix_len is_plain_blank out ≡ 0 → suffix_len is_plain_blank (out ++ all_plain text) ≡ suffix_len is_blank_byte text
suffix-plain out text h =
    ap (prefix_len is_plain_blank) (reverse-append out (all_plain text) ∙ ap (λ xs. xs ++ reverse out) (reverse-map plain text))
    ∙ prefix-plain (reverse text) (reverse out) h

suffix-sealed : (out : List MarkedByte) (text : List ℕ) → 0 < length text → suffix_len is_plain_blank (out ++ all_sealed text) ≡ 0
suffix-sealed out text some =
    ap (prefix_len is_plain_blank) (reverse-append out (all_sealed text) ∙ ap (λ xs. xs ++ reverse out) (reverse-map sealed text))
    ∙ prefix-sealed (reverse text) (reverse out) (omega (arith, length-reverse text))

take-behind : (out more : List MarkedByte) (k : ℕ) → k ≤ length more → take (length (out ++ more) - k) (out ++ more) ≡ out ++ take (length more - k) more
take-behind out more k h =
    let n : length (out ++ more) - k ≡ length out + (length more - k) = omega (arith, length-append out more) in
    ap (λ (m : ℕ). take m (out ++ more)) n ∙ take-append-add out more (length more - k)

end-plain : (out : List MarkedByte) (text : List ℕ) → suffix_len is_plain_blank out ≡ 0 → trimmed_output_end (out ++ all_plain text) ≡ out ++ all_plain (trimmed_end text)
end-plain out text h =
    let k : ℕ = suffix_len is_blank_byte text in
    let len : length (all_plain text) ≡ length text = length-map text plain in
    ap (λ (m : ℕ). take (length (out ++ all_plain text) - m) (out ++ all_plain text)) (suffix-plain out text h)
    ∙ take-behind out (all_plain text) k (omega (arith, suffix_len-le-length is_blank_byte text))
    ∙ ap (λ (m : ℕ). out ++ take (m - k) (all_plain text)) len
    ∙ ap (λ xs. out ++ xs) (take-map plain (length text - k) text)

end-sealed : (out : List MarkedByte) (text : List ℕ) → 0 < length text → trimmed_output_end (out ++ all_sealed text) ≡ out ++ all_sealed text
end-sealed out text some =
    let none = suffix-sealed out text some in
    take_all (length (out ++ all_sealed text) - suffix_len is_plain_blank (out ++ all_sealed text)) (out ++ all_sealed text) (omega arith)

end-run : (out : List MarkedByte) (sealed : Bool) (text : List ℕ) → (sealed ≡ true → 0 < length text) → (sealed ≡ false → suffix_len is_plain_blank out ≡ 0) →
    trimmed_output_end (out ++ marked sealed text) ≡ out ++ marked sealed (without_blank_end sealed text)
end-run out true text some before = end-sealed out text (some refl)
end-run out false text some before = end-plain out text (before refl)

suffix-run : (out : List MarkedByte) (sealed : Bool) (text : List ℕ) → sealed ≡ true → 0 < length text → suffix_len is_plain_blank (out ++ (marked sealed text ++ [])) ≡ 0
suffix-run out true text e some = ap (λ xs. suffix_len is_plain_blank (out ++ xs)) (append-nil (all_sealed text)) ∙ suffix-sealed out text some
suffix-run out false text e some = cc

other-mark : (a b : Bool) → b ≡ not a → b ≡ false → a ≡ true
other-mark true b e f = refl
other-mark false b e f = cc

-- what stands before a plain run ends with no plain blank byte
suffix-others : (out : List MarkedByte) (run : TextRun) (runs : List TextRun) (last : TextRun) → AreMaximal (run ∷ (runs ++ last ∷ [])) → last.1 ≡ false →
    suffix_len is_plain_blank (out ++ joined (run ∷ runs)) ≡ 0
suffix-others out run [] last h e = suffix-run out run.1 run.0 (other-mark run.1 last.1 h.1 e) h.0
suffix-others out run (next ∷ runs) last h e =
    ap (suffix_len is_plain_blank) (sym (append_assoc out (marked run.1 run.0) (joined (next ∷ runs))))
    ∙ suffix-others (out ++ marked run.1 run.0) next runs last h.2 e

suffix-before : (first : TextRun) (runs : List TextRun) (last : TextRun) → AreMaximal (first ∷ (runs ++ last ∷ [])) → last.1 ≡ false →
    suffix_len is_plain_blank (marked first.1 (without_blank_start first.1 first.0) ++ joined runs) ≡ 0
suffix-before first [] last h e = one first.1 first.0 (other-mark first.1 last.1 h.1 e) h.0
  where
    one : (sealed : Bool) (text : List ℕ) → sealed ≡ true → 0 < length text → suffix_len is_plain_blank (marked sealed (without_blank_start sealed text) ++ []) ≡ 0
    one true text e some = suffix-run [] true text refl some
    one false text e some = cc
suffix-before first (next ∷ runs) last h e = suffix-others (marked first.1 (without_blank_start first.1 first.0)) next runs last h.2 e

some-of-sealed : (sealed : Bool) (text : List ℕ) → 0 < length text → sealed ≡ true → 0 < length (without_blank_start sealed text)
some-of-sealed true text some e = some
some-of-sealed false text some e = cc

-- ---- both ends

pub trimmed-one : (run : TextRun) → AreMaximal (run ∷ []) →
    trimmed_output (joined (run ∷ [])) ≡ marked run.1 (without_blank_end run.1 (without_blank_start run.1 run.0))
trimmed-one run h =
    ap trimmed_output_end (start-runs run [] h ∙ append-nil (marked run.1 (without_blank_start run.1 run.0)))
    ∙ end-run [] run.1 (without_blank_start run.1 run.0) (some-of-sealed run.1 run.0 h.0) (λ _. refl)

last-some : (first : TextRun) (runs : List TextRun) (last : TextRun) → AreMaximal (first ∷ (runs ++ last ∷ [])) → 0 < length last.0
last-some first [] last h = h.2.0
last-some first (next ∷ runs) last h = last-some next runs last h.2

pub trimmed-more : (first : TextRun) (runs : List TextRun) (last : TextRun) → AreMaximal (first ∷ (runs ++ last ∷ [])) →
    trimmed_output (joined (first ∷ (runs ++ last ∷ []))) ≡ (marked first.1 (without_blank_start first.1 first.0) ++ joined runs) ++ marked last.1 (without_blank_end last.1 last.0)
trimmed-more first runs last h =
    let front = marked first.1 (without_blank_start first.1 first.0) in
    ap trimmed_output_end
    (start-runs first (runs ++ last ∷ []) h
    ∙ ap (λ out. front ++ out) (joined-append runs (last ∷ []) ∙ ap (λ out. joined runs ++ out) (append-nil (marked last.1 last.0)))
    ∙ sym (append_assoc front (joined runs) (marked last.1 last.0)))
    ∙ end-run (front ++ joined runs) last.1 last.0 (λ _. last-some first runs last h) (suffix-before first runs last h)

-- ---- outputs that are made so

pub trimmed-one_is : (runs others : List TextRun) (run : TextRun) (out : List MarkedByte) (start end : List ℕ) (none made : List MarkedByte) →
    joined runs ≡ out → AreMaximal runs → runs ≡ run ∷ others → others ≡ [] → start ≡ without_blank_start run.1 run.0 → end ≡ without_blank_end run.1 start →
    none ≡ [] → made ≡ none ++ marked run.1 end → made ≡ trimmed_output out
trimmed-one_is runs others run out start end none made is h e f s t n m =
    let one : runs ≡ run ∷ [] = e ∙ ap (λ rs. run ∷ rs) f in
    m
    ∙ ap (λ xs. xs ++ marked run.1 end) n
    ∙ ap (marked run.1) (t ∙ ap (without_blank_end run.1) s)
    ∙ sym (trimmed-one run (subst AreMaximal one h))
    ∙ ap (λ rs. trimmed_output (joined rs)) (sym one)
    ∙ ap trimmed_output is

pub trimmed-more_is : (runs others middle : List TextRun) (first last : TextRun) (out : List MarkedByte) (start end : List ℕ) (none one two made : List MarkedByte) →
    joined runs ≡ out → AreMaximal runs → runs ≡ first ∷ others → others ≡ middle ++ last ∷ [] → start ≡ without_blank_start first.1 first.0 →
    end ≡ without_blank_end last.1 last.0 → none ≡ [] → one ≡ none ++ marked first.1 start → two ≡ one ++ joined middle → made ≡ two ++ marked last.1 end →
    made ≡ trimmed_output out
trimmed-more_is runs others middle first last out start end none one two made is h e f s t n m1 m2 m3 =
    let all : runs ≡ first ∷ (middle ++ last ∷ []) = e ∙ ap (λ rs. first ∷ rs) f in
    m3
    ∙ ap (λ xs. xs ++ marked last.1 end) (m2 ∙ ap (λ xs. xs ++ joined middle) (m1 ∙ ap (λ xs. xs ++ marked first.1 start) n ∙ ap (marked first.1) s))
    ∙ ap (λ xs. (marked first.1 (without_blank_start first.1 first.0) ++ joined middle) ++ marked last.1 xs) t
    ∙ sym (trimmed-more first middle last (subst AreMaximal all h))
    ∙ ap (λ rs. trimmed_output (joined rs)) (sym all)
    ∙ ap trimmed_output is
