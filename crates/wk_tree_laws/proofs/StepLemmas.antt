-- What one step of the rewriting keeps: the text, that heights and runs are sound; and that it spends closing delimiters.
use Rattle.std.proofs.Common.{◌≡◌, ◌≢◌, ℕ, zero, suc, ◌+◌, ◌-◌, ◌<◌, ◌≤◌, ◌==◌, true, false, if◌then◌else◌, List, [], ◌∷◌, ◌++◌, map, replicate, Option, Some, None, refl, ap, ap₂, sym, ◌∙◌, arith, append_assoc, append-nil, eq-eqb}
use Rattle.std.proofs.lemmas.Grind.{flat_map-append}
use Rattle.std.proofs.lemmas.List.{replicate-append-replicate}
use Rattle.std.proofs.lemmas.List.Sums.{sum_by-append}
use Rattle.wk_tree_laws.proofs.PieceLemmas.{all-append, all-front, all-back, all-unmap, piece_source, pieces_source, entries_source, content-source, entries-source, plain_entry-source, entry_height, IsSound, AreSound, content-height, HaveNoClosing, ByOpening, entries_alone, opened, by_opening, closing_delimiters-none, entries-no_closing}
use Rattle.wk_tree_rules.specs.Reduction.{Delimiter, braces, brackets, Run, Piece, entry, opening, opening_delimiter, closing_delimiter, plain_opening, plain_closing, first_delimiters, last_delimiters, left_opening, left_closing, AtOpening, most_height, node_width, kind_by_width, as_node, as_brackets, as_plain, matched, answered, closing_delimiters}
use Rattle.wk_tree_rules.specs.Trees.{Item, node, Entry, item, bar, equals, content_of, source_of, height, content_height, plain_entry, width}

-- ---- what is left of a run

left_opening-source_by : (delimiters : Delimiter) (start count : ℕ) → pieces_source (left_opening (record { delimiters = delimiters; start = start; count = count })) ≡ replicate count (opening_delimiter delimiters)
unfolding source_of
left_opening-source_by delimiters start zero = refl
left_opening-source_by delimiters start (suc zero) = refl
left_opening-source_by delimiters start (suc (suc n)) = append-nil (replicate (suc (suc n)) (opening_delimiter delimiters))

left_opening-source : (run : Run) → pieces_source (left_opening run) ≡ replicate run.count (opening_delimiter run.delimiters)
left_opening-source run = left_opening-source_by run.delimiters run.start run.count

left_closing-source_by : (delimiters : Delimiter) (start count : ℕ) → pieces_source (left_closing (record { delimiters = delimiters; start = start; count = count })) ≡ replicate count (closing_delimiter delimiters)
unfolding source_of
left_closing-source_by delimiters start zero = refl
left_closing-source_by delimiters start (suc zero) = refl
left_closing-source_by delimiters start (suc (suc n)) = append-nil (replicate (suc (suc n)) (closing_delimiter delimiters))

left_closing-source : (run : Run) → pieces_source (left_closing run) ≡ replicate run.count (closing_delimiter run.delimiters)
left_closing-source run = left_closing-source_by run.delimiters run.start run.count

left_opening-sound_by : (delimiters : Delimiter) (start count : ℕ) → AreSound (left_opening (record { delimiters = delimiters; start = start; count = count }))
unfolding height
left_opening-sound_by delimiters start zero = tt
left_opening-sound_by delimiters start (suc zero) = (omega arith, tt)
left_opening-sound_by delimiters start (suc (suc n)) = (omega arith, tt)

left_closing-sound_by : (delimiters : Delimiter) (start count : ℕ) → AreSound (left_closing (record { delimiters = delimiters; start = start; count = count }))
unfolding height
left_closing-sound_by delimiters start zero = tt
left_closing-sound_by delimiters start (suc zero) = (omega arith, tt)
left_closing-sound_by delimiters start (suc (suc n)) = (omega arith, tt)

left_opening-no_closing_by : (delimiters : Delimiter) (start count : ℕ) → HaveNoClosing (left_opening (record { delimiters = delimiters; start = start; count = count }))
left_opening-no_closing_by delimiters start zero = tt
left_opening-no_closing_by delimiters start (suc zero) = (tt, tt)
left_opening-no_closing_by delimiters start (suc (suc n)) = (tt, tt)

left_closing-delimiters_by : (delimiters : Delimiter) (start count : ℕ) → closing_delimiters (left_closing (record { delimiters = delimiters; start = start; count = count })) ≤ count
left_closing-delimiters_by delimiters start zero = omega arith
left_closing-delimiters_by delimiters start (suc zero) = omega arith
left_closing-delimiters_by delimiters start (suc (suc n)) = omega arith

-- ---- what an answer keeps

-- A closing run together with the pieces before it, and what they become
pub record Keeps (before : List Piece) (closer : Run) (result : List Piece) : Type 0 where
  pub source : pieces_source result ≡ pieces_source before ++ replicate closer.count (closing_delimiter closer.delimiters)
  pub sound : AreSound result
  pub fewer : closing_delimiters result < closer.count

plain-keeps : (before : List Piece) (closer : Run) → AreSound before → HaveNoClosing before → 2 ≤ closer.count → Keeps before closer (as_plain before closer)
unfolding source_of height
plain-keeps before closer sound none long = record {
  source = flat_map-append piece_source before (entry (item (plain_closing closer)) ∷ []) ∙ ap (λ t. pieces_source before ++ t) (append-nil (replicate closer.count (closing_delimiter closer.delimiters)));
  sound = all-append IsSound before (entry (item (plain_closing closer)) ∷ []) sound (omega arith, tt);
  fewer = rw sum_by-append (let e : closing_delimiters before ≡ 0 = closing_delimiters-none before none in omega arith);
}

-- ---- brackets

last-part : (k n x : ℕ) → k ≤ n → replicate (n - k) x ++ replicate k x ≡ replicate n x
last-part k n x h = replicate-append-replicate (n - k) k x ∙ ap (λ i. replicate i x) (let e : (n - k) + k ≡ n = omega arith in e)

first-part : (k n x : ℕ) → k ≤ n → replicate k x ++ replicate (n - k) x ≡ replicate n x
first-part k n x h = replicate-append-replicate k (n - k) x ∙ ap (λ i. replicate i x) (let e : k + (n - k) ≡ n = omega arith in e)

plain-source : (parts : List Entry) → pieces_source (map (λ e. entry (item (plain_entry e))) parts) ≡ entries_source parts
plain-source [] = refl
plain-source (e ∷ parts) = ap₂ (λ a b. a ++ b) (plain_entry-source e) (plain-source parts)

plain_entry-sound : (e : Entry) → entry_height e ≤ most_height → height (plain_entry e) ≤ most_height
unfolding height
plain_entry-sound (item i) h = h
plain_entry-sound (bar start) h = omega arith
plain_entry-sound (equals start) h = omega arith

plain-sound : (parts : List Entry) → AreSound (map entry parts) → AreSound (map (λ e. entry (item (plain_entry e))) parts)
plain-sound [] a = tt
plain-sound (e ∷ parts) a = (plain_entry-sound e a.0, plain-sound parts a.1)

plain-no_delimiters : (parts : List Entry) → closing_delimiters (map (λ e. entry (item (plain_entry e))) parts) ≡ 0
plain-no_delimiters [] = refl
plain-no_delimiters (e ∷ parts) = plain-no_delimiters parts

brackets_text : (A B C D E F G H : List ℕ) → B ++ C ≡ G → E ++ F ≡ H → ((A ++ B) ++ (C ++ D)) ++ (E ++ F) ≡ (A ++ (G ++ D)) ++ H
brackets_text A B C D E F G H p q = rw (← p, ← q) (simp append_assoc)

node_text : (A B C D E F G H : List ℕ) → B ++ C ≡ G → E ++ F ≡ H → (A ++ B) ++ ((C ++ (D ++ E)) ++ F) ≡ (A ++ (G ++ D)) ++ H
node_text A B C D E F G H p q = rw (← p, ← q) (simp append_assoc)

module _ (left : List Piece) (run : Run) (parts : List Entry) (closer : Run) (none : HaveNoClosing left) (sound : AreSound (left ++ opening run ∷ map entry parts)) (long : 2 ≤ closer.count) where
  abbrev at : AtOpening
  at = record { before = left; run = run; stretch = parts }

  run-long : 2 ≤ run.count
  run-long = (all-back IsSound left (opening run ∷ map entry parts) sound).0

  left-sound : AreSound left
  left-sound = all-front IsSound left (opening run ∷ map entry parts) sound

  parts-sound : AreSound (map entry parts)
  parts-sound = (all-back IsSound left (opening run ∷ map entry parts) sound).1

  source_before : pieces_source (left ++ opening run ∷ map entry parts) ≡ pieces_source left ++ (replicate run.count (opening_delimiter run.delimiters) ++ entries_source parts)
  source_before = flat_map-append piece_source left (opening run ∷ map entry parts) ∙ ap (λ t. pieces_source left ++ (replicate run.count (opening_delimiter run.delimiters) ++ t)) (entries-source parts)

  left_delimiters : closing_delimiters left ≡ 0
  left_delimiters = closing_delimiters-none left none

  opening_left_delimiters : (n : ℕ) → closing_delimiters (left_opening (first_delimiters n run)) ≡ 0
  opening_left_delimiters n = closing_delimiters-none (left_opening (first_delimiters n run)) (left_opening-no_closing_by run.delimiters run.start n)

  -- two brackets of each run, and what is left of the runs
  abbrev brackets_front : List Piece
  brackets_front = left ++ left_opening (first_delimiters (run.count - 2) run)

  abbrev brackets_behind : List Piece
  brackets_behind = entry (item (plain_closing (first_delimiters 2 closer))) ∷ left_closing (last_delimiters (closer.count - 2) closer)

  abbrev brackets_middle : List Piece
  brackets_middle = entry (item (plain_opening (last_delimiters 2 run))) ∷ map (λ e. entry (item (plain_entry e))) parts

  brackets-source : pieces_source (as_brackets at closer) ≡ pieces_source (left ++ opening run ∷ map entry parts) ++ replicate closer.count (closing_delimiter closer.delimiters)
  unfolding source_of
  brackets-source =
      flat_map-append piece_source (brackets_front ++ brackets_middle) brackets_behind
      ∙ ap₂ (λ x y. x ++ y)
      (flat_map-append piece_source brackets_front brackets_middle
      ∙ ap₂ (λ x y. x ++ y)
      (flat_map-append piece_source left (left_opening (first_delimiters (run.count - 2) run)) ∙ ap (λ t. pieces_source left ++ t) (left_opening-source (first_delimiters (run.count - 2) run)))
      (ap (λ t. replicate 2 (opening_delimiter run.delimiters) ++ t) (plain-source parts)))
      (ap (λ t. replicate 2 (closing_delimiter closer.delimiters) ++ t) (left_closing-source (last_delimiters (closer.count - 2) closer)))
      ∙ brackets_text (pieces_source left) (replicate (run.count - 2) (opening_delimiter run.delimiters)) (replicate 2 (opening_delimiter run.delimiters)) (entries_source parts)
      (replicate 2 (closing_delimiter closer.delimiters)) (replicate (closer.count - 2) (closing_delimiter closer.delimiters))
      (replicate run.count (opening_delimiter run.delimiters)) (replicate closer.count (closing_delimiter closer.delimiters))
      (last-part 2 run.count (opening_delimiter run.delimiters) run-long) (first-part 2 closer.count (closing_delimiter closer.delimiters) long)
      ∙ ap (λ t. t ++ replicate closer.count (closing_delimiter closer.delimiters)) (sym source_before)

  brackets-sound : AreSound (as_brackets at closer)
  unfolding height
  brackets-sound =
      all-append IsSound (brackets_front ++ brackets_middle) brackets_behind
      (all-append IsSound brackets_front brackets_middle
      (all-append IsSound left (left_opening (first_delimiters (run.count - 2) run)) left-sound (left_opening-sound_by run.delimiters run.start (run.count - 2)))
      (omega arith, plain-sound parts parts-sound))
      (omega arith, left_closing-sound_by closer.delimiters (last_delimiters (closer.count - 2) closer).start (closer.count - 2))

  brackets-fewer : closing_delimiters (as_brackets at closer) < closer.count
  brackets-fewer =
      let l : closing_delimiters left ≡ 0 = left_delimiters in
      let o : closing_delimiters (left_opening (first_delimiters (run.count - 2) run)) ≡ 0 = opening_left_delimiters (run.count - 2) in
      let m : closing_delimiters (map (λ e. entry (item (plain_entry e))) parts) ≡ 0 = plain-no_delimiters parts in
      let c : closing_delimiters (left_closing (last_delimiters (closer.count - 2) closer)) ≤ closer.count - 2 = left_closing-delimiters_by closer.delimiters (last_delimiters (closer.count - 2) closer).start (closer.count - 2) in
      simp sum_by-append (omega arith)

  brackets-keeps : Keeps (left ++ opening run ∷ map entry parts) closer (as_brackets at closer)
  brackets-keeps = record { source = brackets-source; sound = brackets-sound; fewer = brackets-fewer }

-- ---- nodes

pub width-by : (c : ℕ) → 2 ≤ c → c ≤ 3 → width (kind_by_width c) ≡ c
width-by zero low high = omega arith
width-by (suc zero) low high = omega arith
width-by (suc (suc zero)) low high = refl
width-by (suc (suc (suc zero))) low high = refl
width-by (suc (suc (suc (suc n)))) low high = omega arith

module _ (left : List Piece) (run : Run) (parts : List Entry) (closer : Run) (none : HaveNoClosing left) (sound : AreSound (left ++ opening run ∷ map entry parts)) (long : 2 ≤ closer.count) where
  abbrev opener : AtOpening
  opener = record { before = left; run = run; stretch = parts }

  abbrev c : ℕ
  c = node_width run closer

  opener-long : 2 ≤ run.count
  opener-long = (all-back IsSound left (opening run ∷ map entry parts) sound).0

  width-low : 2 ≤ c
  width-low = let h : 2 ≤ run.count = opener-long in omega arith

  width-high : c ≤ 3
  width-high = omega arith

  width-opening : c ≤ run.count
  width-opening = omega arith

  width-closing : c ≤ closer.count
  width-closing = omega arith

  width-is : width (kind_by_width c) ≡ c
  width-is = width-by c width-low width-high

  abbrev made : Item
  made = node (kind_by_width c) (last_delimiters c run).start (content_of parts)

  abbrev node_front : List Piece
  node_front = left ++ left_opening (first_delimiters (run.count - c) run)

  abbrev node_behind : List Piece
  node_behind = entry (item made) ∷ left_closing (last_delimiters (closer.count - c) closer)

  made-source : source_of made ≡ replicate c 123 ++ (entries_source parts ++ replicate c 125)
  unfolding source_of
  made-source = ap₂ (λ w t. replicate w 123 ++ (t ++ replicate w 125)) width-is (content-source parts)

  node-source : run.delimiters ≡ braces → closer.delimiters ≡ braces → pieces_source (as_node opener closer) ≡ pieces_source (left ++ opening run ∷ map entry parts) ++ replicate closer.count (closing_delimiter closer.delimiters)
  node-source p q =
      flat_map-append piece_source node_front node_behind
      ∙ ap₂ (λ x y. x ++ y)
      (flat_map-append piece_source left (left_opening (first_delimiters (run.count - c) run))
      ∙ ap (λ t. pieces_source left ++ t) (left_opening-source (first_delimiters (run.count - c) run) ∙ ap (λ m. replicate (run.count - c) (opening_delimiter m)) p))
      (ap₂ (λ x y. x ++ y) made-source (left_closing-source (last_delimiters (closer.count - c) closer) ∙ ap (λ m. replicate (closer.count - c) (closing_delimiter m)) q))
      ∙ node_text (pieces_source left) (replicate (run.count - c) 123) (replicate c 123) (entries_source parts)
      (replicate c 125) (replicate (closer.count - c) 125) (replicate run.count 123) (replicate closer.count 125)
      (last-part c run.count 123 width-opening) (first-part c closer.count 125 width-closing)
      ∙ ap₂ (λ m n. (pieces_source left ++ (replicate run.count (opening_delimiter m) ++ entries_source parts)) ++ replicate closer.count (closing_delimiter n)) (sym p) (sym q)
      ∙ ap (λ t. t ++ replicate closer.count (closing_delimiter closer.delimiters)) (sym (source_before left run parts closer none sound long))

  parts-low : content_height (content_of parts) ≤ most_height
  parts-low = content-height most_height parts (all-unmap IsSound entry parts (parts-sound left run parts closer none sound long))

  node-sound : content_height (content_of parts) ≢ most_height → AreSound (as_node opener closer)
  unfolding height
  node-sound low =
      let most : content_height (content_of parts) ≤ most_height = parts-low in
      all-append IsSound node_front node_behind
      (all-append IsSound left (left_opening (first_delimiters (run.count - c) run)) (left-sound left run parts closer none sound long) (left_opening-sound_by run.delimiters run.start (run.count - c)))
      (omega arith, left_closing-sound_by closer.delimiters (last_delimiters (closer.count - c) closer).start (closer.count - c))

  node-fewer : closing_delimiters (as_node opener closer) < closer.count
  node-fewer =
      let w : 2 ≤ c = width-low in
      let l : closing_delimiters left ≡ 0 = closing_delimiters-none left none in
      let o : closing_delimiters (left_opening (first_delimiters (run.count - c) run)) ≡ 0 = opening_left_delimiters left run parts closer none sound long (run.count - c) in
      let m : closing_delimiters (left_closing (last_delimiters (closer.count - c) closer)) ≤ closer.count - c = left_closing-delimiters_by closer.delimiters (last_delimiters (closer.count - c) closer).start (closer.count - c) in
      simp sum_by-append (omega arith)

  node-keeps : run.delimiters ≡ braces → closer.delimiters ≡ braces → content_height (content_of parts) ≢ most_height → Keeps (left ++ opening run ∷ map entry parts) closer (as_node opener closer)
  node-keeps p q low = record { source = node-source p q; sound = node-sound low; fewer = node-fewer }

  -- ---- any two runs

  whole-none : HaveNoClosing (left ++ opening run ∷ map entry parts)
  whole-none = all-append _ left (opening run ∷ map entry parts) none (tt, entries-no_closing parts)

  unmatched-keeps : Keeps (left ++ opening run ∷ map entry parts) closer (as_plain (left ++ opening run ∷ map entry parts) closer)
  unmatched-keeps = plain-keeps (left ++ opening run ∷ map entry parts) closer sound whole-none long

  braces-keeps : run.delimiters ≡ braces → closer.delimiters ≡ braces → Keeps (left ++ opening run ∷ map entry parts) closer (matched braces braces (left ++ opening run ∷ map entry parts) opener closer)
  braces-keeps p q =
      (elim (content_height (content_of parts) == most_height) as (λ b. (content_height (content_of parts) == most_height) ≡ b → Keeps (left ++ opening run ∷ map entry parts) closer (if b then as_plain (left ++ opening run ∷ map entry parts) closer else as_node opener closer)) [
        | true ↦ λ e. unmatched-keeps
        | false ↦ λ e. node-keeps p q (λ h. cc (eq-eqb (content_height (content_of parts)) most_height h))
      ]) refl

  matched-keeps : (m n : Delimiter) → run.delimiters ≡ m → closer.delimiters ≡ n → Keeps (left ++ opening run ∷ map entry parts) closer (matched m n (left ++ opening run ∷ map entry parts) opener closer)
  matched-keeps braces braces p q = braces-keeps p q
  matched-keeps brackets brackets p q = brackets-keeps left run parts closer none sound long
  matched-keeps braces brackets p q = unmatched-keeps
  matched-keeps brackets braces p q = unmatched-keeps

-- by the last opening run of the pieces before
by_opening-keeps : {before : List Piece} {found : Option AtOpening} (closer : Run) → ByOpening before found → AreSound before → HaveNoClosing before → 2 ≤ closer.count
    → Keeps before closer (elim found [ None ↦ as_plain before closer | Some at ↦ matched at.run.delimiters closer.delimiters before at closer ])
by_opening-keeps closer (entries_alone parts) sound none long = plain-keeps (map entry parts) closer sound none long
by_opening-keeps closer (opened left run parts a) sound none long = matched-keeps left run parts closer a sound long run.delimiters closer.delimiters refl refl

-- a closing run and the pieces before it keep what they are
pub answered-keeps : (before : List Piece) (closer : Run) → AreSound before → HaveNoClosing before → 2 ≤ closer.count → Keeps before closer (answered before closer)
answered-keeps before closer sound none long = by_opening-keeps closer (by_opening before none) sound none long
