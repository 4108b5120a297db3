-- Items stand in the text where they say: each starts where the one before it ends, and the rewriting keeps it so.
use Rattle.std.proofs.Common.{◌≡◌, ℕ, zero, suc, ◌+◌, ◌-◌, ◌≤◌, ◌==◌, true, false, if◌then◌else◌, List, [], ◌∷◌, ◌++◌, length, map, replicate, Option, Some, None, refl, ap, ap₂, sym, subst, ◌∙◌, arith, append-nil, length-append, add-zero}
use Rattle.std.proofs.lemmas.Grind.{flat_map-append}
use Rattle.std.proofs.lemmas.List.{length-replicate}
use Rattle.wk_tree_laws.proofs.PieceLemmas.{entry_source, piece_source, pieces_source, entries_source, entries-source, content-source, plain_entry-source, AreSound, IsSound, HaveNoClosing, all-front, all-back, ByOpening, entries_alone, opened, by_opening, ByClosing, without, parted, by_closing}
use Rattle.wk_tree_laws.proofs.ReductionLemmas.{step-none, step-parted, step-keeps}
use Rattle.wk_tree_laws.proofs.StepLemmas.{answered-keeps, width-by}
use Rattle.wk_tree_laws.specs.Places.{IsItemAt, IsContentAt}
use Rattle.wk_tree_rules.specs.Reduction.{Delimiter, braces, brackets, Run, Piece, entry, opening, closing, opening_delimiter, closing_delimiter, plain_opening, plain_closing, first_delimiters, last_delimiters, left_opening, left_closing, AtOpening, most_height, node_width, kind_by_width, as_node, as_brackets, as_plain, matched, answered, step, steps, closing_delimiters, reduced}
use Rattle.wk_tree_rules.specs.Trees.{Item, node, Entry, item, bar, equals, Content, content_of, content_height, source_of, content_source, plain_entry, NodeKind, width, opening_braces, closing_braces}

abbrev pub IsEntryAt : ℕ → Entry → Type 0
IsEntryAt at (item i) = IsItemAt at i
IsEntryAt at (bar start) = start ≡ at
IsEntryAt at (equals start) = start ≡ at

abbrev pub IsPieceAt : ℕ → Piece → Type 0
IsPieceAt at (entry e) = IsEntryAt at e
IsPieceAt at (opening run) = run.start ≡ at
IsPieceAt at (closing run) = run.start ≡ at

-- each piece starts where the one before it ends
abbrev pub ArePiecesAt : ℕ → List Piece → Type 0
ArePiecesAt at [] = Unit {0}
ArePiecesAt at (piece ∷ pieces) = IsPieceAt at piece × ArePiecesAt (at + length (piece_source piece)) pieces

-- how long the text is that pieces stand for
abbrev pub long : List Piece → ℕ
long pieces = length (pieces_source pieces)

pub long-append : (xs ys : List Piece) → long (xs ++ ys) ≡ long xs + long ys
long-append xs ys = ap length (flat_map-append piece_source xs ys) ∙ length-append (pieces_source xs) (pieces_source ys)

-- ---- pieces one behind the other

pub at-join : (a b : ℕ) (xs ys : List Piece) → ArePiecesAt a xs → b ≡ a + long xs → ArePiecesAt b ys → ArePiecesAt a (xs ++ ys)
at-join a b [] ys h e k = subst (λ n. ArePiecesAt n ys) (e ∙ add-zero a) k
at-join a b (piece ∷ xs) ys h e k =
    let total : long (piece ∷ xs) ≡ length (piece_source piece) + long xs = length-append (piece_source piece) (pieces_source xs) in
    (h.0, at-join (a + length (piece_source piece)) b xs ys h.1 (omega arith) k)

pub at-front : (a : ℕ) (xs ys : List Piece) → ArePiecesAt a (xs ++ ys) → ArePiecesAt a xs
at-front a [] ys h = tt
at-front a (piece ∷ xs) ys h = (h.0, at-front (a + length (piece_source piece)) xs ys h.1)

pub at-back : (a b : ℕ) (xs ys : List Piece) → b ≡ a + long xs → ArePiecesAt a (xs ++ ys) → ArePiecesAt b ys
at-back a b [] ys e h = subst (λ n. ArePiecesAt n ys) (sym (e ∙ add-zero a)) h
at-back a b (piece ∷ xs) ys e h =
    let total : long (piece ∷ xs) ≡ length (piece_source piece) + long xs = length-append (piece_source piece) (pieces_source xs) in
    at-back (a + length (piece_source piece)) b xs ys (omega arith) h.1

-- ---- entries

pub content-at : (at : ℕ) (parts : List Entry) → ArePiecesAt at (map entry parts) → IsContentAt at (content_of parts)
content-at at [] h = tt
content-at at (item i ∷ parts) h = (h.0, content-at (at + length (source_of i)) parts h.1)
content-at at (bar start ∷ parts) h = (h.0, content-at (at + 1) parts h.1)
content-at at (equals start ∷ parts) h = (h.0, content-at (at + 1) parts h.1)

plain-at : (at : ℕ) (parts : List Entry) → ArePiecesAt at (map entry parts) → ArePiecesAt at (map (λ e. entry (item (plain_entry e))) parts)
unfolding source_of
plain-at at [] h = tt
plain-at at (item i ∷ parts) h = (h.0, plain-at (at + length (source_of i)) parts h.1)
plain-at at (bar start ∷ parts) h = (h.0, plain-at (at + 1) parts h.1)
plain-at at (equals start ∷ parts) h = (h.0, plain-at (at + 1) parts h.1)

plain-long : (parts : List Entry) → long (map (λ e. entry (item (plain_entry e))) parts) ≡ length (entries_source parts)
plain-long [] = refl
plain-long (e ∷ parts) =
    length-append (source_of (plain_entry e)) (pieces_source (map (λ x. entry (item (plain_entry x))) parts))
    ∙ ap₂ (λ x y. x + y) (ap length (plain_entry-source e)) (plain-long parts)
    ∙ sym (length-append (entry_source e) (entries_source parts))

-- ---- what is left of a run

left_opening-at : (delimiters : Delimiter) (start count : ℕ) → ArePiecesAt start (left_opening (record { delimiters = delimiters; start = start; count = count }))
left_opening-at delimiters start zero = tt
left_opening-at delimiters start (suc zero) = (refl, tt)
left_opening-at delimiters start (suc (suc n)) = (refl, tt)

left_closing-at : (delimiters : Delimiter) (start count : ℕ) → ArePiecesAt start (left_closing (record { delimiters = delimiters; start = start; count = count }))
left_closing-at delimiters start zero = tt
left_closing-at delimiters start (suc zero) = (refl, tt)
left_closing-at delimiters start (suc (suc n)) = (refl, tt)

left_opening-long : (delimiters : Delimiter) (start count : ℕ) → long (left_opening (record { delimiters = delimiters; start = start; count = count })) ≡ count
unfolding source_of
left_opening-long delimiters start zero = refl
left_opening-long delimiters start (suc zero) = refl
left_opening-long delimiters start (suc (suc n)) = ap length (append-nil (replicate (suc (suc n)) (opening_delimiter delimiters))) ∙ length-replicate (suc (suc n)) (opening_delimiter delimiters)

-- ---- an answer

answer-plain-at : (at : ℕ) (before : List Piece) (closer : Run) → ArePiecesAt at (before ++ closing closer ∷ []) → ArePiecesAt at (as_plain before closer)
answer-plain-at at before closer h =
    at-join at (at + long before) before (entry (item (plain_closing closer)) ∷ []) (at-front at before (closing closer ∷ []) h) refl
    ((at-back at (at + long before) before (closing closer ∷ []) refl h).0, tt)

node-long : (kind : NodeKind) (start : ℕ) (content : Content) → length (source_of (node kind start content)) ≡ width kind + (length (content_source content) + width kind)
unfolding source_of
node-long kind start content =
    length-append (opening_braces kind) (content_source content ++ closing_braces kind)
    ∙ ap₂ (λ x y. x + y) (length-replicate (width kind) 123) (length-append (content_source content) (closing_braces kind) ∙ ap (λ k. length (content_source content) + k) (length-replicate (width kind) 125))

module _ (at : ℕ) (left : List Piece) (run : Run) (parts : List Entry) (closer : Run) (two : 2 ≤ run.count) (two_closing : 2 ≤ closer.count) (h : ArePiecesAt at ((left ++ opening run ∷ map entry parts) ++ closing closer ∷ [])) where
  abbrev whole : List Piece
  whole = left ++ opening run ∷ map entry parts

  -- where the opening run starts, and where the stretch does
  run_start : run.start ≡ at + long left
  run_start = (at-back at (at + long left) left (opening run ∷ map entry parts) refl (at-front at whole (closing closer ∷ []) h)).0

  stretch-at : ArePiecesAt (run.start + run.count) (map entry parts)
  stretch-at =
      let k = (at-back at (at + long left) left (opening run ∷ map entry parts) refl (at-front at whole (closing closer ∷ []) h)).1 in
      let e : (at + long left) + length (replicate run.count (opening_delimiter run.delimiters)) ≡ run.start + run.count = omega (arith, run_start, length-replicate run.count (opening_delimiter run.delimiters)) in
      subst (λ n. ArePiecesAt n (map entry parts)) e k

  whole-long : long whole ≡ long left + (run.count + length (entries_source parts))
  whole-long =
      long-append left (opening run ∷ map entry parts)
      ∙ ap (λ n. long left + n) (length-append (replicate run.count (opening_delimiter run.delimiters)) (pieces_source (map entry parts)) ∙ ap₂ (λ x y. x + y) (length-replicate run.count (opening_delimiter run.delimiters)) (ap length (entries-source parts)))

  closer_start : closer.start ≡ run.start + (run.count + length (entries_source parts))
  closer_start =
      let k : closer.start ≡ at + long whole = (at-back at (at + long whole) whole (closing closer ∷ []) refl h).0 in
      omega (arith, k, run_start, whole-long)

  left-at : ArePiecesAt at left
  left-at = at-front at left (opening run ∷ map entry parts) (at-front at whole (closing closer ∷ []) h)

  -- what is left of the opening run, where it stood
  front-at : (n : ℕ) → ArePiecesAt at (left ++ left_opening (first_delimiters n run))
  front-at n =
      at-join at (at + long left) left (left_opening (first_delimiters n run)) left-at refl
      (subst (λ a. ArePiecesAt a (left_opening (first_delimiters n run))) run_start (left_opening-at run.delimiters run.start n))

  front-long : (n : ℕ) → at + long (left ++ left_opening (first_delimiters n run)) ≡ run.start + n
  front-long n = omega (arith, long-append left (left_opening (first_delimiters n run)), left_opening-long run.delimiters run.start n, run_start)

  -- what is left of the closing run, behind the delimiters of it that were taken
  behind-at : (n : ℕ) → n ≤ closer.count → ArePiecesAt (closer.start + n) (left_closing (last_delimiters (closer.count - n) closer))
  behind-at n few =
      let e : closer.start + (closer.count - (closer.count - n)) ≡ closer.start + n = omega arith in
      subst (λ a. ArePiecesAt a (left_closing (last_delimiters (closer.count - n) closer))) e (left_closing-at closer.delimiters (last_delimiters (closer.count - n) closer).start (closer.count - n))

  answer-brackets-at : ArePiecesAt at (as_brackets (record { before = left; run = run; stretch = parts }) closer)
  unfolding source_of
  answer-brackets-at =
      let n : ℕ = run.count - 2 in
      let front : List Piece = left ++ left_opening (first_delimiters n run) in
      let middle : List Piece = entry (item (plain_opening (last_delimiters 2 run))) ∷ map (λ e. entry (item (plain_entry e))) parts in
      let behind : List Piece = entry (item (plain_closing (first_delimiters 2 closer))) ∷ left_closing (last_delimiters (closer.count - 2) closer) in
      let stretch : run.start + run.count ≡ (run.start + n) + 2 = omega arith in
      let middle_long : long middle ≡ suc (suc (length (entries_source parts))) = ap (λ k. suc (suc k)) (plain-long parts) in
      let joined : closer.start ≡ at + long (front ++ middle) = omega (arith, long-append front middle, front-long n, middle_long, closer_start) in
      at-join at closer.start (front ++ middle) behind
      (at-join at (run.start + n) front middle (front-at n) (sym (front-long n))
      (refl, subst (λ a. ArePiecesAt a (map (λ e. entry (item (plain_entry e))) parts)) stretch (plain-at (run.start + run.count) parts stretch-at)))
      joined
      (refl, behind-at 2 two_closing)

  answer-node-at : ArePiecesAt at (as_node (record { before = left; run = run; stretch = parts }) closer)
  answer-node-at =
      let c : ℕ = node_width run closer in
      let n : ℕ = run.count - c in
      let front : List Piece = left ++ left_opening (first_delimiters n run) in
      let made : Item = node (kind_by_width c) (last_delimiters c run).start (content_of parts) in
      let wide : width (kind_by_width c) ≡ c = width-by c (omega arith) (omega arith) in
      let stretch : run.start + run.count ≡ (run.start + n) + width (kind_by_width c) = omega arith in
      let text : length (content_source (content_of parts)) ≡ length (entries_source parts) = ap length (content-source parts) in
      let after : closer.start + c ≡ (run.start + n) + length (source_of made) = omega (arith, node-long (kind_by_width c) (last_delimiters c run).start (content_of parts), text, closer_start) in
      at-join at (run.start + n) front (entry (item made) ∷ left_closing (last_delimiters (closer.count - c) closer)) (front-at n) (sym (front-long n)) (
        (refl, subst (λ a. IsContentAt a (content_of parts)) stretch (content-at (run.start + run.count) parts stretch-at)),
        subst (λ a. ArePiecesAt a (left_closing (last_delimiters (closer.count - c) closer))) after (behind-at c (omega arith)),
      )

  answer-unmatched-at : ArePiecesAt at (as_plain whole closer)
  answer-unmatched-at = answer-plain-at at whole closer h

  abbrev found : AtOpening
  found = record { before = left; run = run; stretch = parts }

  matched-at : (m n : Delimiter) → ArePiecesAt at (matched m n whole found closer)
  matched-at braces braces =
      elim (content_height (content_of parts) == most_height) as (λ b. ArePiecesAt at (if b then as_plain whole closer else as_node found closer)) [
        | true ↦ answer-unmatched-at
        | false ↦ answer-node-at
      ]
  matched-at brackets brackets = answer-brackets-at
  matched-at braces brackets = answer-unmatched-at
  matched-at brackets braces = answer-unmatched-at

by_opening-at : (at : ℕ) {before : List Piece} {found : Option AtOpening} (closer : Run) → ByOpening before found → AreSound before → 2 ≤ closer.count → ArePiecesAt at (before ++ closing closer ∷ [])
    → ArePiecesAt at (elim found [ None ↦ as_plain before closer | Some o ↦ matched o.run.delimiters closer.delimiters before o closer ])
by_opening-at at closer (entries_alone parts) sound two h = answer-plain-at at (map entry parts) closer h
by_opening-at at closer (opened left run parts a) sound two h =
    matched-at at left run parts closer (all-back IsSound left (opening run ∷ map entry parts) sound).0 two h run.delimiters closer.delimiters

answered-at : (at : ℕ) (before : List Piece) (closer : Run) → AreSound before → HaveNoClosing before → 2 ≤ closer.count → ArePiecesAt at (before ++ closing closer ∷ []) → ArePiecesAt at (answered before closer)
answered-at at before closer sound none two h = by_opening-at at closer (by_opening before none) sound two h

-- ---- the rewriting

module _ (at : ℕ) (before : List Piece) (run : Run) (behind : List Piece) (none : HaveNoClosing before) (sound : AreSound (before ++ closing run ∷ behind)) (h : ArePiecesAt at (before ++ closing run ∷ behind)) where
  parted-two : 2 ≤ run.count
  parted-two = (all-back IsSound before (closing run ∷ behind) sound).0

  parted-front : ArePiecesAt at (before ++ closing run ∷ [])
  parted-front = at-join at (at + long before) before (closing run ∷ []) (at-front at before (closing run ∷ behind) h) refl ((at-back at (at + long before) before (closing run ∷ behind) refl h).0, tt)

  parted-long : long (answered before run) ≡ long before + run.count
  parted-long =
      ap length (answered-keeps before run (all-front IsSound before (closing run ∷ behind) sound) none parted-two).source
      ∙ length-append (pieces_source before) (replicate run.count (closing_delimiter run.delimiters))
      ∙ ap (λ k. long before + k) (length-replicate run.count (closing_delimiter run.delimiters))

  parted-at : ArePiecesAt at (step (before ++ closing run ∷ behind))
  parted-at =
      let e : (at + long before) + length (replicate run.count (closing_delimiter run.delimiters)) ≡ at + long (answered before run) = omega (arith, parted-long, length-replicate run.count (closing_delimiter run.delimiters)) in
      subst (λ t. ArePiecesAt at t) (sym (step-parted before run behind none))
      (at-join at (at + long (answered before run)) (answered before run) behind
      (answered-at at before run (all-front IsSound before (closing run ∷ behind) sound) none parted-two parted-front) refl
      (subst (λ a. ArePiecesAt a behind) e (at-back at (at + long before) before (closing run ∷ behind) refl h).1))

step-at-by : (at : ℕ) {pieces : List Piece} → ByClosing pieces → AreSound pieces → ArePiecesAt at pieces → ArePiecesAt at (step pieces)
step-at-by at {pieces = pieces} (without none) sound h = subst (λ t. ArePiecesAt at t) (sym (step-none pieces none)) h
step-at-by at (parted before run behind none) sound h = parted-at at before run behind none sound h

steps-at : (at n : ℕ) (pieces : List Piece) → AreSound pieces → ArePiecesAt at pieces → ArePiecesAt at (steps n pieces)
unfolding steps
steps-at at zero pieces sound h = h
steps-at at (suc n) pieces sound h = steps-at at n (step pieces) (step-keeps pieces sound).sound (step-at-by at (by_closing pieces) sound h)

pub reduced-at : (at : ℕ) (pieces : List Piece) → AreSound pieces → ArePiecesAt at pieces → ArePiecesAt at (reduced pieces)
unfolding reduced
reduced-at at pieces sound h = steps-at at (closing_delimiters pieces) pieces sound h
