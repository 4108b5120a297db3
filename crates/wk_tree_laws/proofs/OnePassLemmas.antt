-- The rewriting and the one pass from the left end in the same pieces.
use Rattle.std.proofs.Common.{◌≡◌, ℕ, zero, suc, ◌+◌, ◌-◌, ◌<◌, ◌≤◌, ◌==◌, true, false, if◌then◌else◌, List, [], ◌∷◌, ◌++◌, map, Option, Some, None, refl, ap, sym, subst, ◌∙◌, arith, append_assoc, append-nil, le_refl}
use Rattle.std.proofs.lemmas.List.{map-append}
use Rattle.std.proofs.lemmas.List.Sums.{sum_by-append, sum_by-cons}
use Rattle.wk_tree_laws.proofs.PieceLemmas.{all-append, all-front, all-back, AreSound, IsSound, HaveNoClosing, IsNoClosing, entries-no_closing, closing_delimiters-none, by_closing, ByClosing, without, parted, entries_of-entries}
use Rattle.wk_tree_laws.proofs.ReductionLemmas.{step-parted, step-keeps, steps-none, parted-fewer}
use Rattle.wk_tree_laws.proofs.StepLemmas.{answered-keeps}
use Rattle.wk_tree_laws.specs.OnePass.{Opener, PassState, nothing_seen, pieces_by, pieces_seen, added_by, added, opened, reopened, Met, met_as_plain, met_as_node, met_as_brackets, met_by_delimiters, met_by_openers, met, resumed, closed, passed}
use Rattle.wk_tree_rules.specs.Reduction.{Delimiter, braces, brackets, Run, Piece, entry, opening, closing, plain_opening, plain_closing, first_delimiters, last_delimiters, left_over, left_opening, left_closing, AtOpening, last_opening_or, last_opening, most_height, node_width, kind_by_width, as_node, as_brackets, as_plain, matched, answered, step, steps, closing_delimiters_of, closing_delimiters, reduced}
use Rattle.wk_tree_rules.specs.Trees.{node, Entry, item, content_of, content_height, plain_entry}

-- ---- more steps than are wanted

-- the delimiters of a piece list that is parted by a closing run of two or more
some-delimiters : (before : List Piece) (run : Run) (behind : List Piece) → AreSound (before ++ closing run ∷ behind) → 2 ≤ closing_delimiters (before ++ closing run ∷ behind)
some-delimiters before run behind sound =
    let long : 2 ≤ run.count = (all-back IsSound before (closing run ∷ behind) sound).0 in
    simp (sum_by-append, sum_by-cons) (omega arith)

module _ (b : ℕ) (again : (n m : ℕ) (pieces : List Piece) → AreSound pieces → closing_delimiters pieces ≤ b → closing_delimiters pieces ≤ n → closing_delimiters pieces ≤ m → steps n pieces ≡ steps m pieces) where
  parted-agree : (n m : ℕ) (before : List Piece) (run : Run) (behind : List Piece) → HaveNoClosing before → AreSound (before ++ closing run ∷ behind) → closing_delimiters (before ++ closing run ∷ behind) ≤ suc b → closing_delimiters (before ++ closing run ∷ behind) ≤ n → closing_delimiters (before ++ closing run ∷ behind) ≤ m → steps n (before ++ closing run ∷ behind) ≡ steps m (before ++ closing run ∷ behind)
  unfolding steps
  parted-agree zero m before run behind none sound eb en em = absurd (omega (arith, some-delimiters before run behind sound))
  parted-agree (suc n) zero before run behind none sound eb en em = absurd (omega (arith, some-delimiters before run behind sound))
  parted-agree (suc n) (suc m) before run behind none sound eb en em =
      let fewer : closing_delimiters (step (before ++ closing run ∷ behind)) < closing_delimiters (before ++ closing run ∷ behind) = parted-fewer before run behind none sound in
      again n m (step (before ++ closing run ∷ behind)) (step-keeps (before ++ closing run ∷ behind) sound).sound (omega arith) (omega arith) (omega arith)

  agree-by : (n m : ℕ) {pieces : List Piece} → ByClosing pieces → AreSound pieces → closing_delimiters pieces ≤ suc b → closing_delimiters pieces ≤ n → closing_delimiters pieces ≤ m → steps n pieces ≡ steps m pieces
  agree-by n m {pieces = pieces} (without none) sound eb en em = steps-none n pieces none ∙ sym (steps-none m pieces none)
  agree-by n m (parted before run behind none) sound eb en em = parted-agree n m before run behind none sound eb en em

agree-at_once : (n m : ℕ) {pieces : List Piece} → ByClosing pieces → AreSound pieces → closing_delimiters pieces ≤ 0 → steps n pieces ≡ steps m pieces
agree-at_once n m {pieces = pieces} (without none) sound eb = steps-none n pieces none ∙ sym (steps-none m pieces none)
agree-at_once n m (parted before run behind none) sound eb = absurd (omega (arith, some-delimiters before run behind sound))

-- two numbers of steps that are both enough end alike
pub steps-agree : (b n m : ℕ) (pieces : List Piece) → AreSound pieces → closing_delimiters pieces ≤ b → closing_delimiters pieces ≤ n → closing_delimiters pieces ≤ m → steps n pieces ≡ steps m pieces
steps-agree zero n m pieces sound eb en em = agree-at_once n m (by_closing pieces) sound eb
steps-agree (suc b) n m pieces sound eb en em = agree-by b (steps-agree b) n m (by_closing pieces) sound eb en em

-- the rewriting of what a step has left is the rewriting
pub reduced-step : (pieces : List Piece) → AreSound pieces → reduced (step pieces) ≡ reduced pieces
unfolding reduced steps
reduced-step pieces sound =
    let now = step-keeps pieces sound in
    let fewer : closing_delimiters (step pieces) ≤ closing_delimiters pieces = now.fewer in
    steps-agree (closing_delimiters (step pieces)) (closing_delimiters (step pieces)) (closing_delimiters pieces) (step pieces) now.sound (le_refl (closing_delimiters (step pieces))) (le_refl (closing_delimiters (step pieces))) fewer
    ∙ steps-agree (closing_delimiters pieces) (suc (closing_delimiters pieces)) (closing_delimiters pieces) pieces sound (le_refl (closing_delimiters pieces)) (omega arith) (le_refl (closing_delimiters pieces))

pub reduced-none : (pieces : List Piece) → HaveNoClosing pieces → reduced pieces ≡ pieces
unfolding reduced
reduced-none pieces none = steps-none (closing_delimiters pieces) pieces none

-- ---- what has been seen, as pieces

pub pieces_by-no_closing : (first : List Entry) (openers : List Opener) → HaveNoClosing (pieces_by first openers)
pieces_by-no_closing first [] = entries-no_closing first
pieces_by-no_closing first (opener ∷ openers) =
    all-append IsNoClosing (pieces_by first openers) (opening opener.run ∷ map entry opener.stretch) (pieces_by-no_closing first openers) (tt, entries-no_closing opener.stretch)

added_by-pieces : (parts first : List Entry) (openers : List Opener) → pieces_seen (added_by parts first openers) ≡ pieces_by first openers ++ map entry parts
added_by-pieces parts first [] = map-append entry first parts
added_by-pieces parts first (opener ∷ openers) =
    ap (λ t. pieces_by first openers ++ opening opener.run ∷ t) (map-append entry opener.stretch parts)
    ∙ sym (append_assoc (pieces_by first openers) (opening opener.run ∷ map entry opener.stretch) (map entry parts))

pub added-pieces : (parts : List Entry) (seen : PassState) → pieces_seen (added parts seen) ≡ pieces_seen seen ++ map entry parts
added-pieces parts seen = added_by-pieces parts seen.first seen.openers

reopened-pieces : (delimiters : Delimiter) (start count : ℕ) (seen : PassState) → pieces_seen (reopened count (record { delimiters = delimiters; start = start; count = count }) seen) ≡ pieces_seen seen ++ left_opening (record { delimiters = delimiters; start = start; count = count })
reopened-pieces delimiters start zero seen = sym (append-nil (pieces_seen seen))
reopened-pieces delimiters start (suc zero) seen = added-pieces (item (plain_opening (record { delimiters = delimiters; start = start; count = 1 })) ∷ []) seen
reopened-pieces delimiters start (suc (suc n)) seen = refl

-- ---- a closing run and the last opener

last_opening-entries : (parts : List Entry) → last_opening (map entry parts) ≡ None
last_opening-entries [] = refl
last_opening-entries (e ∷ parts) = ap (λ found. last_opening_or (entry e) (map entry parts) found) (last_opening-entries parts)

last_opening-is : (left : List Piece) (run : Run) (parts : List Entry) → last_opening (left ++ opening run ∷ map entry parts) ≡ Some (record { before = left; run = run; stretch = parts })
last_opening-is [] run parts =
    ap (λ found. last_opening_or (opening run) (map entry parts) found) (last_opening-entries parts)
    ∙ ap (λ stretch. Some (record { before = []; run = run; stretch = stretch })) (entries_of-entries parts)
last_opening-is (entry e ∷ left) run parts = ap (λ found. last_opening_or (entry e) (left ++ opening run ∷ map entry parts) found) (last_opening-is left run parts)
last_opening-is (opening r ∷ left) run parts = ap (λ found. last_opening_or (opening r) (left ++ opening run ∷ map entry parts) found) (last_opening-is left run parts)
last_opening-is (closing r ∷ left) run parts = ap (λ found. last_opening_or (closing r) (left ++ opening run ∷ map entry parts) found) (last_opening-is left run parts)

-- what a closing run and what has been seen become, as pieces
abbrev outcome : Met → List Piece
outcome m = pieces_seen m.seen ++ left_closing m.rest

plain-met : (closer : Run) (seen : PassState) → as_plain (pieces_seen seen) closer ≡ outcome (met_as_plain closer seen)
plain-met closer seen = sym (append-nil (pieces_seen (added (item (plain_closing closer) ∷ []) seen)) ∙ added-pieces (item (plain_closing closer) ∷ []) seen)

module _ (first : List Entry) (opener : Opener) (openers : List Opener) (closer : Run) where
  abbrev outer : PassState
  outer = record { first = first; openers = openers }

  abbrev all_seen : PassState
  all_seen = record { first = first; openers = opener ∷ openers }

  abbrev last : AtOpening
  last = record { before = pieces_by first openers; run = opener.run; stretch = opener.stretch }

  -- entries that come behind what is left of the opening run
  behind-reopened : (n : ℕ) (parts : List Entry) → pieces_seen (added parts (reopened n (first_delimiters n opener.run) outer)) ≡ (pieces_by first openers ++ left_opening (first_delimiters n opener.run)) ++ map entry parts
  behind-reopened n parts =
      added-pieces parts (reopened n (first_delimiters n opener.run) outer)
      ∙ ap (λ t. t ++ map entry parts) (reopened-pieces opener.run.delimiters opener.run.start n outer)

  node-met : as_node last closer ≡ outcome (met_as_node opener closer outer)
  node-met =
      let c : ℕ = node_width opener.run closer in
      let made : Entry = item (node (kind_by_width c) (last_delimiters c opener.run).start (content_of opener.stretch)) in
      let rest : List Piece = left_closing (last_delimiters (closer.count - c) closer) in
      sym (ap (λ t. t ++ rest) (behind-reopened (opener.run.count - c) (made ∷ []))
      ∙ append_assoc (pieces_by first openers ++ left_opening (first_delimiters (opener.run.count - c) opener.run)) (entry made ∷ []) rest)

  plain-entries : (parts : List Entry) → map entry (map (λ e. item (plain_entry e)) parts) ≡ map (λ e. entry (item (plain_entry e))) parts
  plain-entries [] = refl
  plain-entries (e ∷ parts) = ap (λ t. entry (item (plain_entry e)) ∷ t) (plain-entries parts)

  brackets-met : as_brackets last closer ≡ outcome (met_as_brackets opener closer outer)
  brackets-met =
      let front : List Piece = pieces_by first openers ++ left_opening (first_delimiters (opener.run.count - 2) opener.run) in
      let before : Entry = item (plain_opening (last_delimiters 2 opener.run)) in
      let behind : Entry = item (plain_closing (first_delimiters 2 closer)) in
      let middle : List Entry = map (λ e. item (plain_entry e)) opener.stretch in
      let pieces : List Piece = map (λ e. entry (item (plain_entry e))) opener.stretch in
      let rest : List Piece = left_closing (last_delimiters (closer.count - 2) closer) in
      sym (ap (λ t. t ++ rest)
      (behind-reopened (opener.run.count - 2) (before ∷ middle ++ behind ∷ [])
      ∙ ap (λ t. front ++ entry before ∷ t) (map-append entry middle (behind ∷ []) ∙ ap (λ t. t ++ entry behind ∷ []) (plain-entries opener.stretch)))
      ∙ regrouped front (entry before) pieces (entry behind) rest)
    where
      regrouped : (front : List Piece) (p : Piece) (middle : List Piece) (q : Piece) (rest : List Piece) → (front ++ (p ∷ (middle ++ q ∷ []))) ++ rest ≡ ((front ++ p ∷ middle) ++ q ∷ rest)
      regrouped front p middle q rest = simp append_assoc

  matched-met : (m n : Delimiter) → matched m n (pieces_seen all_seen) last closer ≡ outcome (met_by_delimiters m n opener closer outer all_seen)
  matched-met braces braces =
      elim (content_height (content_of opener.stretch) == most_height) as (λ b. (if b then as_plain (pieces_seen all_seen) closer else as_node last closer) ≡ outcome (if b then met_as_plain closer all_seen else met_as_node opener closer outer)) [
        | true ↦ plain-met closer all_seen
        | false ↦ node-met
      ]
  matched-met brackets brackets = brackets-met
  matched-met braces brackets = plain-met closer all_seen
  matched-met brackets braces = plain-met closer all_seen

answer_to : List Piece → Run → Option AtOpening → List Piece
answer_to before closer found = elim found [ None ↦ as_plain before closer | Some at ↦ matched at.run.delimiters closer.delimiters before at closer ]

met_by-pieces : (closer : Run) (first : List Entry) (openers : List Opener) → answered (pieces_by first openers) closer ≡ outcome (met_by_openers closer first openers)
unfolding answer_to
met_by-pieces closer first [] = ap (answer_to (map entry first) closer) (last_opening-entries first) ∙ plain-met closer (record { first = first; openers = [] })
met_by-pieces closer first (opener ∷ openers) =
    ap (answer_to (pieces_by first (opener ∷ openers)) closer) (last_opening-is (pieces_by first openers) opener.run opener.stretch)
    ∙ matched-met first opener openers closer opener.run.delimiters closer.delimiters

pub met-pieces : (closer : Run) (seen : PassState) → answered (pieces_seen seen) closer ≡ outcome (met closer seen)
met-pieces closer seen = met_by-pieces closer seen.first seen.openers

-- ---- a closing run, met until none of it is left

-- rewritten to the same end, and sound
pub record SameEnd (pieces others : List Piece) : Type 0 where
  pub same : reduced pieces ≡ reduced others
  pub sound : AreSound others

module _ (n : ℕ) (again : (closer : Run) (seen : PassState) (ahead : List Piece) → 2 ≤ closer.count → closer.count ≤ n → AreSound (pieces_seen seen ++ closing closer ∷ ahead) → SameEnd (pieces_seen seen ++ closing closer ∷ ahead) (pieces_seen (closed n closer seen) ++ ahead)) where
  resumed-end : (seen : PassState) (delimiters : Delimiter) (start count : ℕ) (ahead : List Piece) → count ≤ n
      → AreSound ((pieces_seen seen ++ left_closing (record { delimiters = delimiters; start = start; count = count })) ++ ahead)
      → SameEnd ((pieces_seen seen ++ left_closing (record { delimiters = delimiters; start = start; count = count })) ++ ahead) (pieces_seen (resumed count (record { seen = seen; rest = record { delimiters = delimiters; start = start; count = count } }) (closed n (record { delimiters = delimiters; start = start; count = count }) seen)) ++ ahead)
  resumed-end seen delimiters start zero ahead few sound =
      let e : (pieces_seen seen ++ []) ++ ahead ≡ pieces_seen seen ++ ahead = ap (λ t. t ++ ahead) (append-nil (pieces_seen seen)) in
      record { same = ap reduced e; sound = subst AreSound e sound }
  resumed-end seen delimiters start (suc zero) ahead few sound =
      let last : List Entry = item (plain_closing (record { delimiters = delimiters; start = start; count = 1 })) ∷ [] in
      let e : (pieces_seen seen ++ map entry last) ++ ahead ≡ pieces_seen (added last seen) ++ ahead = ap (λ t. t ++ ahead) (sym (added-pieces last seen)) in
      record { same = ap reduced e; sound = subst AreSound e sound }
  resumed-end seen delimiters start (suc (suc k)) ahead few sound =
      let rest : Run = record { delimiters = delimiters; start = start; count = suc (suc k) } in
      let e : (pieces_seen seen ++ closing rest ∷ []) ++ ahead ≡ pieces_seen seen ++ closing rest ∷ ahead = append_assoc (pieces_seen seen) (closing rest ∷ []) ahead in
      let later = again rest seen ahead (omega arith) few (subst AreSound e sound) in
      record { same = ap reduced e ∙ later.same; sound = later.sound }

rest-fewer : (m : Met) (most : ℕ) → 2 ≤ most → closing_delimiters (outcome m) < most → m.rest.count < most
rest-fewer m most two h =
    let none : closing_delimiters (pieces_seen m.seen) ≡ 0 = closing_delimiters-none (pieces_seen m.seen) (pieces_by-no_closing m.seen.first m.seen.openers) in
    let total : closing_delimiters (outcome m) ≡ closing_delimiters (pieces_seen m.seen) + closing_delimiters (left_closing m.rest) = sum_by-append closing_delimiters_of (pieces_seen m.seen) (left_closing m.rest) in
    by-count m.rest.count refl (omega arith)
  where
    by-count : (count : ℕ) → m.rest.count ≡ count → closing_delimiters (left_closing m.rest) < most → m.rest.count < most
    by-count zero e f = omega arith
    by-count (suc zero) e f = omega arith
    by-count (suc (suc k)) e f =
        let same : left_closing m.rest ≡ closing m.rest ∷ [] = ap (λ c. left_over c (plain_closing m.rest) (closing m.rest)) e in
        let delimiters : closing_delimiters (left_closing m.rest) ≡ 0 + m.rest.count = ap closing_delimiters same in
        omega arith

pub closed-end : (n : ℕ) (closer : Run) (seen : PassState) (ahead : List Piece) → 2 ≤ closer.count → closer.count ≤ n → AreSound (pieces_seen seen ++ closing closer ∷ ahead) → SameEnd (pieces_seen seen ++ closing closer ∷ ahead) (pieces_seen (closed n closer seen) ++ ahead)
unfolding closed
closed-end zero closer seen ahead two few sound = absurd (omega arith)
closed-end (suc n) closer seen ahead two few sound =
    let pieces : List Piece = pieces_seen seen ++ closing closer ∷ ahead in
    let none : HaveNoClosing (pieces_seen seen) = pieces_by-no_closing seen.first seen.openers in
    let now : Met = met closer seen in
    let e : step pieces ≡ outcome now ++ ahead = step-parted (pieces_seen seen) closer ahead none ∙ ap (λ t. t ++ ahead) (met-pieces closer seen) in
    let kept : AreSound (outcome now ++ ahead) = subst AreSound e (step-keeps pieces sound).sound in
    let answer = answered-keeps (pieces_seen seen) closer (all-front IsSound (pieces_seen seen) (closing closer ∷ ahead) sound) none two in
    let fewer : closing_delimiters (outcome now) < closer.count = subst (λ t. closing_delimiters t < closer.count) (met-pieces closer seen) answer.fewer in
    let rest : now.rest.count < closer.count = rest-fewer now closer.count two fewer in
    let later = resumed-end n (closed-end n) now.seen now.rest.delimiters now.rest.start now.rest.count ahead (omega arith) kept in
    record { same = sym (reduced-step pieces sound) ∙ ap reduced e ∙ later.same; sound = later.sound }

-- ---- the pass

pub passed-reduced : (seen : PassState) (ahead : List Piece) → AreSound (pieces_seen seen ++ ahead) → reduced (pieces_seen seen ++ ahead) ≡ pieces_seen (passed seen ahead)
unfolding passed
passed-reduced seen [] sound =
    ap reduced (append-nil (pieces_seen seen)) ∙ reduced-none (pieces_seen seen) (pieces_by-no_closing seen.first seen.openers)
passed-reduced seen (entry x ∷ ahead) sound =
    let e : pieces_seen seen ++ entry x ∷ ahead ≡ pieces_seen (added (x ∷ []) seen) ++ ahead =
    sym (ap (λ t. t ++ ahead) (added-pieces (x ∷ []) seen) ∙ append_assoc (pieces_seen seen) (entry x ∷ []) ahead) in
    ap reduced e ∙ passed-reduced (added (x ∷ []) seen) ahead (subst AreSound e sound)
passed-reduced seen (opening run ∷ ahead) sound =
    let e : pieces_seen seen ++ opening run ∷ ahead ≡ pieces_seen (opened run seen) ++ ahead = sym (append_assoc (pieces_seen seen) (opening run ∷ []) ahead) in
    ap reduced e ∙ passed-reduced (opened run seen) ahead (subst AreSound e sound)
passed-reduced seen (closing run ∷ ahead) sound =
    let long : 2 ≤ run.count = (all-back IsSound (pieces_seen seen) (closing run ∷ ahead) sound).0 in
    let now = closed-end run.count run seen ahead long (le_refl run.count) sound in
    now.same ∙ passed-reduced (closed run.count run seen) ahead now.sound

-- the pass from nothing seen
pub passed-all : (pieces : List Piece) → AreSound pieces → reduced pieces ≡ pieces_seen (passed nothing_seen pieces)
passed-all pieces sound = passed-reduced nothing_seen pieces sound
