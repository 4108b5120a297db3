-- Pieces: what text they stand for, what is always so of them, and their leftmost closing and last opening run.
use Rattle.std.proofs.Common.{◌≡◌, ℕ, ◌≤◌, List, [], ◌∷◌, ◌++◌, map, replicate, flat_map, codes, Option, Some, None, option_map, refl, ap, sym, subst, arith}
use Rattle.std.specs.List.{AllByRecursion}
use Rattle.wk_tree_rules.specs.Reduction.{Run, Piece, entry, opening, closing, opening_delimiter, closing_delimiter, behind_piece, leftmost_closing, entries_of, AtOpening, last_opening_or, last_opening, most_height, closing_delimiters}
use Rattle.wk_tree_rules.specs.Trees.{Entry, item, bar, equals, content_of, source_of, content_source, height, content_height, plain_entry}

-- ---- lists of which each element is so

pub all-append : {X : Type 0} (P : X → Type 0) (xs ys : List X) → AllByRecursion P xs → AllByRecursion P ys → AllByRecursion P (xs ++ ys)
all-append P [] ys a b = b
all-append P (x ∷ xs) ys a b = (a.0, all-append P xs ys a.1 b)

pub all-front : {X : Type 0} (P : X → Type 0) (xs ys : List X) → AllByRecursion P (xs ++ ys) → AllByRecursion P xs
all-front P [] ys a = tt
all-front P (x ∷ xs) ys a = (a.0, all-front P xs ys a.1)

pub all-back : {X : Type 0} (P : X → Type 0) (xs ys : List X) → AllByRecursion P (xs ++ ys) → AllByRecursion P ys
all-back P [] ys a = a
all-back P (x ∷ xs) ys a = all-back P xs ys a.1

pub all-map : {X Y : Type 0} (P : Y → Type 0) (f : X → Y) (xs : List X) → AllByRecursion (λ x. P (f x)) xs → AllByRecursion P (map f xs)
all-map P f [] a = tt
all-map P f (x ∷ xs) a = (a.0, all-map P f xs a.1)

pub all-unmap : {X Y : Type 0} (P : Y → Type 0) (f : X → Y) (xs : List X) → AllByRecursion P (map f xs) → AllByRecursion (λ x. P (f x)) xs
all-unmap P f [] a = tt
all-unmap P f (x ∷ xs) a = (a.0, all-unmap P f xs a.1)

pub all-imp : {X : Type 0} (P Q : X → Type 0) → ((x : X) → P x → Q x) → (xs : List X) → AllByRecursion P xs → AllByRecursion Q xs
all-imp P Q f [] a = tt
all-imp P Q f (x ∷ xs) a = (f x a.0, all-imp P Q f xs a.1)

-- ---- what a piece stands for

abbrev pub entry_source : Entry → List ℕ
entry_source (item i) = source_of i
entry_source (bar start) = codes "|"
entry_source (equals start) = codes "="

abbrev pub piece_source : Piece → List ℕ
piece_source (entry e) = entry_source e
piece_source (opening run) = replicate run.count (opening_delimiter run.delimiters)
piece_source (closing run) = replicate run.count (closing_delimiter run.delimiters)

abbrev pub pieces_source : List Piece → List ℕ
pieces_source pieces = flat_map piece_source pieces

abbrev pub entries_source : List Entry → List ℕ
entries_source parts = flat_map entry_source parts

pub content-source : (parts : List Entry) → content_source (content_of parts) ≡ entries_source parts
unfolding content_source source_of
content-source [] = refl
content-source (item i ∷ parts) = ap (λ t. source_of i ++ t) (content-source parts)
content-source (bar start ∷ parts) = ap (λ t. codes "|" ++ t) (content-source parts)
content-source (equals start ∷ parts) = ap (λ t. codes "=" ++ t) (content-source parts)

pub entries-source : (parts : List Entry) → pieces_source (map entry parts) ≡ entries_source parts
entries-source [] = refl
entries-source (e ∷ parts) = ap (λ t. entry_source e ++ t) (entries-source parts)

pub plain_entry-source : (e : Entry) → source_of (plain_entry e) ≡ entry_source e
unfolding source_of
plain_entry-source (item i) = refl
plain_entry-source (bar start) = refl
plain_entry-source (equals start) = refl

-- ---- what is always so of pieces

abbrev pub entry_height : Entry → ℕ
entry_height (item i) = height i
entry_height (bar start) = 0
entry_height (equals start) = 0

-- an entry isn't higher than a tree may be, and a run has two or more delimiters
abbrev pub IsSound : Piece → Type 0
IsSound (entry e) = entry_height e ≤ most_height
IsSound (opening run) = 2 ≤ run.count
IsSound (closing run) = 2 ≤ run.count

abbrev pub AreSound : List Piece → Type 0
AreSound pieces = AllByRecursion IsSound pieces

pub content-height : (most : ℕ) (parts : List Entry) → AllByRecursion (λ e. entry_height e ≤ most) parts → content_height (content_of parts) ≤ most
unfolding content_height height
content-height most [] a = omega arith
content-height most (item i ∷ parts) a = let later = content-height most parts a.1 in let now : height i ≤ most = a.0 in omega arith
content-height most (bar start ∷ parts) a = content-height most parts a.1
content-height most (equals start ∷ parts) a = content-height most parts a.1

-- ---- the leftmost closing run

-- no piece is a closing run
abbrev pub IsNoClosing : Piece → Type 0
IsNoClosing (entry e) = Unit {0}
IsNoClosing (opening run) = Unit {0}
IsNoClosing (closing run) = ⊥

abbrev pub HaveNoClosing : List Piece → Type 0
HaveNoClosing pieces = AllByRecursion IsNoClosing pieces

-- with no closing run nothing is found
pub leftmost_closing-none : (pieces : List Piece) → HaveNoClosing pieces → leftmost_closing pieces ≡ None
leftmost_closing-none [] a = refl
leftmost_closing-none (entry e ∷ pieces) a = ap (option_map (behind_piece (entry e))) (leftmost_closing-none pieces a.1)
leftmost_closing-none (opening run ∷ pieces) a = ap (option_map (behind_piece (opening run))) (leftmost_closing-none pieces a.1)
leftmost_closing-none (closing run ∷ pieces) a = absurd a.0

-- the first closing run behind pieces that are none is found
pub leftmost_closing-first : (before : List Piece) (run : Run) (behind : List Piece) → HaveNoClosing before → leftmost_closing (before ++ closing run ∷ behind) ≡ Some (record { before = before; run = run; behind = behind })
leftmost_closing-first [] run behind a = refl
leftmost_closing-first (entry e ∷ before) run behind a = ap (option_map (behind_piece (entry e))) (leftmost_closing-first before run behind a.1)
leftmost_closing-first (opening r ∷ before) run behind a = ap (option_map (behind_piece (opening r))) (leftmost_closing-first before run behind a.1)
leftmost_closing-first (closing r ∷ before) run behind a = absurd a.0

-- a list of pieces has no closing run, or is parted by its leftmost
pub data ByClosing : List Piece → Type 0 where
  without : {pieces : List Piece} → HaveNoClosing pieces → ByClosing pieces
  parted : (before : List Piece) (run : Run) (behind : List Piece) → HaveNoClosing before → ByClosing (before ++ closing run ∷ behind)

by_closing-entry : (e : Entry) {pieces : List Piece} → ByClosing pieces → ByClosing (entry e ∷ pieces)
by_closing-entry e (without a) = without (tt, a)
by_closing-entry e (parted before run behind a) = parted (entry e ∷ before) run behind (tt, a)

by_closing-opening : (r : Run) {pieces : List Piece} → ByClosing pieces → ByClosing (opening r ∷ pieces)
by_closing-opening r (without a) = without (tt, a)
by_closing-opening r (parted before run behind a) = parted (opening r ∷ before) run behind (tt, a)

pub by_closing : (pieces : List Piece) → ByClosing pieces
by_closing [] = without tt
by_closing (entry e ∷ pieces) = by_closing-entry e (by_closing pieces)
by_closing (opening r ∷ pieces) = by_closing-opening r (by_closing pieces)
by_closing (closing r ∷ pieces) = parted [] r pieces tt

-- ---- the last opening run

-- a list of pieces without closing runs is a list of entries, or is parted by its last opening run
pub data ByOpening : List Piece → Option AtOpening → Type 0 where
  entries_alone : (parts : List Entry) → ByOpening (map entry parts) None
  opened : (before : List Piece) (run : Run) (parts : List Entry) → HaveNoClosing before → ByOpening (before ++ opening run ∷ map entry parts) (Some (record { before = before; run = run; stretch = parts }))

pub entries_of-entries : (parts : List Entry) → entries_of (map entry parts) ≡ parts
entries_of-entries [] = refl
entries_of-entries (e ∷ parts) = ap (λ t. e ∷ t) (entries_of-entries parts)

by_opening-entry : (e : Entry) {pieces : List Piece} {at : Option AtOpening} → ByOpening pieces at → ByOpening (entry e ∷ pieces) (last_opening_or (entry e) pieces at)
by_opening-entry e (entries_alone parts) = entries_alone (e ∷ parts)
by_opening-entry e (opened before run parts a) = opened (entry e ∷ before) run parts (tt, a)

by_opening-opening : (r : Run) {pieces : List Piece} {at : Option AtOpening} → ByOpening pieces at → ByOpening (opening r ∷ pieces) (last_opening_or (opening r) pieces at)
by_opening-opening r (entries_alone parts) =
    subst (λ stretch. ByOpening (opening r ∷ map entry parts) (Some (record { before = []; run = r; stretch = stretch }))) (sym (entries_of-entries parts)) (opened [] r parts tt)
by_opening-opening r (opened before run parts a) = opened (opening r ∷ before) run parts (tt, a)

pub by_opening : (pieces : List Piece) → HaveNoClosing pieces → ByOpening pieces (last_opening pieces)
by_opening [] a = entries_alone []
by_opening (entry e ∷ pieces) a = by_opening-entry e (by_opening pieces a.1)
by_opening (opening r ∷ pieces) a = by_opening-opening r (by_opening pieces a.1)
by_opening (closing r ∷ pieces) a = absurd a.0

-- ---- closing delimiters

pub closing_delimiters-none : (pieces : List Piece) → HaveNoClosing pieces → closing_delimiters pieces ≡ 0
closing_delimiters-none [] a = refl
closing_delimiters-none (entry e ∷ pieces) a = closing_delimiters-none pieces a.1
closing_delimiters-none (opening run ∷ pieces) a = closing_delimiters-none pieces a.1
closing_delimiters-none (closing run ∷ pieces) a = absurd a.0

pub entries-no_closing : (parts : List Entry) → HaveNoClosing (map entry parts)
entries-no_closing [] = tt
entries-no_closing (e ∷ parts) = (tt, entries-no_closing parts)
