-- Lines that are taken one after the other, by what each says.
use Rattle.std.proofs.Common.{◌≡◌, ℕ, ◌+◌, true, cond, List, [], ◌∷◌, ◌++◌, map, Option, Some, None, option_and_then, refl, sym, ap, ◌∙◌, append_assoc, append-nil}
use Rattle.std.specs.Prelude.{⊤}
use Rattle.std.specs.List.{AllByRecursion}
use Rattle.wk_feed_rules.specs.Lines.{TableRow, FeedLine, row, line_text}
use Rattle.wk_feed_rules.specs.Taking.{FeedSoFar, loading, Fed, told, bad_line, fed_from, is_behind, line_taken}
use Rattle.wk_feed_laws.specs.Fits.{LineFits}
use Rattle.wk_feed_laws.proofs.Said.{line-said}

-- what is told with these lines more; nothing where one of them is out of its place
abbrev pub all_taken : FeedSoFar → List FeedLine → Option FeedSoFar
all_taken so_far [] = Some so_far
all_taken so_far (line ∷ lines) = option_and_then (λ next. all_taken next lines) (line_taken so_far line)

-- behind a line that is taken or out of its place
append-behind : (xs ys : List FeedLine) → ((next : FeedSoFar) → all_taken next (xs ++ ys) ≡ option_and_then (λ last. all_taken last ys) (all_taken next xs)) → (o : Option FeedSoFar)
    → option_and_then (λ next. all_taken next (xs ++ ys)) o ≡ option_and_then (λ next. all_taken next ys) (option_and_then (λ next. all_taken next xs) o)
append-behind xs ys each None = refl
append-behind xs ys each (Some next) = each next

pub all_taken-append : (so_far : FeedSoFar) (xs ys : List FeedLine) → all_taken so_far (xs ++ ys) ≡ option_and_then (λ next. all_taken next ys) (all_taken so_far xs)
all_taken-append so_far [] ys = refl
all_taken-append so_far (x ∷ xs) ys = append-behind xs ys (λ next. all_taken-append next xs ys) (line_taken so_far x)

-- the lines behind one that is taken or bad
abbrev fed_behind : ℕ → List (List ℕ) → Option FeedSoFar → Fed
fed_behind number lines o = elim o as (λ p. Fed) [ None ↦ bad_line number | Some next ↦ fed_from (number + 1) next lines ]

fed-next : (lines : List FeedLine) (number : ℕ) (last : FeedSoFar) → ((next : FeedSoFar) → all_taken next lines ≡ Some last → fed_from (number + 1) next (map line_text lines) ≡ told last)
    → (o : Option FeedSoFar) → option_and_then (λ next. all_taken next lines) o ≡ Some last → fed_behind number (map line_text lines) o ≡ told last
fed-next lines number last each None e = absurd (let none : None ≡ Some last = e in cc)
fed-next lines number last each (Some next) e = each next e

pub taken-fed : (lines : List FeedLine) (number : ℕ) (so_far last : FeedSoFar) → AllByRecursion LineFits lines → all_taken so_far lines ≡ Some last → fed_from number so_far (map line_text lines) ≡ told last
taken-fed [] number so_far last fits is = let same : so_far ≡ last = let e : Some so_far ≡ Some last = is in cc in ap told same
taken-fed (line ∷ lines) number so_far last fits is =
    ap (λ (o : Option FeedLine). fed_behind number (map line_text lines) (option_and_then (line_taken so_far) o)) (line-said line fits.0)
    ∙ fed-next lines number last (λ next e. taken-fed lines (number + 1) next last fits.1 e) (line_taken so_far line) is

-- ---- rows

-- each row stands behind those before it
abbrev pub AreBehind : List TableRow → List TableRow → Type 0
AreBehind before [] = ⊤
AreBehind before (r ∷ rows) = (is_behind before r ≡ true) × AreBehind (before ++ r ∷ []) rows

pub rows-taken : (rows before : List TableRow) → AreBehind before rows → all_taken (loading before) (map row rows) ≡ Some (loading (before ++ rows))
rows-taken [] before behind = ap (λ rows. Some (loading rows)) (sym (append-nil before))
rows-taken (r ∷ rows) before behind =
    ap (λ b. option_and_then (λ next. all_taken next (map row rows)) (cond b (Some (loading (before ++ r ∷ []))) None)) behind.0
    ∙ (rows-taken rows (before ++ r ∷ []) behind.1 ∙ ap (λ all. Some (loading all)) (append_assoc before (r ∷ []) rows))
