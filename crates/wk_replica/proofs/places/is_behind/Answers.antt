use Rattle.std.proofs.Common.{◌≡◌, suc, ◌-◌, Bool, true, List, [], ◌∷◌, length, map, Option, Some, None, sym, ap, ◌∙◌, arith}
use Rattle.std.specs.List.{last_or, slice_get}
use Rattle.wk_feed_rules.specs.Lines.{TableRow}
use Rattle.wk_feed_rules.specs.Taking.{RowPlace, place_lt, place_of}
use Rattle.wk_feed_lines.specs.Said.{row_of}
use Rattle.wk_replica.specs.Places.{place_shown}
use Rattle.wk_replica.proofs.places.is_behind.Goals as goal

-- the last item of a list
last-got : {X : Type 0} (o : Option X) (xs : List X) (x : X) → slice_get xs (length xs - 1) ≡ Some x → last_or o xs ≡ Some x
last-got o [] x is = absurd (let none : None ≡ Some x = is in cc)
last-got o (y ∷ []) x is = is
last-got o (y ∷ z ∷ xs) x is =
    let far : length (y ∷ z ∷ xs) - 1 ≡ suc (length xs) = omega arith in
    let near : length (z ∷ xs) - 1 ≡ length xs = omega arith in
    last-got (Some y) (z ∷ xs) x (ap (slice_get (z ∷ xs)) near ∙ (ap (slice_get (y ∷ z ∷ xs)) (sym far) ∙ is))

-- and of what is made of each
last-of : {X Y : Type 0} (f : X → Y) (o : Option X) (p : Option Y) (xs : List X) (x : X) → last_or o xs ≡ Some x → (o ≡ Some x → p ≡ Some (f x)) → last_or p (map f xs) ≡ Some (f x)
last-of f o p [] x is same = same is
last-of f o p (y ∷ xs) x is same = last-of f (Some y) (Some (f y)) xs x is (λ one. let e : y ≡ x = cc in ap (λ z. Some (f z)) e)

abbrev behind : TableRow → Option TableRow → Bool
behind row last = elim last [ None ↦ true | Some l ↦ place_lt (place_of l) (place_of row) ]

pub returns-in-Some : goal.returns-in-Some
returns-in-Some c =
    let row = row_of c.args.row.now in
    let last = c.in-Some.last.now in
    let is : last_or None (map row_of c.args.rows.now) ≡ Some (row_of last) = last-of row_of None None c.args.rows.now last (last-got None c.args.rows.now last (sym c.in-Some.ensures.value)) (λ none. absurd (let e : None ≡ Some last = none in cc)) in
    c.is_before.ensures
    ∙ (ap (λ (p : RowPlace). place_lt p (place_shown c.place_of-in-Some.result)) c.place_of.ensures ∙ (ap (place_lt (place_of (row_of last))) c.place_of-in-Some.ensures ∙ ap (behind row) (sym is)))
