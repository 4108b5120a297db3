-- The rows of one page among rows that are kept by page, or in any order.
use Rattle.std.proofs.Common.{◌≡◌, ℕ, suc, ◌+◌, ◌-◌, ◌<◌, ◌≤◌, Bool, true, false, not, eqb, ltb, List, [], ◌∷◌, ◌++◌, length, get_or, set, take, drop, filter, refl, sym, ap, ◌∙◌, subst, arith}
use Rattle.std.specs.List.{All, flat_map, insert_slice, position_or_len}
use Rattle.std.proofs.lemmas.Bool.{eq-eqb, ne_eqb, lt-ltb}
use Rattle.std.proofs.lemmas.Bool.Decides.{nat_tests}
use Rattle.std.proofs.lemmas.List.{append-nil, drop_all, drop-drop, drop-take, take_all, take_rest, append_assoc, drop_at, get_or-drop, get_or-take, get_or_default, length-drop, length-take-le, set_split, take-append-drop, take-append-le, take_at}
use Rattle.std.proofs.lemmas.List.Elements.{All-append, All-drop, All-take, filter-append}
use Rattle.std.proofs.lemmas.List.Concat.{flat_map-append}
use Rattle.std.proofs.Math.Seq.{drop-cons}
use borrow.Rule.Slice.PartMut.{put_mid}
use Rattle.wk_table_rules.specs.Changes.{with_rows_of}
use Rattle.wk_table_rows.specs.Rising.{IsRising}

not-below : (m n : ℕ) → n ≤ m → ltb m n ≡ false
not-below m n h = grind (arith, nat_tests)

-- ---- rows that come in blocks, one for each page

module _ {Row : Type 0} (from : Row → ℕ) (page : ℕ) where
  abbrev is_other : Row → Bool
  is_other row = not (eqb (from row) page)

  abbrev is_higher : Row → Bool
  is_higher row = ltb page (from row)

  filter-own : (rows : List Row) → All (λ row. from row ≡ page) rows → filter is_other rows ≡ []
  filter-own [] own = refl
  filter-own (row ∷ rows) own =
      let here : eqb (from row) page ≡ true = eq-eqb (from row) page (own 0 row (omega arith)) in
      rw here (filter-own rows (λ k d l. own (suc k) d (omega arith)))

  filter-others : (rows : List Row) → All (λ row. from row ≡ page → ⊥) rows → filter is_other rows ≡ rows
  filter-others [] others = refl
  filter-others (row ∷ rows) others =
      let here : eqb (from row) page ≡ false = ne_eqb (from row) page (others 0 row (omega arith)) in
      rw here (ap (λ later. row ∷ later) (filter-others rows (λ k d l. others (suc k) d (omega arith))))

  -- rows of lower pages are passed over
  place-behind : (low rows : List Row) → All (λ row. from row < page) low → position_or_len is_higher (low ++ rows) ≡ length low + position_or_len is_higher rows
  place-behind [] rows lower = omega arith
  place-behind (row ∷ low) rows lower =
      let here : ltb page (from row) ≡ false = not-below page (from row) (let l : from row < page = lower 0 row (omega arith) in omega arith) in
      let later = place-behind low rows (λ k d l. lower (suc k) d (omega arith)) in
      rw here (omega (arith, later))

  -- the first row is of a higher page
  place-first : (rows : List Row) → All (λ row. page < from row) rows → position_or_len is_higher rows ≡ 0
  place-first [] higher = refl
  place-first (row ∷ rows) higher = rw (lt-ltb page (from row) (higher 0 row (omega arith))) refl

  insert-behind : (low rows new : List Row) (n : ℕ) → insert_slice (low ++ rows) (length low + n) new ≡ low ++ insert_slice rows n new
  insert-behind low rows new n =
      ap (λ t. (t ++ new) ++ drop (length low + n) (low ++ rows)) (take-behind low n)
      ∙ ap (λ d. ((low ++ take n rows) ++ new) ++ d) (drop-behind low n)
      ∙ ap (λ l. l ++ drop n rows) (append_assoc low (take n rows) new) ∙ append_assoc low (take n rows ++ new) (drop n rows)
    where
      take-behind : (xs : List Row) (m : ℕ) → take (length xs + m) (xs ++ rows) ≡ xs ++ take m rows
      take-behind [] m = ap (λ k. take k rows) (let e : 0 + m ≡ m = omega arith in e)
      take-behind (x ∷ xs) m = ap (λ k. take k (x ∷ xs ++ rows)) (let e : suc (length xs) + m ≡ suc (length xs + m) = omega arith in e) ∙ ap (λ later. x ∷ later) (take-behind xs m)

      drop-behind : (xs : List Row) (m : ℕ) → drop (length xs + m) (xs ++ rows) ≡ drop m rows
      drop-behind [] m = ap (λ k. drop k rows) (let e : 0 + m ≡ m = omega arith in e)
      drop-behind (x ∷ xs) m = ap (λ k. drop k (x ∷ xs ++ rows)) (let e : suc (length xs) + m ≡ suc (length xs + m) = omega arith in e) ∙ drop-behind xs m

  -- the rows of the page stand between those of lower and of higher pages
  pub with_rows_of-between : (low own high new : List Row) → All (λ row. from row < page) low → All (λ row. from row ≡ page) own → All (λ row. page < from row) high
      → with_rows_of from page (low ++ (own ++ high)) new ≡ low ++ (new ++ high)
  with_rows_of-between low own high new lower is higher =
      let others : filter is_other (low ++ (own ++ high)) ≡ low ++ high =
      filter-append is_other low (own ++ high) ∙ ap (λ l. l ++ filter is_other (own ++ high)) (filter-others low (λ k d l e. let b : from (get_or low k d) < page = lower k d l in omega arith))
      ∙ ap (λ r. low ++ r) (filter-append is_other own high ∙ ap (λ o. o ++ filter is_other high) (filter-own own is)
      ∙ filter-others high (λ k d l e. let b : page < from (get_or high k d) = higher k d l in omega arith)) in
      let place : position_or_len is_higher (low ++ high) ≡ length low + 0 = place-behind low high lower ∙ ap (λ n. length low + n) (place-first high higher) in
      ap (λ rows. insert_slice rows (position_or_len is_higher rows) new) others
      ∙ ap (λ n. insert_slice (low ++ high) n new) place ∙ insert-behind low high new 0 ∙ ap (λ r. low ++ r) (insert-first high)
    where
      insert-first : (rows : List Row) → insert_slice rows 0 new ≡ new ++ rows
      insert-first rows = refl

-- ---- pages, each with rows

module _ {Page Row : Type 0} (number : Page → ℕ) (rows : Page → List Row) (from : Row → ℕ) where
  abbrev pub OwnRows : List Page → Type 0
  OwnRows pages = All (λ page. All (λ row. from row ≡ number page) (rows page)) pages

  rows-above : (n : ℕ) (pages : List Page) → OwnRows pages → All (λ page. n < number page) pages → All (λ row. n < from row) (flat_map rows pages)
  rows-above n [] own above = λ k d l. absurd (omega arith)
  rows-above n (page ∷ pages) own above =
      All-append (λ row. n < from row) (rows page) (flat_map rows pages)
      (λ k d l. let is : from (get_or (rows page) k d) ≡ number page = own 0 page (omega arith) k d l in let b : n < number page = above 0 page (omega arith) in omega arith)
      (rows-above n pages (λ k d l. own (suc k) d (omega arith)) (λ k d l. above (suc k) d (omega arith)))

  rows-below : (n : ℕ) (pages : List Page) → OwnRows pages → All (λ page. number page < n) pages → All (λ row. from row < n) (flat_map rows pages)
  rows-below n [] own below = λ k d l. absurd (omega arith)
  rows-below n (page ∷ pages) own below =
      All-append (λ row. from row < n) (rows page) (flat_map rows pages)
      (λ k d l. let is : from (get_or (rows page) k d) ≡ number page = own 0 page (omega arith) k d l in let b : number page < n = below 0 page (omega arith) in omega arith)
      (rows-below n pages (λ k d l. own (suc k) d (omega arith)) (λ k d l. below (suc k) d (omega arith)))

  -- the page at a place gets other rows
  pub flat_map-set : (pages : List Page) (place : ℕ) (page d : Page) → IsRising number pages → OwnRows pages → place < length pages
      → number (get_or pages place d) ≡ number page
      → flat_map rows (set pages place page) ≡ with_rows_of from (number page) (flat_map rows pages) (rows page)
  flat_map-set pages place page d rising own inside same =
      let low = take place pages in
      let high = drop (suc place) pages in
      let old : Page = get_or pages place d in
      let split : pages ≡ low ++ old ∷ high = sym (take-append-drop place pages) ∙ ap (λ r. low ++ r) (drop-cons pages place d inside) in
      let changed : set pages place page ≡ low ++ page ∷ high = set_split pages place page inside in
      let n : ℕ = number page in
      let lower : All (λ p. number p < n) low = λ k e l.
      let short : length low ≡ place = length-take-le place pages (omega arith) in
      let l' : k < place = omega arith in
      let b : number (get_or pages k e) < number (get_or pages place e) = rising k place e l' inside in
      let is : number (get_or pages place e) ≡ n = ap number (get_or_default pages place e d inside) ∙ same in
      rw (get_or-take place pages k e l') (omega arith) in
      let higher : All (λ p. n < number p) high = λ k e l.
      let long : length high ≡ length pages - suc place = length-drop (suc place) pages in
      let b : number (get_or pages place e) < number (get_or pages (suc place + k) e) = rising place (suc place + k) e (omega arith) (omega arith) in
      let is : number (get_or pages place e) ≡ n = ap number (get_or_default pages place e d inside) ∙ same in
      rw (get_or-drop (suc place) pages k e) (omega arith) in
      let own_old : All (λ row. from row ≡ n) (rows old) = subst (λ m. All (λ row. from row ≡ m) (rows old)) same (own place d inside) in
      ap (flat_map rows) changed ∙ flat_map-append rows low (page ∷ high)
      ∙ sym (with_rows_of-between from n (flat_map rows low) (rows old) (flat_map rows high) (rows page)
      (rows-below n low (All-take (λ p. All (λ row. from row ≡ number p) (rows p)) place pages own) lower) own_old
      (rows-above n high (All-drop (λ p. All (λ row. from row ≡ number p) (rows p)) (suc place) pages own) higher))
      ∙ ap (λ r. with_rows_of from n r (rows page)) (sym (ap (flat_map rows) split ∙ flat_map-append rows low (old ∷ high)))

-- ---- rows in any order

-- the rows behind `end` are brought to their place
pub brought-forward : {Row : Type 0} (others new : List Row) (place end : ℕ) → length others ≡ end → place ≤ end
    → take place (others ++ new) ++ drop end (others ++ new) ++ drop place (take end (others ++ new)) ≡ insert_slice others place new
brought-forward others new place end long before =
    let a : take place (others ++ new) ≡ take place others = take-append-le place others new (omega arith) in
    let b : drop end (others ++ new) ≡ new = drop_at others new end long in
    let e : take end (others ++ new) ≡ others = take_at others new end long in
    rw (a, b, e) refl

-- what a rotation of the rows from the place on gives
pub rotated : {Row : Type 0} (rows : List Row) (place end : ℕ) → place ≤ end → end ≤ length rows
    → let tail : List Row = take (length rows - place) (drop place rows) in
    put_mid place (length rows - place) rows (drop (length tail - (length rows - end)) tail ++ take (length tail - (length rows - end)) tail)
    ≡ take place rows ++ drop end rows ++ drop place (take end rows)
rotated {Row} rows place end before within =
    let whole : take (length rows - place) (drop place rows) ≡ drop place rows = take_rest rows place in
    let long : length (drop place rows) ≡ length rows - place = length-drop place rows in
    let m : ℕ = end - place in
    let back : drop m (drop place rows) ≡ drop end rows = drop-drop m place rows ∙ ap (λ n. drop n rows) (let e : place + m ≡ end = omega arith in e) in
    let front : take m (drop place rows) ≡ drop place (take end rows) = sym (drop-take place m rows) ∙ ap (λ n. drop place (take n rows)) (let e : place + m ≡ end = omega arith in e) in
    let rest : drop (length rows - place) (drop place rows) ≡ [] = drop_all (length rows - place) (drop place rows) (omega arith) in
    let F : List Row → List Row = λ tail. put_mid place (length rows - place) rows (drop (length tail - (length rows - end)) tail ++ take (length tail - (length rows - end)) tail) in
    let G : ℕ → List Row = λ k. put_mid place (length rows - place) rows (drop k (drop place rows) ++ take k (drop place rows)) in
    let many : length (drop place rows) - (length rows - end) ≡ m = omega arith in
    ap F whole ∙ ap G many ∙ ap (λ b. put_mid place (length rows - place) rows (b ++ take m (drop place rows))) back
    ∙ ap (λ f. put_mid place (length rows - place) rows (drop end rows ++ f)) front
    ∙ ap (λ r. take place rows ++ ((drop end rows ++ drop place (take end rows)) ++ r)) rest
    ∙ ap (λ l. take place rows ++ l) (append-nil (drop end rows ++ drop place (take end rows)))
    ∙ sym (append_assoc (take place rows) (drop end rows) (drop place (take end rows)))

-- a list that was changed as a slice
pub as-items : {Row : Type 0} (new items : List Row) (n : ℕ) → length new ≡ length items → length items ≡ n → take n (new ++ drop (length new) items) ≡ new
as-items new items n same long =
    let none : drop (length new) items ≡ [] = drop_all (length new) items (omega arith) in
    rw (none, append-nil new) (take_all n new (omega arith))

-- rows of the page that were appended to the others, and brought to their place
pub rows-brought : {Row : Type 0} (from : Row → ℕ) (page : ℕ) (rows others pushed brought new : List Row) (place end : ℕ) → others ≡ filter (λ row. not (eqb (from row) page)) rows
    → place ≡ position_or_len (λ row. ltb page (from row)) others → end ≡ length others → place ≤ end → pushed ≡ others ++ new
    → brought ≡ take place pushed ++ drop end pushed ++ drop place (take end pushed)
    → brought ≡ with_rows_of from page rows new
rows-brought from page rows others pushed brought new place end kept at long before pushes brings =
    brings ∙ ap (λ l. take place l ++ drop end l ++ drop place (take end l)) pushes ∙ brought-forward others new place end (sym long) before
    ∙ ap (λ n. insert_slice others n new) at ∙ ap (λ l. insert_slice l (position_or_len (λ row. ltb page (from row)) l) new) kept
