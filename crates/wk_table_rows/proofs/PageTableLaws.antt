-- Rows of pages, by page and in rows.
use Rattle.std.proofs.Common.{◌≡◌, ℕ, ℤ, ◌+◌, ◌-◌, ◌<◌, ◌≤◌, drop, reverse, eqb, List, [], ◌∷◌, ◌++◌, length, get_or, map, set, Some, refl, sym, ap, ◌∙◌, subst, arith}
use Rattle.std.specs.List.{All, flat_map, position}
use Rattle.std.proofs.lemmas.Bool.{eqb-true}
use Rattle.std.proofs.lemmas.List.{append-nil, append_assoc, drop_more, reverse-append, get_or-map, length-map}
use Rattle.std.proofs.lemmas.List.Concat.{flat_map-append}
use Rattle.std.proofs.lemmas.List.Elements.{All-cons, All-push, All-set}
use Rattle.std.proofs.lemmas.List.Quantifiers.{all_pairs_push, position-Some}
use Rattle.wk_table_rules.specs.Changes.{with_rows_of}
use Rattle.wk_table_rules.specs.Rows.{PageColumns}
use Rattle.wk_table_rows.specs.Rising.{IsRising}
use Rattle.wk_table_rows.specs.PageTable.{IsByPage, IsCut, slot_rows}
use Rattle.wk_table_rows.specs.declared.page_table.PageSlot.{PageSlot}
use Rattle.wk_table_rows.proofs.NumberLaws.{IsRising-from_map, map-same}
use Rattle.wk_table_rows.proofs.RisingLaws.{IsRising-map, IsRising-set}
use Rattle.wk_table_rows.proofs.PageRowLaws.{flat_map-set}

module _ {R I : Type 0} (row : ℕ → ℤ → I → R) (number : R → ℕ) where
  -- a page without rows at the end
  pub rows-push : (slots : List (PageSlot R I)) (slot : PageSlot R I) → slot_rows row slot ≡ [] → flat_map (slot_rows row) (slots ++ slot ∷ []) ≡ flat_map (slot_rows row) slots
  rows-push slots slot none =
      flat_map-append (slot_rows row) slots (slot ∷ []) ∙ ap (λ l. flat_map (slot_rows row) slots ++ (l ++ [])) none ∙ append-nil (flat_map (slot_rows row) slots)

  pub IsByPage-push : (slots : List (PageSlot R I)) (slot : PageSlot R I) → slot_rows row slot ≡ [] → All (λ earlier. earlier < slot.page) (map (λ s. s.page) slots)
      → IsByPage row number slots → IsByPage row number (slots ++ slot ∷ [])
  IsByPage-push slots slot none above keeps = record {
    rising = all_pairs_push (λ a b. a.page < b.page) slots slot keeps.rising (λ k d inside.
        subst (λ n. n < slot.page) (get_or-map (λ s. s.page) slots k d slot.page inside) (above k slot.page (subst (λ n. k < n) (sym (length-map slots (λ s. s.page))) inside)));
    own = All-push (λ s. All (λ r. number r ≡ s.page) (slot_rows row s)) slots slot keeps.own
        (subst (All (λ r. number r ≡ slot.page)) (sym none) (λ k d l. absurd (omega arith)));
  }

  -- a page gets other rows in its slot
  module _ (slots : List (PageSlot R I)) (place : ℕ) (slot : PageSlot R I) (found : position (λ s. eqb s.page slot.page) slots ≡ Some place) (keeps : IsByPage row number slots) where
    same : (d : PageSlot R I) → (get_or slots place d).page ≡ slot.page
    same d = eqb-true (get_or slots place d).page slot.page (position-Some (λ s. eqb s.page slot.page) slots place d found).1

    pub rows-set : flat_map (slot_rows row) (set slots place slot) ≡ with_rows_of number slot.page (flat_map (slot_rows row) slots) (slot_rows row slot)
    rows-set =
        flat_map-set (λ s. s.page) (slot_rows row) number slots place slot slot keeps.rising keeps.own (position-Some (λ s. eqb s.page slot.page) slots place slot found).0 (same slot)

    pub IsByPage-set : All (λ r. number r ≡ slot.page) (slot_rows row slot) → IsByPage row number (set slots place slot)
    IsByPage-set own = record {
      rising = IsRising-set (λ s. s.page) slots place slot keeps.rising (λ d. sym (same d));
      own = All-set (λ s. All (λ r. number r ≡ s.page) (slot_rows row s)) slots place slot own keeps.own;
    }

    pub pages-set : map (λ s. s.page) (set slots place slot) ≡ map (λ s. s.page) slots
    pages-set = map-same (λ s. s.page) slots place slot same

  -- ---- rows that are cut by page

  -- nothing is cut yet
  pub IsCut-none : (old : List R) → IsCut row number old old [] []
  IsCut-none old = record { rows = sym (append-nil old); numbered = refl; own = λ k d l. absurd (omega arith) }

  -- the rows of the page before those that are cut
  pub IsCut-more : (old mid new own : List R) (slots : List (PageSlot R I)) (slot : PageSlot R I) (numbers : List ℕ) → IsCut row number old mid (reverse slots) numbers
      → slot_rows row slot ≡ own → mid ≡ new ++ own → All (λ r. number r ≡ slot.page) own → IsCut row number old new (reverse (slots ++ slot ∷ [])) (slot.page ∷ numbers)
  IsCut-more old mid new own slots slot numbers cut holds is own_page =
      let behind : List R = flat_map (slot_rows row) (reverse slots) in
      subst (λ s. IsCut row number old new s (slot.page ∷ numbers)) (sym (reverse-append slots (slot ∷ []))) (record {
        rows = cut.rows ∙ ap (λ m. m ++ behind) is ∙ append_assoc new own behind ∙ ap (λ o. new ++ (o ++ behind)) (sym holds);
        numbered = ap (λ later. slot.page ∷ later) cut.numbered;
        own = All-cons (λ s. All (λ r. number r ≡ s.page) (slot_rows row s)) slot (reverse slots) (subst (All (λ r. number r ≡ slot.page)) (sym holds) own_page) cut.own;
      })

  -- rows that are cut by pages whose numbers rise are kept by page
  pub IsByPage-cut : (old new : List R) (slots : List (PageSlot R I)) (pages : List PageColumns) → IsCut row number old new slots (map (λ page. page.page_id) pages)
      → IsRising (λ page. page.page_id) pages → IsByPage row number slots
  IsByPage-cut old new slots pages cut rising = record {
    rising = IsRising-from_map (λ s. s.page) slots (subst (IsRising (λ n. n)) (sym cut.numbered) (IsRising-map (λ page. page.page_id) pages rising));
    own = cut.own;
  }

-- one page more at the front of those behind
pub numbers-more : (pages : List PageColumns) (i : ℕ) (page : PageColumns) → i < length pages → page ≡ get_or pages (length pages - 1 - i) page
    → map (λ p. p.page_id) (drop (length pages - (i + 1)) pages) ≡ page.page_id ∷ map (λ p. p.page_id) (drop (length pages - i) pages)
numbers-more pages i page inside read =
    let k : ℕ = length pages - 1 - i in
    let here : k < length pages = omega arith in
    ap (λ n. map (λ p. p.page_id) (drop n pages)) (let e : length pages - (i + 1) ≡ k = omega arith in e)
    ∙ ap (map (λ p. p.page_id)) (drop_more pages k page here)
    ∙ ap (λ p. p.page_id ∷ map (λ q. q.page_id) (drop (k + 1) pages)) (sym read)
    ∙ ap (λ n. page.page_id ∷ map (λ p. p.page_id) (drop n pages)) (let e : k + 1 ≡ length pages - i = omega arith in e)

-- one row more at the end that is of the page
pub own-more : {Row : Type 0} (from : Row → ℕ) (page : ℕ) (rows : List Row) (end : ℕ) (row : Row) → 0 < end → end ≤ length rows → row ≡ get_or rows (end - 1) row
    → from row ≡ page → All (λ r. from r ≡ page) (drop end rows) → All (λ r. from r ≡ page) (drop (end - 1) rows)
own-more from page rows end row some within read is own =
    let k : ℕ = end - 1 in
    let here : k < length rows = omega arith in
    subst (All (λ r. from r ≡ page))
    (sym (drop_more rows k row here ∙ ap (λ r. r ∷ drop (k + 1) rows) (sym read) ∙ ap (λ n. row ∷ drop n rows) (let e : k + 1 ≡ end = omega arith in e)))
    (All-cons (λ r. from r ≡ page) row (drop end rows) is own)
