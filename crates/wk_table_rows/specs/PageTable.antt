-- The forms of a table of rows of pages, and what they stand for.
use Rattle.std.specs.Prelude.{◌≡◌, ℕ, ℤ, ◌+◌, ◌≤◌, ◌++◌, ◌∷◌, [], List, map, Option, Some, None, IfSome, vec_len, vec_capacity}
use Rattle.std.specs.List.{All, flat_map}
use Rattle.wk_table_rules.specs.Rows.{PageColumns}
use Rattle.wk_table_rows.specs.Rising.{IsRising}
use Rattle.wk_table_rows.specs.TableHeld.{TableHeld}
use Rattle.wk_table_rows.specs.declared.page_table.Items.{Items}
use Rattle.wk_table_rows.specs.declared.page_table.Items.TheVariants.{Many, One}
use Rattle.wk_table_rows.specs.declared.page_table.Brought.{Brought}
use Rattle.wk_table_rows.specs.declared.page_table.Brought.TheVariants.{Changed, Loaded}
use Rattle.wk_table_rows.specs.declared.page_table.PageSlot.{PageSlot}
use Rattle.wk_table_rows.specs.declared.page_table.Form.{Form}
use Rattle.wk_table_rows.specs.declared.page_table.Form.TheVariants.{ByPage, InRows}

abbrev pub items_of : {I : Type 0} → Items I → List I
items_of (Many items) = items.items
items_of (One item) = item ∷ []

-- the rows of a page, where `row` is the row of a page, a namespace and an item
abbrev pub brought : {R I : Type 0} → (ℕ → ℤ → I → R) → ℕ → Brought R I → List R
brought row page (Changed namespace items) = map (row page namespace) (items_of items)
brought row page (Loaded rows) = rows.items

abbrev pub slot_rows : {R I : Type 0} → (ℕ → ℤ → I → R) → PageSlot R I → List R
slot_rows row slot = brought row slot.page slot.rows

abbrev pub rows_held : {R I : Type 0} → (ℕ → ℤ → I → R) → Form R I → List R
rows_held row (ByPage slots) = flat_map (slot_rows row) slots.items
rows_held row (InRows rows) = rows.items

-- the pages in whose order the rows are kept
abbrev pub pages_held : {R I : Type 0} → Form R I → Option (List ℕ)
pages_held (ByPage slots) = Some (map (λ slot. slot.page) slots.items)
pages_held (InRows rows) = None

-- the numbers of the pages rise, and the rows of each are its own
pub record IsByPage {R I : Type 0} (row : ℕ → ℤ → I → R) (number : R → ℕ) (slots : List (PageSlot R I)) : Type 0 where
  pub rising : IsRising (λ slot. slot.page) slots
  pub own : All (λ slot. All (λ r. number r ≡ slot.page) (slot_rows row slot)) slots

-- there is room for so many pages or rows more
abbrev pub KeepsTable : {R I : Type 0} → (ℕ → ℤ → I → R) → (R → ℕ) → Form R I → ℕ → Type 0
KeepsTable row number (ByPage slots) spare = (spare + vec_len slots ≤ vec_capacity slots) × IsByPage row number slots.items
KeepsTable row number (InRows rows) spare = spare + vec_len rows ≤ vec_capacity rows

-- the rows of these pages, whose numbers are these, were cut from the end of the table
pub record IsCut {R I : Type 0} (row : ℕ → ℤ → I → R) (number : R → ℕ) (old new : List R) (slots : List (PageSlot R I)) (numbers : List ℕ) : Type 0 where
  pub rows : old ≡ new ++ flat_map (slot_rows row) slots
  pub numbered : map (λ slot. slot.page) slots ≡ numbers
  pub own : All (λ slot. All (λ r. number r ≡ slot.page) (slot_rows row slot)) slots

-- the rows are kept by the pages of the table page, or by none
abbrev pub IsOfPages : {Row : Type 0} → TableHeld Row → List PageColumns → Type 0
IsOfPages table pages = IfSome table.pages (λ numbers. numbers ≡ map (λ page. page.page_id) pages)
