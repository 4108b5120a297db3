-- Jobs in their places: what a change of a place does to the rows.
use Rattle.std.proofs.Common.{◌≡◌, ℕ, zero, suc, ◌<◌, Bool, true, false, cond, ◌&&◌, eqb, ltb, List, [], ◌∷◌, ◌++◌, ◌+◌, ◌-◌, ◌≤◌, length, take, subst, get_or, set, map, Option, Some, None, refl, sym, ap, ◌∙◌, inl, inr, arith}
use Rattle.std.specs.Prelude.{is_some, IfSome, IsTrue, ◌↔◌}
use Rattle.std.specs.List.{All, cons_option, filter, position}
use Rattle.std.proofs.lemmas.Bool.{and_parts, and_from, cases_eq, cases_lt, eqb-true, ne_eqb, ltb-true, lt-ltb}
use Rattle.std.proofs.lemmas.List.{append-nil, get_or_read, length-map, length-set, take_all, take_more}
use Rattle.std.proofs.lemmas.List.Elements.{All-filter, All-map, All-push, All-set, All-take, filter_map-append}
use Rattle.std.proofs.lemmas.List.Kept.{AllPairs-filter}
use Rattle.std.proofs.lemmas.List.Quantifiers.{all_pairs_push, position-Some}
use Rattle.wk_table_rules.specs.Rows.{JobColumns}
use Rattle.wk_table_rules.specs.Changes.{with_job, without_job}
use Rattle.wk_tables.specs.declared.job_list.JobSlot.{JobSlot}
use Rattle.wk_tables.specs.Jobs.{KeepsJobs, rows_in, slot_of, holds}
use Rattle.std.specs.Option.{option_to_list}
use Rattle.wk_table_rows.specs.Rising.{IsRising}
use Rattle.wk_table_rows.proofs.RisingLaws.{IsRising-set, IsRising-take, position-first, position-none}
use Rattle.wk_table_rows.proofs.FirstPlace.{position-None, replaced-here, replaced-later, without_first-here, without_first-later}

abbrev pub IsNumbered : JobSlot → Type 0
IsNumbered slot = IfSome slot.row (λ row. row.job_id ≡ slot.number)

pub rows_in-push_empty : (slots : List JobSlot) (slot : JobSlot) → slot.row ≡ None → rows_in (slots ++ slot ∷ []) ≡ rows_in slots
rows_in-push_empty slots slot empty = rw (filter_map-append (λ s. s.row) slots (slot ∷ []), empty) (append-nil (rows_in slots))

pub rows_in-push : (slots : List JobSlot) (row : JobColumns) → rows_in (slots ++ slot_of row ∷ []) ≡ rows_in slots ++ row ∷ []
rows_in-push slots row = filter_map-append (λ s. s.row) slots (slot_of row ∷ [])

pub rows_in-slot_of : (rows : List JobColumns) → rows_in (map slot_of rows) ≡ rows
rows_in-slot_of [] = refl
rows_in-slot_of (row ∷ rows) = ap (λ later. row ∷ later) (rows_in-slot_of rows)

-- what is kept where the empty places go
pub rows_in-full : (slots : List JobSlot) → rows_in (filter (λ slot. is_some slot.row) slots) ≡ rows_in slots
rows_in-full [] = refl
rows_in-full (slot ∷ slots) = go slot.row refl (rows_in-full slots)
  where
    go : (o : Option JobColumns) → slot.row ≡ o → rows_in (filter (λ other. is_some other.row) slots) ≡ rows_in slots
        → rows_in (cond (is_some o) (slot ∷ filter (λ other. is_some other.row) slots) (filter (λ other. is_some other.row) slots)) ≡ cons_option o (rows_in slots)
    go None e later = later
    go (Some row) e later = rw e (ap (λ rows. row ∷ rows) later)

and_true : (b : Bool) → (b && true) ≡ false → b ≡ false
and_true true h = h
and_true false h = refl

module _ (new : JobColumns) where
  set-head : (slot : JobSlot) (o : Option JobColumns) (rest : List JobColumns) → IfSome o (λ row. row.job_id ≡ slot.number)
      → (eqb slot.number new.job_id && is_some o) ≡ true → new ∷ rest ≡ with_job (cons_option o rest) new
  set-head slot None rest numbered here = absurd (let no : false ≡ true = (and_parts (eqb slot.number new.job_id) false here).1 in cc)
  set-head slot (Some row) rest numbered here =
      sym (replaced-here (λ other. eqb other.job_id new.job_id) row rest new (rw numbered (and_parts (eqb slot.number new.job_id) true here).0))

  set-later : (slot : JobSlot) (o : Option JobColumns) (rest later : List JobColumns) → IfSome o (λ row. row.job_id ≡ slot.number)
      → (eqb slot.number new.job_id && is_some o) ≡ false → later ≡ with_job rest new → cons_option o later ≡ with_job (cons_option o rest) new
  set-later slot None rest later numbered not_here same = same
  set-later slot (Some row) rest later numbered not_here same =
      ap (λ rows. row ∷ rows) same ∙ sym (replaced-later (λ other. eqb other.job_id new.job_id) row rest new (rw numbered (and_true (eqb slot.number new.job_id) not_here)))

  pub rows_in-set : (slots : List JobSlot) (k : ℕ) (d slot : JobSlot) → All IsNumbered slots → k < length slots
      → holds new.job_id (get_or slots k d) ≡ true → ((j : ℕ) → j < k → holds new.job_id (get_or slots j d) ≡ false)
      → slot.row ≡ Some new → rows_in (set slots k slot) ≡ with_job (rows_in slots) new
  rows_in-set [] k d slot numbered inside here before is = absurd (omega arith)
  rows_in-set (s ∷ slots) zero d slot numbered inside here before is = rw is (set-head s s.row (rows_in slots) (numbered 0 d (omega arith)) here)
  rows_in-set (s ∷ slots) (suc k) d slot numbered inside here before is =
      set-later s s.row (rows_in slots) (rows_in (set slots k slot)) (numbered 0 d (omega arith)) (before 0 (omega arith))
      (rows_in-set slots k d slot (λ j e l. numbered (suc j) e (omega arith)) (omega arith) here (λ j l. before (suc j) (omega arith)) is)

  -- no place holds the job
  pub rows_in-absent : (slots : List JobSlot) → All IsNumbered slots → ((j : ℕ) (d : JobSlot) → j < length slots → holds new.job_id (get_or slots j d) ≡ false)
      → rows_in slots ≡ with_job (rows_in slots) new
  rows_in-absent [] numbered none = refl
  rows_in-absent (s ∷ slots) numbered none =
      set-later s s.row (rows_in slots) (rows_in slots) (numbered 0 s (omega arith)) (none 0 s (omega arith))
      (rows_in-absent slots (λ j e l. numbered (suc j) e (omega arith)) (λ j d l. none (suc j) d (omega arith)))

module _ (id : ℕ) where
  drop-head : (slot : JobSlot) (o : Option JobColumns) (rest : List JobColumns) → IfSome o (λ row. row.job_id ≡ slot.number)
      → (eqb slot.number id && is_some o) ≡ true → rest ≡ without_job (cons_option o rest) id
  drop-head slot None rest numbered here = absurd (let no : false ≡ true = (and_parts (eqb slot.number id) false here).1 in cc)
  drop-head slot (Some row) rest numbered here =
      sym (without_first-here (λ other. eqb other.job_id id) row rest (rw numbered (and_parts (eqb slot.number id) true here).0))

  drop-later : (slot : JobSlot) (o : Option JobColumns) (rest later : List JobColumns) → IfSome o (λ row. row.job_id ≡ slot.number)
      → (eqb slot.number id && is_some o) ≡ false → later ≡ without_job rest id → cons_option o later ≡ without_job (cons_option o rest) id
  drop-later slot None rest later numbered not_here same = same
  drop-later slot (Some row) rest later numbered not_here same =
      ap (λ rows. row ∷ rows) same ∙ sym (without_first-later (λ other. eqb other.job_id id) row rest (rw numbered (and_true (eqb slot.number id) not_here)))

  pub rows_in-drop : (slots : List JobSlot) (k : ℕ) (d slot : JobSlot) → All IsNumbered slots → k < length slots
      → holds id (get_or slots k d) ≡ true → ((j : ℕ) → j < k → holds id (get_or slots j d) ≡ false)
      → slot.row ≡ None → rows_in (set slots k slot) ≡ without_job (rows_in slots) id
  rows_in-drop [] k d slot numbered inside here before is = absurd (omega arith)
  rows_in-drop (s ∷ slots) zero d slot numbered inside here before is = rw is (drop-head s s.row (rows_in slots) (numbered 0 d (omega arith)) here)
  rows_in-drop (s ∷ slots) (suc k) d slot numbered inside here before is =
      drop-later s s.row (rows_in slots) (rows_in (set slots k slot)) (numbered 0 d (omega arith)) (before 0 (omega arith))
      (rows_in-drop slots k d slot (λ j e l. numbered (suc j) e (omega arith)) (omega arith) here (λ j l. before (suc j) (omega arith)) is)

  pub rows_in-none : (slots : List JobSlot) → All IsNumbered slots → ((j : ℕ) (d : JobSlot) → j < length slots → holds id (get_or slots j d) ≡ false)
      → rows_in slots ≡ without_job (rows_in slots) id
  rows_in-none [] numbered none = refl
  rows_in-none (s ∷ slots) numbered none =
      drop-later s s.row (rows_in slots) (rows_in slots) (numbered 0 s (omega arith)) (none 0 s (omega arith))
      (rows_in-none slots (λ j e l. numbered (suc j) e (omega arith)) (λ j d l. none (suc j) d (omega arith)))

-- ---- where a job stands

not-holds : (n : ℕ) (slot : JobSlot) → eqb slot.number n ≡ false → holds n slot ≡ false
not-holds n slot other = rw other refl

pub holds-found : (n k : ℕ) (slots : List JobSlot) (slot : JobSlot) → Some k ≡ position (λ s. eqb s.number n) slots → slot ≡ get_or slots k slot
    → is_some slot.row ≡ true → Some k ≡ position (holds n) slots
holds-found n k slots slot found read some =
    let at = position-Some (λ s. eqb s.number n) slots k slot (sym found) in
    position-first (holds n) slots k slot at.0 (λ j l. not-holds n (get_or slots j slot) (at.2 j l))
    (subst (λ s. holds n s ≡ true) read (and_from (eqb slot.number n) (is_some slot.row) (subst (λ s. eqb s.number n ≡ true) (sym read) at.1) some))

pub holds-empty : (n k : ℕ) (slots : List JobSlot) (slot : JobSlot) → IsRising (λ s. s.number) slots → Some k ≡ position (λ s. eqb s.number n) slots
    → slot ≡ get_or slots k slot → is_some slot.row ≡ false → None ≡ position (holds n) slots
holds-empty n k slots slot rising found read none =
    let at = position-Some (λ s. eqb s.number n) slots k slot (sym found) in
    let number : slot.number ≡ n = eqb-true slot.number n (subst (λ s. eqb s.number n ≡ true) (sym read) at.1) in
    position-none (holds n) slots (λ j d inside. elim (cases_eq j k) [
      | inl same ↦ rw (same, sym (get_or_read slots k slot at.0 read d)) (subst (λ b. (eqb slot.number n && b) ≡ false) (sym none) (and_no (eqb slot.number n)))
      | inr apart ↦ not-holds n (get_or slots j d) (ne_eqb (get_or slots j d).number n (λ e. elim (cases_lt j k) [
        | inl before ↦ (let low : (get_or slots j d).number < (get_or slots k d).number = rising j k d before at.0 in
            let is : (get_or slots k d).number ≡ n = ap (λ s. s.number) (sym (get_or_read slots k slot at.0 read d)) ∙ number in omega arith)
        | inr behind ↦ (let high : (get_or slots k d).number < (get_or slots j d).number = rising k j d (omega arith) inside in
            let is : (get_or slots k d).number ≡ n = ap (λ s. s.number) (sym (get_or_read slots k slot at.0 read d)) ∙ number in omega arith)
      ]))
    ])
  where
    and_no : (b : Bool) → (b && false) ≡ false
    and_no true = refl
    and_no false = refl

pub holds-absent : (n : ℕ) (slots : List JobSlot) → None ≡ position (λ s. eqb s.number n) slots → None ≡ position (holds n) slots
holds-absent n slots absent =
    position-none (holds n) slots (λ j d inside. not-holds n (get_or slots j d) (position-None (λ s. eqb s.number n) slots (sym absent) j d inside))

-- the last place goes, which is empty
pub rows_in-popped : (slots : List JobSlot) (len : ℕ) (last : JobSlot) → length slots ≡ len → 0 < len → last ≡ get_or slots (len - 1) last → is_some last.row ≡ false
    → rows_in (take (len - 1) slots) ≡ rows_in slots
rows_in-popped slots len last long some read empty =
    let n : ℕ = len - 1 in
    let inside : n < length slots = omega arith in
    let whole : take (n + 1) slots ≡ slots = take_all (n + 1) slots (omega arith) in
    let split : slots ≡ take n slots ++ last ∷ [] = sym whole ∙ take_more slots n last inside ∙ ap (λ s. take n slots ++ s ∷ []) (sym read) in
    sym (ap rows_in split ∙ rows_in-push_empty (take n slots) last (none last.row empty))
  where
    none : (o : Option JobColumns) → is_some o ≡ false → o ≡ None
    none None e = refl
    none (Some row) e = absurd cc

-- one place more is read
pub rows_in-more : (slots : List JobSlot) (i : ℕ) (slot : JobSlot) → i < length slots → slot ≡ get_or slots i slot
    → rows_in (take (i + 1) slots) ≡ rows_in (take i slots) ++ option_to_list slot.row
rows_in-more slots i slot inside read =
    ap rows_in (take_more slots i slot inside ∙ ap (λ s. take i slots ++ s ∷ []) (sym read)) ∙ filter_map-append (λ s. s.row) (take i slots) (slot ∷ []) ∙ ap (λ rows. rows_in (take i slots) ++ rows) (go slot.row)
  where
    go : (o : Option JobColumns) → cons_option o [] ≡ option_to_list o
    go None = refl
    go (Some row) = refl

-- ---- what is kept

pub KeepsJobs-take : (slots : List JobSlot) (is_in_order : Bool) (n : ℕ) → KeepsJobs slots is_in_order → KeepsJobs (take n slots) is_in_order
KeepsJobs-take slots is_in_order n keeps = record {
  numbered = All-take IsNumbered n slots keeps.numbered;
  rising = λ in_order. IsRising-take (λ s. s.number) slots n (keeps.rising in_order);
}

pub KeepsJobs-full : (slots : List JobSlot) (is_in_order : Bool) → KeepsJobs slots is_in_order → KeepsJobs (filter (λ slot. is_some slot.row) slots) is_in_order
KeepsJobs-full slots is_in_order keeps = record {
  numbered = All-filter (λ slot. is_some slot.row) IsNumbered slots keeps.numbered;
  rising = λ in_order. AllPairs-filter (λ a b. a.number < b.number) (λ slot. is_some slot.row) slots (keeps.rising in_order);
}

pub KeepsJobs-set : (slots : List JobSlot) (is_in_order : Bool) (n k : ℕ) (slot : JobSlot) → KeepsJobs slots is_in_order → Some k ≡ position (holds n) slots
    → slot.number ≡ n → IsNumbered slot → KeepsJobs (set slots k slot) is_in_order
KeepsJobs-set slots is_in_order n k slot keeps found number numbered = record {
  numbered = All-set IsNumbered slots k slot numbered keeps.numbered;
  rising = λ in_order. IsRising-set (λ s. s.number) slots k slot (keeps.rising in_order) (λ d. number
      ∙ sym (eqb-true (get_or slots k d).number n (and_parts (eqb (get_or slots k d).number n) (is_some (get_or slots k d).row) (position-Some (holds n) slots k d (sym found)).1).0));
}

pub KeepsJobs-push : (slots : List JobSlot) (is_in_order still : Bool) (row : JobColumns) → KeepsJobs slots is_in_order
    → (still ≡ true → (is_in_order ≡ true) × All (λ s. s.number < row.job_id) slots) → KeepsJobs (slots ++ slot_of row ∷ []) still
KeepsJobs-push slots is_in_order still row keeps above = record {
  numbered = All-push IsNumbered slots (slot_of row) keeps.numbered refl;
  rising = λ e. all_pairs_push (λ a b. a.number < b.number) slots (slot_of row) (keeps.rising (above e).0) (λ k d inside. (above e).1 k d inside);
}

pub KeepsJobs-of : (rows : List JobColumns) (is_in_order : Bool) → (is_in_order ≡ true → IsRising (λ s. s.number) (map slot_of rows)) → KeepsJobs (map slot_of rows) is_in_order
KeepsJobs-of rows is_in_order rising = record {
  numbered = All-map IsNumbered slot_of rows (λ k d inside. refl);
  rising = rising;
}

-- a number above the last of those that rise is above all
pub above-last : (n : ℕ) (slots : List JobSlot) (last : JobSlot) → IsRising (λ s. s.number) slots → 0 < length slots → last ≡ get_or slots (length slots - 1) last
    → IsTrue (ltb last.number n) ↔ All (λ s. s.number < n) slots
above-last n slots last rising some read = (
  (λ above k d inside.
      let low : last.number < n = ltb-true last.number n above in
      let there : length slots - 1 < length slots = omega arith in
      let is : last ≡ get_or slots (length slots - 1) d = get_or_read slots (length slots - 1) last there read d in
      elim (cases_eq k (length slots - 1)) [
        | inl at ↦ rw at (rw (sym is) low)
        | inr before ↦ (let step : (get_or slots k d).number < (get_or slots (length slots - 1) d).number = rising k (length slots - 1) d (omega arith) there in
            let number : (get_or slots (length slots - 1) d).number ≡ last.number = ap (λ s. s.number) (sym is) in omega arith)
      ]),
  (λ all. lt-ltb last.number n (rw read (all (length slots - 1) last (omega arith)))),
)

-- ---- how many places are empty

-- there are no more rows than places
pub rows-fit : (slots : List JobSlot) → length (rows_in slots) ≤ length slots
rows-fit [] = omega arith
rows-fit (slot ∷ slots) = go slot.row (rows-fit slots)
  where
    go : (o : Option JobColumns) → length (rows_in slots) ≤ length slots → length (cons_option o (rows_in slots)) ≤ suc (length slots)
    go None fit = omega (arith, fit)
    go (Some row) fit = omega (arith, fit)

-- without the empty places there are as many places as rows
pub rows-full : (slots : List JobSlot) → length (filter (λ slot. is_some slot.row) slots) ≡ length (rows_in slots)
rows-full [] = refl
rows-full (slot ∷ slots) = go slot.row (rows-full slots)
  where
    go : (o : Option JobColumns) → length (filter (λ other. is_some other.row) slots) ≡ length (rows_in slots)
        → length (cond (is_some o) (slot ∷ filter (λ other. is_some other.row) slots) (filter (λ other. is_some other.row) slots)) ≡ length (cons_option o (rows_in slots))
    go None same = same
    go (Some row) same = ap (λ n. suc n) same

pub slots-as_many : (rows : List JobColumns) → length (map slot_of rows) ≡ length (rows_in (map slot_of rows))
slots-as_many rows = length-map rows slot_of ∙ ap length (sym (rows_in-slot_of rows))

pub with_job-as_many : (rows : List JobColumns) (new : JobColumns) → length (with_job rows new) ≡ length rows
with_job-as_many rows new = go (position (λ row. eqb row.job_id new.job_id) rows)
  where
    go : (o : Option ℕ) → length (elim o as (λ t. List JobColumns) [ None ↦ rows | Some place ↦ set rows place new ]) ≡ length rows
    go None = refl
    go (Some place) = length-set rows place new

one-here : (rows : List JobColumns) (o : Option JobColumns) → is_some o ≡ true → length rows + 1 ≡ length (cons_option o rows)
one-here rows None some = absurd (let no : false ≡ true = some in cc)
one-here rows (Some row) some = omega arith

one-later : (fewer rows : List JobColumns) (o : Option JobColumns) → length fewer + 1 ≡ length rows → length (cons_option o fewer) + 1 ≡ length (cons_option o rows)
one-later fewer rows None one = one
one-later fewer rows (Some row) one = omega (arith, one)

-- where a place becomes empty there is one row less
pub rows-emptied : (slots : List JobSlot) (k : ℕ) (d slot : JobSlot) → k < length slots → is_some (get_or slots k d).row ≡ true → slot.row ≡ None
    → length (rows_in (set slots k slot)) + 1 ≡ length (rows_in slots)
rows-emptied [] k d slot inside some none = absurd (omega arith)
rows-emptied (s ∷ slots) zero d slot inside some none = rw none (one-here (rows_in slots) s.row some)
rows-emptied (s ∷ slots) (suc k) d slot inside some none = one-later (rows_in (set slots k slot)) (rows_in slots) s.row (rows-emptied slots k d slot (omega arith) some none)

module _ (slots : List JobSlot) (is_in_order : Bool) (keeps : KeepsJobs slots is_in_order) where
  pub row-set : (new : JobColumns) (n k : ℕ) → n ≡ new.job_id → Some k ≡ position (holds n) slots
      → rows_in (set slots k (record { number = n; row = Some new })) ≡ with_job (rows_in slots) new
  row-set new n k number found =
      let slot : JobSlot = record { number = n; row = Some new } in
      let at = position-Some (holds n) slots k slot (sym found) in
      rows_in-set new slots k slot slot keeps.numbered at.0 (subst (λ m. holds m (get_or slots k slot) ≡ true) number at.1)
      (λ j before. subst (λ m. holds m (get_or slots j slot) ≡ false) number (at.2 j before)) refl

  pub row-absent : (new : JobColumns) (n : ℕ) → n ≡ new.job_id → None ≡ position (holds n) slots → rows_in slots ≡ with_job (rows_in slots) new
  row-absent new n number none =
      rows_in-absent new slots keeps.numbered (λ j d inside. subst (λ m. holds m (get_or slots j d) ≡ false) number (position-None (holds n) slots (sym none) j d inside))

  pub row-set-keeps : (new : JobColumns) (n k : ℕ) → n ≡ new.job_id → Some k ≡ position (holds n) slots → KeepsJobs (set slots k (record { number = n; row = Some new })) is_in_order
  row-set-keeps new n k number found = KeepsJobs-set slots is_in_order n k (record { number = n; row = Some new }) keeps found refl (sym number)

  pub row-taken : (n k : ℕ) → Some k ≡ position (holds n) slots → rows_in (set slots k (record { number = n; row = None })) ≡ without_job (rows_in slots) n
  row-taken n k found =
      let slot : JobSlot = record { number = n; row = None } in
      let at = position-Some (holds n) slots k slot (sym found) in
      rows_in-drop n slots k slot slot keeps.numbered at.0 at.1 at.2 refl

  pub row-taken-keeps : (n k : ℕ) → Some k ≡ position (holds n) slots → KeepsJobs (set slots k (record { number = n; row = None })) is_in_order
  row-taken-keeps n k found = KeepsJobs-set slots is_in_order n k (record { number = n; row = None }) keeps found refl tt

  pub row-emptied : (n k : ℕ) → Some k ≡ position (holds n) slots → length (rows_in (set slots k (record { number = n; row = None }))) + 1 ≡ length (rows_in slots)
  row-emptied n k found =
      let slot : JobSlot = record { number = n; row = None } in
      let at = position-Some (holds n) slots k slot (sym found) in
      rows-emptied slots k slot slot at.0 (and_parts (eqb (get_or slots k slot).number n) (is_some (get_or slots k slot).row) at.1).1 refl

  pub row-missing : (n : ℕ) → None ≡ position (holds n) slots → rows_in slots ≡ without_job (rows_in slots) n
  row-missing n none = rows_in-none n slots keeps.numbered (position-None (holds n) slots (sym none))

pub slot-is : (row : JobColumns) (n : ℕ) → n ≡ row.job_id → ◌≡◌ {A = JobSlot} (record { number = n; row = Some row }) (slot_of row)
slot-is row n number = let at : ℕ → JobSlot = λ m. record { number = m; row = Some row } in ap at number
