-- The last revision of each page, after one more revision.
use Rattle.std.proofs.Common.{◌≡◌, ℕ, ◌+◌, ◌<◌, Bool, true, false, cond, eqb, ◌&&◌, List, [], ◌∷◌, ◌++◌, length, get_or, set, Option, Some, None, option_map, refl, sym, ap, subst, ◌∙◌, inl, inr, arith}
use Rattle.std.specs.List.{filter, last_or}
use Rattle.std.proofs.lemmas.Bool.{cases_eq, eq-eqb, ne_eqb}
use Rattle.std.proofs.lemmas.List.{append-nil, length-set, get_or-set_same, get_or-set_other}
use Rattle.std.proofs.lemmas.List.Elements.{filter-append}
use Rattle.wk_table_rules.specs.Rows.{PageColumns, RevisionColumns, StoreTables}
use Rattle.wk_table_rules.specs.GoodStore.{first_bad, has_good_id, last_revision, current_of, has_good_latest}
use Rattle.wk_good_rows.specs.Last.{AreLast, current_in, is_latest, last_of}
use Rattle.wk_good_rows.proofs.PageNumbers.{number-at}
use Rattle.wk_good_rows.specs.declared.history.LastRevision.{LastRevision}

last_or-push : {X : Type 0} (o : Option X) (xs : List X) (x : X) → last_or o (xs ++ x ∷ []) ≡ Some x
last_or-push o [] x = refl
last_or-push o (y ∷ xs) x = last_or-push (Some y) xs x

last-own : (revisions : List RevisionColumns) (new : RevisionColumns) (page : ℕ) → eqb new.rev_page page ≡ true → last_revision (revisions ++ new ∷ []) page ≡ Some new
last-own revisions new page same =
    rw (filter-append (λ revision. eqb revision.rev_page page) revisions (new ∷ []), same) (last_or-push None (filter (λ revision. eqb revision.rev_page page) revisions) new)

last-other : (revisions : List RevisionColumns) (new : RevisionColumns) (page : ℕ) → eqb new.rev_page page ≡ false → last_revision (revisions ++ new ∷ []) page ≡ last_revision revisions page
last-other revisions new page other =
    rw (filter-append (λ revision. eqb revision.rev_page page) revisions (new ∷ []), other) (ap (last_or None) (append-nil (filter (λ revision. eqb revision.rev_page page) revisions)))

-- no page has a revision at first
pub AreLast-none : (last : List (Option LastRevision)) (pages : ℕ) → length last ≡ pages → ((place : ℕ) (d : Option LastRevision) → place < pages → get_or last place d ≡ None) → AreLast last [] pages
AreLast-none last pages len none = record { len = len; each = λ place d inside. none place d inside }

-- one more revision
pub AreLast-more : (last : List (Option LastRevision)) (revisions : List RevisionColumns) (pages : ℕ) (new : RevisionColumns) (place : ℕ) → place + 1 ≡ new.rev_page → place < pages
    → AreLast last revisions pages → AreLast (set last place (Some (last_of new))) (revisions ++ new ∷ []) pages
AreLast-more last revisions pages new place own inside before =
    let long : length last ≡ pages = before.len in record {
      len = length-set last place (Some (last_of new)) ∙ long;
      each = λ k d within. elim (cases_eq k place) [
        | inl here ↦
            rw here (get_or-set_same last place (Some (last_of new)) d (omega arith)
            ∙ sym (ap (option_map last_of) (last-own revisions new (place + 1) (eq-eqb new.rev_page (place + 1) (sym own)))))
        | inr there ↦
            get_or-set_other last place k (Some (last_of new)) d there
            ∙ before.each k d within
            ∙ sym (ap (option_map last_of) (last-other revisions new (k + 1) (ne_eqb new.rev_page (k + 1) (λ same. there (omega arith)))))
      ];
    }

-- what the list says of a page
pub current-is : (last : List (Option LastRevision)) (revisions : List RevisionColumns) (pages : ℕ) (place page : ℕ) (d : Option LastRevision) → AreLast last revisions pages → place < pages → place + 1 ≡ page
    → current_in (get_or last place d) ≡ current_of revisions page
current-is last revisions pages place page d are inside own =
    ap current_in (are.each place d inside ∙ ap (λ n. option_map last_of (last_revision revisions n)) own) ∙ go (last_revision revisions page)
  where
    go : (found : Option RevisionColumns) → current_in (option_map last_of found) ≡ (elim found as (λ t. ℕ) [ None ↦ 0 | Some last ↦ cond last.rev_gone 0 last.rev_id ])
    go None = refl
    go (Some revision) = refl

pub latest-is : (tables : StoreTables) (before : List PageColumns) (page : PageColumns) (last : Option LastRevision) → last ≡ option_map last_of (last_revision tables.revisions page.page_id)
    → has_good_latest tables before page ≡ is_latest page last
latest-is tables before page last is = go (last_revision tables.revisions page.page_id) ∙ ap (is_latest page) (sym is)
  where
    go : (found : Option RevisionColumns)
        → (elim found as (λ t. Bool) [ None ↦ false | Some l ↦ eqb page.page_latest (elim found as (λ t. ℕ) [ None ↦ 0 | Some m ↦ cond m.rev_gone 0 m.rev_id ]) && eqb page.page_len l.rev_len ])
        ≡ is_latest page (option_map last_of found)
    go None = refl
    go (Some revision) = refl

-- what the list says of the page at a place
pub latest-at : (tables : StoreTables) (last : List (Option LastRevision)) → first_bad has_good_id tables.pages ≡ None → AreLast last tables.revisions (length tables.pages)
    → (pages : List PageColumns) → pages ≡ tables.pages → (i : ℕ) (row : PageColumns) (before : List PageColumns) → row ≡ get_or pages i row → i < length pages
    → has_good_latest tables before row ≡ is_latest row (get_or last i None)
latest-at tables last none are pages same i row before read inside =
    let inside' : i < length tables.pages = subst (λ l. i < length l) same inside in
    let read' : row ≡ get_or tables.pages i row = read ∙ ap (λ l. get_or l i row) same in
    let number : row.page_id ≡ i + 1 = ap (λ (r : PageColumns). r.page_id) read' ∙ number-at tables.pages none i row inside' in
    latest-is tables before row (get_or last i None) (are.each i None inside' ∙ ap (λ n. option_map last_of (last_revision tables.revisions n)) (sym number))
