-- A set of categories, sort keys and pages with one more, or one less.
use Rattle.std.proofs.Common.{◌≡◌, ℕ, ◌+◌, ◌<◌, Bool, true, false, eqb, ◌&&◌, List, length, map, take, get_or, refl, sym, ap, ◌∙◌}
use Rattle.std.specs.Prelude.{bytes_eq}
use Rattle.std.specs.List.{list_any}
use Rattle.std.specs.Cmp.Lexicographic.{slice_cmp}
use Rattle.std.specs.Ordering.{is_eq, nat_cmp, ordering_then}
use Rattle.std.proofs.lemmas.Bool.{and_parts}
use Rattle.std.proofs.lemmas.Bool.Decides.{same_from_decides}
use Rattle.std.proofs.lemmas.Map.Text.{is_eq-slice_cmp}
use Rattle.std.proofs.lemmas.Slice.Eq.{bytes_eq-Decides}
use Rattle.wk_text_rules.specs.Titles.{PageTitle, title_cmp, title_eq}
use Rattle.wk_page_rules.specs.PageRows.{PageRows}
use Rattle.wk_table_rows.specs.Members.{member_of}
use Rattle.wk_good_rows.proofs.Sets.{same-title}
use Rattle.wk_index.specs.Entries.{Entry, KeptEntries, SparesEntries, entry_cmp, has_entry, lists_entry}
use Rattle.wk_index.proofs.NamedLaws.{AreKeys, ChangesBy, added-in, kept-in, spares-in, found-more_in}
use Rattle.wk_index.proofs.PagesLaws.{any-map, any-same, is_eq-nat_cmp, then-eq}
use Rattle.wk_index.proofs.TitleLaws.{title_eq-true, title_eq-same}

abbrev pub Name : Type 0
Name = PageTitle × List ℕ

abbrev pub entry : Name → ℕ → Entry
entry x page = record { category = x.0; sortkey = x.1; page = page }

abbrev pub same_name : Name → Name → Bool
same_name a b = title_eq a.0 b.0 && bytes_eq a.1 b.1

bytes_eq_comm : (xs ys : List ℕ) → bytes_eq xs ys ≡ bytes_eq ys xs
bytes_eq_comm xs ys =
    same_from_decides {P = xs ≡ ys} _ _ (bytes_eq-Decides xs ys)
    (λ t. sym ((bytes_eq-Decides ys xs).0 t), λ e. (bytes_eq-Decides ys xs).1 (sym e))

pub entry-same : (x other : Name) (page number : ℕ) → is_eq (entry_cmp (entry x page) (entry other number)) ≡ (same_name other x && eqb number page)
entry-same x other page number =
    then-eq (title_cmp x.0 other.0) (ordering_then (slice_cmp nat_cmp x.1 other.1) (nat_cmp page number))
    ∙ ap (λ b. is_eq (title_cmp x.0 other.0) && b) (then-eq (slice_cmp nat_cmp x.1 other.1) (nat_cmp page number))
    ∙ rw (same-title x.0 other.0, is_eq-slice_cmp x.1 other.1, bytes_eq_comm x.1 other.1, is_eq-nat_cmp page number) (both (title_eq other.0 x.0) (bytes_eq other.1 x.1) (eqb number page))
  where
    both : (a b c : Bool) → (a && (b && c)) ≡ ((a && b) && c)
    both true b c = refl
    both false b c = refl

name-true : (other x : Name) → same_name other x ≡ true → other ≡ x
name-true (c, s) (d, t) same =
    let parts = and_parts (title_eq c d) (bytes_eq s t) same in
    ap (λ y. named y s) (title_eq-true c d parts.0) ∙ ap (named d) ((bytes_eq-Decides s t).0 parts.1)
  where
    named : PageTitle → List ℕ → Name
    named y z = (y, z)

pub entry-keys : AreKeys entry_cmp entry same_name has_entry
entry-keys = record {
  contains = λ entries x page.
      any-same (λ (k : Entry). is_eq (entry_cmp (entry x page) k)) (λ k. (title_eq k.category x.0 && bytes_eq k.sortkey x.1) && eqb k.page page)
      (λ k. entry-same x (k.category, k.sortkey) page k.page) entries;
  one = entry-same;
  itself = λ x. rw (title_eq-same x.0, (bytes_eq-Decides x.1 x.1).1 refl) refl;
  equal = name-true;
}

pub entry-added : (old new : List Entry) (x : Name) (page : ℕ) → ChangesBy entry_cmp old new (entry x page) true → has_entry new x page ≡ true
entry-added = added-in entry_cmp entry same_name has_entry entry-keys

pub entry-kept : (old new : List Entry) (x : Name) (page : ℕ) → ChangesBy entry_cmp old new (entry x page) true → KeptEntries old new
entry-kept = kept-in entry_cmp entry same_name has_entry entry-keys

pub entry-spares : (rows : PageRows) (old new : List Entry) (x : Name) (page : ℕ) → ChangesBy entry_cmp old new (entry x page) false → lists_entry rows x ≡ false → SparesEntries rows page old new
entry-spares = spares-in entry_cmp entry same_name has_entry entry-keys lists_entry

abbrev pub Triple : Type 0
Triple = PageTitle × List ℕ × List ℕ

abbrev pub is_in : Name → Triple → Bool
is_in x m = title_eq x.0 m.0 && bytes_eq x.1 m.1

pub entries-more : (members : List Triple) (i : ℕ) (member : Triple) (page : ℕ) (old new : List Entry)
    → i < length members → member ≡ get_or members i member → has_entry new (member.0, member.1) page ≡ true → KeptEntries old new
    → ((x : Name) → list_any (is_in x) (take i members) ≡ true → has_entry old x page ≡ true)
    → (x : Name) → list_any (is_in x) (take (i + 1) members) ≡ true → has_entry new x page ≡ true
entries-more = found-more_in has_entry is_in (λ m. (m.0, m.1)) (λ x m same. name-true x (m.0, m.1) same)

-- the rows as triples
pub entries-of : (triples : List Triple) (rows : PageRows) (x : Name) → rows.members ≡ map member_of triples → lists_entry rows x ≡ list_any (is_in x) triples
entries-of triples rows x are = ap (list_any (λ m. title_eq x.0 m.category && bytes_eq x.1 m.sortkey)) are ∙ any-map member_of (λ m. title_eq x.0 m.category && bytes_eq x.1 m.sortkey) triples
