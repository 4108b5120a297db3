-- A cache of drafts as a list of entries, the one that was used last before all others (own). A page has at most one.
use Rattle.std.specs.Prelude.{ℕ, Bool, ◌∷◌, [], List, find, length, take, Option, nat_lt, if◌then◌else◌}
use Rattle.std.specs.Option.{option_map_or}
use Rattle.wk_text_rules.specs.Titles.{PageTitle, title_eq}
use Rattle.wk_wiki_rules.specs.Passes.{CacheEntry, PageReading, max_kept_output}
use Rattle.wk_cache.specs.declared.kept.Kept.{Kept}

pub record CacheShown : Type 0 where
  -- how many entries it keeps at most
  pub most : ℕ
  pub entries : List Kept

-- what an entry keeps, as the rules have it
abbrev pub reading_kept : Kept → PageReading
reading_kept kept = record {
  page = kept.draft.page;
  given = kept.draft.given;
  expanded = kept.draft.expanded;
  reads = kept.draft.reads;
  number = kept.id;
  point = kept.point;
}

abbrev pub entry_kept : Kept → CacheEntry
entry_kept kept = record { reading = reading_kept kept; uses = kept.uses }

-- the entry is of this page
abbrev pub is_of : PageTitle → Kept → Bool
is_of page entry = title_eq page entry.draft.page

-- the page's entry
abbrev pub entry_of : PageTitle → List Kept → Option Kept
entry_of page entries = find (is_of page) entries

-- the entries without the page's
abbrev pub without : PageTitle → List Kept → List Kept
without page [] = []
without page (entry ∷ entries) = if is_of page entry then entries else entry ∷ without page entries

-- the page's entry, if it has one, goes before all others
abbrev pub to_front : PageTitle → List Kept → List Kept
to_front page entries = option_map_or (λ entry. entry ∷ without page entries) (entry_of page entries) entries

-- an entry with another point and another number of uses
abbrev pub marked_with : ℕ → ℕ → Kept → Kept
marked_with point uses entry = record entry { point = point; uses = uses }

-- it does so with another point and another number of uses
abbrev pub marked : PageTitle → ℕ → ℕ → List Kept → List Kept
marked page point uses entries =
    option_map_or (λ entry. marked_with point uses entry ∷ without page entries) (entry_of page entries) entries

-- a new entry goes before all others, in the place of the one that its page has, and there are at most so many
abbrev pub with_entry : ℕ → Kept → List Kept → List Kept
with_entry most entry entries = take most (entry ∷ without entry.draft.page entries)

-- the output has more bytes than that of an entry that is kept
abbrev pub is_long : Kept → Bool
is_long entry = nat_lt max_kept_output (length entry.draft.expanded.out)

-- the entries behind a `put`
abbrev pub kept_with : ℕ → Kept → List Kept → List Kept
kept_with most entry entries = if is_long entry then entries else with_entry most entry entries
