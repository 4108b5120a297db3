-- Whose revisions are listed: those of all pages, or those of one.
use Rattle.std.specs.Prelude.{ℕ, ◌-◌, Bool, true, ◌&&◌, nat_lt, List, filter, reverse, take, Option, None, Some, unwrap_or, option_map, if◌then◌else◌}
use Rattle.std.specs.List.{last_or}
use Rattle.wk_page_rules.specs.History.{History, Revision}
use Rattle.wk_wiki_rules.specs.Revisions.{is_below, is_of_page, numbered_revisions}
use Rattle.wk_wiki_rules.specs.Entries.{revision_at}
use Rattle.wk_listings.specs.declared.numbers.Owner.{Owner}
use Rattle.wk_listings.specs.declared.numbers.Owner.TheVariants.{Every, OfPage}

abbrev pub is_of : Owner → ℕ × Revision → Bool
is_of Every revision = true
is_of (OfPage page) revision = is_of_page page revision

-- the revisions below a number, the oldest first
abbrev pub rising : History → Owner → ℕ → List (ℕ × Revision)
rising h owner below = filter (λ revision. is_of owner revision && is_below below revision) (numbered_revisions h)

-- the number of the newest of them
abbrev pub newest : History → Owner → ℕ → Option ℕ
newest h owner below = option_map (λ revision. revision.0) (last_or None (rising h owner below))

-- the number before this one, where it is a revision's
abbrev pub number_before : ℕ → Option ℕ
number_before number = if nat_lt 1 number then Some (number - 1) else None

-- the newest first, at most so many
abbrev pub falling : History → Owner → ℕ → ℕ → List (ℕ × Revision)
falling h owner below most = take most (reverse (rising h owner below))

-- a revision that no history has
abbrev pub no_revision : Revision
no_revision = record { page = 0; parent = 0; moment = 0; text = None }

-- the revision with this number
abbrev pub numbered_at : History → ℕ → ℕ × Revision
numbered_at h number = (number, unwrap_or (revision_at h number) no_revision)
