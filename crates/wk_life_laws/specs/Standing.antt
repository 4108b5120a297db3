-- Which entries of a journal stand in a history (own).
use Rattle.std.specs.Prelude.{◌≡◌, ℕ, ◌≤◌, length, Some}
use Rattle.wk_page_rules.specs.History.{History, Revision}
use Rattle.wk_wiki_rules.specs.Entries.{revision_at}
use Rattle.wk_wiki_rules.specs.declared.Entry.{Entry}
use Rattle.wk_wiki_rules.specs.declared.Entry.TheVariants as entry

-- the history has the revision with this number, and the page that it is of
pub record RevisionStands (h : History) (number : ℕ) : Type 0 where
  pub revision : Revision
  pub there : revision_at h number ≡ Some revision
  pub positive : 1 ≤ revision.page
  pub within : revision.page ≤ length h.pages

-- the revision of an entry stands, where the entry is a save
abbrev pub EntryStands : History → Entry → Type 0
EntryStands h (entry.Save number) = RevisionStands h number
EntryStands h entry.Claim = Unit {0}
EntryStands h (entry.Done ticket) = Unit {0}
EntryStands h (entry.Back ticket) = Unit {0}
EntryStands h entry.Fan = Unit {0}
