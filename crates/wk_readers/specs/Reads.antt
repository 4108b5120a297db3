-- What reads answer, and what they leave of the pages that a reader keeps (own).
use Rattle.std.specs.Prelude.{◌≡◌, ◌⊎◌, ℕ, ◌+◌, ◌≤◌, ◌<◌, List, length, Option, Some, None, Result, Ok, Err, Contains, IfOk, IfErr}
use Rattle.wk_text_rules.specs.Titles.{PageTitle}
use Rattle.wk_wiki_rules.specs.Events.{Event}
use Rattle.wk_wiki_rules.specs.Passes.{IsReadAt, max_uses}
use Rattle.wk_wiki_rules.specs.Starts.{Start}
use Rattle.wk_core.specs.declared.outcomes.PageRead.{PageRead}
use Rattle.wk_core.specs.declared.outcomes.ReadRefusal.{ReadRefusal}
use Rattle.wk_core.specs.declared.outcomes.ReadRefusal.TheVariants as refusal
use Rattle.wk_cache.specs.Entries.{entry_of, marked}
use Rattle.wk_cache.specs.declared.kept.Kept.{Kept}
use Rattle.wk_turn.specs.Told.{Begun, Story}
use Rattle.wk_shared.specs.Calls.{seen_by}
use Rattle.wk_shared.specs.Looks.{HasRead, IsPresentRead, reading_of}
use Rattle.wk_readers.specs.Readers.{ReaderSeen}
use Rattle.wk_readers.specs.declared.reader.Checked.{Checked}
use Rattle.wk_readers.specs.declared.reader.Checked.TheVariants.{Current, Stale, Late}

-- ---- entries

-- an entry as an answer at this point
abbrev pub answer_of_kept : Kept → ℕ → PageRead
answer_of_kept kept point = record { draft = kept.draft; point = point; id = kept.id }

-- what is kept of an answer that was just drafted
abbrev pub fresh_entry : PageRead → Kept
fresh_entry read = record { draft = read.draft; point = read.point; uses = 0; id = read.id }

-- each entry was there before
abbrev pub OnlyKeeps : List Kept → List Kept → Type 0
OnlyKeeps old new = (kept : Kept) → Contains new kept → Contains old kept

-- each entry was there before, or is this one
abbrev pub KeepsOrAdds : List Kept → List Kept → Kept → Type 0
KeepsOrAdds old new fresh = (kept : Kept) → Contains new kept → Contains old kept ⊎ (kept ≡ fresh)

-- ---- answers

-- An answer that is given of the page's entry without a look at the wiki: the entry is new enough, and was served less than
-- 16 times since it was checked. It is served once more, and nothing new is seen.
pub record IsServed (page : PageTitle) (least : ℕ) (old new : ReaderSeen) (read : PageRead) : Type 0 where
  pub entry : Kept
  pub found : entry_of page old.entries ≡ Some entry
  pub few : entry.uses < max_uses
  pub reached : least ≤ entry.point
  pub fresh : length old.pass.seen ≤ entry.point
  pub answered : read ≡ answer_of_kept entry entry.point
  pub left : new ≡ record old { entries = marked page entry.point (entry.uses + 1) old.entries }

-- An answer that is given of the page's entry where each read of it is current: it is right at the point that the pass has
-- seen last, and the entry has that point then, and wasn't served since.
pub record IsChecked (shared : Begun Start) (page : PageTitle) (old new : ReaderSeen) (read : PageRead) : Type 0 where
  pub entry : Kept
  pub found : entry_of page old.entries ≡ Some entry
  pub answered : read ≡ answer_of_kept entry (length new.pass.seen)
  pub right : IsPresentRead shared new.pass page None read
  pub left : new.entries ≡ marked page (length new.pass.seen) 0 old.entries

-- An answer that was drafted, or that the wiki kept and of which each read is current: it is right at the point that the pass
-- has seen last, and what is kept of it has that point and wasn't served.
pub record IsDrafted (shared : Begun Start) (page : PageTitle) (old new : ReaderSeen) (read : PageRead) : Type 0 where
  pub right : IsPresentRead shared new.pass page None read
  pub left : KeepsOrAdds old.entries new.entries (fresh_entry read)

-- a draft that is made anew: its answer, or want of memory, which keeps what there is
abbrev pub IsDraftedAnew : Begun Start → PageTitle → ReaderSeen → ReaderSeen → Result PageRead ReadRefusal → Type 0
IsDraftedAnew shared page old new (Ok read) = IsDrafted shared page old new read
IsDraftedAnew shared page old new (Err why) = (why ≡ refusal.Memory) × (new.entries ≡ old.entries)

-- the least point isn't reached: the journal has only so many events
abbrev pub IsLate : ℕ → Story Start Event → ReadRefusal → Type 0
IsLate least pass (refusal.Future length_now) = (length_now < least) × (length_now ≡ length pass.seen)
IsLate least pass refusal.Memory = Unit {0}

-- what a look for what is current of a page comes to, and what it leaves
abbrev pub IsCheck : Begun Start → PageTitle → ℕ → ReaderSeen → ReaderSeen → Checked → Type 0
IsCheck shared page least old new (Current read) = (least ≤ length new.pass.seen) × (IsChecked shared page old new read ⊎ IsDrafted shared page old new read)
IsCheck shared page least old new Stale = (least ≤ length new.pass.seen) × (new.entries ≡ old.entries)
IsCheck shared page least old new (Late point) = IsLate least new.pass (refusal.Future point) × (new.entries ≡ old.entries)

-- The answer to a read: it is of the page, or of the text, right at its point, which the pass has seen, and no older than what
-- the caller asks for and than what the pass had seen.
pub record IsAnswered (shared : Begun Start) (old new : Story Start Event) (page : PageTitle) (given : Option (List ℕ)) (least : ℕ) (read : PageRead) : Type 0 where
  pub page_is : read.draft.page ≡ page
  pub given_is : read.draft.given ≡ given
  pub right : IsReadAt (seen_by shared.start new) (reading_of read)
  pub reached : least ≤ read.point
  pub fresh : length old.seen ≤ read.point

-- What a read of a page leaves of what is kept: an answer is served once more, was checked, or was drafted; a refusal keeps
-- what there is.
abbrev pub KeepsCount : Begun Start → PageTitle → ℕ → ReaderSeen → ReaderSeen → Result PageRead ReadRefusal → Type 0
KeepsCount shared page least old new (Ok read) = IsServed page least old new read ⊎ (IsChecked shared page old new read ⊎ IsDrafted shared page old new read)
KeepsCount shared page least old new (Err refusal) = OnlyKeeps old.entries new.entries

-- a read of a page, with all that is said of it
pub record IsPageRead (shared : Begun Start) (page : PageTitle) (least : ℕ) (old new : ReaderSeen) (result : Result PageRead ReadRefusal) : Type 0 where
  pub pass : HasRead shared old.pass new.pass
  pub read : IfOk result (IsAnswered shared old.pass new.pass page None least)
  pub late : IfErr result (IsLate least new.pass)
  pub uses : KeepsCount shared page least old new result
