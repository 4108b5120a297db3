-- Whether an edit is a save, changes nothing or is refused, and why (the refusals are those of MediaWiki's API:Edit;
-- the limits and the order are own).
use Rattle.std.specs.Prelude.{ℕ, ◌+◌, ◌^◌, Bool, false, ◌&&◌, ◌||◌, ◌==◌, not, nat_lt, nat_le, List, [], length, bytes_eq, pos, Option, Some, None, is_none, unwrap_or, option_map, if◌then◌else◌}
use Rattle.wk_text_rules.specs.Titles.{PageTitle, normal, is_virtual}
use Rattle.wk_page_rules.specs.Kept.{kept}
use Rattle.wk_page_rules.specs.History.{History, page_number, current_revision, current_text, page_exists, text_bytes}
use Rattle.wk_page_rules.specs.declared.Limit.{Limit}
use Rattle.wk_page_rules.specs.declared.Limit.TheVariants.{Pages, Revisions, Text}

-- what is asked of a save
pub record EditAsked : Type 0 where
  pub title : List ℕ
  -- the text, or nothing for a deletion
  pub body : Option (List ℕ)
  -- the revision that the editor began with, 0 for a missing page
  pub base : Option ℕ
  -- only a page that is missing may be saved
  pub create_only : Bool
  -- only a page that exists may be saved
  pub no_create : Bool

-- how much a wiki holds at most
pub record MostHeld : Type 0 where
  pub pages : ℕ
  pub revisions : ℕ
  -- bytes of the texts of all revisions
  pub text : ℕ
  -- events since the store was opened
  pub journal : ℕ

-- what a wiki has used of its journal and of the numbers of jobs
pub record JournalUse : Type 0 where
  -- events since the store was opened
  pub journal : ℕ
  -- tickets that are out
  pub tickets : ℕ
  -- the number of the next new job
  pub next_job : ℕ

-- the bytes that a page's text has at most
abbrev pub max_text : ℕ
max_text = 2097152

-- ---- the full limits, which no wiki goes beyond (own)

abbrev pub max_pages : ℕ
max_pages = 1000000

abbrev pub max_revisions : ℕ
max_revisions = 16777216

-- bytes of the texts of all revisions
abbrev pub max_texts : ℕ
max_texts = 1073741824

-- events since the store was opened
abbrev pub max_journal : ℕ
max_journal = 33554432

abbrev pub full_limits : MostHeld
full_limits = record { pages = max_pages; revisions = max_revisions; text = max_texts; journal = max_journal }

-- ---- verdicts

-- the greatest number of the next job at which a save or a fan may still begin
abbrev pub max_job : ℕ
max_job = 2 ^ 62

pub data Refusal : Type 0 where
  invalid_title : Refusal
  content_too_big : Refusal
  article_exists : Refusal
  missing_title : Refusal
  -- with the page's current revision, 0 where it is missing
  edit_conflict : ℕ → Refusal
  wiki_full : Limit → Refusal
  journal_full : Refusal

pub data Verdict : Type 0 where
  refuse : Refusal → Verdict
  -- the page has this text already
  no_change : PageTitle → Verdict
  -- the title, and the text as it is kept, or nothing for a deletion
  accept : PageTitle → Option (List ℕ) → Verdict

-- the title of a page that can be saved: in main by default, and not in a virtual namespace
abbrev pub real_title : List ℕ → Option PageTitle
real_title text = elim (normal text (pos 0)) [
  | None ↦ None
  | Some title ↦ if is_virtual title then None else Some title
]

-- a base is given, and it isn't the page's current revision
abbrev pub is_conflict : Option ℕ → ℕ → Bool
is_conflict None current = false
is_conflict (Some base) current = not (base == current)

-- the page's text is there and is the body
abbrev pub is_same_text : Option (List ℕ) → Option (List ℕ) → Bool
is_same_text None body = false
is_same_text (Some text) None = false
is_same_text (Some text) (Some body) = bytes_eq text body

abbrev pub body_bytes : Option (List ℕ) → ℕ
body_bytes body = length (unwrap_or body [])

-- the first limit that the save would pass
abbrev pub limit_passed : History → MostHeld → PageTitle → Option (List ℕ) → Option Limit
limit_passed h most title body =
    if is_none (page_number h title) && nat_le most.pages (length h.pages) then Some Pages
    else if nat_le most.revisions (length h.revisions) then Some Revisions
    else if nat_lt most.text (text_bytes h + body_bytes body) then Some Text
    else None

-- the verdict once the title is known and the body is as it would be kept
abbrev pub judged_at : History → MostHeld → EditAsked → PageTitle → Option (List ℕ) → Verdict
judged_at h most edit title body =
    let current = current_revision h title in
    if nat_lt max_text (body_bytes body) then refuse content_too_big
    else if edit.create_only && page_exists h title then refuse article_exists
    else if (edit.no_create || is_none body) && not (page_exists h title) then refuse missing_title
    else if is_conflict edit.base current then refuse (edit_conflict current)
    else if is_same_text (current_text h title) body then no_change title
    else elim (limit_passed h most title body) [ None ↦ accept title body | Some limit ↦ refuse (wiki_full limit) ]

-- the first that applies, but for the journal's room
unfoldable pub judged : History → MostHeld → EditAsked → Verdict
judged h most edit = elim (real_title edit.title) [
  | None ↦ refuse invalid_title
  | Some title ↦ judged_at h most edit title (option_map kept edit.body)
]

-- What the journal's room and the numbers of jobs decide, where a save would be accepted: the journal's length and
-- the tickets that are out are at the limit or above it, or the next job's number is past the greatest.
abbrev pub is_journal_full : MostHeld → JournalUse → Bool
is_journal_full most used = nat_le most.journal (used.journal + used.tickets) || nat_lt max_job used.next_job

abbrev pub with_room : Bool → Verdict → Verdict
with_room full (refuse refusal) = refuse refusal
with_room full (no_change title) = no_change title
with_room full (accept title body) = if full then refuse journal_full else accept title body

-- the first that applies
abbrev pub verdict : History → MostHeld → JournalUse → EditAsked → Verdict
verdict h most used edit = with_room (is_journal_full most used) (judged h most edit)
