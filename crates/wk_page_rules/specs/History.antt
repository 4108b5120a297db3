-- The revisions and the pages of a wiki, and what a save does to them (MediaWiki's Manual:Page table and
-- Manual:Revision table; that a title keeps its page for good is own).
use Rattle.std.specs.Prelude.{ℕ, ◌+◌, ◌-◌, Bool, ◌&&◌, ◌||◌, ◌==◌, not, List, [], ◌∷◌, ◌++◌, length, slice_get, position, find, sum_by, Option, None, is_some, unwrap_or, option_map, option_and_then, if◌then◌else◌}
use Rattle.wk_text_rules.specs.Titles.{PageTitle, title_eq, is_page_title}

-- One saved text. Revisions are numbered from 1, in the order of their saves: a number is a place in the list.
pub record Revision : Type 0 where
  -- the number of its page
  pub page : ℕ
  -- the number of the revision that was current before it, 0 where the page was missing
  pub parent : ℕ
  -- seconds since 1970
  pub moment : ℕ
  -- what was saved, or nothing where the page was deleted
  pub text : Option (List ℕ)

-- One page. Pages are numbered from 1, in the order in which their titles were first saved.
pub record Page : Type 0 where
  pub title : PageTitle
  -- the number of its current revision, 0 where the page is missing
  pub current : ℕ

pub record History : Type 0 where
  pub revisions : List Revision
  pub pages : List Page

-- no revision and no page
abbrev pub no_history : History
no_history = record { revisions = []; pages = [] }

-- ---- what a history says of a title

-- the number of the page, where the title has ever been saved
abbrev pub page_number : History → PageTitle → Option ℕ
page_number h title = option_map (λ place. place + 1) (position (λ page. title_eq page.title title) h.pages)

-- the number of the page's current revision, 0 where the page is missing
abbrev pub current_revision : History → PageTitle → ℕ
current_revision h title =
    unwrap_or (option_map (λ page. page.current) (find (λ page. title_eq page.title title) h.pages)) 0

-- the text of the revision with this number, where it has one
abbrev pub text_of_revision : History → ℕ → Option (List ℕ)
text_of_revision h number =
    if number == 0 then None else option_and_then (λ revision. revision.text) (slice_get h.revisions (number - 1))

-- the page's text, where the page exists
abbrev pub current_text : History → PageTitle → Option (List ℕ)
current_text h title = text_of_revision h (current_revision h title)

-- the page has a text now
abbrev pub page_exists : History → PageTitle → Bool
page_exists h title = not (current_revision h title == 0)

-- the bytes of the texts of all revisions
abbrev pub text_bytes : History → ℕ
text_bytes h = sum_by (λ revision. length (unwrap_or revision.text [])) h.revisions

-- ---- what a save does

-- A title can be saved that a text can name and that isn't in a virtual namespace; and only a page that exists can be
-- deleted.
abbrev pub can_save : History → PageTitle → Option (List ℕ) → Bool
can_save h title text = is_page_title title && (is_some text || page_exists h title)

-- the number of the title's page, or the next one where the title is new
abbrev pub page_to_save : History → PageTitle → ℕ
page_to_save h title = unwrap_or (page_number h title) (length h.pages + 1)

-- the pages, where the page of this title has this current revision from now on; a new title goes to the end
abbrev pub with_current : List Page → PageTitle → ℕ → List Page
with_current [] title number = record { title = title; current = number } ∷ []
with_current (page ∷ pages) title number =
    let later = with_current pages title number in
    if title_eq page.title title then record { title = page.title; current = number } ∷ pages else page ∷ later

-- the number that the next revision gets
abbrev pub next_revision : History → ℕ
next_revision h = length h.revisions + 1

-- A revision is appended, and is the page's current one; after a deletion, which has no text, the page is missing.
unfoldable pub saved : History → PageTitle → Option (List ℕ) → ℕ → History
saved h title text moment = record {
  revisions = h.revisions ++ record {
    page = page_to_save h title;
    parent = current_revision h title;
    moment = moment;
    text = text;
  } ∷ [];
  pages = with_current h.pages title (if is_some text then next_revision h else 0);
}
