-- What is listed (MediaWiki's API:Backlinks, API:Embeddedin, API:Categorymembers, API:RecentChanges and API:Revisions; what
-- a listing goes on by, and that a deletion is a revision that is listed, are own). Each listing is asked for one entry more than it lists, so that it is known whether more
-- is left. Stored rows count, also those of a page that is missing and not yet refreshed.
use Rattle.std.specs.Prelude.{ℕ, ◌+◌, pos, ◌==◌, Bool, true, not, nat_lt, List, [], ◌∷◌, ◌++◌, length, map, take, codes, Option, Some, None, is_none, unwrap_or, option_map, if◌then◌else◌}
use Rattle.std.specs.List.{last_or}
use Rattle.std.specs.Option.{option_to_list}
use Rattle.std.specs.Ordering.{int_eq}
use Rattle.serde_json.specs.Data.{boolean, string}
use Rattle.wk_text_rules.specs.Titles.{PageTitle}
use Rattle.wk_page_rules.specs.History.{History, Revision, next_revision, page_number}
use Rattle.wk_page_rules.specs.declared.Reach.TheVariants.{Text}
use Rattle.wk_wiki_rules.specs.Users.{users}
use Rattle.wk_wiki_rules.specs.States.{State, title_at}
use Rattle.wk_wiki_rules.specs.Links.{linking_pages}
use Rattle.wk_wiki_rules.specs.Members.{MemberPage, members_behind}
use Rattle.wk_wiki_rules.specs.Revisions.{changes_below, page_revisions_below}
use Rattle.wk_request_rules.specs.Requests.{Listing}
use Rattle.wk_answer_rules.specs.Values.{whole, Entries, object_of, array_of, title_entries}
use Rattle.wk_answer_rules.specs.ApiErrors.{invalidcategory, missingtitle}
use Rattle.wk_answer_rules.specs.Pages.{ReadAnswer, shows, fails, for_title, query_entries}

-- ---- every listing

abbrev pub continue_entries : Option ℕ → Entries
continue_entries place = option_to_list (option_map (λ n. (codes "continue", whole n)) place)

-- the number of the last entry that is listed, where there are more than are listed
abbrev pub last_listed : {X : Type 0} → (X → ℕ) → ℕ → List X → Option ℕ
last_listed number limit found =
    if nat_lt limit (length found) then option_map number (last_or None (take limit found)) else None

-- a list under its name, at most so many of what was found; `continue` stands beside `query` where more is left
abbrev pub listed : {X : Type 0} → List ℕ → (X → Entries) → Option ℕ → ℕ → List X → ReadAnswer
listed name entries_of place limit found =
    shows (continue_entries place ++ query_entries ((name, array_of (map (λ x. object_of (entries_of x)) (take limit found))) ∷ []))

-- ---- pages by their numbers

-- a page: its number and its title
abbrev pub page_entries : History → ℕ → Entries
page_entries h page = (codes "pageid", whole page) ∷ title_entries (title_at h page)

abbrev pub pages_listed : List ℕ → History → ℕ → List ℕ → ReadAnswer
pages_listed name h limit pages = listed name (page_entries h) (last_listed (λ page. page) limit pages) limit pages

-- the pages above the number that the listing goes on by
abbrev pub backlinks_of : State → Listing → PageTitle → ReadAnswer
backlinks_of state listing title =
    pages_listed (codes "backlinks") state.history listing.limit
    (linking_pages state.stored title (unwrap_or listing.from 0) (listing.limit + 1))

abbrev pub backlinks_answer : State → Listing → ReadAnswer
backlinks_answer state listing = for_title listing.title (backlinks_of state listing)

abbrev pub embedding_of : State → Listing → PageTitle → ReadAnswer
embedding_of state listing title =
    pages_listed (codes "embeddedin") state.history listing.limit
    (users state.stored title Text (unwrap_or listing.from 0) (listing.limit + 1))

abbrev pub embedded_answer : State → Listing → ReadAnswer
embedded_answer state listing = for_title listing.title (embedding_of state listing)

-- ---- members of a category

abbrev pub member_entries : History → MemberPage → Entries
member_entries h member = (codes "sortkeyprefix", string member.prefix) ∷ page_entries h member.page

-- how many members were passed over so far, where more is left
abbrev pub members_passed : ℕ → ℕ → List MemberPage → Option ℕ
members_passed passed limit found = if nat_lt limit (length found) then Some (passed + limit) else None

-- the members behind as many as the listing goes on by
abbrev pub members_listed : State → PageTitle → ℕ → ℕ → ReadAnswer
members_listed state category passed limit =
    let found = members_behind state.stored category passed (limit + 1) in
    listed (codes "categorymembers") (member_entries state.history) (members_passed passed limit found) limit found

abbrev pub members_of : State → Listing → PageTitle → ReadAnswer
members_of state listing title =
    if not (int_eq title.ns (pos 14)) then fails invalidcategory
    else members_listed state title (unwrap_or listing.from 0) listing.limit

abbrev pub members_answer : State → Listing → ReadAnswer
members_answer state listing = for_title listing.title (members_of state listing)

-- ---- revisions

-- a revision is a deletion, or new where the page was missing, or else an edit
abbrev pub change_type : Revision → List ℕ
change_type revision =
    if is_none revision.text then codes "delete" else if revision.parent == 0 then codes "new" else codes "edit"

abbrev pub change_entries : History → ℕ × Revision → Entries
change_entries h (number, revision) =
    (codes "oldrevid", whole revision.parent)
    ∷ (codes "revid", whole number)
    ∷ (codes "timestamp", whole revision.moment)
    ∷ (codes "type", string (change_type revision))
    ∷ page_entries h revision.page

-- revisions from the newest on; the listing goes on below a number
abbrev pub below : History → Listing → ℕ
below h listing = unwrap_or listing.from (next_revision h)

abbrev pub revisions_listed : List ℕ → (ℕ × Revision → Entries) → ℕ → List (ℕ × Revision) → ReadAnswer
revisions_listed name entries_of limit found = listed name entries_of (last_listed (λ revision. revision.0) limit found) limit found

abbrev pub changes_answer : State → Listing → ReadAnswer
changes_answer state listing =
    revisions_listed (codes "recentchanges") (change_entries state.history) listing.limit
    (changes_below state.history (below state.history listing) (listing.limit + 1))

-- `deleted` stands only with a deletion, whose text is empty
abbrev pub deleted_entries : Revision → Entries
deleted_entries revision = if is_none revision.text then (codes "deleted", boolean true) ∷ [] else []

abbrev pub content_entries : Bool → Revision → Entries
content_entries content revision = if content then (codes "content", string (unwrap_or revision.text [])) ∷ [] else []

abbrev pub revision_entries : Bool → ℕ × Revision → Entries
revision_entries content (number, revision) =
    (codes "parentid", whole revision.parent)
    ∷ (codes "revid", whole number)
    ∷ (codes "size", whole (length (unwrap_or revision.text [])))
    ∷ (codes "timestamp", whole revision.moment)
    ∷ deleted_entries revision ++ content_entries content revision

-- a title whose page was never saved is missing; one whose page was deleted isn't
abbrev pub revisions_of : History → Listing → Bool → PageTitle → ReadAnswer
revisions_of h listing content title = elim (page_number h title) [
  | None ↦ fails missingtitle
  | Some page ↦
      revisions_listed (codes "revisions") (revision_entries content) listing.limit
      (page_revisions_below h page (below h listing) (listing.limit + 1))
]

abbrev pub revisions_answer : State → Listing → Bool → ReadAnswer
revisions_answer state listing content = for_title listing.title (revisions_of state.history listing content)
