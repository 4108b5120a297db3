-- What is told of a page, of a given text and of the wiki (MediaWiki's API:Parsing wikitext, API:Expandtemplates,
-- API:Tokens and API:Siteinfo; that links, categories and templates come in title order is own).
use Rattle.std.specs.Prelude.{ℕ, ◌+◌, ℤ, negsuc, pos, List, [], ◌∷◌, length, map, nat_lt, codes, Option, Some, None, option_map, if◌then◌else◌}
use Rattle.std.specs.List.{range_with_len}
use Rattle.std.specs.Option.{option_to_list}
use Rattle.serde_json.specs.Data.{Data, string}
use Rattle.wk_text_rules.specs.Marked.{text_of}
use Rattle.wk_text_rules.specs.Titles.{PageTitle, namespace_name, normal, shown, with_spaces}
use Rattle.wk_page_rules.specs.History.{current_revision, page_exists}
use Rattle.wk_page_rules.specs.Verdict.{max_text, real_title}
use Rattle.wk_page_rules.specs.PageRows.{Member, PageRows}
use Rattle.wk_view_rules.specs.Plans.{Outcome, done, need}
use Rattle.wk_view_rules.specs.Rows.{rows}
use Rattle.wk_view_rules.specs.Views.{Expanded}
use Rattle.wk_wiki_rules.specs.States.{State, world_of}
use Rattle.wk_wiki_rules.specs.Revisions.{count_existing}
use Rattle.wk_wiki_rules.specs.Passes.{drafted_in, shown_number}
use Rattle.wk_request_rules.specs.Reading.{edit_token}
use Rattle.wk_answer_rules.specs.Values.{whole, Entries, object_of, array_of, integer, title_entries, titles_value}
use Rattle.wk_answer_rules.specs.ApiErrors.{ApiError, invalidtitle, contenttoobig, missingtitle}

-- what a read is answered with: what stands beside the point, or an error
pub data ReadAnswer : Type 0 where
  shows : Entries → ReadAnswer
  fails : ApiError → ReadAnswer

-- the title that a text names, in main by default, and what is answered for it; else the title is bad
abbrev pub for_title : List ℕ → (PageTitle → ReadAnswer) → ReadAnswer
for_title text answer = elim (normal text (pos 0)) [ None ↦ fails invalidtitle | Some title ↦ answer title ]

-- the text of an expansion. A world needs nothing, so it is done.
abbrev pub text_shown : Outcome Expanded → List ℕ
text_shown (done expanded reads) = text_of expanded.out
text_shown (need title kind reads) = []

-- ---- a page

-- what a page shows: its title and number, its revision, what it expands to, and its rows
pub record PageShown : Type 0 where
  pub title : PageTitle
  pub number : ℕ
  pub revision : ℕ
  pub text : List ℕ
  pub rows : PageRows

-- a category that the page is in: its key with spaces, and what the page asks to be sorted by
abbrev pub category_value : Member → Data
category_value member =
    object_of ((codes "category", string (with_spaces member.category.key)) ∷ (codes "sortkey", string member.prefix) ∷ [])

-- where the page redirects to, if it does
abbrev pub redirect_entries : Option PageTitle → Entries
redirect_entries target = option_to_list (option_map (λ title. (codes "redirect", object_of (title_entries title))) target)

abbrev pub parse_entries : PageShown → Entries
parse_entries page = (
  codes "parse",
  object_of (
      (codes "categories", array_of (map category_value page.rows.members))
      ∷ (codes "expanded", string page.text)
      ∷ (codes "links", titles_value page.rows.links)
      ∷ (codes "pageid", whole page.number)
      ∷ (codes "revid", whole page.revision)
      ∷ (codes "templates", titles_value page.rows.templates)
      ∷ (codes "title", string (shown page.title))
      ∷ redirect_entries page.rows.redirect),
) ∷ []

-- the page of a title in this state, as its expansion in the present world shows it
abbrev pub page_shown : State → PageTitle → PageShown
page_shown state title = record {
  title = title;
  number = shown_number state.history title;
  revision = current_revision state.history title;
  text = text_shown (drafted_in (world_of state) title None);
  rows = rows (world_of state) title;
}

-- the title is legal and not in a virtual namespace, and its page exists
abbrev pub parse_answer : State → List ℕ → ReadAnswer
parse_answer state page = elim (real_title page) [
  | None ↦ fails invalidtitle
  | Some title ↦ if page_exists state.history title then shows (parse_entries (page_shown state title)) else fails missingtitle
]

-- ---- a given text

abbrev pub expand_entries : List ℕ → Entries
expand_entries text = (codes "expandtemplates", object_of ((codes "wikitext", string text) ∷ [])) ∷ []

-- what a text expands to in the place of a title's page; the length is that of the text as it is given
abbrev pub expanded_in : State → List ℕ → PageTitle → ReadAnswer
expanded_in state text title =
    if nat_lt max_text (length text) then fails contenttoobig
    else shows (expand_entries (text_shown (drafted_in (world_of state) title (Some text))))

-- the title may be in a virtual namespace
abbrev pub expand_answer : State → List ℕ → List ℕ → ReadAnswer
expand_answer state text page = for_title page (expanded_in state text)

-- ---- the wiki

abbrev pub query_entries : Entries → Entries
query_entries entries = (codes "query", object_of entries) ∷ []

abbrev pub tokens_entries : Entries
tokens_entries = query_entries ((codes "tokens", object_of ((codes "csrftoken", string edit_token) ∷ [])) ∷ [])

-- the numbers of the namespaces, rising
abbrev pub namespace_numbers : List ℤ
namespace_numbers = negsuc 1 ∷ negsuc 0 ∷ map pos (range_with_len 0 16)

abbrev pub namespace_value : ℤ → Data
namespace_value ns = object_of ((codes "id", integer ns) ∷ (codes "name", string (namespace_name ns)) ∷ [])

-- the jobs of both kinds
abbrev pub count_jobs : State → ℕ
count_jobs state = length state.jobs.refreshes + length state.jobs.fans

-- how many revisions, jobs and existing pages there are
abbrev pub statistics_value : State → Data
statistics_value state =
    object_of (
    (codes "edits", whole (length state.history.revisions))
    ∷ (codes "jobs", whole (count_jobs state))
    ∷ (codes "pages", whole (count_existing state.history))
    ∷ [])

abbrev pub site_entries : State → Entries
site_entries state = query_entries (
    (codes "namespaces", array_of (map namespace_value namespace_numbers)) ∷ (codes "statistics", statistics_value state) ∷ [])
