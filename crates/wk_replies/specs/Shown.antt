-- What replies show, as the definitions see it.
use Rattle.std.specs.Prelude.{◌++◌, ◌∷◌, [], codes, map}
use Rattle.serde_json.specs.Data.{Data, string}
use Rattle.wk_text_rules.specs.Titles.{shown}
use Rattle.wk_answer_rules.specs.Pages.{category_value, redirect_entries}
use Rattle.wk_answer_rules.specs.Values.{Entries, array_of, object_of, titles_value, whole}
use Rattle.wk_wiki_rules.specs.SaveOutcomes.{SaveNumbers}
use Rattle.wk_answer_rules.specs.Pages.{PageShown as Page}
use Rattle.wk_replies.specs.declared.pages.PageShown.{PageShown}
use Rattle.wk_replies.specs.declared.saves.SavedNumbers.{SavedNumbers}

abbrev pub numbers_of : SavedNumbers → SaveNumbers
numbers_of numbers = record { page = numbers.page; old = numbers.old; new = numbers.new }

abbrev pub page_of : PageShown → Page
page_of page = record {
  title = page.title.now;
  number = page.number;
  revision = page.revision;
  text = page.text.now;
  rows = page.rows.now;
}

-- what a reply shows first of a page
abbrev pub first_entries : Page → Entries
first_entries page =
    (codes "categories", array_of (map category_value page.rows.members))
    ∷ (codes "expanded", string page.text)
    ∷ (codes "links", titles_value page.rows.links)
    ∷ []

-- and then, but for where it redirects to
abbrev pub later_entries : Page → Entries
later_entries page =
    (codes "pageid", whole page.number)
    ∷ (codes "revid", whole page.revision)
    ∷ (codes "templates", titles_value page.rows.templates)
    ∷ (codes "title", string (shown page.title))
    ∷ []

-- all of it
abbrev pub page_data : Page → Data
page_data page = object_of (first_entries page ++ later_entries page ++ redirect_entries page.rows.redirect)
