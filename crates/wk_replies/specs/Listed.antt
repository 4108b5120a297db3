-- What listings show, by values that are given. With the title that a page has in a history they are the entries of the
-- listings' rules.
use Rattle.std.specs.Prelude.{ℕ, List, [], ◌∷◌, ◌++◌, codes, length, Option, unwrap_or}
use Rattle.serde_json.specs.Data.{Data, string}
use Rattle.wk_text_rules.specs.Titles.{PageTitle}
use Rattle.wk_page_rules.specs.History.{Revision}
use Rattle.wk_wiki_rules.specs.Members.{MemberPage}
use Rattle.wk_answer_rules.specs.Lists.{change_type, continue_entries}
use Rattle.wk_answer_rules.specs.Pages.{query_entries}
use Rattle.wk_answer_rules.specs.Values.{Entries, title_entries, whole}

-- a page with its title
abbrev pub page_shown : ℕ → PageTitle → Entries
page_shown page title = (codes "pageid", whole page) ∷ title_entries title

abbrev pub member_shown : MemberPage → PageTitle → Entries
member_shown member title = (codes "sortkeyprefix", string member.prefix) ∷ page_shown member.page title

abbrev pub change_shown : ℕ → Revision → PageTitle → Entries
change_shown number revision title =
    (codes "oldrevid", whole revision.parent)
    ∷ (codes "revid", whole number)
    ∷ (codes "timestamp", whole revision.moment)
    ∷ (codes "type", string (change_type revision))
    ∷ page_shown revision.page title

-- what is shown first of a page's revision
abbrev pub first_of_revision : ℕ → Revision → Entries
first_of_revision number revision =
    (codes "parentid", whole revision.parent)
    ∷ (codes "revid", whole number)
    ∷ (codes "size", whole (length (unwrap_or revision.text [])))
    ∷ (codes "timestamp", whole revision.moment)
    ∷ []

-- a list under its name, and what the listing goes on by
abbrev pub listed_entries : List ℕ → Option ℕ → Data → Entries
listed_entries name place list = continue_entries place ++ query_entries ((name, list) ∷ [])
