-- What replies show, by values that are given. With those of a state they are the entries of the rules.
use Rattle.std.specs.Prelude.{ℕ, [], ◌∷◌, codes}
use Rattle.serde_json.specs.Data.{string}
use Rattle.wk_text_rules.specs.Titles.{PageTitle, shown}
use Rattle.wk_view_rules.specs.declared.Kind.{Kind}
use Rattle.wk_answer_rules.specs.Values.{Entries, object_of, whole}
use Rattle.wk_script_rules.specs.Replies.{kind_name}

-- a title that is read, with the mark of its answer
abbrev pub read_shown : PageTitle → Kind → ℕ → Entries
read_shown title kind mark = (
  codes "read",
  object_of ((codes "kind", string (kind_name kind)) ∷ (codes "mark", whole mark) ∷ (codes "title", string (shown title)) ∷ []),
) ∷ []

-- how many jobs and existing pages there are behind a restart
abbrev pub restart_shown : ℕ → ℕ → Entries
restart_shown jobs pages = (codes "restart", object_of ((codes "jobs", whole jobs) ∷ (codes "pages", whole pages) ∷ [])) ∷ []
