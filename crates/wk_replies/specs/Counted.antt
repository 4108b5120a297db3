-- What is told of a wiki, by how much it holds.
use Rattle.std.specs.Prelude.{[], ◌∷◌, codes, map}
use Rattle.serde_json.specs.Data.{Data}
use Rattle.wk_answer_rules.specs.Pages.{namespace_numbers, namespace_value}
use Rattle.wk_answer_rules.specs.Values.{whole, Entries, object_of, array_of}
use Rattle.wk_replies.specs.declared.site.Counts.{Counts}

abbrev pub statistics_shown : Counts → Data
statistics_shown counts =
    object_of ((codes "edits", whole counts.revisions) ∷ (codes "jobs", whole counts.jobs) ∷ (codes "pages", whole counts.pages) ∷ [])

abbrev pub query_shown : Counts → Data
query_shown counts = object_of (
    (codes "namespaces", array_of (map namespace_value namespace_numbers)) ∷ (codes "statistics", statistics_shown counts) ∷ [])

abbrev pub site_shown : Counts → Entries
site_shown counts = (codes "query", query_shown counts) ∷ []
