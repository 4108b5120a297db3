-- How the examples write worlds and what is expanded in them: in short texts, which only examples use.
use Rattle.std.specs.Prelude.{ℕ, ℤ, zero, suc, pos, List, [], ◌∷◌, ◌++◌, map, flat_map, bytes_eq, codes, decimal, option_to_list, Some, None, if◌then◌else◌}
use Rattle.wk_text_rules.specs.Marked.{text_of}
use Rattle.wk_text_rules.specs.Titles.{PageTitle, shown, title_eq}
use Rattle.wk_view_rules.specs.Expansions.{Counters, no_counters}
use Rattle.wk_view_rules.specs.Plans.{Outcome, done, need, reads_of}
use Rattle.wk_page_rules.specs.PageRows.{Member, PageRows}
use Rattle.wk_view_rules.specs.Rows.{rows}
use Rattle.wk_view_rules.specs.Views.{Expanded, view, shown_text}
use Rattle.wk_view_rules.specs.Worlds.{World, Read, of_world, mark}
use Rattle.wk_view_rules.specs.declared.Kind.{Kind}

-- ---- worlds

abbrev pub pages_from : ℕ → List (List ℕ × List ℕ) → World
pages_from n [] title = None
pages_from n (entry ∷ entries) title =
    let later = pages_from (suc n) entries title in
    if bytes_eq (shown title) entry.0 then Some (record { revision = n; text = entry.1 }) else later

-- pages by their shown titles and their texts, with revisions from 1
abbrev pub pages : List (List ℕ × List ℕ) → World
pages entries = pages_from 1 entries

-- one page alone
abbrev pub only : List ℕ → List ℕ → World
only name text = pages ((name, text) ∷ [])

-- so many numbers one after the other
abbrev pub numbers_from : ℕ → ℕ → List ℕ
numbers_from first zero = []
numbers_from first (suc count) = first ∷ numbers_from (suc first) count

-- the pages A1 to A101, and nothing in them
abbrev pub a_hundred_and_one : World
a_hundred_and_one = pages (map (λ k. (codes "A" ++ decimal k, [])) (numbers_from 1 101))

-- `{{#ifexist:A1|y|n}}` and so on, for so many pages
abbrev pub existence_tests : ℕ → List ℕ
existence_tests count =
    flat_map (λ k. codes "{{#ifexist:A" ++ decimal k ++ codes "|y|n}}") (numbers_from 1 count)

-- The templates T1 to T40 include the one behind them, and T41 is `x`.
abbrev pub chain_of_templates : World
chain_of_templates =
    pages (
    map (λ k. (codes "Template:T" ++ decimal k, codes "{{T" ++ decimal (suc k) ++ codes "}}")) (numbers_from 1 40)
    ++ (codes "Template:T41", codes "x") ∷ []
    )

-- a text so many times
abbrev pub times : ℕ → List ℕ → List ℕ
times zero text = []
times (suc n) text = text ++ times n text

-- what stands in so many arguments within each other
abbrev pub in_arguments : ℕ → List ℕ → List ℕ
in_arguments count text = times count (codes "{{{x|") ++ text ++ times count (codes "}}}")

-- ---- expansions

abbrev pub titled : ℤ → List ℕ → PageTitle
titled ns key = record { ns = ns; key = key }

-- the page API, on which the texts of the examples are shown
abbrev pub api : PageTitle
api = titled (pos 0) (codes "API")

abbrev pub output_text : Outcome Expanded → List ℕ
output_text (done expanded reads) = text_of expanded.out
output_text (need title kind reads) = codes "NEED"

abbrev pub output_counters : Outcome Expanded → Counters
output_counters (done expanded reads) = expanded.counters
output_counters (need title kind reads) = no_counters

-- a read as its kind, its shown title and its mark
abbrev pub short_read : Read → Kind × List ℕ × ℕ
short_read read = (read.kind, shown read.title, mark read.answer)

-- what a text gives in a world, what it costs, and what is read
abbrev pub given : World → List ℕ → List ℕ
given world text = output_text (shown_text (of_world world) api text)

abbrev pub given_counters : World → List ℕ → Counters
given_counters world text = output_counters (shown_text (of_world world) api text)

abbrev pub given_reads : World → List ℕ → List (Kind × List ℕ × ℕ)
given_reads world text = map short_read (reads_of (shown_text (of_world world) api text))

-- what a page gives in a world, and what is read
abbrev pub viewed : World → PageTitle → List ℕ
viewed world title = output_text (view (of_world world) title)

abbrev pub viewed_reads : World → PageTitle → List (Kind × List ℕ × ℕ)
viewed_reads world title = map short_read (reads_of (view (of_world world) title))

-- ---- rows

-- a page's rows with shown titles
pub record ShortRows : Type 0 where
  pub templates : List (List ℕ)
  pub exists : List (List ℕ)
  pub links : List (List ℕ)
  -- the category, the sort key and the prefix
  pub members : List (List ℕ × List ℕ × List ℕ)
  pub redirect : List (List ℕ)

abbrev pub short_rows : PageRows → ShortRows
short_rows rows = record {
  templates = map shown rows.templates;
  exists = map shown rows.exists;
  links = map shown rows.links;
  members = map (λ (m : Member). (shown m.category, m.sortkey, m.prefix)) rows.members;
  redirect = map shown (option_to_list rows.redirect);
}

-- the rows of a page in a world
abbrev pub page_rows : World → PageTitle → ShortRows
page_rows world title = short_rows (rows world title)

-- ---- a world that changes

-- the page P, which includes Template:A and tests for Q
abbrev pub page_p : PageTitle
page_p = titled (pos 0) (codes "P")

abbrev pub world_before : World
world_before =
    pages ((codes "P", codes "{{A}}{{#ifexist:Q|y}}") ∷ (codes "Template:A", codes "a") ∷ (codes "B", codes "b") ∷ [])

-- the same with another text of one page
abbrev pub changed : PageTitle → List ℕ → World → World
changed title text world other =
    if title_eq other title then Some (record { revision = 9; text = text }) else world other
