-- What the rows of the job table ask for (MediaWiki's Manual:Job table; the job `fan`, which queues a refresh of each
-- page that names a title, and the form of its params are own).
use Rattle.std.specs.Prelude.{ℕ, List, [], ◌∷◌, ◌++◌, bytes_eq, codes, Option, Some, None, option_map, option_and_then, if◌then◌else◌}
use Rattle.std.specs.Fmt.{decimal}
use Rattle.std.specs.List.{after_first, before_first}
use Rattle.wk_text_rules.specs.Decimal.{decimal_number}
use Rattle.wk_text_rules.specs.Titles.{PageTitle, is_colon}
use Rattle.wk_page_rules.specs.declared.Reach.{Reach}
use Rattle.wk_page_rules.specs.declared.Reach.TheVariants.{Text, Both}
use Rattle.wk_table_rules.specs.Rows.{JobColumns}

-- the job that computes the link rows of the page of its title anew
abbrev pub refresh_cmd : List ℕ
refresh_cmd = codes "refreshLinks"

-- the job that queues a refresh of each page that names its title
abbrev pub fan_cmd : List ℕ
fan_cmd = codes "fan"

abbrev pub reach_word : Reach → List ℕ
reach_word Text = codes "text"
reach_word Both = codes "both"

abbrev pub reach_called : List ℕ → Option Reach
reach_called word =
    if bytes_eq word (reach_word Text) then Some Text else if bytes_eq word (reach_word Both) then Some Both else None

-- how far a fan job reaches, and the number of the last page that it has served since it began, or began anew
pub record FanParams : Type 0 where
  pub reach : Reach
  pub cursor : ℕ

-- the params as a row has them: `text:N` or `both:N`
abbrev pub params_text : FanParams → List ℕ
params_text params = reach_word params.reach ++ 58 ∷ decimal params.cursor

-- what stands in a row's params, where they have that form and N is a decimal number
abbrev pub fan_params : List ℕ → Option FanParams
fan_params text =
    let asked = reach_called (before_first is_colon text) in
    let served = decimal_number (after_first is_colon text) in
    option_and_then (λ reach. option_map (λ cursor. record { reach = reach; cursor = cursor }) served) asked

-- the row of a refresh job with this number, of the page with this title
abbrev pub refresh_row : ℕ → PageTitle → JobColumns
refresh_row id title = record { job_id = id; job_cmd = refresh_cmd; job_title = title; job_params = [] }

-- the row of a fan job with this number, of this title
abbrev pub fan_row : ℕ → PageTitle → FanParams → JobColumns
fan_row id title params = record { job_id = id; job_cmd = fan_cmd; job_title = title; job_params = params_text params }
