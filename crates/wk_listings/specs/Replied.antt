-- What a reply shows, and the state that listings read.
use Rattle.std.specs.Prelude.{ℕ, List}
use Rattle.serde_json.specs.Data.{Data}
use Rattle.wk_page_rules.specs.History.{History}
use Rattle.wk_page_rules.specs.PageRows.{PageRows}
use Rattle.wk_wiki_rules.specs.Jobs.{no_jobs}
use Rattle.wk_wiki_rules.specs.States.{State}
use Rattle.wk_answer_rules.specs.Answers.{read_at}
use Rattle.wk_answer_rules.specs.Pages.{ReadAnswer}

-- the value of a reply at a point
abbrev pub value_at : ℕ → ReadAnswer → Data
value_at point answer = (read_at point answer).reply.value

-- A state with these revisions, pages and link rows. Listings read no jobs.
abbrev pub state_with : History → List PageRows → State
state_with h stored = record { history = h; stored = stored; jobs = no_jobs }
