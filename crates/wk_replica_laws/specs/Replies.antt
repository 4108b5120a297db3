-- The lines that the replicas of the worked examples have taken, and what they reply.
use Rattle.std.specs.Prelude.{ℕ, pos, true, List, [], ◌∷◌, codes, length, Some, None}
use Rattle.serde_json.specs.Written.{compact_text}
use Rattle.wk_text_rules.specs.Titles.{PageTitle}
use Rattle.wk_page_rules.specs.History.{History}
use Rattle.wk_page_rules.specs.PageRows.{no_rows}
use Rattle.wk_request_rules.specs.Reading.{requested}
use Rattle.wk_wiki_rules.specs.Events.{Event, Save, Claim, Done}
use Rattle.wk_wiki_rules.specs.States.{State, no_state}
use Rattle.wk_feed_rules.specs.Lines.{lines_in}
use Rattle.wk_feed_rules.specs.Taking.{FeedRun}
use Rattle.wk_replica.specs.Answers.{replica_reply_to_parsed}
use Rattle.wk_replica.specs.Replicas.{ReplicaSeen}

-- A was saved in an empty wiki at moment 7 and refreshed
abbrev pub one_page_lines : List (List ℕ)
one_page_lines = lines_in (codes "[\"site\",\"version\",\"2\"]\n[\"start\"]\n[\"save\",\"A\",\"x\",7]\n[\"claim\"]\n[\"done\",2]\n")

-- the same, without the last newline
abbrev pub cut_lines : List (List ℕ)
cut_lines = lines_in (codes "[\"site\",\"version\",\"2\"]\n[\"start\"]\n[\"save\",\"A\",\"x\",7]\n[\"claim\"]\n[\"done\",2]")

-- ---- what they tell

abbrev pub page_a : PageTitle
page_a = record { ns = pos 0; key = codes "A" }

abbrev pub saved_once : History
saved_once = record {
  revisions = record { page = 1; parent = 0; moment = 7; text = Some (codes "x") } ∷ [];
  pages = record { title = page_a; current = 1 } ∷ [];
}

abbrev pub claimed : State
claimed = record {
  history = saved_once;
  stored = no_rows ∷ [];
  jobs = record { refreshes = record { number = 1; page = 1; ticket = Some 2 } ∷ []; fans = []; next = 2 };
}

abbrev pub refreshed : State
refreshed = record {
  history = saved_once;
  stored = no_rows ∷ [];
  jobs = record { refreshes = []; fans = []; next = 2 };
}

abbrev pub one_page_run : FeedRun
one_page_run = record { from = no_state; events = Save page_a (Some (codes "x")) 7 ∷ Claim ∷ Done 2 ∷ []; state = refreshed }

abbrev pub cut_run : FeedRun
cut_run = record { from = no_state; events = Save page_a (Some (codes "x")) 7 ∷ Claim ∷ []; state = claimed }

-- ---- replies

-- what is replied in this state, behind a journal of this length, to parameters that are posted
abbrev pub reply_in : State → ℕ → List ℕ → List ℕ
reply_in state journal body = compact_text (replica_reply_to_parsed state journal 0 (requested [] body true)).value

abbrev pub reply_of : ReplicaSeen → List ℕ → List ℕ
reply_of replica body = reply_in replica.state (length replica.journal) body
