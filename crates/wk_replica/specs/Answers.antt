-- What a replica answers (own): what its state shows, and to each save that it is read only, whatever the point is.
use Rattle.std.specs.Prelude.{ℕ, [], codes, if◌then◌else◌}
use Rattle.wk_page_rules.specs.Verdict.{full_limits}
use Rattle.wk_wiki_rules.specs.States.{State}
use Rattle.wk_request_rules.specs.Requests.{ParsedRequest, Request, asks_to_save, invalid, valid}
use Rattle.wk_answer_rules.specs.Answers.{answer_to_request}
use Rattle.wk_answer_rules.specs.ApiErrors.{api_error, error_of, request_error, row_entries}
use Rattle.wk_answer_rules.specs.Values.{ApiReply, reply_beside}

-- the error of a save, behind a journal of this length
abbrev pub read_only : ℕ → ApiReply
read_only journal = reply_beside (row_entries (error_of (codes "readonly") (codes "This wiki is read only.") [])) journal

-- The answer in this state, behind a journal of this length. No moment plays a part in what is read.
abbrev pub replica_reply : State → ℕ → ℕ → Request → ApiReply
replica_reply state journal moment request =
    if asks_to_save request.ask then read_only journal else (answer_to_request full_limits state journal moment request).reply

-- The first refusal of parameters, else the answer.
abbrev pub replica_reply_to_parsed : State → ℕ → ℕ → ParsedRequest → ApiReply
replica_reply_to_parsed state journal moment (invalid refusal) = api_error (request_error refusal) journal
replica_reply_to_parsed state journal moment (valid request) = replica_reply state journal moment request
