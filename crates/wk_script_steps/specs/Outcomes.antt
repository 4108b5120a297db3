-- What lines are answered, by what the calls of the wiki answer (own).
use Rattle.std.specs.Prelude.{ℕ, codes, Option, Some, None, Result, Ok, Err}
use Rattle.wk_answer_rules.specs.ApiErrors.{api_error, journalfull, nomemory, storefault}
use Rattle.wk_answer_rules.specs.Values.{ApiReply, reply_beside}
use Rattle.wk_core.specs.Answers.{fanned_outcome}
use Rattle.wk_core.specs.declared.outcomes.ClaimRefusal.{ClaimRefusal}
use Rattle.wk_core.specs.declared.outcomes.ClaimRefusal.TheVariants as claim
use Rattle.wk_core.specs.declared.outcomes.FanRefusal.{FanRefusal}
use Rattle.wk_core.specs.declared.outcomes.FanRefusal.TheVariants as fan
use Rattle.wk_core.specs.declared.outcomes.Fanned.{Fanned}
use Rattle.wk_core.specs.declared.outcomes.Finished.{Finished}
use Rattle.wk_core.specs.declared.outcomes.Finished.TheVariants as came
use Rattle.wk_script_rules.specs.Replies.{done_entries, fan_entries, nothing_entries, stale_entries}

-- why no job is claimed
abbrev pub claim_refusal : ClaimRefusal → ℕ → ApiReply
claim_refusal claim.JournalFull point = api_error journalfull point
claim_refusal claim.Memory point = api_error nomemory point

-- how a refresh came in
abbrev pub finish_reply : Finished → ℕ → ApiReply
finish_reply came.Done point = reply_beside done_entries point
finish_reply (came.Stale title kind read now) point =
    reply_beside (stale_entries (record { title = title; kind = kind; read = read; now = now })) point
finish_reply came.StoreFault point = api_error storefault point
finish_reply came.Memory point = api_error nomemory point

-- what a fan did
abbrev pub fan_reply : Result (Option Fanned) FanRefusal → ℕ → ApiReply
fan_reply (Ok None) point = reply_beside (nothing_entries (codes "fan")) point
fan_reply (Ok (Some fanned)) point = reply_beside (fan_entries (fanned_outcome fanned)) point
fan_reply (Err fan.JournalFull) point = api_error journalfull point
fan_reply (Err fan.StoreFault) point = api_error storefault point
fan_reply (Err fan.Memory) point = api_error nomemory point
