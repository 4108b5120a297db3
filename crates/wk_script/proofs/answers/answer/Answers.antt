use Rattle.std.proofs.Common.{◌≡◌, ℕ, length, refl, subst}
use Rattle.std.specs.Prelude.{IfOk}
use Rattle.serde_json.specs.View.{view}
use Rattle.wk_script_rules.specs.Replies.{badline, line_error, linetoolong}
use Rattle.wk_script_rules.specs.ScriptLines.{long_line, unknown_line}
use Rattle.wk_script_steps.specs.Seen.{script_of}
use Rattle.wk_script_steps.proofs.Calls.{answers-still}
use Rattle.wk_script_steps.proofs.LineRuns.{not-known, too-long}
use Rattle.wk_script_runs.proofs.Answering.{untimed-line}
use Rattle.wk_script.proofs.answers.answer.Goals as goal

pub returns-in-TooLong : goal.returns-in-TooLong
returns-in-TooLong g c =
    rw c.in-TooLong.is
    (untimed-line _ _ long_line _ _ _ _ _ _ _ refl refl
    (answers-still g.K.Keeper.told g.K.Keeper.faults 0 long_line c.args.wiki.now c.args.tickets.now.items c.args.tickets.now.items
    (line_error linetoolong (length c.args.wiki.now.journal)) c.line_too_long.result
    (too-long c.args.wiki.now.start.limits (script_of c.args.wiki.now c.args.tickets.now.items) 0) c.requires.holds
    (subst (λ (n : ℕ). IfOk c.line_too_long.result (λ v. view v ≡ (line_error linetoolong n).value)) c.point.ensures c.line_too_long.ensures)))

pub returns-in-Unknown : goal.returns-in-Unknown
returns-in-Unknown g c =
    rw c.in-Unknown.is
    (untimed-line _ _ unknown_line _ _ _ _ _ _ _ refl refl
    (answers-still g.K.Keeper.told g.K.Keeper.faults 0 unknown_line c.args.wiki.now c.args.tickets.now.items c.args.tickets.now.items
    (line_error badline (length c.args.wiki.now.journal)) c.bad_line.result
    (not-known c.args.wiki.now.start.limits (script_of c.args.wiki.now c.args.tickets.now.items) 0) c.requires.holds
    (subst (λ (n : ℕ). IfOk c.bad_line.result (λ v. view v ≡ (line_error badline n).value)) c.point-in-Unknown.ensures c.bad_line.ensures)))

pub returns-in-Claim : goal.returns-in-Claim
returns-in-Claim g c = rw c.in-Claim.is (untimed-line _ _ _ _ _ _ _ _ _ _ refl refl c.claim.ensures)

pub returns-in-Read : goal.returns-in-Read
returns-in-Read g c = rw c.in-Read.is (untimed-line _ _ _ _ _ _ _ _ _ _ refl refl c.read.ensures)

pub returns-in-Finish : goal.returns-in-Finish
returns-in-Finish g c = rw c.in-Finish.is (untimed-line _ _ _ _ _ _ _ _ _ _ refl refl c.finish.ensures)

pub returns-in-GiveBack : goal.returns-in-GiveBack
returns-in-GiveBack g c = rw c.in-GiveBack.is (untimed-line _ _ _ _ _ _ _ _ _ _ refl refl c.give_back.ensures)

pub returns-in-Fan : goal.returns-in-Fan
returns-in-Fan g c = rw c.in-Fan.is (untimed-line _ _ _ _ _ _ _ _ _ _ refl refl c.fan.ensures)
