use Rattle.std.proofs.Common.{Some, refl}
use Rattle.clap.specs.Words.{found_of, rows_of}
use Rattle.wk_words.specs.Answers.{texts, wanted_of}
use Rattle.wk_words.proofs.VerdictLemmas.{error_tells, refusal_tells, verdict_is}
use Rattle.wk_words.proofs.reading.read_by.Goals as goal

pub returns-in-Err-clause-refused : goal.returns-in-Err-clause-refused
returns-in-Err-clause-refused c = error_tells (texts c.args.words.now) c.in-Err.error c.shown.result c.in-Err.ensures.err c.shown.ensures

pub returns-in-Ok-command_line-clause-asked : goal.returns-in-Ok-command_line-clause-asked
returns-in-Ok-command_line-clause-asked c =
    verdict_is (texts c.args.words.now) (rows_of (found_of c.in-Ok.matches)) (Some (wanted_of c.in-Ok-command_line.line)) c.in-Ok.ensures.taken
    c.in-Ok.ensures.rows c.in-Ok-command_line.ensures.ok

pub returns-clause-refused : goal.returns-clause-refused
returns-clause-refused c =
    refusal_tells (texts c.args.words.now) (rows_of (found_of c.in-Ok.matches)) c.misused.result c.in-Ok.ensures.taken c.in-Ok.ensures.rows
    (c.in-Err-command_line.ensures.err refl) c.misused.ensures
