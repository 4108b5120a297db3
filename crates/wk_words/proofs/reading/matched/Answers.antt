use Rattle.std.proofs.lemmas.Result.{IfOk-weaker}
use Rattle.clap.specs.Words.{app_of}
use Rattle.wk_words.specs.Answers.{texts}
use Rattle.wk_words.proofs.TakenLemmas.{err_of, fails, ok_of, ranges_hold, rows_are}
use Rattle.wk_words.proofs.reading.matched.Goals as goal

pub returns-clause-taken : goal.returns-clause-taken
returns-clause-taken c =
    let parse = c.try_get_matches_from_mut in
    ok_of parse.result _ _ (fails (app_of c.args.app.now) (texts c.args.words.now) parse.result c.requires parse.ensures.kinds)

pub returns-clause-rows : goal.returns-clause-rows
returns-clause-rows c =
    let parse = c.try_get_matches_from_mut in
    IfOk-weaker parse.result _ _ (λ m h. rows_are (app_of c.args.app.now) (texts c.args.words.now) m c.requires h.2) parse.ensures.ok

pub returns-clause-ranges : goal.returns-clause-ranges
returns-clause-ranges c =
    let parse = c.try_get_matches_from_mut in
    ranges_hold c.args.app.now parse.new.self parse.result (texts c.args.words.now) c.requires parse.ensures.ok parse.ensures.after parse.ensures.fails

pub returns-clause-err : goal.returns-clause-err
returns-clause-err c =
    let parse = c.try_get_matches_from_mut in
    err_of parse.result _ _ (fails (app_of c.args.app.now) (texts c.args.words.now) parse.result c.requires parse.ensures.kinds)
