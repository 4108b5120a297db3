use Rattle.wk_script_laws.proofs.Made.{begun-life, end-life, run-life}
use Rattle.wk_script_laws.proofs.a_script_is_what_calls_make.Goals as goal

pub returns-clause-begun : goal.returns-clause-begun
returns-clause-begun c = begun-life

pub returns-clause-run : goal.returns-clause-run
returns-clause-run c = λ most s t lines moments replies full run life. run-life most full s t lines moments replies run life

pub returns-clause-ended : goal.returns-clause-ended
returns-clause-ended c = λ most s full life. end-life most full s life
