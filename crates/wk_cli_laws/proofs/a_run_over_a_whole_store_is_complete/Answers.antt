use Rattle.wk_cli_laws.proofs.Causes.{finished-with-cause}
use Rattle.wk_cli_laws.proofs.a_run_over_a_whole_store_is_complete.Goals as goal

pub returns : goal.returns
returns c = λ start told faults is_whole wanted vault opens later reads reads_later writes writes_later door door_later before after finish. finished-with-cause told faults is_whole opens later door door_later before after finish wanted vault reads reads_later writes writes_later
