use Rattle.wk_cli_laws.proofs.Complete.{finished-whole}
use Rattle.wk_cli_laws.proofs.a_whole_store_comes_back_without_faults.Goals as goal

pub returns : goal.returns
returns c = λ start told faults is_whole wanted vault opens later door door_later before after finish. finished-whole told faults is_whole opens later door door_later before after finish wanted vault
