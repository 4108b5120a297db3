use Rattle.wk_cli_laws.proofs.Full.{finished-full}
use Rattle.wk_cli_laws.proofs.a_command_without_room_has_its_cause.Goals as goal

pub returns : goal.returns
returns c = λ start told faults is_whole wanted vault opens later door door_later before after finish. finished-full told faults is_whole opens later door door_later before after finish wanted vault
