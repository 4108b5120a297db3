use Rattle.wk_cli_laws.proofs.Fits.{generated-refused}
use Rattle.wk_cli_laws.proofs.generated_pages_are_refused_for_room_alone.Goals as goal

pub returns : goal.returns
returns c = generated-refused
