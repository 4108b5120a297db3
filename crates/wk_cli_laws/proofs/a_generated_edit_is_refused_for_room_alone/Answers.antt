use Rattle.wk_cli_laws.proofs.Fits.{edit-refused}
use Rattle.wk_cli_laws.proofs.a_generated_edit_is_refused_for_room_alone.Goals as goal

pub returns : goal.returns
returns c = edit-refused
