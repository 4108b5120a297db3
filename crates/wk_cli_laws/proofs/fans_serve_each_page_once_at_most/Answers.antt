use Rattle.wk_cli_laws.proofs.Ahead.{pages-ahead}
use Rattle.wk_cli_laws.proofs.fans_serve_each_page_once_at_most.Goals as goal

pub returns : goal.returns
returns c = pages-ahead
