use Rattle.wk_wiki_laws.proofs.FanRuns.{none-missed}
use Rattle.wk_wiki_laws.proofs.fans.a_fan_misses_no_page.Goals as goal

pub returns : goal.returns
returns c = none-missed
