use Rattle.wk_title_laws.proofs.Law.{normal_shown}
use Rattle.wk_title_laws.proofs.shown_normalizes.Goals as goal

pub returns : goal.returns
returns c = normal_shown c.args.title.now c.key-key.ensures.normal
