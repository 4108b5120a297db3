use Rattle.wk_title_laws.proofs.Law.{normal_namespace}
use Rattle.wk_title_laws.proofs.namespace_is_in_the_table.Goals as goal

pub returns : goal.returns
returns c = normal_namespace c.args.title.now c.key-key.ensures.normal
