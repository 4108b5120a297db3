use Rattle.wk_index.proofs.TitleMapLaws.{AreTitles-none}
use Rattle.wk_index.proofs.title_map.TitleMap.new.Goals as goal

pub invariant_of-result : goal.invariant_of-result
invariant_of-result c = AreTitles-none c.new.result c.new.ensures.empty
