use Rattle.std.proofs.Common.{refl}
use Rattle.wk_view_rules.specs.Worlds.{answer_in}
use Rattle.wk_life_laws.proofs.Marks.{answer-current, none-stale}
use Rattle.wk_life_laws.proofs.refreshes.present_answers_have_present_marks.Goals as goal

pub returns-clause-none_stale : goal.returns-clause-none_stale
returns-clause-none_stale c = none-stale

pub returns-clause-current : goal.returns-clause-current
returns-clause-current c = λ pages title kind. answer-current pages title kind (answer_in pages title kind) refl
