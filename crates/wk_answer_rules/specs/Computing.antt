-- `unfolding computing` lets `refl` compute the rules of this crate on states that are written out.
use Rattle.std.specs.Fmt.{digits}
use Rattle.serde_json.proofs.OnLiterals.{serde_json_on_literals as json}
use Rattle.wk_wiki_rules.specs.StateComputing.{computing as states}
use Rattle.wk_wiki_rules.specs.ListingComputing.{computing as listings}
use Rattle.wk_wiki_rules.specs.Computing.{computing as wiki}
use Rattle.wk_request_rules.specs.Computing.{computing as requests}
use Rattle.wk_subst_rules.specs.Computing.{computing as substitution}
use Rattle.wk_answer_rules.specs.Answers.{answer_to_request}

unfoldable pub computing : Unit {0}
unfolding digits json states listings wiki requests substitution answer_to_request
computing = tt
