use Rattle.wk_wiki_rules.specs.Verdicts.{journal_use}
use Rattle.wk_life_laws.proofs.Accepted.{can_save-verdict}
use Rattle.wk_life_laws.proofs.NumbersFit.{pages_fit, save_numbers_fit}
use Rattle.wk_life_laws.proofs.numbers.an_accepted_save_fits.Goals as goal

pub returns-clause-possible : goal.returns-clause-possible
returns-clause-possible c = λ most state point edit title text. can_save-verdict state.history most (journal_use state point) edit title text

pub returns-clause-pages : goal.returns-clause-pages
returns-clause-pages c = pages_fit

pub returns-clause-numbers : goal.returns-clause-numbers
returns-clause-numbers c = save_numbers_fit
