use Rattle.wk_life_laws.proofs.Accepted.{accepted-is, can_save-judged, can_save-verdict, save-stepped}
use Rattle.wk_life_laws.proofs.accepted_saves.what_is_accepted_is_possible.Goals as goal

pub returns-clause-judged : goal.returns-clause-judged
returns-clause-judged c = can_save-judged

pub returns-clause-verdict : goal.returns-clause-verdict
returns-clause-verdict c = can_save-verdict

pub returns-clause-stepped : goal.returns-clause-stepped
returns-clause-stepped c = save-stepped

pub returns-clause-named : goal.returns-clause-named
returns-clause-named c = λ h most edit title text is. (accepted-is h most edit title text is).named

pub returns-clause-kept : goal.returns-clause-kept
returns-clause-kept c = λ h most edit title text is. (accepted-is h most edit title text is).kept_text
