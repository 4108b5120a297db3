use Rattle.std.proofs.Common.{[], ◌∷◌, Some, refl, arith}
use Rattle.wk_page_rules.specs.Verdict.{full_limits}
use Rattle.wk_wiki_rules.specs.States.{no_state}
use Rattle.wk_wiki_laws.specs.Reached.{IsWithinFull}
use Rattle.wk_wiki_laws.proofs.KeptStates.{IsKept-none}
use Rattle.wk_script_rules.specs.Computing.{computing as scripts}
use Rattle.wk_script_rules.specs.Runs.{WikiScriptRun, as_answered, save_failed, over, timed}
use Rattle.wk_script_laws.specs.Lives.{IsLife}
use Rattle.wk_script_laws.proofs.Made.{begun-life, run-life}
use Rattle.wk_examples.specs.Scripts.{nothing_saved, save_a, save_b, faulty_replies, faulty_end}
use Rattle.wk_examples.proofs.faults.a_life_with_a_fault.Goals as goal

within_full : IsWithinFull full_limits
within_full = record { pages = omega arith; text = omega arith }

first : IsLife full_limits nothing_saved
first = begun-life full_limits no_state IsKept-none refl

run : WikiScriptRun full_limits nothing_saved (Some save_a ∷ Some save_b ∷ Some save_b ∷ []) (0 ∷ 0 ∷ 0 ∷ []) faulty_replies faulty_end
unfolding scripts
run = timed refl as_answered (timed refl (save_failed refl) (timed refl as_answered over))

pub returns-clause-begun : goal.returns-clause-begun
returns-clause-begun c = first

pub returns-clause-ended : goal.returns-clause-ended
returns-clause-ended c =
    run-life full_limits within_full nothing_saved faulty_end (Some save_a ∷ Some save_b ∷ Some save_b ∷ []) (0 ∷ 0 ∷ 0 ∷ []) faulty_replies run first
