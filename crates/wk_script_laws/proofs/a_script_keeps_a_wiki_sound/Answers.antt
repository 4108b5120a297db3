use Rattle.wk_script_laws.proofs.Soundness.{back-fine, run-fine}
use Rattle.wk_script_laws.proofs.a_script_keeps_a_wiki_sound.Goals as goal

pub returns-clause-formed : goal.returns-clause-formed
returns-clause-formed c = λ most s t lines moments replies run formed sound. (run-fine most s t lines moments replies run (formed, sound)).0

pub returns-clause-sound : goal.returns-clause-sound
returns-clause-sound c = λ most s t lines moments replies run formed sound. (run-fine most s t lines moments replies run (formed, sound)).1

pub returns-clause-ended : goal.returns-clause-ended
returns-clause-ended c = λ s formed sound. (back-fine s (formed, sound)).1
