use Rattle.wk_life_laws.proofs.Since.{IsSoundSince-replayed, IsSoundSince-lived}
use Rattle.wk_life_laws.proofs.soundness.soundness_is_kept_from_any_state.Goals as goal

pub returns-clause-formed_journal : goal.returns-clause-formed_journal
returns-clause-formed_journal c = λ most start last journal events formed done. (IsSoundSince-replayed most start last journal events formed done).formed

pub returns-clause-sound_journal : goal.returns-clause-sound_journal
returns-clause-sound_journal c = λ most start last journal events formed sound done. (IsSoundSince-replayed most start last journal events formed done).sound sound

pub returns-clause-formed_lives : goal.returns-clause-formed_lives
returns-clause-formed_lives c = λ start last journals formed lives. (IsSoundSince-lived start last journals formed lives).formed

pub returns-clause-sound_lives : goal.returns-clause-sound_lives
returns-clause-sound_lives c = λ start last journals formed sound lives. (IsSoundSince-lived start last journals formed lives).sound sound
