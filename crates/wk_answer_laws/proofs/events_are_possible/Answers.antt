use Rattle.wk_answer_laws.proofs.Possible.{event-possible, made-by-call, possible-step, sound-behind}
use Rattle.wk_answer_laws.proofs.events_are_possible.Goals as goal

pub returns-clause-possible : goal.returns-clause-possible
returns-clause-possible c = λ most state journal moment read event made. possible-step most state journal event (event-possible most state journal moment read event made)

pub returns-clause-sound : goal.returns-clause-sound
returns-clause-sound c = λ most state next journal moment read event made stepped formed sound.
    sound-behind most state next journal event (event-possible most state journal moment read event made) stepped formed sound

pub returns-clause-made : goal.returns-clause-made
returns-clause-made c = λ most state journal moment read event made. made-by-call most state journal event (event-possible most state journal moment read event made)
