-- What is asked, on the moments that the clock gave.
use Rattle.std.proofs.Common.{ℕ, List, [], ◌∷◌, refl}
use Rattle.std.specs.Prelude.{Option}
use Rattle.wk_base.specs.Clock.{Ticks}
use Rattle.wk_wiki_rules.specs.Starts.{Start}
use Rattle.wk_request_rules.specs.Requests.{ParsedRequest}
use Rattle.wk_turn.specs.Told.{Begun}
use Rattle.wk_session.specs.Telling.{AnswersAsked, AnswersOn}
use Rattle.wk_session.specs.declared.telling.Told.{Told}
use Rattle.wk_session.proofs.Passing.{Pass}

pub timed : (shared : Begun Start) (fails : Type 0) (old new : Pass) (parsed : ParsedRequest) (left later : Option (List ℕ)) (moment : ℕ) (told : Told) → Ticks left later moment
    → AnswersOn shared fails old new parsed (moment ∷ []) told → AnswersAsked shared fails old new parsed left later told
timed shared fails old new parsed left later moment told ticks on = record { moments = moment ∷ []; given = (later, ticks, refl); on = on }

pub untimed : (shared : Begun Start) (fails : Type 0) (old new : Pass) (parsed : ParsedRequest) (left : Option (List ℕ)) (told : Told)
    → AnswersOn shared fails old new parsed [] told → AnswersAsked shared fails old new parsed left left told
untimed shared fails old new parsed left told on = record { moments = []; given = refl; on = on }
