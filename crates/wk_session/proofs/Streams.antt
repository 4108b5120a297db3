-- The messages that bytes begin with, and the moments that a clock gives.
use Rattle.std.proofs.Common.{◌≡◌, ℕ, false, List, [], ◌∷◌, ◌++◌, refl, sym, subst, append-nil}
use Rattle.std.specs.Prelude.{Option}
use Rattle.wk_wire_rules.specs.Heads.{Message}
use Rattle.wk_wire_rules.specs.Messages.{Ending, IsMessage, Messages, goes_on}
use Rattle.wk_http.proofs.MessageLemmas.{IsMessage-append}
use Rattle.wk_session_rules.specs.Sessions.{BeginsWith, GivesMoments, nothing, one_more}

-- more bytes behind them are left too
pub begins-behind : (bytes left more : List ℕ) (messages : List Message) → BeginsWith bytes messages left → BeginsWith (bytes ++ more) messages (left ++ more)
begins-behind bytes left more messages nothing = nothing
begins-behind bytes left more messages (one_more {rest = rest} {message = message} {messages = later} is last begins) =
    one_more (IsMessage-append bytes more rest message is) last (begins-behind rest left more later begins)

-- the message at the front of what is left comes to the others
pub begins-push : (bytes left rest : List ℕ) (messages : List Message) (message : Message) → BeginsWith bytes messages left →
    IsMessage left message rest → message.last ≡ false → BeginsWith bytes (messages ++ message ∷ []) rest
begins-push bytes left rest messages message nothing is last = one_more is last nothing
begins-push bytes left rest messages message (one_more {rest = middle} {messages = later} first not_last begins) is last =
    one_more first not_last (begins-push middle left rest later message begins is last)

-- the messages of what is left come behind them
pub messages-behind : (bytes left : List ℕ) (messages others : List Message) (ending : Ending) → BeginsWith bytes messages left →
    Messages left others ending → Messages bytes (messages ++ others) ending
messages-behind bytes left messages others ending nothing all = all
messages-behind bytes left messages others ending (one_more {rest = rest} {messages = later} is last begins) all =
    goes_on is last (messages-behind rest left later others ending begins all)

-- where no message is left
pub messages-whole : (bytes left : List ℕ) (messages : List Message) (ending : Ending) → BeginsWith bytes messages left →
    Messages left [] ending → Messages bytes messages ending
messages-whole bytes left messages ending begins all =
    subst (λ (l : List Message). Messages bytes l ending) (append-nil messages) (messages-behind bytes left messages [] ending begins all)

pub gives-none : (left : Option (List ℕ)) → GivesMoments left left []
gives-none left = refl

pub gives-both : (left middle later : Option (List ℕ)) (moments more : List ℕ) → GivesMoments left middle moments → GivesMoments middle later more →
    GivesMoments left later (moments ++ more)
gives-both left middle later [] more same gives = subst (λ (l : Option (List ℕ)). GivesMoments l later more) (sym same) gives
gives-both left middle later (moment ∷ moments) more first gives =
    (first.0, first.1, gives-both first.0 middle later moments more first.2 gives)
