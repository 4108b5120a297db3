-- What is told of messages and their replies, with one more behind them.
use Rattle.std.proofs.Common.{◌≡◌, ℕ, List, [], ◌∷◌, ◌++◌, refl, ap, ◌∙◌, append-nil}
use Rattle.std.proofs.lemmas.Grind.{flat_map-append}
use Rattle.std.specs.Option.{option_to_list}
use Rattle.wk_wire_rules.specs.Heads.{Message}
use Rattle.wk_wiki_rules.specs.Passes.{PassSeen}
use Rattle.wk_session_rules.specs.Points.{GoesOn}
use Rattle.wk_session_rules.specs.Replies.{sent}
use Rattle.wk_replica_reads.specs.Answers.{IsReplyTo}
use Rattle.wk_replica_reads.specs.Sessions.{Exchange, Exchanges, bytes_of, messages_of, none, points_of, then}

pub exchanges-push : (old middle new : PassSeen) (xs : List Exchange) (x : Exchange) → Exchanges old xs middle →
    IsReplyTo middle new x.message x.reply → GoesOn middle new [] → Exchanges old (xs ++ x ∷ []) new
exchanges-push old middle new xs x none is goes = then is goes none
exchanges-push old middle new xs x (then {middle = next} {later = later} first first_goes others) is goes =
    then first first_goes (exchanges-push next middle new later x others is goes)

pub messages-push : (xs : List Exchange) (x : Exchange) → messages_of (xs ++ x ∷ []) ≡ messages_of xs ++ x.message ∷ []
messages-push [] x = refl
messages-push (y ∷ xs) x = ap (λ (l : List Message). y.message ∷ l) (messages-push xs x)

pub bytes-push : (xs : List Exchange) (x : Exchange) → bytes_of (xs ++ x ∷ []) ≡ bytes_of xs ++ sent x.message x.reply
bytes-push xs x =
    flat_map-append (λ (y : Exchange). sent y.message y.reply) xs (x ∷ []) ∙ ap (λ (l : List ℕ). bytes_of xs ++ l) (append-nil (sent x.message x.reply))

pub points-push : (xs : List Exchange) (x : Exchange) → points_of (xs ++ x ∷ []) ≡ points_of xs ++ option_to_list x.reply.point
points-push xs x =
    flat_map-append (λ (y : Exchange). option_to_list y.reply.point) xs (x ∷ []) ∙ ap (λ (l : List ℕ). points_of xs ++ l) (append-nil (option_to_list x.reply.point))
