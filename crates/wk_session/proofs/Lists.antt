-- What is told of exchanges, with one more behind them.
use Rattle.std.proofs.Common.{◌≡◌, ℕ, List, [], ◌∷◌, ◌++◌, refl, ap, ◌∙◌, append-nil}
use Rattle.std.proofs.lemmas.Grind.{flat_map-append}
use Rattle.std.specs.Option.{option_to_list}
use Rattle.wk_wire_rules.specs.Heads.{Message}
use Rattle.wk_wiki_rules.specs.Passes.{PassSeen}
use Rattle.wk_http.specs.declared.report.Refresh.{Refresh}
use Rattle.wk_session_rules.specs.Replies.{sent}
use Rattle.wk_session_rules.specs.Exchanges.{Exchange, Exchanges, IsExchange, bytes_of, messages_of, moments_of, none, points_of, refreshes_of, then}

pub exchanges-push : (fails : Type 0) (old middle new : PassSeen) (xs : List Exchange) (x : Exchange) → Exchanges fails old xs middle →
    IsExchange fails middle new x → Exchanges fails old (xs ++ x ∷ []) new
exchanges-push fails old middle new xs x none is = then is none
exchanges-push fails old middle new xs x (then {middle = next} {later = later} first others) is =
    then first (exchanges-push fails next middle new later x others is)

pub messages-push : (xs : List Exchange) (x : Exchange) → messages_of (xs ++ x ∷ []) ≡ messages_of xs ++ x.message ∷ []
messages-push [] x = refl
messages-push (y ∷ xs) x = ap (λ (l : List Message). y.message ∷ l) (messages-push xs x)

pub refreshes-push : (xs : List Exchange) (x : Exchange) → refreshes_of (xs ++ x ∷ []) ≡ refreshes_of xs ++ (x.point, x.refresh) ∷ []
refreshes-push [] x = refl
refreshes-push (y ∷ xs) x = ap (λ (l : List (ℕ × Refresh)). (y.point, y.refresh) ∷ l) (refreshes-push xs x)

pub bytes-push : (xs : List Exchange) (x : Exchange) → bytes_of (xs ++ x ∷ []) ≡ bytes_of xs ++ sent x.message x.reply
bytes-push xs x =
    flat_map-append (λ (y : Exchange). sent y.message y.reply) xs (x ∷ []) ∙ ap (λ (l : List ℕ). bytes_of xs ++ l) (append-nil (sent x.message x.reply))

pub moments-push : (xs : List Exchange) (x : Exchange) → moments_of (xs ++ x ∷ []) ≡ moments_of xs ++ x.moments
moments-push xs x = flat_map-append (λ (y : Exchange). y.moments) xs (x ∷ []) ∙ ap (λ (l : List ℕ). moments_of xs ++ l) (append-nil x.moments)

pub points-push : (xs : List Exchange) (x : Exchange) → points_of (xs ++ x ∷ []) ≡ points_of xs ++ option_to_list x.reply.point
points-push xs x =
    flat_map-append (λ (y : Exchange). option_to_list y.reply.point) xs (x ∷ []) ∙ ap (λ (l : List ℕ). points_of xs ++ l) (append-nil (option_to_list x.reply.point))
