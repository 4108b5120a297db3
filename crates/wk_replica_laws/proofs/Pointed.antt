-- The points of the replies of a session with a replica.
use Rattle.std.proofs.Common.{◌≡◌, ℕ, ◌≤◌, List, [], ◌∷◌, ◌++◌, length, Option, Some, None, sym, subst, arith, append_assoc}
use Rattle.std.specs.Prelude.{IfSome}
use Rattle.std.specs.Option.{option_to_list}
use Rattle.wk_wire_rules.specs.Heads.{Message}
use Rattle.wk_wiki_rules.specs.Passes.{PassSeen}
use Rattle.wk_request_rules.specs.Requests.{ParsedRequest}
use Rattle.wk_answer_rules.specs.Values.{ApiReply}
use Rattle.wk_http.specs.declared.report.Refresh.{Refresh}
use Rattle.wk_session_rules.specs.Replies.{Reply}
use Rattle.wk_replica_reads.specs.Answers.{IsAnswered, IsReplyTo, answered, declined, out_of_memory, read, refused}
use Rattle.wk_replica_reads.specs.Sessions.{EndsSo, Exchange, Exchanges, IsReadSession, LinkSeen, bad_unsent, cut, ends_bad, ends_closed, none, peer_end, points_of, then, unread, unsent}
use Rattle.wk_replica_reads.proofs.Answering.{reply-shows}
use Rattle.wk_turn.proofs.Lists.{prefix_length}
use Rattle.wk_replica_laws.specs.Points.{NeverFall}

-- ---- the point of a reply

-- no older than what the pass had seen, and seen now
abbrev IsBetween : PassSeen → PassSeen → ℕ → Type 0
IsBetween old new point = (length old.journal ≤ point) × (point ≤ length new.journal)

answered_between : (old new : PassSeen) (parsed : ParsedRequest) (reply : ApiReply) → IsAnswered old new parsed reply → IsBetween old new reply.point
answered_between old new parsed reply (read {request = request} {point = point} {state = state} at) =
    let p = reply-shows state point 0 request in
    let low = at.later in
    let high = at.seen in
    (omega (arith, p, low), omega (arith, p, high))
answered_between old new parsed reply (declined at) = at
answered_between old new parsed reply (out_of_memory at) = at

reply_between : (old new : PassSeen) (message : Message) (reply : Reply) → IsReplyTo old new message reply → IfSome reply.point (IsBetween old new)
reply_between old new message reply (refused other) = tt
reply_between old new message reply (answered {reply = told} is x) = answered_between old new _ told x

-- ---- all points

-- one point, or none, before others
shown_first : (old middle : PassSeen) (low : ℕ) (point : Option ℕ) (others : List ℕ) → low ≤ length old.journal → IfSome point (IsBetween old middle)
    → ((bound : ℕ) → bound ≤ length middle.journal → NeverFall bound others) → length old.journal ≤ length middle.journal → NeverFall low (option_to_list point ++ others)
shown_first old middle low None others below between rest longer = rest low (omega (arith, below, longer))
shown_first old middle low (Some point) others below between rest longer =
    let at = between.0 in let high = between.1 in (omega (arith, below, at), rest point high)

points_rise : (old new : PassSeen) (xs : List Exchange) (more : List ℕ) (low : ℕ) → Exchanges old xs new → low ≤ length old.journal
    → ((bound : ℕ) → bound ≤ length new.journal → NeverFall bound more) → NeverFall low (points_of xs ++ more)
points_rise old new xs more low none below rest = rest low below
points_rise old new xs more low (then {middle = middle} {exchange = x} {later = later} replied goes others) below rest =
    subst (NeverFall low) (sym (append_assoc (option_to_list x.reply.point) (points_of later) more))
    (shown_first old middle low x.reply.point (points_of later ++ more) below
    (reply_between old middle x.message x.reply replied)
    (λ bound under. points_rise middle new later more bound others under rest)
    (prefix_length old.journal middle.journal goes.seen))

-- the point that is shown besides
ends_rise : (bytes : List ℕ) (xs : List Exchange) (served last : PassSeen) (before after : LinkSeen) (end : _) (points : List ℕ) → EndsSo bytes xs served last before after end points
    → (bound : ℕ) → bound ≤ length served.journal → NeverFall bound points
ends_rise bytes xs served last before after end points (peer_end a b c d) bound under = tt
ends_rise bytes xs served last before after end points (cut a b c d) bound under = tt
ends_rise bytes xs served last before after end points (ends_closed a b c) bound under = tt
ends_rise bytes xs served last before after end points (ends_bad a b c) bound under = tt
ends_rise bytes xs served last before after end points (bad_unsent a b c d) bound under = tt
ends_rise bytes xs served last before after end points (unread a b c d e f) bound under = tt
ends_rise bytes xs served last before after end points (unsent {message = message} {reply = reply} a b c replied goes d) bound under =
    by reply.point (reply_between served last message reply replied)
  where
    by : (o : Option ℕ) → IfSome o (IsBetween served last) → NeverFall bound (option_to_list o)
    by None between = tt
    by (Some point) between = let at = between.0 in (omega (arith, under, at), tt)

pub replies_rise : (old new : PassSeen) (before after : LinkSeen) (end : _) (points : List ℕ) (jobs : ℕ) (refreshes : List (ℕ × Refresh))
    → IsReadSession old new before after end points jobs refreshes → NeverFall (length old.journal) points
replies_rise old new before after end points jobs refreshes x =
    let looked = prefix_length old.journal x.begun.journal x.looked.seen in
    subst (NeverFall (length old.journal)) (sym x.points_are)
    (points_rise x.begun x.served x.exchanges x.more_points (length old.journal) x.exchanged looked
    (ends_rise x.read x.exchanges x.served new before after end x.more_points x.ends))
