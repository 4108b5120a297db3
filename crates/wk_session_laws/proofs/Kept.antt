-- What a pass that goes on keeps.
use Rattle.std.proofs.Common.{◌≡◌, ℕ, zero, suc, ◌≤◌, List, [], ◌∷◌, ◌++◌, length, take, Some, refl, sym, ap, ◌∙◌, subst, arith, append-nil, append_assoc, length-append}
use Rattle.std.proofs.lemmas.List.{take-append-le}
use Rattle.std.specs.Prelude.{slice_get}
use mathlib.Core.List.{IsPrefix}
use Rattle.wk_wire_rules.specs.Heads.{Message}
use Rattle.wk_wire_rules.specs.Messages.{Ending, IsBad, Messages, bad, between, closed, ends_bad, ends_between, ends_closed, ends_within, goes_on, within}
use Rattle.wk_http.proofs.MessageLemmas.{IsBad-append, IsMessage-append}
use Rattle.wk_wiki_rules.specs.States.{State}
use Rattle.wk_wiki_rules.specs.Lives.{replay}
use Rattle.wk_wiki_rules.specs.Passes.{PassSeen}
use Rattle.wk_wiki_rules.specs.Starts.{Start}
use Rattle.wk_request_rules.specs.Requests.{ParsedRequest}
use Rattle.wk_answer_rules.specs.Values.{ApiReply}
use Rattle.wk_session_rules.specs.Points.{GoesOn, IsStateAt}
use Rattle.wk_session_rules.specs.Replies.{IsAnswered, IsReplyTo, Reply, answered, out_of_memory, read, refused, saved, store_failed, unread}
use Rattle.wk_session_rules.specs.Exchanges.{Exchange, Exchanges, made_by, none, then}

-- ---- beginnings

pub prefix_length : {X : Type 0} (xs ys : List X) → IsPrefix xs ys → length xs ≤ length ys
prefix_length xs ys p = omega (arith, sym (ap length p.1) ∙ length-append xs p.0)

prefix_trans : {X : Type 0} (xs ys zs : List X) → IsPrefix xs ys → IsPrefix ys zs → IsPrefix xs zs
prefix_trans xs ys zs p q = (p.0 ++ q.0, sym (append_assoc xs p.0 q.0) ∙ (ap (λ w. w ++ q.0) p.1 ∙ q.1))

get_front : {X : Type 0} (xs ys : List X) (k : ℕ) (x : X) → slice_get xs k ≡ Some x → slice_get (xs ++ ys) k ≡ Some x
get_front [] ys k x at = absurd cc
get_front (y ∷ xs) ys zero x at = at
get_front (y ∷ xs) ys (suc k) x at = get_front xs ys k x at

pub prefix_get : {X : Type 0} (xs ys : List X) (k : ℕ) (x : X) → IsPrefix xs ys → slice_get xs k ≡ Some x → slice_get ys k ≡ Some x
prefix_get xs ys k x p at = subst (λ l. slice_get l k ≡ Some x) p.1 (get_front xs p.0 k x at)

pub goes_same : (pass : PassSeen) → GoesOn pass pass []
goes_same pass = record { start = refl; seen = ([], append-nil pass.journal); own = sym (append-nil pass.own) }

pub goes_both : (one two three : PassSeen) (made more : List ℕ) → GoesOn one two made → GoesOn two three more → GoesOn one three (made ++ more)
goes_both one two three made more first later = record {
  start = later.start ∙ first.start;
  seen = prefix_trans one.journal two.journal three.journal first.seen later.seen;
  own = later.own ∙ (ap (λ (l : List ℕ). l ++ more) first.own ∙ append_assoc one.own made more);
}

pub exchanges_go : (fails : Type 0) (old new : PassSeen) (exchanges : List Exchange) → Exchanges fails old exchanges new → GoesOn old new (made_by exchanges)
exchanges_go fails old new exchanges none = goes_same old
exchanges_go fails old new exchanges (then {middle = middle} {exchange = exchange} {later = later} is others) =
    goes_both old middle new (exchange.saved ++ exchange.worked) (made_by later)
    (goes_both old is.middle middle exchange.saved exchange.worked is.goes is.goes_on) (exchanges_go fails middle new later others)

-- ---- what is so at a point stays so

module _ (new later : PassSeen) (start : later.start ≡ new.start) (seen : IsPrefix new.journal later.journal) where
  answered_stays : (fails : Type 0) (old : PassSeen) (parsed : ParsedRequest) (moments : List ℕ) (reply : ApiReply) (made : List ℕ)
      → IsAnswered fails old new parsed moments reply made → IsAnswered fails old later parsed moments reply made
  answered_stays fails old parsed moments reply made x = subst (λ (s : Start). IsAnswered fails old (record later { start = s }) parsed moments reply made) (sym start) (by moments reply made x)
    where
      same : PassSeen
      same = record later { start = new.start }

      moved : (point : ℕ) (state : State) → IsStateAt old new point state → IsStateAt old same point state
      moved point state at = record {
        later = at.later;
        seen = (let longer = prefix_length new.journal later.journal seen in let within = at.seen in omega (arith, longer, within));
        stands = ap (replay new.start.state) (ap (take point) (sym seen.1) ∙ take-append-le point new.journal seen.0 at.seen) ∙ at.stands;
      }

      by : (moments : List ℕ) (reply : ApiReply) (made : List ℕ) → IsAnswered fails old new parsed moments reply made → IsAnswered fails old same parsed moments reply made
      by moments reply made (read {point = point} {state = state} are at no_event) = read are (moved point state at) no_event
      by moments reply made (saved {point = point} {state = state} {event = event} are at is entry) =
          saved are (moved point state at) is (prefix_get new.journal later.journal point event seen entry)
      by moments reply made (store_failed {point = point} {state = state} are at is may) = store_failed are (moved point state at) is may
      by moments reply made (out_of_memory {point = point} {state = state} are at) = out_of_memory are (moved point state at)
      by moments reply made (unread {point = point} {state = state} at) = unread (moved point state at)

  pub reply_stays : (fails : Type 0) (old : PassSeen) (message : Message) (moments : List ℕ) (reply : Reply) (made : List ℕ)
      → IsReplyTo fails old new message moments reply made → IsReplyTo fails old later message moments reply made
  reply_stays fails old message moments reply made (refused other) = refused other
  reply_stays fails old message moments reply made (answered {reply = told} is x) = answered is (answered_stays fails old _ moments told made x)

-- ---- streams

pub closed_stays : (bytes more : List ℕ) (messages : List Message) (ending : Ending) → ending ≡ closed → Messages bytes messages ending → Messages (bytes ++ more) messages closed
closed_stays bytes more messages ending is ends_between = absurd (let e : between ≡ closed = is in cc)
closed_stays bytes more messages ending is (ends_within some x) = absurd (let e : within ≡ closed = is in cc)
closed_stays bytes more messages ending is (ends_bad {status = status} x) = absurd (let e : bad status ≡ closed = is in cc)
closed_stays bytes more messages ending is (ends_closed {rest = rest} {message = message} x last) = ends_closed (IsMessage-append bytes more rest message x) last
closed_stays bytes more messages ending is (goes_on {rest = rest} {message = message} {messages = later} x last others) =
    goes_on (IsMessage-append bytes more rest message x) last (closed_stays rest more later ending is others)

pub bad_stays : (bytes more : List ℕ) (messages : List Message) (ending : Ending) (status : ℕ) → ending ≡ bad status → Messages bytes messages ending → Messages (bytes ++ more) messages (bad status)
bad_stays bytes more messages ending status is ends_between = absurd (let e : between ≡ bad status = is in cc)
bad_stays bytes more messages ending status is (ends_within some x) = absurd (let e : within ≡ bad status = is in cc)
bad_stays bytes more messages ending status is (ends_bad {status = found} x) =
    let e : bad found ≡ bad status = is in
    let same : found ≡ status = cc in
    ends_bad (subst (IsBad (bytes ++ more)) same (IsBad-append bytes more found x))
bad_stays bytes more messages ending status is (ends_closed x last) = absurd (let e : closed ≡ bad status = is in cc)
bad_stays bytes more messages ending status is (goes_on {rest = rest} {message = message} {messages = later} x last others) =
    goes_on (IsMessage-append bytes more rest message x) last (bad_stays rest more later ending status is others)
