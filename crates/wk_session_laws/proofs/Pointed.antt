-- The points of replies and of steps, and the entries that are made.
use Rattle.std.proofs.Common.{◌≡◌, ℕ, ◌+◌, ◌≤◌, Bool, true, false, cond, List, [], ◌∷◌, ◌++◌, length, Option, Some, None, refl, sym, ap, ◌∙◌, subst, arith, append_assoc, inl, inr}
use Rattle.std.proofs.lemmas.Bool.{le-ltb}
use Rattle.std.proofs.lemmas.Option.{slice_get_within}
use Rattle.std.specs.Prelude.{IfSome, map, nat_lt}
use Rattle.std.specs.Option.{option_to_list}
use Rattle.wk_base.specs.Clock.{first_moment}
use Rattle.wk_wire_rules.specs.Heads.{Message}
use Rattle.wk_wiki_rules.specs.States.{State}
use Rattle.wk_wiki_rules.specs.Events.{Event, Back as BackEvent, Claim, Done as DoneEvent, Fan}
use Rattle.wk_wiki_rules.specs.Entries.{is_save}
use Rattle.wk_wiki_rules.specs.Passes.{PassSeen, state_seen}
use Rattle.wk_request_rules.specs.Requests.{ParsedRequest, parse, valid}
use Rattle.wk_answer_rules.specs.Answers.{answer_to_request, read_at}
use Rattle.wk_answer_rules.specs.ApiErrors.{futurepoint}
use Rattle.wk_answer_rules.specs.Pages.{ReadAnswer, fails, parse_answer, shows}
use Rattle.wk_answer_rules.specs.Saves.{Answered, failed_at}
use Rattle.wk_answer_rules.specs.Values.{ApiReply}
use Rattle.wk_answer_laws.proofs.Points.{placed, request-none}
use Rattle.wk_answer_laws.proofs.Possible.{event-possible}
use Rattle.wk_http.specs.declared.report.Refresh.{Refresh}
use Rattle.wk_session_rules.specs.Replies.{IsAnswered, IsReplyTo, Reply, answered, out_of_memory, read, refused, saved, store_failed, unread}
use Rattle.wk_session_rules.specs.Steps.{CameIn, IsStep, back, done, fan_failed, fanned, full, idle, no_memory, no_memory_behind_claim, refresh_failed}
use Rattle.wk_session_rules.specs.Exchanges.{Exchange, Exchanges, IsExchange, none, points_of, refreshes_of, then}
use Rattle.wk_session_rules.specs.Sessions.{EndsSo, IsSession, Outside, bad_unsent, cut, ends_bad, ends_closed, peer_end, unread as not_read, unsent}
use Rattle.wk_session_laws.specs.Told.{AreEntries, IsParsedOrStarved, NeverFall}
use Rattle.wk_session_laws.proofs.Kept.{prefix_length}

-- ---- the point of a reply

-- no older than what the pass had seen, and seen now
abbrev pub IsBetween : PassSeen → PassSeen → ℕ → Type 0
IsBetween old new point = (length old.journal ≤ point) × (point ≤ length new.journal)

answered_between : (failing : Type 0) (old new : PassSeen) (parsed : ParsedRequest) (moments : List ℕ) (reply : ApiReply) (made : List ℕ) → IsAnswered failing old new parsed moments reply made → IsBetween old new reply.point
answered_between failing old new parsed moments reply made (read {point = point} {state = state} are at no_event) =
    let p = placed new.start.limits state point (first_moment moments) parsed in
    let l = ap (λ (o : Option Event). length (option_to_list o)) no_event in
    let low = at.later in
    let high = at.seen in
    (omega (arith, p, l, low), omega (arith, p, l, high))
answered_between failing old new parsed moments reply made (saved {point = point} {state = state} {event = event} are at is entry) =
    let p = placed new.start.limits state point (first_moment moments) parsed in
    let l = ap (λ (o : Option Event). length (option_to_list o)) is in
    let low = at.later in
    let high = slice_get_within new.journal point event entry in
    (omega (arith, p, l, low), omega (arith, p, l, high))
answered_between failing old new parsed moments reply made (store_failed are at is may) = (at.later, at.seen)
answered_between failing old new parsed moments reply made (out_of_memory are at) = (at.later, at.seen)
answered_between failing old new parsed moments reply made (unread at) = (at.later, at.seen)

pub reply_between : (failing : Type 0) (old new : PassSeen) (message : Message) (moments : List ℕ) (reply : Reply) (made : List ℕ) → IsReplyTo failing old new message moments reply made → IfSome reply.point (IsBetween old new)
reply_between failing old new message moments reply made (refused other) = tt
reply_between failing old new message moments reply made (answered {reply = told} is x) = answered_between failing old new _ moments told made x

pub step_behind : (failing : Type 0) (old new : PassSeen) (x : Exchange) → IsExchange failing old new x → IfSome x.reply.point (λ point. point ≤ x.point)
step_behind failing old new x is = by x.reply.point (reply_between failing old is.middle x.message x.moments x.reply x.saved is.replied)
  where
    by : (o : Option ℕ) → IfSome o (IsBetween old is.middle) → IfSome o (λ point. point ≤ x.point)
    by None between = tt
    by (Some point) between =
        let high = between.1 in
        let longer = prefix_length is.middle.journal new.journal is.goes_on.seen in
        let at = is.point in
        omega (arith, high, longer, at)

-- ---- all points

-- one point, or none, before others
shown_first : (old middle new : PassSeen) (low : ℕ) (point : Option ℕ) (others : List ℕ) → low ≤ length old.journal → IfSome point (IsBetween old middle) → length middle.journal ≤ length new.journal
    → ((bound : ℕ) → bound ≤ length new.journal → NeverFall bound others) → length old.journal ≤ length new.journal → NeverFall low (option_to_list point ++ others)
shown_first old middle new low None others below between longer rest all = rest low (omega (arith, below, all))
shown_first old middle new low (Some point) others below between longer rest all =
    let at = between.0 in let high = between.1 in (omega (arith, below, at), rest point (omega (arith, high, longer)))

pub points_rise : (failing : Type 0) (old new : PassSeen) (xs : List Exchange) (more : List ℕ) (low : ℕ) → Exchanges failing old xs new → low ≤ length old.journal
    → ((bound : ℕ) → bound ≤ length new.journal → NeverFall bound more) → NeverFall low (points_of xs ++ more)
points_rise failing old new xs more low none below rest = rest low below
points_rise failing old new xs more low (then {middle = middle} {exchange = x} {later = later} is others) below rest =
    subst (NeverFall low) (sym (append_assoc (option_to_list x.reply.point) (points_of later) more))
    (shown_first old is.middle middle low x.reply.point (points_of later ++ more) below
    (reply_between failing old is.middle x.message x.moments x.reply x.saved is.replied)
    (prefix_length is.middle.journal middle.journal is.goes_on.seen)
    (λ bound under. points_rise failing middle new later more bound others under rest)
    (let one = prefix_length old.journal is.middle.journal is.goes.seen in let two = prefix_length is.middle.journal middle.journal is.goes_on.seen in omega (arith, one, two)))

pub steps_rise : (failing : Type 0) (old new : PassSeen) (xs : List Exchange) (low : ℕ) → Exchanges failing old xs new → low ≤ length old.journal → NeverFall low (map (λ r. r.0) (refreshes_of xs))
steps_rise failing old new xs low none below = tt
steps_rise failing old new xs low (then {middle = middle} {exchange = x} {later = later} is others) below =
    let one = prefix_length old.journal is.middle.journal is.goes.seen in
    let two = prefix_length is.middle.journal middle.journal is.goes_on.seen in
    let at = is.point in
    (omega (arith, below, one, two, at), steps_rise failing middle new later x.point others (omega (arith, at)))

-- the points that are shown besides
ends_rise : (failing : Type 0) (bytes : List ℕ) (xs : List Exchange) (served last : PassSeen) (before after : Outside) (end : _) (moments points : List ℕ) → EndsSo failing bytes xs served last before after end moments points
    → (bound : ℕ) → bound ≤ length served.journal → NeverFall bound points
ends_rise failing bytes xs served last before after end moments points (peer_end a b c d) bound under = tt
ends_rise failing bytes xs served last before after end moments points (cut a b c d) bound under = tt
ends_rise failing bytes xs served last before after end moments points (ends_closed a b c) bound under = tt
ends_rise failing bytes xs served last before after end moments points (ends_bad a b c) bound under = tt
ends_rise failing bytes xs served last before after end moments points (bad_unsent a b c d) bound under = tt
ends_rise failing bytes xs served last before after end moments points (not_read a b c d e f) bound under = tt
ends_rise failing bytes xs served last before after end moments points (unsent {message = message} {moments = taken} {reply = reply} {saved = made} a b c replied goes d) bound under =
    by reply.point (reply_between failing served last message taken reply made replied)
  where
    by : (o : Option ℕ) → IfSome o (IsBetween served last) → NeverFall bound (option_to_list o)
    by None between = tt
    by (Some point) between = let at = between.0 in (omega (arith, under, at), tt)

module _ (failing : Type 0) (old new : PassSeen) (before after : Outside) (end : _) (points : List ℕ) (jobs : ℕ) (refreshes : List (ℕ × Refresh)) (x : IsSession failing old new before after end points jobs refreshes) where
  looked_first : length old.journal ≤ length x.begun.journal
  looked_first = prefix_length old.journal x.begun.journal x.looked.seen

  pub replies_rise : NeverFall (length old.journal) points
  replies_rise =
      subst (NeverFall (length old.journal)) (sym x.points_are)
      (points_rise failing x.begun x.served x.exchanges x.more_points (length old.journal) x.exchanged looked_first
      (ends_rise failing x.read x.exchanges x.served new before after end x.more_moments x.more_points x.ends))

  pub all_steps_rise : NeverFall (length old.journal) (map (λ r. r.0) refreshes)
  all_steps_rise =
      subst (λ (l : List (ℕ × Refresh)). NeverFall (length old.journal) (map (λ r. r.0) l)) (sym x.refreshes_are)
      (steps_rise failing x.begun x.served x.exchanges (length old.journal) x.exchanged looked_first)

-- ---- entries

answered_saves : (failing : Type 0) (old new : PassSeen) (parsed : ParsedRequest) (moments : List ℕ) (reply : ApiReply) (made : List ℕ) → IsAnswered failing old new parsed moments reply made → (length made ≤ 1) × AreEntries new true made
answered_saves failing old new parsed moments reply made (read are at no_event) = (omega arith, tt)
answered_saves failing old new parsed moments reply made (saved {point = point} {state = state} {event = event} are at is entry) =
    let save = event-possible new.start.limits state point (first_moment moments) parsed event is in
    (omega arith, (record { event = event; there = entry; kind = ap is_save save.is }, tt))
answered_saves failing old new parsed moments reply made (store_failed are at is may) = (omega arith, tt)
answered_saves failing old new parsed moments reply made (out_of_memory are at) = (omega arith, tt)
answered_saves failing old new parsed moments reply made (unread at) = (omega arith, tt)

pub reply_saves : (failing : Type 0) (old new : PassSeen) (message : Message) (moments : List ℕ) (reply : Reply) (made : List ℕ) → IsReplyTo failing old new message moments reply made → (length made ≤ 1) × AreEntries new true made
reply_saves failing old new message moments reply made (refused other) = (omega arith, tt)
reply_saves failing old new message moments reply made (answered {reply = told} is x) = answered_saves failing old new _ moments told made x

came_entries : (old new : PassSeen) (claim at : ℕ) (event : Event) → is_save event ≡ false → CameIn old new claim at event → AreEntries new false (claim ∷ at ∷ [])
came_entries old new claim at event other x =
    (record { event = Claim; there = x.claimed; kind = refl }, (record { event = event; there = x.last.entry; kind = other }, tt))

pub step_entries : (failing : Type 0) (old new : PassSeen) (refresh : Refresh) (made : List ℕ) → IsStep failing old new refresh made → AreEntries new false made
step_entries failing old new refresh made (idle at queued none_stands) = tt
step_entries failing old new refresh made (fanned x) = (record { event = Fan; there = x.entry; kind = refl }, tt)
step_entries failing old new refresh made (done {claim = claim} {at = at} x) = came_entries old new claim at (DoneEvent (claim + 1)) refl x
step_entries failing old new refresh made (back {claim = claim} {at = at} x changed) = came_entries old new claim at (BackEvent (claim + 1)) refl x
step_entries failing old new refresh made (full at none_left) = tt
step_entries failing old new refresh made (fan_failed may) = tt
step_entries failing old new refresh made (refresh_failed {claim = claim} {at = at} may x) = came_entries old new claim at (BackEvent (claim + 1)) refl x
step_entries failing old new refresh made no_memory = tt
step_entries failing old new refresh made (no_memory_behind_claim {claim = claim} {at = at} x) = came_entries old new claim at (BackEvent (claim + 1)) refl x

-- ---- parses

-- what is read in a state shows the point
read_shows : (point : ℕ) (found : ReadAnswer) → (read_at point found).reply.point ≡ point
read_shows point (shows entries) = refl
read_shows point (fails error) = refl

reached : (least point : ℕ) → least ≤ point → nat_lt point least ≡ false
reached least point le = le-ltb point least le

parse_told : (new : PassSeen) (state : State) (least point moment : ℕ) (page : List ℕ) → least ≤ point
    → answer_to_request new.start.limits state point moment (record { least = least; ask = parse page; subst = false }) ≡ read_at point (parse_answer state page)
unfolding answer_to_request
parse_told new state least point moment page le =
    ap (λ (b : Bool). cond b (failed_at point (futurepoint point)) (read_at point (parse_answer state page))) (reached least point le)

pub parse_reached : (failing : Type 0) (old new : PassSeen) (least : ℕ) (page moments : List ℕ) (reply : ApiReply) (made : List ℕ) → least ≤ reply.point
    → IsAnswered failing old new (valid (record { least = least; ask = parse page; subst = false })) moments reply made → IsParsedOrStarved new (length old.journal) page reply
parse_reached failing old new least page moments reply made le (read {point = point} {state = state} are at no_event) =
    let low = at.later in
    let p = placed new.start.limits state point (first_moment moments) (valid (record { least = least; ask = parse page; subst = false })) in
    let l = ap (λ (o : Option Event). length (option_to_list o)) no_event in
    let told = ap (λ (a : Answered). a.reply) (parse_told new state least point (first_moment moments) page (omega (arith, le, p, l))) in
    let shown : reply.point ≡ point = ap (λ (r : ApiReply). r.point) told ∙ read_shows point (parse_answer state page) in
    inl (record {
      since = omega (arith, low, shown);
      state = state;
      stands = ap (state_seen new) shown ∙ at.stands;
      told = told ∙ ap (λ n. (read_at n (parse_answer state page)).reply) (sym shown);
    })
parse_reached failing old new least page moments reply made le (saved {point = point} {state = state} {event = event} are at is entry) =
    absurd (let e : None ≡ Some event = sym (request-none new.start.limits state point (first_moment moments) (record { least = least; ask = parse page; subst = false }) refl) ∙ is in cc)
parse_reached failing old new least page moments reply made le (store_failed {point = point} {state = state} {event = event} are at is may) =
    absurd (let e : None ≡ Some event = sym (request-none new.start.limits state point (first_moment moments) (record { least = least; ask = parse page; subst = false }) refl) ∙ is in cc)
parse_reached failing old new least page moments reply made le (out_of_memory are at) = inr refl
parse_reached failing old new least page moments reply made le (unread at) = inr refl

pub parse_answered : (failing : Type 0) (old new : PassSeen) (least : ℕ) (page moments : List ℕ) (reply : ApiReply) (made : List ℕ) → least ≤ length old.journal
    → IsAnswered failing old new (valid (record { least = least; ask = parse page; subst = false })) moments reply made → IsParsedOrStarved new (length old.journal) page reply
parse_answered failing old new least page moments reply made le x =
    let since = (answered_between failing old new (valid (record { least = least; ask = parse page; subst = false })) moments reply made x).0 in
    parse_reached failing old new least page moments reply made (omega (arith, le, since)) x
