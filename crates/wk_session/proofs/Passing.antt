-- A pass that goes on, and answers at points that it has seen.
use Rattle.std.proofs.Common.{◌≡◌, ℕ, List, [], ◌∷◌, ◌++◌, Option, Some, None, refl, sym, ap, ◌∙◌, arith, append-nil, append_assoc}
use mathlib.Core.List.{IsPrefix}
use Rattle.wk_wiki_rules.specs.States.{State}
use Rattle.wk_wiki_rules.specs.Events.{Event}
use Rattle.wk_wiki_rules.specs.Passes.{PassSeen}
use Rattle.wk_wiki_rules.specs.Starts.{Start}
use Rattle.wk_request_rules.specs.Requests.{ParsedRequest}
use Rattle.wk_answer_rules.specs.Values.{ApiReply}
use Rattle.wk_turn.specs.Told.{Begun, Story}
use Rattle.wk_turn.proofs.Lists.{prefix_length, prefix_self, prefix_trans}
use Rattle.wk_shared.specs.Calls.{HasSeen, IsFree, seen_by}
use Rattle.wk_shared.specs.Looks.{HasRead}
use Rattle.wk_session_rules.specs.Points.{GoesOn, IsStateAt}
use Rattle.wk_session_rules.specs.Replies.{IsAnswered, out_of_memory, read, saved, store_failed, unread}
use Rattle.wk_session.specs.Telling.{AnswersOn, IsTried}
use Rattle.wk_session.specs.declared.telling.Told.{Told}

abbrev pub Pass : Type 0
Pass = Story Start Event

-- a pass that stays as it is
pub goes-nowhere : (pass : PassSeen) → GoesOn pass pass []
goes-nowhere pass = record { start = refl; seen = prefix_self pass.journal; own = sym (append-nil pass.own) }

pub goes-both : (one two three : PassSeen) (made more : List ℕ) → GoesOn one two made → GoesOn two three more → GoesOn one three (made ++ more)
goes-both one two three made more first later = record {
  start = later.start ∙ first.start;
  seen = prefix_trans one.journal two.journal three.journal first.seen later.seen;
  own = later.own ∙ (ap (λ (l : List ℕ). l ++ more) first.own ∙ append_assoc one.own made more);
}

-- ---- what is so since a pass is so since an earlier one

point-since : (one two new : PassSeen) (point : ℕ) (state : State) → IsPrefix one.journal two.journal → IsStateAt two new point state → IsStateAt one new point state
point-since one two new point state begins at = record {
  later = (let first = prefix_length one.journal two.journal begins in let second = at.later in omega (arith, first, second));
  seen = at.seen;
  stands = at.stands;
}

pub answered-since : (fails : Type 0) (one two new : PassSeen) (parsed : ParsedRequest) (moments : List ℕ) (reply : ApiReply) (made : List ℕ) →
    IsPrefix one.journal two.journal → IsAnswered fails two new parsed moments reply made → IsAnswered fails one new parsed moments reply made
answered-since fails one two new parsed moments reply made begins (read {point = point} {state = state} are at no_event) =
    read are (point-since one two new point state begins at) no_event
answered-since fails one two new parsed moments reply made begins (saved {point = point} {state = state} are at is entry) =
    saved are (point-since one two new point state begins at) is entry
answered-since fails one two new parsed moments reply made begins (store_failed {point = point} {state = state} are at is may) =
    store_failed are (point-since one two new point state begins at) is may
answered-since fails one two new parsed moments reply made begins (out_of_memory {point = point} {state = state} are at) =
    out_of_memory are (point-since one two new point state begins at)
answered-since fails one two new parsed moments reply made begins (unread {point = point} {state = state} at) =
    unread (point-since one two new point state begins at)

-- ---- calls of the shared wiki

-- a call that only looks
pub read-goes : (shared : Begun Start) (old new : Pass) → HasRead shared old new → GoesOn (seen_by shared.start old) (seen_by shared.start new) []
read-goes shared old new looked = record { start = refl; seen = looked.seen; own = looked.own ∙ sym (append-nil old.own) }

pub read-free : (shared : Begun Start) (old new : Pass) → HasRead shared old new → IsFree shared new
read-free shared old new looked = record { turn = looked.turn; free = looked.free }

pub seen-read : (shared : Begun Start) (old new : Pass) (point : ℕ) → HasSeen shared old new point → new.own ≡ old.own → HasRead shared old new
seen-read shared old new point seen own = record { turn = seen.turn; free = seen.free; seen = seen.seen; own = own }

pub reads-none : (shared : Begun Start) (pass : Pass) → IsFree shared pass → HasRead shared pass pass
reads-none shared pass is = record { turn = is.turn; free = is.free; seen = prefix_self pass.seen; own = refl }

pub read-both : (shared : Begun Start) (old middle new : Pass) → HasRead shared old middle → HasRead shared middle new → HasRead shared old new
read-both shared old middle new first later = record {
  turn = later.turn;
  free = later.free;
  seen = prefix_trans old.seen middle.seen new.seen first.seen later.seen;
  own = later.own ∙ first.own;
}

-- an answer behind a look
pub on-since : (shared : Begun Start) (fails : Type 0) (old middle new : Pass) (parsed : ParsedRequest) (moments : List ℕ) (told : Told) →
    HasRead shared old middle → AnswersOn shared fails middle new parsed moments told → AnswersOn shared fails old new parsed moments told
on-since shared fails old middle new parsed moments told looked on = record {
  free = on.free;
  made = on.made;
  goes = goes-both (seen_by shared.start old) (seen_by shared.start middle) (seen_by shared.start new) [] on.made (read-goes shared old middle looked) on.goes;
  reply = on.reply;
  answered = answered-since fails (seen_by shared.start old) (seen_by shared.start middle) (seen_by shared.start new) parsed moments on.reply on.made looked.seen on.answered;
  value = on.value;
  point = on.point;
  plain = on.plain;
}

-- a try behind a look
pub tried-since : (shared : Begun Start) (fails : Type 0) (old middle new : Pass) (parsed : ParsedRequest) (moment : ℕ) (told : Option Told) →
    HasRead shared old middle → IsTried shared fails middle new parsed moment told → IsTried shared fails old new parsed moment told
tried-since shared fails old middle new parsed moment (Some told) looked on = on-since shared fails old middle new parsed (moment ∷ []) told looked on
tried-since shared fails old middle new parsed moment None looked again = read-both shared old middle new looked again
