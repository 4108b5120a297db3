-- What is answered to what a message asks.
use Rattle.std.proofs.Common.{◌≡◌, ℕ, ◌≤◌, Bool, true, false, cond, List, [], length, codes, Option, refl, sym, ap, ◌∙◌, subst, arith, Bor}
use Rattle.std.specs.Prelude.{IfOk, Ok}
use Rattle.std.specs.Option.{option_to_list}
use Rattle.serde_json.specs.View.{view}
use Rattle.serde_json.specs.Written.{has_float}
use Rattle.serde_json.specs.declared.value.Value.{Value}
use Rattle.wk_text_rules.specs.Titles.{PageTitle}
use Rattle.wk_page_rules.specs.Verdict.{full_limits}
use Rattle.wk_wiki_rules.specs.Events.{Event}
use mathlib.Core.List.{IsPrefix}
use Rattle.wk_wiki_rules.specs.States.{State, world_of}
use Rattle.wk_wiki_rules.specs.Lives.{state_at}
use Rattle.wk_wiki_rules.specs.Passes.{PassSeen, drafted_in, shown_number}
use Rattle.wk_life_laws.proofs.RunFacts.{run_kept, run_present}
use Rattle.wk_request_rules.specs.Requests.{ParsedRequest, Request, asks_to_save, invalid, valid}
use Rattle.wk_request.specs.Refusals.{Refuses}
use Rattle.wk_request.specs.declared.refusal.RequestRefusal.{RequestRefusal}
use Rattle.wk_request.specs.declared.refusal.RequestRefusal.TheVariants.{Refused as ByNumber, Memory as NoMemory}
use Rattle.wk_answer_rules.specs.Answers.{answer_to_request}
use Rattle.wk_answer_rules.specs.ApiErrors.{ApiError, api_error, error_of, nomemory, request_error, row_entries}
use Rattle.wk_answer_rules.specs.Values.{ApiReply}
use Rattle.wk_answer_laws.proofs.Floats.{answer-plain, error-plain, reply-plain, row-plain}
use Rattle.wk_answer_laws.proofs.Points.{placed, request-none}
use Rattle.wk_answer.specs.Declined.{IsDeclined}
use Rattle.wk_answer.specs.Readings.{IsReadOf, IsRightRead, reading_of}
use Rattle.wk_core.specs.declared.outcomes.PageRead.{PageRead}
use Rattle.wk_turn.specs.Told.{Begun}
use Rattle.wk_turn.proofs.Lists.{prefix_length}
use Rattle.wk_session.specs.Telling.{IsTitleOf, text_asked}
use Rattle.wk_session.proofs.Acting.{cause-of}
use Rattle.wk_replica.specs.Answers.{read_only, replica_reply}
use Rattle.wk_replica.specs.Replicas.{ReplicaBegun}
use Rattle.wk_replica_reads.specs.Answers.{IsAnswered, IsPointOf, declined, out_of_memory, read}
use Rattle.wk_replica_reads.specs.Looks.{HasRead, IsGiven, IsReadNow, seen_by}
use Rattle.wk_replica_reads.specs.Telling.{AnswersOn}
use Rattle.wk_replica_reads.specs.declared.telling.Told.{Told}
use Rattle.wk_replica_reads.proofs.LookLaws.{Pass, read-both}

-- ---- replies

-- each part of a reply by what a save gives, and what is read
either : (b : Bool) (P : ApiReply → Type 0) (one other : ApiReply) → P one → P other → P (cond b one other)
either true P one other is others = is
either false P one other is others = others

-- no reply of a replica has a number with a fraction
pub reply-is-plain : (state : State) (point moment : ℕ) (request : Request) → has_float (replica_reply state point moment request).value ≡ false
reply-is-plain state point moment request =
    either (asks_to_save request.ask) (λ (r : ApiReply). has_float r.value ≡ false) (read_only point) (answer_to_request full_limits state point moment request).reply
    (reply-plain (row_entries (error_of (codes "readonly") (codes "This wiki is read only.") [])) point (row-plain (error_of (codes "readonly") (codes "This wiki is read only.") []) tt))
    (answer-plain full_limits state point moment (valid request))

-- each shows the point
pub reply-shows : (state : State) (point moment : ℕ) (request : Request) → (replica_reply state point moment request).point ≡ point
reply-shows state point moment request = by (asks_to_save request.ask) refl
  where
    by : (b : Bool) → asks_to_save request.ask ≡ b → (cond b (read_only point) (answer_to_request full_limits state point moment request).reply).point ≡ point
    by true is = refl
    by false is =
        let none = request-none full_limits state point moment request is in
        let p = placed full_limits state point moment (valid request) in
        let l = ap (λ (o : Option Event). length (option_to_list o)) none in
        omega (arith, p, l)

-- ---- at the present point

module _ (shared : Begun ReplicaBegun) (old new : Pass) (looked : HasRead shared old new) where
  -- a point that the pass has seen last
  pub present-point : (point : ℕ) → point ≡ length new.seen → IsPointOf (seen_by shared old) (seen_by shared new) point
  present-point point at = let begins = prefix_length old.seen new.seen looked.seen in (omega (arith, at, begins), omega (arith, at))

  module _ (parsed : ParsedRequest) (told : Told) where
    -- an error at a point
    error-told : (error : ApiError) (point : ℕ) → IsAnswered (seen_by shared old) (seen_by shared new) parsed (api_error error point) → told.point ≡ point
        → IfOk told.value (λ v. view v ≡ (api_error error point).value) → AnswersOn shared old new parsed told
    error-told error point answered at value = record {
      pass = looked;
      reply = api_error error point;
      answered = answered;
      value = value;
      point = at;
      plain = error-plain error point;
    }

    -- memory was wanting
    pub starved-told : (point : ℕ) → IsPointOf (seen_by shared old) (seen_by shared new) point → told.point ≡ point → IfOk told.value (λ v. view v ≡ (api_error nomemory point).value) → AnswersOn shared old new parsed told
    starved-told point within at value = error-told nomemory point (out_of_memory within) at value

  -- parameters that ask nothing
  refused-told : (parsed : ParsedRequest) (number : ℕ) (parameter : Bor (List ℕ)) (told : Told) (point : ℕ) → IsPointOf (seen_by shared old) (seen_by shared new) point → told.point ≡ point
      → Refuses parsed (ByNumber number parameter) → IsDeclined (ByNumber number parameter) point told.value → AnswersOn shared old new parsed told
  refused-told parsed number parameter told point within at refuses is =
      let why = cause-of parsed number parameter refuses in
      subst (λ (p : ParsedRequest). AnswersOn shared old new p told) (sym why.1)
      (error-told (invalid why.0) told (request_error why.0) point (declined within) at (is why.0 why.2))

  pub declined-told : (parsed : ParsedRequest) (refusal : RequestRefusal) (told : Told) (point : ℕ) → IsPointOf (seen_by shared old) (seen_by shared new) point → told.point ≡ point
      → Refuses parsed refusal → IsDeclined refusal point told.value → AnswersOn shared old new parsed told
  declined-told parsed (ByNumber number parameter) told point within at refuses is = refused-told parsed number parameter told point within at refuses is
  declined-told parsed NoMemory told point within at refuses is = starved-told parsed told point within at is

  -- what the replica answers a request
  pub given-told : (request : Request) (value : Value) (point : ℕ) → IsGiven shared.start.wiki new.seen request (view value) → point ≡ length new.seen → AnswersOn shared old new (valid request) (record { value = Ok value; point = point })
  given-told request value point g at = record {
    pass = looked;
    reply = replica_reply g.state (length new.seen) 0 request;
    answered = read (record {
      later = prefix_length old.seen new.seen looked.seen;
      seen = omega arith;
      stands = run_present shared.start.wiki new.seen g.state g.run;
    });
    value = g.is;
    point = at ∙ sym (reply-shows g.state (length new.seen) 0 request);
    plain = reply-is-plain g.state (length new.seen) 0 request;
  }

-- ---- by a read

module _ (shared : Begun ReplicaBegun) (new : Pass) (request : Request) (title : PageTitle) (found : PageRead) (of : IsTitleOf request.ask title)
    (n : IsReadNow shared.start.wiki new.seen title (text_asked request.ask) found) where
  right : IsRightRead n.0 request.ask (reading_of found)
  right = record {
    formed = (run_kept shared.start.wiki new.seen n.0 n.1.run).formed;
    asked = subst (λ (z : PageTitle × Option (List ℕ)). IsReadOf request.ask z.0 z.1) (λ i. (sym n.1.page_is i, sym n.1.given_is i)) of.0;
    drafted = (λ i. drafted_in (world_of n.0) (n.1.page_is i) (n.1.given_is i)) ∙ n.1.drafted;
    numbered = n.1.number_is ∙ ap (shown_number n.0.history) (sym n.1.page_is);
  }

  -- the reply that is made of the read
  pub read-told : (old : Pass) → HasRead shared old new → asks_to_save request.ask ≡ false → request.least ≤ length old.seen → (value : Value)
      → (IsRightRead n.0 request.ask (reading_of found) → request.least ≤ found.point → view value ≡ (answer_to_request full_limits n.0 found.point 0 request).reply.value)
      → AnswersOn shared old new (valid request) (record { value = Ok value; point = found.point })
  read-told old looked reads reached value shows =
      let at = n.1.point_is in
      let begins = prefix_length old.seen new.seen looked.seen in
      let same : replica_reply n.0 found.point 0 request ≡ (answer_to_request full_limits n.0 found.point 0 request).reply =
      ap (λ b. cond b (read_only found.point) (answer_to_request full_limits n.0 found.point 0 request).reply) reads in
      record {
        pass = looked;
        reply = replica_reply n.0 found.point 0 request;
        answered = read (record {
          later = omega (arith, at, begins);
          seen = omega (arith, at);
          stands = ap (state_at shared.start.wiki.state new.seen) at ∙ run_present shared.start.wiki new.seen n.0 n.1.run;
        });
        value = shows right (omega (arith, at, begins, reached)) ∙ ap (λ (r : ApiReply). r.value) (sym same);
        point = sym (reply-shows n.0 found.point 0 request);
        plain = reply-is-plain n.0 found.point 0 request;
      }

  -- memory was wanting behind the read
  pub wanting-told : (old : Pass) → HasRead shared old new → (told : Told) → told.point ≡ found.point → IfOk told.value (λ v. view v ≡ (api_error nomemory found.point).value) → AnswersOn shared old new (valid request) told
  wanting-told old looked told at value = starved-told shared old new looked (valid request) told found.point (present-point shared old new looked found.point n.1.point_is) at value

-- ---- behind a look

point-since : (one two new : PassSeen) (point : ℕ) → IsPrefix one.journal two.journal → IsPointOf two new point → IsPointOf one new point
point-since one two new point begins within =
    (let first = prefix_length one.journal two.journal begins in let later = within.0 in omega (arith, first, later), within.1)

answered-since : (one two new : PassSeen) (parsed : ParsedRequest) (reply : ApiReply) → IsPrefix one.journal two.journal → IsAnswered two new parsed reply → IsAnswered one new parsed reply
answered-since one two new parsed reply begins (read at) =
    read (record { later = (let first = prefix_length one.journal two.journal begins in let second = at.later in omega (arith, first, second)); seen = at.seen; stands = at.stands })
answered-since one two new parsed reply begins (declined {point = point} within) = declined (point-since one two new point begins within)
answered-since one two new parsed reply begins (out_of_memory {point = point} within) = out_of_memory (point-since one two new point begins within)

pub on-since : (shared : Begun ReplicaBegun) (old middle new : Pass) (parsed : ParsedRequest) (told : Told) → HasRead shared old middle → AnswersOn shared middle new parsed told → AnswersOn shared old new parsed told
on-since shared old middle new parsed told looked on = record {
  pass = read-both shared old middle new looked on.pass;
  reply = on.reply;
  answered = answered-since (seen_by shared old) (seen_by shared middle) (seen_by shared new) parsed on.reply looked.seen on.answered;
  value = on.value;
  point = on.point;
  plain = on.plain;
}
