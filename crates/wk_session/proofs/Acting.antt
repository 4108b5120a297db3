-- What is answered under one turn, by what the wiki's call came to.
use Rattle.std.proofs.Common.{◌≡◌, ℕ, ◌+◌, ◌≤◌, Bool, true, false, List, [], ◌∷◌, ◌++◌, length, Option, Some, None, refl, sym, ap, ◌∙◌, subst, arith, append-nil, Bor}
use Rattle.std.specs.Prelude.{IsSome, IfOk, IfSome, OnErr, Ok, Err, Result}
use Rattle.std.specs.Option.{option_to_list}
use Rattle.serde_json.specs.View.{view}
use Rattle.serde_json.specs.declared.value.Value.{Value}
use Rattle.wk_memory.specs.declared.Memory.{Memory}
use Rattle.wk_base.specs.Clock.{first_moment}
use Rattle.wk_base.specs.Faults.{Rose}
use Rattle.wk_page_rules.specs.History.{text_of_revision}
use Rattle.wk_table_rules.specs.Rows.{StoreTables}
use Rattle.wk_view_rules.specs.Worlds.{IsHonest, Read}
use Rattle.wk_wiki_rules.specs.States.{State}
use Rattle.wk_wiki_rules.specs.Events.{Event}
use Rattle.wk_wiki_rules.specs.Entries.{closes}
use Rattle.wk_wiki_rules.specs.Starts.{Start}
use Rattle.wk_life_laws.specs.Runs.{IsRun}
use Rattle.wk_life_laws.proofs.RunFacts.{run_present}
use Rattle.wk_read_laws.specs.Points.{AreReadSince}
use Rattle.wk_read_laws.proofs.PointLaws.{reads-honest, reads-later}
use Rattle.wk_core.specs.Seen.{WikiSeen}
use Rattle.wk_core.specs.Steps.{GoesOn as KeeperGoes, HasMadeNothing}
use Rattle.wk_request_rules.specs.Requests.{ParsedRequest, Request, RequestRefusal as Cause, invalid, valid, number_of_refusal, parameter_of_refusal}
use Rattle.wk_request.specs.Refusals.{Refuses, told as told_refusal}
use Rattle.wk_request.specs.declared.refusal.RequestRefusal.{RequestRefusal}
use Rattle.wk_request.specs.declared.refusal.RequestRefusal.TheVariants.{Refused as ByNumber, Memory as NoMemory}
use Rattle.wk_answer_rules.specs.Answers.{answer_to_parsed, asks_to_save}
use Rattle.wk_answer_rules.specs.ApiErrors.{ApiError, api_error, nomemory, request_error, storefault}
use Rattle.wk_answer_rules.specs.Saves.{Answered}
use Rattle.wk_answer_laws.proofs.Points.{placed}
use Rattle.wk_answer_laws.proofs.Possible.{event-possible}
use Rattle.wk_answer.specs.Declined.{IsDeclined}
use Rattle.wk_answer.specs.Saved.{IsActed, by_fault, by_rule}
use Rattle.wk_answer_laws.proofs.Floats.{answer-plain, error-plain}
use Rattle.wk_turn.specs.Told.{Begun}
use Rattle.wk_turn.proofs.Lists.{prefix_length}
use Rattle.wk_shared.specs.Calls.{AddsOwn, HasSeen, IsFree, IsMadeAt, MayFail, seen_by}
use Rattle.wk_shared.specs.Desk.{ClosesOpen, IsTaken, MakesAtMostOne, TellsOf}
use Rattle.wk_shared.proofs.Made.{makes}
use Rattle.wk_shared.proofs.Outcomes.{Outcome, may-fail}
use Rattle.wk_session_rules.specs.Points.{GoesOn, IsStateAt}
use Rattle.wk_session_rules.specs.Replies.{AreMomentsOf, IsAnswered, out_of_memory, read, saved, store_failed, unread}
use Rattle.wk_session.specs.Telling.{AnswersOn}
use Rattle.wk_session.specs.declared.telling.Told.{Told}
use Rattle.wk_session.proofs.Passing.{Pass}

-- ---- what a call comes to

-- what a save that was asked for, or a read, came to: what the rules answer, or that the store failed
pub data ActTold (fails : Type 0) (parsed : ParsedRequest) (moments : List ℕ) (value : Value) (start : Start) (state : State) (point : ℕ) (event : Option Event) : Type 0 where
  as_ruled : view value ≡ (answer_to_parsed start.limits state point (first_moment moments) parsed).reply.value →
      (answer_to_parsed start.limits state point (first_moment moments) parsed).event ≡ event → ActTold fails parsed moments value start state point event
  as_failed : {made : Event} → (answer_to_parsed start.limits state point (first_moment moments) parsed).event ≡ Some made → fails →
      view value ≡ (api_error storefault point).value → event ≡ None → ActTold fails parsed moments value start state point event

-- no event was made
abbrev pub NothingTold : Start → State → ℕ → Option Event → Type 0
NothingTold start state point event = event ≡ None

module _ {K : Type 0} (told : K → Option StoreTables) (own : List ℕ) (wiki : WikiSeen K) where
  -- nothing happens to a wiki that is only looked at
  pub nothing-made : HasMadeNothing told wiki wiki
  nothing-made = record { wiki = refl; tables = refl }

  pub looked : Outcome told own wiki wiki NothingTold
  looked = record { event = None; made = nothing-made; closing = tt; call = refl }

  pub unchanged : (after : WikiSeen K) → HasMadeNothing told wiki after → Outcome told own wiki after NothingTold
  unchanged after nothing = record { event = None; made = nothing; closing = tt; call = refl }

  -- what a request that asks for no save is answered
  pub answered-on : (fails : Type 0) (parsed : ParsedRequest) (moments : List ℕ) (value : Value)
      → (answer_to_parsed wiki.start.limits wiki.state (length wiki.journal) (first_moment moments) parsed).event ≡ None
      → view value ≡ (answer_to_parsed wiki.start.limits wiki.state (length wiki.journal) (first_moment moments) parsed).reply.value
      → Outcome told own wiki wiki (ActTold fails parsed moments value)
  answered-on fails parsed moments value none is = record { event = None; made = nothing-made; closing = tt; call = as_ruled is none }

save-closes : (journal : List Event) (own : List ℕ) (event : Option Event) → ((e : Event) → event ≡ Some e → closes e ≡ None) → ClosesOpen journal own event
save-closes journal own None none = tt
save-closes journal own (Some event) none = λ p e. absurd (let wrong : None ≡ Some p = sym (none event refl) ∙ e in cc)

module _ {K : Type 0} (told : K → Option StoreTables) (faults : K → ℕ) (is_whole : K → Bool) (own : List ℕ) (wiki after : WikiSeen K) (start : Start)
    (same : wiki.start ≡ start) (tells : TellsOf is_whole faults wiki.start wiki.keeper) (keeper : KeeperGoes told faults wiki after) (parsed : ParsedRequest) (moment : ℕ) (value : Value) where
  abbrev pub ruled : Answered
  ruled = answer_to_parsed wiki.start.limits wiki.state (length wiki.journal) moment parsed

  saves-only : (e : Event) → ruled.event ≡ Some e → closes e ≡ None
  saves-only e made =
      let save = event-possible wiki.start.limits wiki.state (length wiki.journal) moment parsed e made in
      ap closes save.is

  failed : (event : Option Event) → ruled.event ≡ event → IsSome event → view value ≡ (api_error storefault (length wiki.journal)).value → Rose (faults wiki.keeper) (faults after.keeper)
      → HasMadeNothing told wiki after → Outcome told own wiki after (ActTold (MayFail start) parsed (moment ∷ []) value)
  failed None is some shows rose nothing = absurd (let e : false ≡ true = some in cc)
  failed (Some event) is some shows rose nothing = record {
    event = None;
    made = nothing;
    closing = tt;
    call = as_failed is (may-fail is_whole faults start wiki after same tells keeper.whole rose) shows refl;
  }

  pub acted-on : IsActed told faults wiki after ruled (view value) → Outcome told own wiki after (ActTold (MayFail start) parsed (moment ∷ []) value)
  acted-on (by_rule shows made kept) = record {
    event = ruled.event;
    made = made;
    closing = save-closes wiki.journal own ruled.event saves-only;
    call = as_ruled shows refl;
  }
  acted-on (by_fault some shows rose nothing) = failed ruled.event refl some shows rose nothing

-- what is asked where the wiki is given back behind a save that was asked for
pub acted-makes : {K : Type 0} (told : K → Option StoreTables) (faults : K → ℕ) (is_whole : K → Bool) (shared : Begun Start) (old middle : Pass) (wiki after before : WikiSeen K) (taken : IsTaken shared old middle wiki)
    → TellsOf is_whole faults wiki.start wiki.keeper → KeeperGoes told faults wiki after → (parsed : ParsedRequest) (moment : ℕ) (result : Result Value Memory) → before ≡ wiki
    → IfOk result (λ v. IsActed told faults wiki after (answer_to_parsed wiki.start.limits wiki.state (length wiki.journal) moment parsed) (view v)) → OnErr result (HasMadeNothing told wiki after)
    → MakesAtMostOne middle.own before after
acted-makes told faults is_whole shared old middle wiki after before taken tells keeper parsed moment (Ok value) same acted memory =
    makes told shared old middle wiki after taken (ActTold (MayFail shared.start) parsed (moment ∷ []) value) before same
    (acted-on told faults is_whole old.own wiki after shared.start taken.start tells keeper parsed moment value acted)
acted-makes told faults is_whole shared old middle wiki after before taken tells keeper parsed moment (Err why) same acted memory =
    makes told shared old middle wiki after taken NothingTold before same (unchanged told old.own wiki after memory)

-- the same behind a save of a text that was transformed before: nothing has happened where a read of it isn't current
pub made-makes : {K : Type 0} (told : K → Option StoreTables) (faults : K → ℕ) (is_whole : K → Bool) (shared : Begun Start) (old middle : Pass) (wiki after before : WikiSeen K) (taken : IsTaken shared old middle wiki)
    → TellsOf is_whole faults wiki.start wiki.keeper → KeeperGoes told faults wiki after → (parsed : ParsedRequest) (moment : ℕ) (Stale : Type 0) (result : Result (Option Value) Memory) → before ≡ wiki
    → IfOk result (λ answer. IfSome answer (λ v. IsActed told faults wiki after (answer_to_parsed wiki.start.limits wiki.state (length wiki.journal) moment parsed) (view v)))
    → IfOk result (λ answer. answer ≡ None → HasMadeNothing told wiki after × Stale) → OnErr result (HasMadeNothing told wiki after) → MakesAtMostOne middle.own before after
made-makes told faults is_whole shared old middle wiki after before taken tells keeper parsed moment Stale (Ok (Some value)) same acted stale memory =
    acted-makes told faults is_whole shared old middle wiki after before taken tells keeper parsed moment (Ok value) same acted tt
made-makes told faults is_whole shared old middle wiki after before taken tells keeper parsed moment Stale (Ok None) same acted stale memory =
    makes told shared old middle wiki after taken NothingTold before same (unchanged told old.own wiki after (stale refl).0)
made-makes told faults is_whole shared old middle wiki after before taken tells keeper parsed moment Stale (Err why) same acted stale memory =
    makes told shared old middle wiki after taken NothingTold before same (unchanged told old.own wiki after memory)

-- what was read at points that the pass had seen is honest on the wiki that it has taken
pub honest-taken : {K : Type 0} (shared : Begun Start) (old middle : Pass) (wiki : WikiSeen K) (reads : List Read) → IsTaken shared old middle wiki → (from : ℕ) × AreReadSince shared.start old.seen from reads
    → IsHonest (text_of_revision wiki.state.history) reads
honest-taken shared old middle wiki reads taken since =
    reads-honest shared.start wiki.journal wiki.state since.0 reads (subst (λ (s : Start). IsRun s wiki.journal wiki.state) taken.start taken.run)
    (reads-later shared.start old.seen wiki.journal since.0 reads taken.seen since.1)

-- what a value holds that is there
pub some-of : {A : Type 0} (o : Option A) (value : A) (P : A → Type 0) → o ≡ Some value → IfSome o P → P value
some-of {A = A} o value P is holds = subst (λ (x : Option A). IfSome x P) is holds

-- a call that makes no event leaves the pass's own entries
pub own-kept : (shared : Begun Start) (old new : Pass) (Call : Start → State → ℕ → Option Event → Type 0) (m : IsMadeAt shared.start old new Call)
    → ((start : Start) (state : State) (point : ℕ) (event : Option Event) → Call start state point event → event ≡ None) → new.own ≡ old.own
own-kept shared old new Call m none = (subst (AddsOwn old new m.at) (none shared.start m.state m.at m.event m.call) m.adds).1

-- ---- what is told of it

module _ (shared : Begun Start) (fails : Type 0) (old new : Pass) (point : ℕ) (seen : HasSeen shared old new point) (parsed : ParsedRequest) where
  pub is-free : IsFree shared new
  is-free = record { turn = seen.turn; free = seen.free }

  goes-with : (made : List ℕ) → new.own ≡ old.own ++ made → GoesOn (seen_by shared.start old) (seen_by shared.start new) made
  goes-with made own = record { start = refl; seen = seen.seen; own = own }

  module _ (Call : Start → State → ℕ → Option Event → Type 0) (m : IsMadeAt shared.start old new Call) where
    adds : (event : Option Event) → m.event ≡ event → AddsOwn old new m.at event
    adds event is = subst (AddsOwn old new m.at) is m.adds

    -- the state in which the call was made
    made-at : m.at ≤ length new.seen → IsStateAt (seen_by shared.start old) (seen_by shared.start new) m.at m.state
    made-at within = record { later = m.later; seen = within; stands = m.stands }

  -- memory was wanting, and nothing was made
  pub starved : (moments : List ℕ) (told : Told) → (m : IsMadeAt shared.start old new NothingTold) → AreMomentsOf parsed moments → told.point ≡ point
      → IfOk told.value (λ v. view v ≡ (api_error nomemory point).value) → AnswersOn shared fails old new parsed moments told
  starved moments told m are at value =
      let none = adds NothingTold m None m.call in
      let here : point ≡ m.at = seen.tells ∙ none.0 in
      record {
        free = is-free;
        made = [];
        goes = goes-with [] (none.1 ∙ sym (append-nil old.own));
        reply = api_error nomemory m.at;
        answered = out_of_memory are (made-at NothingTold m (let e = none.0 in omega (arith, e)));
        value = subst (λ n. IfOk told.value (λ v. view v ≡ (api_error nomemory n).value)) here value;
        point = at ∙ here;
        plain = error-plain nomemory m.at;
      }

  module _ (moments : List ℕ) (value : Value) (are : AreMomentsOf parsed moments) (m : IsMadeAt shared.start old new (ActTold fails parsed moments value)) where
    abbrev pub ruled-at : Answered
    ruled-at = answer_to_parsed shared.start.limits m.state m.at (first_moment moments) parsed

    at-placed : ruled-at.reply.point ≡ m.at + length (option_to_list ruled-at.event)
    at-placed = placed shared.start.limits m.state m.at (first_moment moments) parsed

    by-rule : (event : Option Event) → m.event ≡ event → ruled-at.event ≡ event → view value ≡ ruled-at.reply.value → AnswersOn shared fails old new parsed moments (record { value = Ok value; point = point })
    by-rule None is rule shows =
        let none = adds (ActTold fails parsed moments value) m None is in
        record {
          free = is-free;
          made = [];
          goes = goes-with [] (none.1 ∙ sym (append-nil old.own));
          reply = ruled-at.reply;
          answered = read are (made-at (ActTold fails parsed moments value) m (let e = none.0 in omega (arith, e))) rule;
          value = shows;
          point = (let e = none.0 in let p = at-placed in let l = ap (λ (o : Option Event). length (option_to_list o)) rule in let t = seen.tells in omega (arith, e, p, l, t));
          plain = answer-plain shared.start.limits m.state m.at (first_moment moments) parsed;
        }
    by-rule (Some event) is rule shows =
        let one = adds (ActTold fails parsed moments value) m (Some event) is in
        record {
          free = is-free;
          made = m.at ∷ [];
          goes = goes-with (m.at ∷ []) one.2;
          reply = ruled-at.reply;
          answered = saved are (made-at (ActTold fails parsed moments value) m (let e = one.0 in omega (arith, e))) rule one.1;
          value = shows;
          point = (let e = one.0 in let p = at-placed in let l = ap (λ (o : Option Event). length (option_to_list o)) rule in let t = seen.tells in omega (arith, e, p, l, t));
          plain = answer-plain shared.start.limits m.state m.at (first_moment moments) parsed;
        }

    by-call : ActTold fails parsed moments value shared.start m.state m.at m.event → AnswersOn shared fails old new parsed moments (record { value = Ok value; point = point })
    by-call (as_ruled shows rule) = by-rule m.event refl rule shows
    by-call (as_failed made may shows none) =
        let nothing = adds (ActTold fails parsed moments value) m None none in
        record {
          free = is-free;
          made = [];
          goes = goes-with [] (nothing.1 ∙ sym (append-nil old.own));
          reply = api_error storefault m.at;
          answered = store_failed are (made-at (ActTold fails parsed moments value) m (let e = nothing.0 in omega (arith, e))) made may;
          value = shows;
          point = seen.tells ∙ nothing.0;
          plain = error-plain storefault m.at;
        }

    pub told-of : AnswersOn shared fails old new parsed moments (record { value = Ok value; point = point })
    told-of = by-call m.call

-- ---- the present point

-- the state at the point that the pass has seen last
pub present : (shared : Begun Start) (old new : Pass) (point : ℕ) (seen : HasSeen shared old new point) → IsStateAt (seen_by shared.start old) (seen_by shared.start new) (length new.seen) seen.state
present shared old new point seen = record {
  later = prefix_length old.seen new.seen seen.seen;
  seen = omega arith;
  stands = run_present shared.start new.seen seen.state seen.run;
}

module _ (shared : Begun Start) (fails : Type 0) (old new : Pass) (point : ℕ) (parsed : ParsedRequest) (told : Told) (seen : HasSeen shared old new point) (own : new.own ≡ old.own) (at : told.point ≡ point) where
  -- a reply that is an error at the present point
  present-told : (error : ApiError) (moments : List ℕ) → IsAnswered fails (seen_by shared.start old) (seen_by shared.start new) parsed moments (api_error error (length new.seen)) []
      → IfOk told.value (λ v. view v ≡ (api_error error point).value) → AnswersOn shared fails old new parsed moments told
  present-told error moments answered value = record {
    free = record { turn = seen.turn; free = seen.free };
    made = [];
    goes = record { start = refl; seen = seen.seen; own = own ∙ sym (append-nil old.own) };
    reply = api_error error (length new.seen);
    answered = answered;
    value = subst (λ n. IfOk told.value (λ v. view v ≡ (api_error error n).value)) seen.tells value;
    point = at ∙ seen.tells;
    plain = error-plain error (length new.seen);
  }

  -- memory was wanting: to read what is asked, or behind the moments that were taken for it
  pub starved-now : IfOk told.value (λ v. view v ≡ (api_error nomemory point).value) → AnswersOn shared fails old new parsed [] told
  starved-now value = present-told nomemory [] (unread (present shared old new point seen)) value

  pub starved-timed : (moments : List ℕ) → AreMomentsOf parsed moments → IfOk told.value (λ v. view v ≡ (api_error nomemory point).value) → AnswersOn shared fails old new parsed moments told
  starved-timed moments are value = present-told nomemory moments (out_of_memory are (present shared old new point seen)) value

-- the moment of a request that asks for a save
pub one-moment : (request : Request) (moment : ℕ) → asks_to_save request.ask ≡ true → AreMomentsOf (valid request) (moment ∷ [])
one-moment request moment saves = let some = saves in grind (arith, some)

-- ---- parameters that ask nothing

-- why they ask nothing
pub cause-of : (parsed : ParsedRequest) (number : ℕ) (parameter : Bor (List ℕ)) → Refuses parsed (ByNumber number parameter)
    → (cause : Cause) × (parsed ≡ invalid cause) × (told_refusal (ByNumber number parameter) ≡ Some (number_of_refusal cause, parameter_of_refusal cause))
cause-of (valid request) number parameter refuses = absurd (let e : None ≡ Some (number, parameter.now) = refuses in cc)
cause-of (invalid cause) number parameter refuses = (cause, refl, sym refuses)

-- they are answered by their error
pub refused-now : (shared : Begun Start) (fails : Type 0) (old new : Pass) (point : ℕ) (parsed : ParsedRequest) (number : ℕ) (parameter : Bor (List ℕ)) (told : Told)
    → HasSeen shared old new point → new.own ≡ old.own → told.point ≡ point → Refuses parsed (ByNumber number parameter) → IsDeclined (ByNumber number parameter) point told.value
    → AnswersOn shared fails old new parsed [] told
refused-now shared fails old new point parsed number parameter told seen own at refuses is =
    let why = cause-of parsed number parameter refuses in
    subst (λ (p : ParsedRequest). AnswersOn shared fails old new p [] told) (sym why.1)
    (present-told shared fails old new point (invalid why.0) told seen own at (request_error why.0) [] (read refl (present shared old new point seen) refl) (is why.0 why.2))

pub declined-now : (shared : Begun Start) (fails : Type 0) (old new : Pass) (point : ℕ) (parsed : ParsedRequest) (refusal : RequestRefusal) (told : Told)
    → HasSeen shared old new point → new.own ≡ old.own → told.point ≡ point → Refuses parsed refusal → IsDeclined refusal point told.value → AnswersOn shared fails old new parsed [] told
declined-now shared fails old new point parsed (ByNumber number parameter) told seen own at refuses is =
    refused-now shared fails old new point parsed number parameter told seen own at refuses is
declined-now shared fails old new point parsed NoMemory told seen own at refuses is = starved-now shared fails old new point parsed told seen own at is
