-- A reply to a message, and the step behind it.
use Rattle.std.proofs.Common.{◌≡◌, ℕ, Bool, List, [], ◌∷◌, ◌++◌, length, refl, ap, ◌∙◌, subst, inl, inr}
use Rattle.std.specs.Option.{option_to_list}
use Rattle.std.specs.Prelude.{Option, Result, Ok, Err}
use Rattle.wk_wire_rules.specs.Heads.{Message}
use Rattle.wk_wiki_rules.specs.Passes.{PassSeen}
use Rattle.wk_http.specs.declared.report.Refresh.{Refresh}
use Rattle.wk_http.specs.declared.report.SessionEnd.{SessionEnd}
use Rattle.wk_http.specs.declared.report.SessionEnd.TheVariants.{Memory}
use Rattle.wk_wiki_rules.specs.Starts.{Start}
use Rattle.wk_turn.specs.Told.{Begun}
use Rattle.wk_shared.specs.Calls.{seen_by}
use Rattle.wk_session_rules.specs.Replies.{Reply, bare, sent}
use Rattle.wk_session_rules.specs.Sessions.{Outside}
use Rattle.wk_sending.specs.Replied.{Carries}
use Rattle.wk_sending.specs.Sending.{IsSent}
use Rattle.wk_sending.specs.declared.replies.Answer.{Answer}
use Rattle.wk_session.specs.Serving.{IsReplied, IsStepTold, RepliedTo, Serves}
use Rattle.wk_session.specs.Telling.{AnswersMessage}
use Rattle.wk_session.proofs.Passing.{Pass}

-- ---- a reply

-- the answer is the status that the rules give
pub bare-carried : (answer : Answer) (status other : ℕ) → status ≡ other → Carries answer (bare status) → Carries answer (bare other)
bare-carried answer status other same is = subst (λ (n : ℕ). Carries answer (bare n)) same is

pub replied-with : (shared : Begun Start) (fails : Type 0) (old new : Pass) (message : Message) (rest more_rest left later taken more_taken : Option (List ℕ)) (answer : Answer) (points more : List ℕ) (result : Result (Unit {0}) SessionEnd) (last : Bool)
    → more_rest ≡ rest → AnswersMessage shared fails old new message left later answer → last ≡ message.last → more ≡ points ++ option_to_list answer.point
    → ((m : Message) (reply : Reply) → last ≡ m.last → Carries answer reply → IsSent (sent m reply) taken more_taken result)
    → IsReplied fails (seen_by shared.start old) (seen_by shared.start new) message (record { rest = rest; moments = left; taken = taken }) (record { rest = more_rest; moments = later; taken = more_taken }) points more result
replied-with shared fails old new message rest more_rest left later taken more_taken answer points more result last kept a same shown is = inl (record {
  moments = a.moments;
  reply = a.reply;
  made = a.made;
  replied = a.replied;
  goes = a.goes;
  given = a.given;
  sent_is = is message a.reply same a.carried;
  rest = kept;
  points_are = shown ∙ ap (λ (o : Option ℕ). points ++ option_to_list o) a.carried.point;
})

pub nothing-replied : (fails : Type 0) (pass : PassSeen) (message : Message) (outside : Outside) (points more : List ℕ) → more ≡ points → IsReplied fails pass pass message outside outside points more (Err Memory)
nothing-replied fails pass message outside points more same = inr (refl, record { pass = refl; outside = refl; points_are = same })

-- ---- a step behind it

serves-replied : (shared : Begun Start) (fails : Type 0) (old middle new : Pass) (message : Message) (before after : Outside) (points more : List ℕ) (refreshes later : List (ℕ × Refresh)) (refresh : Refresh) (point : ℕ) (done : Unit {0})
    → RepliedTo fails (seen_by shared.start old) (seen_by shared.start middle) message before after points more (Ok done) → IsStepTold shared fails middle new refresh → point ≡ length new.seen
    → later ≡ refreshes ++ (point, refresh) ∷ [] → Serves fails (seen_by shared.start old) (seen_by shared.start new) message before after points more refreshes later
serves-replied shared fails old middle new message before after points more refreshes later refresh point done r step at noted = record {
  exchange = record { message = message; moments = r.moments; reply = r.reply; saved = r.made; refresh = refresh; worked = step.worked; point = point };
  message_is = refl;
  is = record { middle = seen_by shared.start middle; replied = r.replied; goes = r.goes; stepped = step.stepped; goes_on = step.goes; point = at };
  given = r.given;
  written = r.sent_is;
  rest = r.rest;
  points_are = r.points_are;
  refreshes_are = noted;
}

pub serves-with : (shared : Begun Start) (fails : Type 0) (old middle new : Pass) (message : Message) (before after : Outside) (points more : List ℕ) (refreshes later : List (ℕ × Refresh)) (refresh : Refresh) (point : ℕ) (done : Unit {0})
    → IsReplied fails (seen_by shared.start old) (seen_by shared.start middle) message before after points more (Ok done) → IsStepTold shared fails middle new refresh → point ≡ length new.seen
    → later ≡ refreshes ++ (point, refresh) ∷ [] → Serves fails (seen_by shared.start old) (seen_by shared.start new) message before after points more refreshes later
serves-with shared fails old middle new message before after points more refreshes later refresh point done (inl r) step at noted =
    serves-replied shared fails old middle new message before after points more refreshes later refresh point done r step at noted
serves-with shared fails old middle new message before after points more refreshes later refresh point done (inr nothing) step at noted =
    absurd (let e : Ok done ≡ Err Memory = nothing.0 in cc)
