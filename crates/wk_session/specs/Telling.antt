-- What comes of what a message asks (own).
use Rattle.std.specs.Prelude.{◌≡◌, ◌≤◌, ℕ, false, List, [], ◌∷◌, Option, Some, None, IfOk, IfSome, length}
use Rattle.serde_json.specs.View.{view}
use Rattle.serde_json.specs.Written.{has_float}
use Rattle.wk_text_rules.specs.Titles.{PageTitle}
use Rattle.wk_wire_rules.specs.Heads.{Message}
use Rattle.wk_wiki_rules.specs.Events.{Event}
use Rattle.wk_wiki_rules.specs.Starts.{Start}
use Rattle.wk_request_rules.specs.Requests.{Ask, ParsedRequest, expand_text}
use Rattle.wk_answer_rules.specs.Values.{ApiReply}
use Rattle.wk_answer.specs.Readings.{IsReadOf}
use Rattle.wk_turn.specs.Told.{Begun, Story}
use Rattle.wk_shared.specs.Calls.{IsFree, seen_by}
use Rattle.wk_shared.specs.Looks.{HasRead}
use Rattle.wk_session_rules.specs.Points.{GoesOn}
use Rattle.wk_session_rules.specs.Replies.{IsAnswered, IsReplyTo, Reply}
use Rattle.wk_session_rules.specs.Sessions.{GivesMoments}
use Rattle.wk_sending.specs.Replied.{Carries}
use Rattle.wk_sending.specs.declared.replies.Answer.{Answer}
use Rattle.wk_session.specs.declared.telling.Told.{Told}

-- What is asked was answered on these moments: the pass is free again, and the reply is as the rules have it. This is its
-- value, or memory was wanting for it.
pub record AnswersOn (shared : Begun Start) (fails : Type 0) (old new : Story Start Event) (parsed : ParsedRequest) (moments : List ℕ) (told : Told) : Type 0 where
  pub free : IsFree shared new
  pub made : List ℕ
  pub goes : GoesOn (seen_by shared.start old) (seen_by shared.start new) made
  pub reply : ApiReply
  pub answered : IsAnswered fails (seen_by shared.start old) (seen_by shared.start new) parsed moments reply made
  pub value : IfOk told.value (λ v. view v ≡ reply.value)
  pub point : told.point ≡ reply.point
  pub plain : has_float reply.value ≡ false

-- the same on the moments that the clock gave
pub record AnswersAsked (shared : Begun Start) (fails : Type 0) (old new : Story Start Event) (parsed : ParsedRequest) (left later : Option (List ℕ)) (told : Told) : Type 0 where
  pub moments : List ℕ
  pub given : GivesMoments left later moments
  pub on : AnswersOn shared fails old new parsed moments told

-- A save whose text was transformed before was answered on this moment; or a read of the text wasn't current any more, and the
-- pass has only looked.
abbrev pub IsTried : Begun Start → Type 0 → Story Start Event → Story Start Event → ParsedRequest → ℕ → Option Told → Type 0
IsTried shared fails old new parsed moment (Some told) = AnswersOn shared fails old new parsed (moment ∷ []) told
IsTried shared fails old new parsed moment None = HasRead shared old new

-- A message was answered on the moments that the clock gave: with this reply, or memory was wanting for its body.
pub record AnswersMessage (shared : Begun Start) (fails : Type 0) (old new : Story Start Event) (message : Message) (left later : Option (List ℕ)) (answer : Answer) : Type 0 where
  pub free : IsFree shared new
  pub made : List ℕ
  pub goes : GoesOn (seen_by shared.start old) (seen_by shared.start new) made
  pub moments : List ℕ
  pub given : GivesMoments left later moments
  pub reply : Reply
  pub replied : IsReplyTo fails (seen_by shared.start old) (seen_by shared.start new) message moments reply made
  pub carried : Carries answer reply

-- ---- reads

-- the text that is asked about, if there is one
abbrev pub text_asked : Ask → Option (List ℕ)
text_asked (expand_text text page) = Some text
text_asked _ = None

-- a read of this title is one of what is asked, and its text isn't too long
abbrev pub IsTitleOf : Ask → PageTitle → Type 0
IsTitleOf ask title = IsReadOf ask title (text_asked ask) × IfSome (text_asked ask) (λ text. length text ≤ 2097152)
