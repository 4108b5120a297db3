-- What is sent of a reply.
use Rattle.std.proofs.Common.{◌≡◌, ℕ, Bool, List, ap, ◌∙◌, subst, arith}
use Rattle.std.proofs.KnownBytes.{Appends-nil}
use Rattle.std.specs.Prelude.{Option, Result, Ok, Err, IfOk, IsOkAnd}
use Rattle.serde_json.specs.Data.{Data}
use Rattle.serde_json.specs.View.{view}
use Rattle.serde_json.specs.Written.{compact_text}
use Rattle.serde_json.specs.declared.value.Value.{Value}
use Rattle.wk_memory.specs.declared.Memory.{Memory as WantOfMemory}
use Rattle.wk_wire_rules.specs.Heads.{Message}
use Rattle.wk_wire_rules.specs.Responses.{response}
use Rattle.wk_http.specs.declared.report.SessionEnd.{SessionEnd}
use Rattle.wk_http.specs.declared.report.SessionEnd.TheVariants.{Memory}
use Rattle.wk_session_rules.specs.Replies.{Reply, sent}
use Rattle.wk_sending.specs.Sending.{IsSent}

-- memory was wanting, and nothing was sent
pub nothing-sent : (status : ℕ) (body : List ℕ) (close : Bool) (taken : Option (List ℕ)) → IsSent (response status body close) taken taken (Err Memory)
nothing-sent status body close taken = (tt, (0, omega arith, Appends-nil taken))

-- the response is the one to the message
pub sent-as : (message : Message) (reply : Reply) (status : ℕ) (body : List ℕ) (close : Bool) (taken later : Option (List ℕ)) (result : Result (Unit {0}) SessionEnd) → close ≡ message.last → status ≡ reply.status → body ≡ reply.body
    → IsSent (response status body close) taken later result → IsSent (sent message reply) taken later result
sent-as message reply status body close taken later result last same text is =
    subst (λ (bytes : List ℕ). IsSent bytes taken later result) (λ i. response (same i) (text i) (last i)) is

-- what a result holds
pub ok-of : {A B : Type 0} (result : Result A B) (value : A) (P : A → Type 0) → result ≡ Ok value → IfOk result P → P value
ok-of {A = A} {B = B} result value P is holds = subst (λ (r : Result A B). IfOk r P) is holds

-- the body of a reply, where memory was there for its value
pub body-shown : {Text : Type 0} (bytes : Text → List ℕ) (result : Result Text WantOfMemory) (value : Result Value WantOfMemory) (shown : Data)
    → IfOk result (λ body. IsOkAnd value (λ v. bytes body ≡ compact_text (view v))) → IfOk value (λ v. view v ≡ shown) → IfOk result (λ body. bytes body ≡ compact_text shown)
body-shown bytes (Ok body) (Ok value) shown text is = text ∙ ap compact_text is
body-shown bytes (Ok body) (Err memory) shown text is = absurd text
body-shown bytes (Err memory) value shown text is = tt
