-- What is saved of an edit whose text is transformed before.
use Rattle.std.proofs.Common.{◌≡◌, ℕ, List, Some, subst}
use Rattle.wk_base.specs.Clock.{first_moment}
use Rattle.wk_wire_rules.specs.Heads.{Message}
use Rattle.wk_wiki_rules.specs.Passes.{PassSeen}
use Rattle.wk_request_rules.specs.Requests.{ParsedRequest, Request, text_to_transform, valid}
use Rattle.wk_answer_rules.specs.Values.{ApiReply}
use Rattle.wk_answer_laws.proofs.Substs.{substituted-save}
use Rattle.wk_session_rules.specs.Replies.{IsAnswered, IsReplyTo, Reply, answered, asked, out_of_memory, read, refused, saved, store_failed, unread}
use Rattle.wk_session_laws.specs.Told.{AreTransformed}

pub answered-transformed : (fails : Type 0) (old new : PassSeen) (request : Request) (text moments : List ℕ) (reply : ApiReply) (made : List ℕ) → text_to_transform request ≡ Some text
    → IsAnswered fails old new (valid request) moments reply made → AreTransformed new request.ask text (first_moment moments) made
answered-transformed fails old new request text moments reply made given (read are at no_event) = tt
answered-transformed fails old new request text moments reply made given (saved {point = point} {state = state} {event = event} are at is entry) = (
  record {
    state = state;
    stands = at.stands;
    event = event;
    there = entry;
    saves = substituted-save new.start.limits state point (first_moment moments) request text event given is;
  },
  tt,
)
answered-transformed fails old new request text moments reply made given (store_failed are at is may) = tt
answered-transformed fails old new request text moments reply made given (out_of_memory are at) = tt
answered-transformed fails old new request text moments reply made given (unread at) = tt

pub reply-transformed : (fails : Type 0) (old new : PassSeen) (message : Message) (request : Request) (text moments : List ℕ) (reply : Reply) (made : List ℕ) → asked message ≡ valid request
    → text_to_transform request ≡ Some text → IsReplyTo fails old new message moments reply made → AreTransformed new request.ask text (first_moment moments) made
reply-transformed fails old new message request text moments reply made is given (refused other) = tt
reply-transformed fails old new message request text moments reply made is given (answered {reply = told} passes x) =
    answered-transformed fails old new request text moments told made given (subst (λ (p : ParsedRequest). IsAnswered fails old new p moments told made) is x)
