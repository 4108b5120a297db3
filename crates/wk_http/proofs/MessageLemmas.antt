-- What stands at the front of a stream: it stays there whatever follows, and it is one thing only.
use Rattle.std.proofs.Common.{◌≡◌, ℕ, zero, suc, Bool, ◌+◌, ◌<◌, ◌≤◌, true, false, List, [], ◌∷◌, ◌++◌, length, Some, None, refl, ap, sym, ◌∙◌, subst, arith, append_assoc, length-take, length-drop}
use Rattle.std.proofs.lemmas.List.{length-append}
use Rattle.std.specs.List.{position_or_len}
use Rattle.httparse.specs.Grammar.{RequestHead, print_request, ReadsRequest}
use Rattle.httparse.proofs.GrammarLemmas.{ReadsRequest-append, request_unique}
use Rattle.wk_wire_rules.specs.Heads.{Message, message_of, is_question_mark, most_body, body_length, refusal}
use Rattle.wk_wire_rules.specs.Messages.{most_head, HasHead, IsMessage, IsBad, no_head, too_long, refused, IsOpen, Ending, between, within, closed, bad, Messages, ends_between, ends_within, ends_bad, ends_closed, goes_on}
use Rattle.wk_http.proofs.HeadLemmas.{head_is_long, target_is_short, accepted_body}
use Rattle.wk_http.proofs.ListLemmas.{split_append, split_equal}
use Rattle.wk_http.proofs.TargetLemmas.{can_begin_front, can_begin_head, can_begin_nothing}

-- ---- more bytes

pub HasHead-append : (bytes more : List ℕ) (h : RequestHead) (rest : List ℕ) → HasHead bytes h rest → HasHead (bytes ++ more) h (rest ++ more)
HasHead-append bytes more h rest x = (ReadsRequest-append bytes h rest more x.0, x.1)

-- a head that is whole in the first bytes is whole in these
pub HasHead-front : (bytes more : List ℕ) (h : RequestHead) (rest : List ℕ) → length (print_request h) ≤ length bytes →
    ReadsRequest (bytes ++ more) h rest → (x : List ℕ) × ReadsRequest bytes h x × (rest ≡ x ++ more)
HasHead-front bytes more h rest inside reads =
    let parts = split_append (print_request h) rest bytes more (sym reads.1) inside in
    (parts.0, (reads.0, parts.1), parts.2)

pub IsMessage-append : (bytes more rest : List ℕ) (message : Message) → IsMessage bytes message rest → IsMessage (bytes ++ more) message (rest ++ more)
IsMessage-append bytes more rest message x = record {
  head = x.head;
  reads = subst (HasHead (bytes ++ more) x.head) (append_assoc message.body rest more)
      (HasHead-append bytes more x.head (message.body ++ rest) x.reads);
  accepted = x.accepted;
  body = x.body;
  says = x.says;
}

pub IsBad-append : (bytes more : List ℕ) (status : ℕ) → IsBad bytes status → IsBad (bytes ++ more) status
IsBad-append bytes more status (no_head none) = no_head (λ can. none (can_begin_front bytes more can))
IsBad-append bytes more status (too_long long none) =
    too_long (omega (arith, length-append bytes more))
    (λ h rest reads. let front = HasHead-front bytes more h rest (omega (arith, reads.1)) reads.0 in none h front.0 (front.1, reads.1))
IsBad-append bytes more status (refused h rest reads is) = refused h (rest ++ more) (HasHead-append bytes more h rest reads) is

-- ---- one thing only

pub HasHead_unique : (bytes : List ℕ) (h k : RequestHead) (rest left : List ℕ) → HasHead bytes h rest → HasHead bytes k left → (h ≡ k) × (rest ≡ left)
HasHead_unique bytes h k rest left x y = request_unique bytes h k rest left x.0 y.0

pub IsMessage_unique : (bytes rest left : List ℕ) (message other : Message) → IsMessage bytes message rest → IsMessage bytes other left →
    (message ≡ other) × (rest ≡ left)
IsMessage_unique bytes rest left message other x y =
    let heads = HasHead_unique bytes x.head y.head (message.body ++ rest) (other.body ++ left) x.reads y.reads in
    let counts : length message.body ≡ length other.body = x.body ∙ (ap body_length heads.0 ∙ sym y.body) in
    let bodies = split_equal message.body rest other.body left heads.1 counts in
    (x.says ∙ (ap (λ h. message_of h message.body) heads.0 ∙ (ap (message_of y.head) bodies.0 ∙ sym y.says)), bodies.1)

pub not_both : (bytes rest : List ℕ) (message : Message) (status : ℕ) → IsMessage bytes message rest → IsBad bytes status → ⊥
not_both bytes rest message status x (no_head none) = none (can_begin_head bytes x.head (message.body ++ rest) x.reads.0)
not_both bytes rest message status x (too_long long none) = none x.head (message.body ++ rest) x.reads
not_both bytes rest message status x (refused h left reads is) =
    let heads = HasHead_unique bytes h x.head left (message.body ++ rest) reads x.reads in
    let none : refusal h ≡ None = ap refusal heads.0 ∙ x.accepted in
    cc

pub IsBad_unique : (bytes : List ℕ) (status other : ℕ) → IsBad bytes status → IsBad bytes other → status ≡ other
IsBad_unique bytes status other (no_head none) (no_head also) = refl
IsBad_unique bytes status other (no_head none) (too_long long also) = refl
IsBad_unique bytes status other (no_head none) (refused h rest reads is) = absurd (none (can_begin_head bytes h rest reads.0))
IsBad_unique bytes status other (too_long long none) (no_head also) = refl
IsBad_unique bytes status other (too_long long none) (too_long long_too also) = refl
IsBad_unique bytes status other (too_long long none) (refused h rest reads is) = absurd (none h rest reads)
IsBad_unique bytes status other (refused h rest reads is) (no_head also) = absurd (also (can_begin_head bytes h rest reads.0))
IsBad_unique bytes status other (refused h rest reads is) (too_long long also) = absurd (also h rest reads)
IsBad_unique bytes status other (refused h rest reads is) (refused k left reads_too is_too) =
    let heads = HasHead_unique bytes h k rest left reads reads_too in
    let same : Some status ≡ Some other = sym is ∙ (ap refusal heads.0 ∙ is_too) in
    cc

nothing_has_no_head : (h : RequestHead) (rest : List ℕ) → ¬ (HasHead [] h rest)
nothing_has_no_head h rest reads =
    absurd (omega (arith, head_is_long h reads.0.0, ap length reads.0.1, length-append (print_request h) rest))

pub IsOpen-nil : IsOpen []
IsOpen-nil = record {
  no_message = λ message rest x. nothing_has_no_head x.head (message.body ++ rest) x.reads;
  no_bad_place = bad_nothing;
}
  where
    bad_nothing : (status : ℕ) → ¬ (IsBad [] status)
    bad_nothing status (no_head none) = none can_begin_nothing
    bad_nothing status (too_long long none) = absurd (omega arith)
    bad_nothing status (refused h rest reads is) = nothing_has_no_head h rest reads

-- ---- a whole stream

pub Messages_unique : (bytes : List ℕ) (messages others : List Message) (ending other : Ending) →
    Messages bytes messages ending → Messages bytes others other → (messages ≡ others) × (ending ≡ other)
Messages_unique bytes messages others ending other ends_between ends_between = (refl, refl)
Messages_unique bytes messages others ending other ends_between (ends_within some open_too) = absurd (some refl)
Messages_unique bytes messages others ending other ends_between (ends_bad bad_too) = absurd (IsOpen-nil.no_bad_place _ bad_too)
Messages_unique bytes messages others ending other ends_between (ends_closed y last) = absurd (IsOpen-nil.no_message _ _ y)
Messages_unique bytes messages others ending other ends_between (goes_on y last later) = absurd (IsOpen-nil.no_message _ _ y)
Messages_unique bytes messages others ending other (ends_within some is_open) ends_between = absurd (some refl)
Messages_unique bytes messages others ending other (ends_within some is_open) (ends_within some_too open_too) = (refl, refl)
Messages_unique bytes messages others ending other (ends_within some is_open) (ends_bad bad_too) = absurd (is_open.no_bad_place _ bad_too)
Messages_unique bytes messages others ending other (ends_within some is_open) (ends_closed y last) = absurd (is_open.no_message _ _ y)
Messages_unique bytes messages others ending other (ends_within some is_open) (goes_on y last later) = absurd (is_open.no_message _ _ y)
Messages_unique bytes messages others ending other (ends_bad is_bad) ends_between = absurd (IsOpen-nil.no_bad_place _ is_bad)
Messages_unique bytes messages others ending other (ends_bad is_bad) (ends_within some open_too) = absurd (open_too.no_bad_place _ is_bad)
Messages_unique bytes messages others ending other (ends_bad is_bad) (ends_bad bad_too) = (refl, ap bad (IsBad_unique bytes _ _ is_bad bad_too))
Messages_unique bytes messages others ending other (ends_bad is_bad) (ends_closed y last) = absurd (not_both bytes _ _ _ y is_bad)
Messages_unique bytes messages others ending other (ends_bad is_bad) (goes_on y last later) = absurd (not_both bytes _ _ _ y is_bad)
Messages_unique bytes messages others ending other (ends_closed x last) ends_between = absurd (IsOpen-nil.no_message _ _ x)
Messages_unique bytes messages others ending other (ends_closed x last) (ends_within some open_too) = absurd (open_too.no_message _ _ x)
Messages_unique bytes messages others ending other (ends_closed x last) (ends_bad bad_too) = absurd (not_both bytes _ _ _ x bad_too)
Messages_unique bytes messages others ending other (ends_closed x last) (ends_closed y last_too) =
    let same = IsMessage_unique bytes _ _ _ _ x y in (ap (λ m. m ∷ []) same.0, refl)
Messages_unique bytes messages others ending other (ends_closed x last) (goes_on y last_too later) =
    let same = IsMessage_unique bytes _ _ _ _ x y in
    let both : true ≡ false = sym last ∙ (ap (λ m. m.last) same.0 ∙ last_too) in
    absurd (cc)
Messages_unique bytes messages others ending other (goes_on x last later) ends_between = absurd (IsOpen-nil.no_message _ _ x)
Messages_unique bytes messages others ending other (goes_on x last later) (ends_within some open_too) = absurd (open_too.no_message _ _ x)
Messages_unique bytes messages others ending other (goes_on x last later) (ends_bad bad_too) = absurd (not_both bytes _ _ _ x bad_too)
Messages_unique bytes messages others ending other (goes_on x last later) (ends_closed y last_too) =
    let same = IsMessage_unique bytes _ _ _ _ x y in
    let both : true ≡ false = sym last_too ∙ (ap (λ m. m.last) (sym same.0) ∙ last) in
    absurd (cc)
Messages_unique bytes messages others ending other (goes_on {messages = later_messages} x last later) (goes_on {messages = other_messages} y last_too later_too) =
    let same = IsMessage_unique bytes _ _ _ _ x y in
    let tails = Messages_unique _ _ _ _ _ later (subst (λ (t : List ℕ). Messages t other_messages other) (sym same.1) later_too) in
    (cc, tails.1)

-- ---- a message's parts

pub message_takes : (bytes rest : List ℕ) (message : Message) → IsMessage bytes message rest → length rest < length bytes
message_takes bytes rest message x =
    omega (
      arith,
      head_is_long x.head x.reads.0.0,
      ap length x.reads.0.1,
      length-append (print_request x.head) (message.body ++ rest),
      length-append message.body rest,
    )

target_of_message : (bytes rest : List ℕ) (message : Message) (x : IsMessage bytes message rest) → length x.head.target ≤ most_head
target_of_message bytes rest message x = omega (arith, target_is_short x.head, x.reads.1)

pub path_is_short : (bytes rest : List ℕ) (message : Message) → IsMessage bytes message rest → length message.path ≤ most_head
path_is_short bytes rest message x =
    let at = position_or_len is_question_mark x.head.target in
    omega (arith, target_of_message bytes rest message x, ap (λ m. length m.path) x.says, length-take at x.head.target)

pub query_is_short : (bytes rest : List ℕ) (message : Message) → IsMessage bytes message rest → length message.query ≤ most_head
query_is_short bytes rest message x =
    let at = position_or_len is_question_mark x.head.target in
    omega (arith, target_of_message bytes rest message x, ap (λ m. length m.query) x.says, length-drop (at + 1) x.head.target)

pub body_is_short : (bytes rest : List ℕ) (message : Message) → IsMessage bytes message rest → length message.body ≤ most_body
body_is_short bytes rest message x = omega (arith, x.body, accepted_body x.head x.accepted)

-- ---- a stream has a reading

abbrev pub Reading : List ℕ → Type 0
Reading bytes = (messages : List Message) × (ending : Ending) × Messages bytes messages ending

open_reading : (bytes : List ℕ) → IsOpen bytes → Reading bytes
open_reading [] is = ([], between, ends_between)
open_reading (b ∷ bytes) is = ([], within, ends_within (λ e. cc) is)

reading_from : (n : ℕ) (bytes : List ℕ) → length bytes < suc n → ((rest : List ℕ) → length rest < n → ¬ (¬ (Reading rest))) → ¬ (¬ (Reading bytes))
reading_from n bytes short later none =
    none (open_reading bytes record {
      no_message = λ message rest x. by_last message rest x message.last refl;
      no_bad_place = λ status x. none ([], bad status, ends_bad x);
    })
  where
    by_last : (message : Message) (rest : List ℕ) → IsMessage bytes message rest → (last : Bool) → message.last ≡ last → ⊥
    by_last message rest x true e = none (message ∷ [], closed, ends_closed x e)
    by_last message rest x false e =
        later rest (omega (arith, message_takes bytes rest message x)) (λ r. none (message ∷ r.0, r.1, goes_on x e r.2))

has_reading : (n : ℕ) (bytes : List ℕ) → length bytes < n → ¬ (¬ (Reading bytes))
has_reading zero bytes short = absurd (omega arith)
has_reading (suc n) bytes short = reading_from n bytes short (has_reading n)

pub some_reading : (bytes : List ℕ) → ¬ (¬ (Reading bytes))
some_reading bytes = has_reading (length bytes + 1) bytes (omega arith)
