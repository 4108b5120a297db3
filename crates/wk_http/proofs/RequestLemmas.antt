-- A request from the bytes of its head and its body.
use Rattle.std.proofs.Common.{◌≡◌, ℕ, ◌+◌, ◌-◌, ◌≤◌, List, [], ◌++◌, length, take, drop, ap, sym, ◌∙◌, subst, arith, take-append-drop, length-take, length-drop, slice_range}
use Rattle.std.proofs.lemmas.List.{length-append, take_all, drop_all, drop-drop}
use Rattle.std.proofs.Math.Seq.{drop-append_seam}
use Rattle.std.specs.List.{before_first, after_first, position_or_len}
use Rattle.httparse.specs.Grammar.{print_request}
use Rattle.httparse.specs.Spans.{span_bytes}
use Rattle.wk_wire_rules.specs.Heads.{Message, is_question_mark}
use Rattle.wk_wire_rules.specs.Messages.{HasHead, IsMessage}
use Rattle.wk_http.specs.declared.front.Accepted.{Accepted}
use Rattle.wk_http.specs.Front.{IsAccepted}

-- a target without a question mark is all path
pub path_alone : (target : List ℕ) → position_or_len is_question_mark target ≡ length target → target ≡ before_first is_question_mark target
path_alone target none = sym (ap (λ n. take n target) none ∙ take_all (length target) target (omega arith))

pub no_query : (target : List ℕ) → position_or_len is_question_mark target ≡ length target → [] ≡ after_first is_question_mark target
no_query target none = sym (ap (λ n. drop (n + 1) target) none ∙ drop_all (length target + 1) target (omega arith))

-- what follows the head
after_head : (bytes : List ℕ) (kept : Accepted) (x : IsAccepted bytes kept) → drop kept.head_len bytes ≡ x.rest
after_head bytes kept x =
    ap (λ n. drop n bytes) x.describes.head_len
    ∙ (ap (drop (length (print_request x.head))) x.reads.0.1 ∙ drop-append_seam (print_request x.head) x.rest)

pub accepted_is_short : (bytes : List ℕ) (kept : Accepted) → IsAccepted bytes kept → kept.head_len ≤ length bytes
accepted_is_short bytes kept x =
    omega (arith, x.describes.head_len, ap length x.reads.0.1, length-append (print_request x.head) x.rest)

pub message_is : (bytes : List ℕ) (kept : Accepted) (x : IsAccepted bytes kept) (message : Message) →
    kept.head_len + kept.body_len ≤ length bytes → message.method ≡ kept.method →
    message.path ≡ before_first is_question_mark (span_bytes bytes kept.target) →
    message.query ≡ after_first is_question_mark (span_bytes bytes kept.target) →
    message.body ≡ slice_range bytes kept.head_len (kept.head_len + kept.body_len) →
    message.multipart ≡ kept.multipart → message.last ≡ kept.last →
    IsMessage bytes message (drop (kept.head_len + kept.body_len) bytes)
message_is bytes kept x message whole method path query body multipart last =
    let count : kept.head_len + kept.body_len - kept.head_len ≡ kept.body_len = omega arith in
    let body_is : message.body ≡ take kept.body_len x.rest =
    body ∙ (ap (λ n. take n (drop kept.head_len bytes)) count ∙ ap (take kept.body_len) (after_head bytes kept x)) in
    let left_is : drop (kept.head_len + kept.body_len) bytes ≡ drop kept.body_len x.rest =
    sym (drop-drop kept.body_len kept.head_len bytes) ∙ ap (drop kept.body_len) (after_head bytes kept x) in
    let rest_is : message.body ++ drop (kept.head_len + kept.body_len) bytes ≡ x.rest =
    ap (λ b. b ++ drop (kept.head_len + kept.body_len) bytes) body_is
    ∙ (ap (λ r. take kept.body_len x.rest ++ r) left_is ∙ take-append-drop kept.body_len x.rest) in
    record {
      head = x.head;
      reads = subst (HasHead bytes x.head) (sym rest_is) x.reads;
      accepted = x.accepted;
      body =
          let rest_long : length (drop kept.head_len bytes) ≡ length x.rest = ap length (after_head bytes kept x) in
          ap length body_is
          ∙ omega (arith, x.describes.body_len, length-take kept.body_len x.rest, rest_long, length-drop kept.head_len bytes);
      says = λ i. record {
        method = (method ∙ x.describes.method) i;
        path = (path ∙ ap (before_first is_question_mark) x.describes.target) i;
        query = (query ∙ ap (after_first is_question_mark) x.describes.target) i;
        body = message.body;
        multipart = (multipart ∙ x.describes.multipart) i;
        last = (last ∙ x.describes.last) i;
      };
    }
