-- A head that isn't refused, from the spans that the parser gives.
use Rattle.std.proofs.Common.{◌≡◌, ℕ, ◌-◌, ◌≤◌, List, ◌++◌, length, take, drop, Some, None, ap, sym, ◌∙◌, subst, arith, length-drop}
use Rattle.std.proofs.lemmas.List.{length-append, drop-append-le, take-append-le}
use Rattle.std.specs.Prelude.{◌||◌, ◌==◌}
use Rattle.httparse.specs.declared.spans.HeaderSpan.{HeaderSpan}
use Rattle.httparse.specs.declared.spans.RequestSpans.{RequestSpans}
use Rattle.httparse.specs.declared.spans.Span.{Span}
use Rattle.httparse.specs.Grammar.{print_request}
use Rattle.httparse.specs.Spans.{IsWithin, span_bytes, IsRequestWithin, IsRequestOf}
use Rattle.wk_wire_rules.specs.Heads.{fields_of, lengths, length_said, method_of, is_multipart, asks_to_close, refusal_of}
use Rattle.wk_wire_rules.specs.Messages.{most_head, HasHead, IsBad, refused}
use Rattle.wk_http.specs.declared.front.Accepted.{Accepted}
use Rattle.wk_http.specs.Fields.{fields_in}
use Rattle.wk_http.specs.Front.{IsAccepted}
use Rattle.wk_http.proofs.FrontLemmas.{head_of_window}
use Rattle.wk_http.proofs.MessageLemmas.{HasHead-append}

span_front : (bytes more : List ℕ) (s : Span) → IsWithin (length bytes) s → span_bytes (bytes ++ more) s ≡ span_bytes bytes s
span_front bytes more s within =
    let inside : s.end - s.start ≤ length (drop s.start bytes) = omega (arith, within.0, within.1, length-drop s.start bytes) in
    ap (take (s.end - s.start)) (drop-append-le s.start bytes more (omega (arith, within.0, within.1)))
    ∙ take-append-le (s.end - s.start) (drop s.start bytes) more inside

-- the head stays accepted when more bytes come
pub IsAccepted-append : (bytes more : List ℕ) (kept : Accepted) → IsAccepted bytes kept → IsAccepted (bytes ++ more) kept
IsAccepted-append bytes more kept x =
    let inside : kept.head_len ≤ length bytes =
    omega (arith, x.describes.head_len, ap length x.reads.0.1, length-append (print_request x.head) x.rest) in
    let within : IsWithin (length bytes) kept.target =
    (x.describes.within.0, omega (arith, x.describes.within.1, inside)) in
    record {
      head = x.head;
      rest = x.rest ++ more;
      reads = HasHead-append bytes more x.head x.rest x.reads;
      accepted = x.accepted;
      describes = record {
        head_len = x.describes.head_len;
        body_len = x.describes.body_len;
        method = x.describes.method;
        within = x.describes.within;
        target = span_front bytes more kept.target within ∙ x.describes.target;
        multipart = x.describes.multipart;
        last = x.describes.last;
      };
    }

module _ (window : List ℕ) (headers : List HeaderSpan) (r : RequestSpans) (short : length window ≤ most_head)
    (within : IsRequestWithin window headers r) (reads : IsRequestOf window headers r) where
  -- what the checks are made of
  fields_are : fields_in window (take r.headers headers) ≡ fields_of reads.0
  fields_are = reads.1.fields

  method_is : method_of (span_bytes window r.method) ≡ method_of reads.0.method
  method_is = ap method_of reads.1.method

  has_head : HasHead window reads.0 (drop r.len window)
  has_head = head_of_window window reads.0 (drop r.len window) short reads.1.reads

  pub refused_at : (more : List ℕ) (status : ℕ) →
      refusal_of (method_of (span_bytes window r.method)) (fields_in window (take r.headers headers)) ≡ Some status → IsBad (window ++ more) status
  refused_at more status is =
      refused reads.0 (drop r.len window ++ more) (HasHead-append window more reads.0 (drop r.len window) has_head)
      (ap (λ m. refusal_of m (fields_of reads.0)) (sym method_is)
      ∙ (ap (refusal_of (method_of (span_bytes window r.method))) (sym fields_are) ∙ is))

  pub accepted_at : (more : List ℕ) (kept : Accepted) → kept.head_len ≡ r.len →
      kept.body_len ≡ length_said (lengths (fields_in window (take r.headers headers))) →
      kept.method ≡ method_of (span_bytes window r.method) → kept.target ≡ r.path →
      kept.multipart ≡ is_multipart (fields_in window (take r.headers headers)) →
      kept.last ≡ (r.version == 0 || asks_to_close (fields_in window (take r.headers headers))) →
      refusal_of (method_of (span_bytes window r.method)) (fields_in window (take r.headers headers)) ≡ None →
      IsAccepted (window ++ more) kept
  accepted_at more kept head_len body_len method target multipart last accepted =
      IsAccepted-append window more kept record {
        head = reads.0;
        rest = drop r.len window;
        reads = has_head;
        accepted =
            ap (λ m. refusal_of m (fields_of reads.0)) (sym method_is)
            ∙ (ap (refusal_of (method_of (span_bytes window r.method))) (sym fields_are) ∙ accepted);
        describes = record {
          head_len = head_len ∙ reads.1.len;
          body_len = body_len ∙ ap (λ fs. length_said (lengths fs)) fields_are;
          method = method ∙ method_is;
          within = subst (IsWithin kept.head_len) (sym target) (subst (λ n. IsWithin n r.path) (sym head_len) within.path);
          target = ap (span_bytes window) target ∙ reads.1.path;
          multipart = multipart ∙ ap is_multipart fields_are;
          last = last ∙ (ap (λ v. v == 0 || asks_to_close (fields_in window (take r.headers headers))) reads.1.version
              ∙ ap (λ fs. reads.0.minor == 0 || asks_to_close fs) fields_are);
        };
      }
