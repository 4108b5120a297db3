-- How long the bytes of a head are, and what its checks say of the body's length.
use Rattle.std.proofs.Common.{◌≡◌, ℕ, ◌+◌, ◌*◌, ◌≤◌, Bool, true, false, cond, Option, Some, None, List, [], ◌∷◌, ◌++◌, length, codes, refl, ap, arith}
use Rattle.std.proofs.lemmas.List.{length-append}
use Rattle.std.proofs.lemmas.List.Elements.{All-head, All-tail}
use Rattle.std.proofs.lemmas.Bool.{ltb-false}
use Rattle.std.specs.Prelude.{All, nat_lt, not, ◌&&◌}
use Rattle.std.specs.List.{flat_map}
use Rattle.httparse.specs.Grammar.{LineEnd, crlf, lf, print_end, print_blank, print_version, Field, print_field, IsField, print_section, RequestHead, IsRequestHead, print_request}
use Rattle.httparse.proofs.GrammarLemmas.{print_request-append}
use Rattle.wk_wire_rules.specs.Heads.{fields_of, is_sent, lengths, agree, method_of, is_post, body_length, refusal, most_headers, most_body}

end_is_long : (end : LineEnd) → 1 ≤ length (print_end end)
end_is_long crlf = omega arith
end_is_long lf = omega arith

-- a name of one byte at least, a colon and a line end
field_is_long : (f : Field) → IsField f → 3 ≤ length (print_field f)
field_is_long f is =
    omega (arith, is.name.0, end_is_long f.end, length-append (f.name ++ 58 ∷ f.raw) (print_end f.end), length-append f.name (58 ∷ f.raw))

fields_are_long : (fields : List Field) → All IsField fields → 3 * length fields ≤ length (flat_map print_field fields)
fields_are_long [] all = omega arith
fields_are_long (f ∷ fields) all =
    omega (
      arith,
      field_is_long f (All-head IsField f fields all),
      fields_are_long fields (All-tail IsField f fields all),
      length-append (print_field f) (flat_map print_field fields),
    )

pub target_is_short : (h : RequestHead) → length h.target ≤ length (print_request h)
target_is_short h =
    let behind_target = 32 ∷ (print_version h.minor ++ (print_end h.line_end ++ (print_section h.fields h.last ++ []))) in
    let behind_method = 32 ∷ (h.target ++ behind_target) in
    let whole : length (print_request h ++ []) ≡ length (print_blank h.blank ++ (h.method ++ behind_method)) =
    ap length (print_request-append h []) in
    omega (
      arith,
      whole,
      length-append (print_request h) [],
      length-append (print_blank h.blank) (h.method ++ behind_method),
      length-append h.method behind_method,
      length-append h.target behind_target,
    )

-- a head line has three bytes at least, beside the two spaces of the first line
pub head_is_long : (h : RequestHead) → IsRequestHead h → 3 * length h.fields + 2 ≤ length (print_request h)
head_is_long h is =
    let section = print_section h.fields h.last in
    let behind_version = print_end h.line_end ++ (section ++ []) in
    let behind_target = 32 ∷ (print_version h.minor ++ behind_version) in
    let behind_method = 32 ∷ (h.target ++ behind_target) in
    let whole : length (print_request h ++ []) ≡ length (print_blank h.blank ++ (h.method ++ behind_method)) =
    ap length (print_request-append h []) in
    omega (
      arith,
      whole,
      length-append (print_request h) [],
      length-append (print_blank h.blank) (h.method ++ behind_method),
      length-append h.method behind_method,
      length-append h.target behind_target,
      length-append (print_version h.minor) behind_version,
      length-append (print_end h.line_end) (section ++ []),
      length-append section [],
      length-append (flat_map print_field h.fields) (print_end h.last),
      fields_are_long h.fields is.fields,
    )

-- ---- what the checks say of the body

last_test : (a b c d e : Bool) →
    cond {A = Option ℕ} a (Some 400) (cond b (Some 501) (cond c (Some 400) (cond d (Some 411) (cond e (Some 413) None)))) ≡ None → e ≡ false
last_test true b c d e is = absurd (cc)
last_test false true c d e is = absurd (cc)
last_test false false true d e is = absurd (cc)
last_test false false false true e is = absurd (cc)
last_test false false false false true is = absurd (cc)
last_test false false false false false is = refl

pub accepted_body : (h : RequestHead) → refusal h ≡ None → body_length h ≤ most_body
accepted_body h is =
    let fields = fields_of h in
    ltb-false most_body (body_length h)
    (last_test (nat_lt most_headers (length fields)) (is_sent (codes "transfer-encoding") fields) (not (agree (lengths fields)))
    (is_post (method_of h.method) && not (is_sent (codes "content-length") fields)) (nat_lt most_body (body_length h)) is)
