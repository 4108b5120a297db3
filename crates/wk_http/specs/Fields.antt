-- What the spans of a head's fields cover, and what the checks find.
use Rattle.std.specs.Prelude.{◌≡◌, ℕ, List, map, Some, None}
use Rattle.httparse.specs.declared.spans.HeaderSpan.{HeaderSpan}
use Rattle.httparse.specs.Spans.{header_bytes}
use Rattle.wk_wire_rules.specs.declared.Method.{Method}
use Rattle.wk_wire_rules.specs.Heads.{Fields, lengths, length_said, refusal_of}
use Rattle.wk_http.specs.declared.fields.Judged.{Judged}
use Rattle.wk_http.specs.declared.fields.Judged.TheVariants.{Refused, Accepted}

-- the names and the values that the spans cover
abbrev pub fields_in : List ℕ → List HeaderSpan → Fields
fields_in bytes headers = map (header_bytes bytes) headers

-- the status of the first check that fails, or the length of the body where none fails
abbrev pub IsJudged : Method → Fields → Judged → Type 0
IsJudged method fields (Refused status) = refusal_of method fields ≡ Some status
IsJudged method fields (Accepted count) = (refusal_of method fields ≡ None) × (count ≡ length_said (lengths fields))
