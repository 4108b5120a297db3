-- Where bytes end that a head can begin with: with one byte more, and that they are open.
use Rattle.std.proofs.Common.{◌≡◌, ◌≢◌, ℕ, codes, ◌+◌, ◌-◌, ◌<◌, true, List, [], ◌∷◌, ◌++◌, length, get_or, take, drop, take-append-drop, refl, ap, sym, ◌∙◌, subst, arith, append_assoc, append-nil, inl, inr}
use Rattle.std.proofs.lemmas.List.{length-append, drop_all, drop_more, take_all}
use Rattle.std.proofs.lemmas.List.Elements.{All-nil, All-cons, All-push}
use Rattle.std.proofs.lemmas.Grind.{flat_map-append}
use Rattle.std.specs.List.{flat_map}
use Rattle.httparse.specs.Grammar.{Field, HasNoRequest, IsField, LineEnd, ReadsRequest, RequestHead, crlf, is_token_byte, is_value_byte, lf, print_blank, print_end, print_field, print_request, print_version}
use Rattle.httparse.proofs.GrammarLemmas.{ReadsRequest-append, print_request-append, request_unique}
use Rattle.wk_wire_rules.specs.Messages.{CanBegin, EndsWithinTarget, IsOpen, most_head}
use Rattle.wk_http.specs.Places.{AreEmptyLines, AreLines, EndsAt, EndsInMethod, EndsInName, EndsInValue, lines_of}
use Rattle.wk_http.specs.declared.places.Place.{Place}
use Rattle.wk_http.specs.declared.places.Place.TheVariants.{Empty, EmptyReturn, Method, Target, Line, Name, Value, Return}
use Rattle.wk_http.proofs.FrontLemmas.{open_without_head}
use Rattle.wk_http.proofs.ListLemmas.{split_equal}
use Rattle.wk_http.proofs.TargetLemmas.{blank_push, short_head, short_head_reads, target_has_no_head}

-- ---- lines

lines_and_end : (h : RequestHead) → lines_of h ++ print_end h.last ≡ print_request h ++ []
lines_and_end h =
    regroup (print_blank h.blank) h.method h.target (print_version h.minor) (print_end h.line_end) (flat_map print_field h.fields) (print_end h.last)
    ∙ sym (print_request-append h [])
  where
    regroup : (a b c d e f r : List ℕ)
        → (a ++ (b ++ 32 ∷ (c ++ 32 ∷ (d ++ (e ++ f))))) ++ r ≡ a ++ (b ++ 32 ∷ (c ++ 32 ∷ (d ++ (e ++ ((f ++ r) ++ [])))))
    regroup a b c d e f r = simp (append_assoc, append-nil)

more_lines : (h : RequestHead) (f : Field) → lines_of (record h { fields = h.fields ++ f ∷ [] }) ≡ lines_of h ++ print_field f
more_lines h f =
    ap (λ (fields : List ℕ). print_blank h.blank ++ (h.method ++ 32 ∷ (h.target ++ 32 ∷ (print_version h.minor ++ (print_end h.line_end ++ fields)))))
    (flat_map-append print_field h.fields (f ∷ []) ∙ ap (λ (t : List ℕ). flat_map print_field h.fields ++ t) (append-nil (print_field f)))
    ∙ regroup (print_blank h.blank) h.method h.target (print_version h.minor) (print_end h.line_end) (flat_map print_field h.fields) (print_field f)
  where
    regroup : (a b c d e f r : List ℕ)
        → a ++ (b ++ 32 ∷ (c ++ 32 ∷ (d ++ (e ++ (f ++ r))))) ≡ (a ++ (b ++ 32 ∷ (c ++ 32 ∷ (d ++ (e ++ f))))) ++ r
    regroup a b c d e f r = simp (append_assoc)

-- a field's line behind lines
pub field_line : (front : List ℕ) (f : Field) → AreLines front → IsField f → AreLines (front ++ print_field f)
field_line front f x is = record {
  head = record x.head { fields = x.head.fields ++ f ∷ [] };
  is = record {
    method = x.is.method;
    target = x.is.target;
    target_text = x.is.target_text;
    minor = x.is.minor;
    fields = All-push IsField x.head.fields f x.is.fields is;
  };
  lines = ap (λ (t : List ℕ). t ++ print_field f) x.lines ∙ sym (more_lines x.head f);
}

-- an empty line behind lines ends a head
pub lines_complete : (bytes : List ℕ) → AreLines bytes → (h : RequestHead) × ReadsRequest (bytes ++ 10 ∷ []) h []
lines_complete bytes x =
    let h : RequestHead = record x.head { last = lf } in (
      h,
      (
        record {
          method = x.is.method;
          target = x.is.target;
          target_text = x.is.target_text;
          minor = x.is.minor;
          fields = x.is.fields;
        },
        ap (λ (t : List ℕ). t ++ 10 ∷ []) x.lines ∙ lines_and_end h,
      ),
    )

same_last : (a b : List ℕ) (x y : ℕ) → a ++ x ∷ [] ≡ b ++ y ∷ [] → (a ≡ b) × (x ≡ y)
same_last a b x y e =
    let parts = split_equal a (x ∷ []) b (y ∷ []) e (omega (arith, ap length e, length-append a (x ∷ []), length-append b (y ∷ []))) in
    (parts.0, cc)

-- lines are there where an empty line behind a newline ends a head
pub lines_before : (bytes init : List ℕ) (h : RequestHead) → bytes ≡ init ++ 10 ∷ [] → ReadsRequest (bytes ++ 10 ∷ []) h [] → AreLines bytes
lines_before bytes init h newline reads = by_last h.last refl
  where
    whole : bytes ++ 10 ∷ [] ≡ lines_of h ++ print_end h.last
    whole = reads.1 ∙ sym (lines_and_end h)

    by_last : (last : LineEnd) → h.last ≡ last → AreLines bytes
    by_last lf is = record {
      head = h;
      is = reads.0;
      lines = (same_last bytes (lines_of h) 10 10 (whole ∙ ap (λ (end : LineEnd). lines_of h ++ print_end end) is)).0;
    }
    by_last crlf is =
        let ends : bytes ++ 10 ∷ [] ≡ (lines_of h ++ 13 ∷ []) ++ 10 ∷ [] =
        whole ∙ (ap (λ (end : LineEnd). lines_of h ++ print_end end) is ∙ sym (append_assoc (lines_of h) (13 ∷ []) (10 ∷ []))) in
        let cut = same_last bytes (lines_of h ++ 13 ∷ []) 10 10 ends in
        let other = same_last init (lines_of h) 10 13 (sym newline ∙ cut.0) in
        absurd (omega (arith, other.1))

pub ends_in : (bytes : List ℕ) (byte : ℕ) → 0 < length bytes → get_or bytes (length bytes - 1) 0 ≡ byte → bytes ≡ take (length bytes - 1) bytes ++ byte ∷ []
ends_in bytes byte some is =
    let at = length bytes - 1 in
    sym (take-append-drop at bytes)
    ∙ ap (λ (t : List ℕ). take at bytes ++ t)
    (drop_more bytes at 0 (omega arith)
    ∙ ap (λ (b : ℕ). b ∷ drop (at + 1) bytes) is
    ∙ ap (λ (t : List ℕ). byte ∷ t) (drop_all (at + 1) bytes (omega arith)))

-- ---- one byte more

-- no bytes are no empty lines
pub none_are_empty : AreEmptyLines [] []
none_are_empty = record { blank = []; bytes_are = refl }

-- the tail and these bytes are a line's end
empty_ends : (bytes tail more : List ℕ) (end : LineEnd) → tail ++ more ≡ print_end end → AreEmptyLines bytes tail → AreEmptyLines (bytes ++ more) []
empty_ends bytes tail more end ends x = record {
  blank = x.blank ++ end ∷ [];
  bytes_are = blank_push x.blank end (bytes ++ more) (tail ++ more) []
      (ap (λ (t : List ℕ). t ++ more) x.bytes_are ∙ append_assoc (print_blank x.blank) tail more)
      (ends ∙ sym (append-nil (print_end end)));
}

pub empty_line : (bytes : List ℕ) → AreEmptyLines bytes [] → AreEmptyLines (bytes ++ 10 ∷ []) []
empty_line bytes x = empty_ends bytes [] (10 ∷ []) lf refl x

pub empty_line_behind_return : (bytes : List ℕ) → AreEmptyLines bytes (13 ∷ []) → AreEmptyLines (bytes ++ 10 ∷ []) []
empty_line_behind_return bytes x = empty_ends bytes (13 ∷ []) (10 ∷ []) crlf refl x

pub empty_returns : (bytes : List ℕ) → AreEmptyLines bytes [] → AreEmptyLines (bytes ++ 13 ∷ []) (13 ∷ [])
empty_returns bytes x = record {
  blank = x.blank;
  bytes_are = ap (λ (t : List ℕ). t ++ 13 ∷ []) (x.bytes_are ∙ append-nil (print_blank x.blank));
}

pub method_begins : (bytes : List ℕ) (byte : ℕ) → is_token_byte byte ≡ true → AreEmptyLines bytes [] → EndsInMethod (bytes ++ byte ∷ [])
method_begins bytes byte passes x = record {
  blank = x.blank;
  method = byte ∷ [];
  token = (omega arith, All-cons (λ b. is_token_byte b ≡ true) byte [] passes (All-nil _));
  bytes_are = ap (λ (t : List ℕ). t ++ byte ∷ []) (x.bytes_are ∙ append-nil (print_blank x.blank));
}

pub method_goes_on : (bytes : List ℕ) (byte : ℕ) → is_token_byte byte ≡ true → EndsInMethod bytes → EndsInMethod (bytes ++ byte ∷ [])
method_goes_on bytes byte passes x = record {
  blank = x.blank;
  method = x.method ++ byte ∷ [];
  token = (
    omega (arith, length-append x.method (byte ∷ [])),
    All-push (λ b. is_token_byte b ≡ true) x.method byte x.token.1 passes,
  );
  bytes_are = ap (λ (t : List ℕ). t ++ byte ∷ []) x.bytes_are ∙ append_assoc (print_blank x.blank) x.method (byte ∷ []);
}

pub target_begins : (bytes : List ℕ) → EndsInMethod bytes → EndsWithinTarget (bytes ++ 32 ∷ [])
target_begins bytes x = (
  x.blank,
  x.method,
  [],
  x.token,
  All-nil _,
  ap (λ (t : List ℕ). t ++ 32 ∷ []) x.bytes_are,
)

pub in_target : (bytes : List ℕ) (byte : ℕ) → byte ≢ 32 → EndsWithinTarget bytes → EndsWithinTarget (bytes ++ byte ∷ [])
in_target bytes byte other x = (
  x.0,
  x.1,
  x.2 ++ byte ∷ [],
  x.3,
  All-push (λ b. b ≢ 32) x.2 byte x.4 other,
  ap (λ (t : List ℕ). t ++ byte ∷ []) x.5 ∙ append_assoc (print_blank x.0 ++ x.1) (32 ∷ x.2) (byte ∷ []),
)

pub name_begins : (bytes : List ℕ) (byte : ℕ) → is_token_byte byte ≡ true → AreLines bytes → EndsInName (bytes ++ byte ∷ [])
name_begins bytes byte passes x = record {
  front = bytes;
  lines = x;
  name = byte ∷ [];
  token = (omega arith, All-cons (λ b. is_token_byte b ≡ true) byte [] passes (All-nil _));
  bytes_are = refl;
}

pub name_goes_on : (bytes : List ℕ) (byte : ℕ) → is_token_byte byte ≡ true → EndsInName bytes → EndsInName (bytes ++ byte ∷ [])
name_goes_on bytes byte passes x = record {
  front = x.front;
  lines = x.lines;
  name = x.name ++ byte ∷ [];
  token = (
    omega (arith, length-append x.name (byte ∷ [])),
    All-push (λ b. is_token_byte b ≡ true) x.name byte x.token.1 passes,
  );
  bytes_are = ap (λ (t : List ℕ). t ++ byte ∷ []) x.bytes_are ∙ append_assoc x.front x.name (byte ∷ []);
}

pub value_begins : (bytes : List ℕ) → EndsInName bytes → EndsInValue (bytes ++ 58 ∷ []) []
value_begins bytes x = record {
  front = x.front;
  lines = x.lines;
  name = x.name;
  token = x.token;
  raw = [];
  all = All-nil _;
  bytes_are = ap (λ (t : List ℕ). t ++ 58 ∷ []) x.bytes_are ∙ append_assoc x.front x.name (58 ∷ []);
}

behind_tail : (a b c d e : List ℕ) → (a ++ (b ++ 58 ∷ (c ++ d))) ++ e ≡ a ++ (b ++ 58 ∷ (c ++ (d ++ e)))
behind_tail a b c d e = simp (append_assoc)

pub value_goes_on : (bytes : List ℕ) (byte : ℕ) → is_value_byte byte ≡ true → EndsInValue bytes [] → EndsInValue (bytes ++ byte ∷ []) []
value_goes_on bytes byte passes x = record {
  front = x.front;
  lines = x.lines;
  name = x.name;
  token = x.token;
  raw = x.raw ++ byte ∷ [];
  all = All-push (λ b. is_value_byte b ≡ true) x.raw byte x.all passes;
  bytes_are = ap (λ (t : List ℕ). t ++ byte ∷ []) x.bytes_are
      ∙ (behind_tail x.front x.name x.raw [] (byte ∷ [])
      ∙ ap (λ (t : List ℕ). x.front ++ (x.name ++ 58 ∷ t)) (sym (append-nil (x.raw ++ byte ∷ []))));
}

pub value_returns : (bytes : List ℕ) → EndsInValue bytes [] → EndsInValue (bytes ++ 13 ∷ []) (13 ∷ [])
value_returns bytes x = record {
  front = x.front;
  lines = x.lines;
  name = x.name;
  token = x.token;
  raw = x.raw;
  all = x.all;
  bytes_are = ap (λ (t : List ℕ). t ++ 13 ∷ []) x.bytes_are ∙ behind_tail x.front x.name x.raw [] (13 ∷ []);
}

-- a value that ends: the tail and these bytes are the line's end
value_ends : (bytes tail more : List ℕ) (end : LineEnd) → tail ++ more ≡ print_end end → EndsInValue bytes tail → AreLines (bytes ++ more)
value_ends bytes tail more end ends x =
    let f : Field = record { name = x.name; raw = x.raw; end = end } in
    subst AreLines
    (sym (ap (λ (t : List ℕ). t ++ more) x.bytes_are
    ∙ (behind_tail x.front x.name x.raw tail more
    ∙ (ap (λ (t : List ℕ). x.front ++ (x.name ++ 58 ∷ (x.raw ++ t))) ends
    ∙ ap (λ (t : List ℕ). x.front ++ t) (sym (append_assoc x.name (58 ∷ x.raw) (print_end end)))))))
    (field_line x.front f x.lines (record { name = x.token; raw = x.all }))

pub line_ends : (bytes : List ℕ) → EndsInValue bytes [] → AreLines (bytes ++ 10 ∷ [])
line_ends bytes x = value_ends bytes [] (10 ∷ []) lf refl x

pub line_ends_behind_return : (bytes : List ℕ) → EndsInValue bytes (13 ∷ []) → AreLines (bytes ++ 10 ∷ [])
line_ends_behind_return bytes x = value_ends bytes (13 ∷ []) (10 ∷ []) crlf refl x

-- ---- bytes that end there are open

-- some bytes can follow that make a head of them all
pub record Completed (bytes : List ℕ) : Type 0 where
  pub more : List ℕ
  pub some : 0 < length more
  pub head : RequestHead
  pub reads : ReadsRequest (bytes ++ more) head []

completed_by : (bytes more : List ℕ) → AreLines (bytes ++ more) → Completed bytes
completed_by bytes more x =
    let completes = lines_complete (bytes ++ more) x in
    record {
      more = more ++ 10 ∷ [];
      some = omega (arith, length-append more (10 ∷ []));
      head = completes.0;
      reads = subst (λ (t : List ℕ). ReadsRequest t completes.0 []) (append_assoc bytes more (10 ∷ [])) completes.1;
    }

completed_lines : (bytes : List ℕ) → AreLines bytes → Completed bytes
completed_lines bytes x = completed_by bytes [] (subst AreLines (sym (append-nil bytes)) x)

completed_name : (bytes : List ℕ) → EndsInName bytes → Completed bytes
completed_name bytes x =
    completed_by bytes (58 ∷ 10 ∷ [])
    (subst AreLines (append_assoc bytes (58 ∷ []) (10 ∷ [])) (line_ends (bytes ++ 58 ∷ []) (value_begins bytes x)))

-- a method and a short rest
completed_by_method : (bytes more : List ℕ) → EndsInMethod (bytes ++ more) → Completed bytes
completed_by_method bytes more x = record {
  more = more ++ codes " / HTTP/1.1\n\n";
  some = omega (arith, length-append more (codes " / HTTP/1.1\n\n"));
  head = short_head x.blank x.method;
  reads = short_head_reads x.blank x.method bytes more x.token (sym x.bytes_are);
}

completed_method : (bytes : List ℕ) → EndsInMethod bytes → Completed bytes
completed_method bytes x = completed_by_method bytes [] (subst EndsInMethod (sym (append-nil bytes)) x)

g_is_token : is_token_byte 71 ≡ true
unfolding is_token_byte
g_is_token = refl

-- behind empty lines a method can begin, as G does
method_after : (bytes : List ℕ) → AreEmptyLines bytes [] → EndsInMethod (bytes ++ 71 ∷ [])
method_after bytes x = method_begins bytes 71 g_is_token x

completed_return : (bytes : List ℕ) → AreEmptyLines bytes (13 ∷ []) → Completed bytes
completed_return bytes x =
    completed_by_method bytes (10 ∷ 71 ∷ [])
    (subst EndsInMethod (append_assoc bytes (10 ∷ []) (71 ∷ [])) (method_after (bytes ++ 10 ∷ []) (empty_line_behind_return bytes x)))

no_head_yet : (bytes : List ℕ) → Completed bytes → HasNoRequest bytes
no_head_yet bytes x h rest reads =
    let same = request_unique (bytes ++ x.more) h x.head (rest ++ x.more) [] (ReadsRequest-append bytes h rest x.more reads) x.reads in
    absurd (omega (arith, x.some, ap length same.1, length-append rest x.more))

open_here : (bytes : List ℕ) → length bytes < most_head → HasNoRequest bytes → CanBegin bytes → IsOpen bytes
open_here bytes short none can =
    open_without_head bytes (subst HasNoRequest (sym (take_all most_head bytes (omega arith))) none) short can

open_completed : (bytes : List ℕ) → length bytes < most_head → Completed bytes → IsOpen bytes
open_completed bytes short x = open_here bytes short (no_head_yet bytes x) (inr (x.more, x.head, [], x.reads))

pub open_at : (bytes : List ℕ) (place : Place) → length bytes < most_head → EndsAt bytes place → IsOpen bytes
open_at bytes Empty short x = open_completed bytes short (completed_by_method bytes (71 ∷ []) (method_after bytes x))
open_at bytes EmptyReturn short x = open_completed bytes short (completed_return bytes x)
open_at bytes Method short x = open_completed bytes short (completed_method bytes x)
open_at bytes Target short x = open_here bytes short (target_has_no_head bytes x) (inl x)
open_at bytes Line short x = open_completed bytes short (completed_lines bytes x)
open_at bytes Name short x = open_completed bytes short (completed_name bytes x)
open_at bytes Value short x = open_completed bytes short (completed_by bytes (10 ∷ []) (line_ends bytes x))
open_at bytes Return short x = open_completed bytes short (completed_by bytes (10 ∷ []) (line_ends_behind_return bytes x))
