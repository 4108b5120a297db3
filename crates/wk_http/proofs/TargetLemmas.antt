-- Bytes that end within the target, and bytes with which a head can begin.
use Rattle.std.proofs.Common.{◌≡◌, ◌≢◌, ℕ, ◌<◌, ◌≤◌, true, false, List, [], ◌∷◌, ◌++◌, length, codes, refl, ap, sym, ◌∙◌, subst, arith, append_assoc, append-nil, inl, inr}
use Rattle.std.proofs.lemmas.List.{length-append}
use Rattle.std.proofs.lemmas.List.Elements.{All-nil, All-cons, All-head, All-tail}
use Rattle.std.proofs.lemmas.Bool.{cases_lt, and_parts, and_from, ltb-true, lt-ltb}
use Rattle.std.proofs.lemmas.Grind.{flat_map-append}
use Rattle.std.proofs.lemmas.List.Sums.{AllPass-from_list_all, list_all-from_AllPass}
use Rattle.std.proofs.lemmas.Str.{IsUtf8-from_ascii}
use Rattle.std.proofs.lemmas.Str.Ascii.{IsAscii-cons, IsAscii-nil}
use Rattle.std.specs.Prelude.{All, ◌⊎◌, nat_lt}
use Rattle.std.specs.List.{list_all}
use Rattle.httparse.specs.Ascii.{space}
use Rattle.httparse.specs.Grammar.{is_token_byte, is_uri_byte, LineEnd, lf, print_end, print_blank, print_section, IsToken, is_token, RequestHead, ReadsRequest, HasNoRequest, NeverHasRequest, EndsInTarget, MayBecomeRequest, print_version}
use Rattle.httparse.proofs.GrammarLemmas.{print_request-append, ReadsRequest-append}
use Rattle.httparse.proofs.PieceLemmas.{Blank_deterministic, Method_deterministic, Stops_token, newline_not_stopped, print_end_unique, space_ends_token}
use Rattle.httparse.specs.Pieces.{Stops, is_newline}
use Rattle.wk_wire_rules.specs.Messages.{EndsWithinTarget, CanBegin}
use Rattle.wk_http.specs.Target.{BeginsNoEmptyLine}
use Rattle.wk_http.proofs.ListLemmas.{split_append, All-front, All-rest, All-mono}

abbrev pub IsNoSpace : ℕ → Type 0
IsNoSpace b = b ≢ space

-- what stands before the target is read in one way only
pub method_read : (blank es : List LineEnd) (method m bytes target t : List ℕ) → IsToken method → IsToken m →
    bytes ≡ print_blank blank ++ (method ++ 32 ∷ target) → bytes ≡ print_blank es ++ (m ++ 32 ∷ t) → target ≡ t
method_read blank es method m bytes target t token other e f =
    let lines = Blank_deterministic.unique blank es bytes (method ++ 32 ∷ target) (m ++ 32 ∷ t)
    (e, Stops_token method (32 ∷ target) token.0 token.1) (f, Stops_token m (32 ∷ t) other.0 other.1) in
    (Method_deterministic.unique method m (method ++ 32 ∷ target) target t (token.0, token.1, refl) (other.0, other.1, lines.1)).1

-- no whole head is there
pub target_has_no_head : (bytes : List ℕ) → EndsWithinTarget bytes → HasNoRequest bytes
target_has_no_head bytes within h rest reads =
    let after = print_version h.minor ++ (print_end h.line_end ++ (print_section h.fields h.last ++ rest)) in
    let same : within.2 ≡ h.target ++ 32 ∷ after =
    method_read within.0 h.blank within.1 h.method bytes within.2 (h.target ++ 32 ∷ after) within.3 reads.0.method
    (within.5 ∙ append_assoc (print_blank within.0) within.1 (32 ∷ within.2)) (reads.1 ∙ print_request-append h rest) in
    All-head IsNoSpace 32 after (All-rest IsNoSpace h.target (32 ∷ after) (subst (All IsNoSpace) same within.4)) refl

uri_byte_is_no_space : (b : ℕ) → is_uri_byte b ≡ true → IsNoSpace b
uri_byte_is_no_space b passes e = let fails : is_uri_byte b ≡ false = ap is_uri_byte e in cc

-- the grammar's own notion of bytes that end in a target is narrower
pub within_target : (bytes : List ℕ) → EndsInTarget bytes → EndsWithinTarget bytes
within_target bytes ends =
    (ends.0, ends.1, ends.2, ends.3, All-mono (λ b. is_uri_byte b ≡ true) IsNoSpace uri_byte_is_no_space ends.2 ends.4, ends.5)

pub can_begin_open : (bytes : List ℕ) → MayBecomeRequest bytes → CanBegin bytes
can_begin_open bytes (inl completes) = inr (completes.0, completes.1, [], completes.2)
can_begin_open bytes (inr ends) = inl (within_target bytes ends)

pub can_begin_head : (bytes : List ℕ) (h : RequestHead) (rest : List ℕ) → ReadsRequest bytes h rest → CanBegin bytes
can_begin_head bytes h rest reads = inr ([], h, rest ++ [], ReadsRequest-append bytes h rest [] reads)

pub cannot_begin : (bytes : List ℕ) → NeverHasRequest bytes → ¬ (EndsWithinTarget bytes) → ¬ (CanBegin bytes)
cannot_begin bytes never outside (inl within) = outside within
cannot_begin bytes never outside (inr completes) = never completes.0 completes.1 completes.2 completes.3

-- ---- a front of bytes with which a head can begin

-- the shortest head with this method
abbrev pub short_head : List LineEnd → List ℕ → RequestHead
short_head blank method =
    record { blank = blank; method = method; target = codes "/"; minor = 1; line_end = lf; fields = []; last = lf }

pub short_head_reads : (blank : List LineEnd) (method bytes x : List ℕ) → IsToken method → print_blank blank ++ method ≡ bytes ++ x →
    ReadsRequest (bytes ++ (x ++ codes " / HTTP/1.1\n\n")) (short_head blank method) []
short_head_reads blank method bytes x token e = (
  record {
    method = token;
    target = (omega arith, All-cons (λ b. is_uri_byte b ≡ true) 47 [] refl (All-nil _));
    target_text = IsUtf8-from_ascii _ (IsAscii-cons 47 [] (omega arith) IsAscii-nil);
    minor = omega arith;
    fields = All-nil _;
  },
  sym (append_assoc bytes x (codes " / HTTP/1.1\n\n"))
      ∙ (ap (λ (t : List ℕ). t ++ codes " / HTTP/1.1\n\n") (sym e)
      ∙ (append_assoc (print_blank blank) method (codes " / HTTP/1.1\n\n") ∙ sym (print_request-append (short_head blank method) []))),
)

-- a front of bytes that end within the target ends within it too, or before it
within_front : (bytes more blank_and_method target : List ℕ) → bytes ++ more ≡ blank_and_method ++ 32 ∷ target →
    ((x : List ℕ) × (blank_and_method ≡ bytes ++ x)) ⊎ ((t : List ℕ) × (bytes ≡ blank_and_method ++ 32 ∷ t) × (target ≡ t ++ more))
within_front bytes more front target e = either (cases_lt (length front) (length bytes))
  where
    behind : (x : List ℕ) → 0 < length x → bytes ≡ front ++ x → 32 ∷ target ≡ x ++ more →
        (t : List ℕ) × (bytes ≡ front ++ 32 ∷ t) × (target ≡ t ++ more)
    behind [] some whole rest = absurd (omega arith)
    behind (b ∷ t) some whole rest = (t, cc, cc)

    either : (length front < length bytes) ⊎ (length bytes ≤ length front) →
        ((x : List ℕ) × (front ≡ bytes ++ x)) ⊎ ((t : List ℕ) × (bytes ≡ front ++ 32 ∷ t) × (target ≡ t ++ more))
    either (inl longer) =
        let parts = split_append front (32 ∷ target) bytes more (sym e) (omega arith) in
        inr (behind parts.0 (omega (arith, ap length parts.1, length-append front parts.0)) parts.1 parts.2)
    either (inr shorter) = let parts = split_append bytes more front (32 ∷ target) e shorter in inl (parts.0, parts.1)

can_begin_within : (bytes more : List ℕ) (blank : List LineEnd) (method target : List ℕ) → IsToken method → All IsNoSpace target →
    ((x : List ℕ) × (print_blank blank ++ method ≡ bytes ++ x))
    ⊎ ((t : List ℕ) × (bytes ≡ (print_blank blank ++ method) ++ 32 ∷ t) × (target ≡ t ++ more)) → CanBegin bytes
can_begin_within bytes more blank method target token all (inl before) =
    inr (before.0 ++ codes " / HTTP/1.1\n\n", short_head blank method, [], short_head_reads blank method bytes before.0 token before.1)
can_begin_within bytes more blank method target token all (inr within) =
    inl (blank, method, within.0, token, All-front IsNoSpace within.0 more (subst (All IsNoSpace) within.2 all), within.1)

pub can_begin_front : (bytes more : List ℕ) → CanBegin (bytes ++ more) → CanBegin bytes
can_begin_front bytes more (inl within) =
    can_begin_within bytes more within.0 within.1 within.2 within.3 within.4
    (within_front bytes more (print_blank within.0 ++ within.1) within.2 within.5)
can_begin_front bytes more (inr completes) =
    inr (
      more ++ completes.0,
      completes.1,
      completes.2,
      subst (λ (t : List ℕ). ReadsRequest t completes.1 completes.2) (append_assoc bytes more completes.0) completes.3,
    )

one_letter : IsToken (codes "A")
unfolding is_token_byte
one_letter = (omega arith, All-cons (λ b. is_token_byte b ≡ true) 65 [] refl (All-nil _))

-- a head can begin where nothing came yet
pub can_begin_nothing : CanBegin []
can_begin_nothing =
    inr (codes "A / HTTP/1.1\n\n", short_head [] (codes "A"), [], short_head_reads [] (codes "A") [] (codes "A") one_letter refl)

-- ---- the parts of bytes that end within the target

-- all empty lines at the front are read in one way only
lines_unique : (es fs : List LineEnd) (r q : List ℕ) → BeginsNoEmptyLine r → Stops is_newline q →
    print_blank es ++ r ≡ print_blank fs ++ q → r ≡ q
lines_unique [] [] r q none stops e = e
lines_unique [] (y ∷ fs) r q none stops e =
    absurd (none y (print_blank fs ++ q) (e ∙ append_assoc (print_end y) (print_blank fs) q))
lines_unique (x ∷ es) [] r q none stops e =
    absurd (newline_not_stopped x (print_blank es ++ r) q (sym (append_assoc (print_end x) (print_blank es) r) ∙ e) stops)
lines_unique (x ∷ es) (y ∷ fs) r q none stops e =
    lines_unique es fs r q none stops
    (print_end_unique x y (print_blank es ++ r) (print_blank fs ++ q)
    (sym (append_assoc (print_end x) (print_blank es) r) ∙ (e ∙ append_assoc (print_end y) (print_blank fs) q))).1

-- what stands before the first space is read in one way only
space_unique : (a b r q : List ℕ) → All IsNoSpace a → All IsNoSpace b → a ++ 32 ∷ r ≡ b ++ 32 ∷ q → (a ≡ b) × (r ≡ q)
space_unique [] [] r q all also e = (refl, cc)
space_unique [] (y ∷ b) r q all also e = let other : y ≢ 32 = All-head IsNoSpace y b also in absurd (other (cc))
space_unique (x ∷ a) [] r q all also e = let other : x ≢ 32 = All-head IsNoSpace x a all in absurd (other (cc))
space_unique (x ∷ a) (y ∷ b) r q all also e =
    let tails = space_unique a b r q (All-tail IsNoSpace x a all) (All-tail IsNoSpace y b also) (cc) in
    (cc, tails.1)

token_byte_is_no_space : (b : ℕ) → is_token_byte b ≡ true → IsNoSpace b
token_byte_is_no_space b passes e = let fails : is_token_byte b ≡ false = ap is_token_byte e ∙ space_ends_token in cc

token_has_no_space : (method : List ℕ) → IsToken method → All IsNoSpace method
token_has_no_space method token = All-mono (λ b. is_token_byte b ≡ true) IsNoSpace token_byte_is_no_space method token.1

pub IsToken-from : (bytes : List ℕ) → is_token bytes ≡ true → IsToken bytes
IsToken-from bytes passes =
    let parts = and_parts (nat_lt 0 (length bytes)) (list_all is_token_byte bytes) passes in
    (ltb-true 0 (length bytes) parts.0, AllPass-from_list_all is_token_byte bytes parts.1)

is_token-from : (bytes : List ℕ) → IsToken bytes → is_token bytes ≡ true
is_token-from bytes token =
    and_from (nat_lt 0 (length bytes)) (list_all is_token_byte bytes) (lt-ltb 0 (length bytes) token.0)
    (list_all-from_AllPass is_token_byte bytes token.1)

-- what is left behind the empty lines is a method, a space and a target
left_is : (blank : List LineEnd) (bytes left : List ℕ) → bytes ≡ print_blank blank ++ left → BeginsNoEmptyLine left →
    (within : EndsWithinTarget bytes) → left ≡ within.1 ++ 32 ∷ within.2
left_is blank bytes left e none within =
    lines_unique blank within.0 left (within.1 ++ 32 ∷ within.2) none (Stops_token within.1 (32 ∷ within.2) within.3.0 within.3.1)
    (sym e ∙ (within.5 ∙ append_assoc (print_blank within.0) within.1 (32 ∷ within.2)))

-- without a space there is no target
pub no_target : (blank : List LineEnd) (bytes left : List ℕ) → bytes ≡ print_blank blank ++ left → BeginsNoEmptyLine left →
    All IsNoSpace left → ¬ (EndsWithinTarget bytes)
no_target blank bytes left e none all within =
    All-head IsNoSpace 32 within.2
    (All-rest IsNoSpace within.1 (32 ∷ within.2) (subst (All IsNoSpace) (left_is blank bytes left e none within) all)) refl

pub target_parts : (blank : List LineEnd) (bytes left method target : List ℕ) → bytes ≡ print_blank blank ++ left → BeginsNoEmptyLine left →
    left ≡ method ++ 32 ∷ target → All IsNoSpace method → EndsWithinTarget bytes → (is_token method ≡ true) × All IsNoSpace target
target_parts blank bytes left method target e none cut first within =
    let same = space_unique method within.1 target within.2 first (token_has_no_space within.1 within.3)
    (sym cut ∙ left_is blank bytes left e none within) in
    (ap is_token same.0 ∙ is_token-from within.1 within.3, subst (All IsNoSpace) (sym same.1) within.4)

pub target_from : (blank : List LineEnd) (bytes left method target : List ℕ) → bytes ≡ print_blank blank ++ left →
    left ≡ method ++ 32 ∷ target → is_token method ≡ true → All IsNoSpace target → EndsWithinTarget bytes
target_from blank bytes left method target e cut token all = (
  blank,
  method,
  target,
  IsToken-from method token,
  all,
  e ∙ (ap (λ (t : List ℕ). print_blank blank ++ t) cut ∙ sym (append_assoc (print_blank blank) method (32 ∷ target))),
)

-- one more empty line
pub blank_push : (blank : List LineEnd) (end : LineEnd) (bytes left rest : List ℕ) → bytes ≡ print_blank blank ++ left →
    left ≡ print_end end ++ rest → bytes ≡ print_blank (blank ++ end ∷ []) ++ rest
blank_push blank end bytes left rest e f =
    e ∙ (ap (λ (t : List ℕ). print_blank blank ++ t) f
    ∙ (sym (append_assoc (print_blank blank) (print_end end) rest)
    ∙ ap (λ (t : List ℕ). t ++ rest) (sym (flat_map-append print_end blank (end ∷ []) ∙ ap (λ (t : List ℕ). print_blank blank ++ t) (append-nil (print_end end))))))
