-- What the first 65,536 bytes tell of all bytes.
use Rattle.std.proofs.Common.{◌≡◌, ◌≢◌, ℕ, ◌*◌, ◌/◌, ◌<◌, ◌≤◌, List, [], ◌++◌, length, take, drop, Some, refl, ap, sym, subst, arith, append-nil, take-append-drop, length-take, inl, inr}
use Rattle.std.proofs.lemmas.List.{length-append, length-map, take_all}
use Rattle.std.proofs.lemmas.Bool.{cases_lt}
use Rattle.std.proofs.lemmas.Bool.Decides.{nat_tests}
use Rattle.std.specs.Prelude.{◌⊎◌, map}
use Rattle.httparse.specs.declared.Error.{Error}
use Rattle.httparse.specs.declared.Error.TheVariants.{HeaderName, HeaderValue, NewLine, Status, Token, TooManyHeaders, Version}
use Rattle.httparse.specs.Grammar.{lf, print_end, RequestHead, print_request, ReadsRequest, HasNoRequest, NeverHasRequest, MayBecomeRequest}
use Rattle.httparse.specs.Spans.{name_and_value, RequestExceeds, RequestOverflows}
use Rattle.httparse.proofs.GrammarLemmas.{ReadsRequest-append}
use Rattle.wk_wire_rules.specs.Heads.{most_headers, refusal}
use Rattle.wk_wire_rules.specs.Messages.{most_head, HasHead, EndsWithinTarget, CanBegin, IsBad, no_head, too_long, refused, IsOpen}
use Rattle.wk_http.proofs.HeadLemmas.{head_is_long}
use Rattle.wk_http.proofs.MessageLemmas.{HasHead-append, HasHead-front}
use Rattle.wk_http.proofs.TargetLemmas.{can_begin_open, cannot_begin}

abbrev pub window : List ℕ → List ℕ
window bytes = take most_head bytes

-- a head that is whole in the window is whole in the bytes, and the other way round
pub head_in_window : (bytes : List ℕ) (h : RequestHead) (rest : List ℕ) → HasHead bytes h rest → (x : List ℕ) × ReadsRequest (window bytes) h x
head_in_window bytes h rest reads =
    let inside : length (print_request h) ≤ length (window bytes) =
    omega (arith, reads.1, ap length reads.0.1, length-append (print_request h) rest, length-take most_head bytes) in
    let front = HasHead-front (window bytes) (drop most_head bytes) h rest inside
    (subst (λ (t : List ℕ). ReadsRequest t h rest) (sym (take-append-drop most_head bytes)) reads.0) in
    (front.0, front.1)

pub head_of_window : (window : List ℕ) (h : RequestHead) (x : List ℕ) → length window ≤ most_head → ReadsRequest window h x → HasHead window h x
head_of_window window h x short reads =
    (reads, omega (arith, short, ap length reads.1, length-append (print_request h) x))

-- ---- no head is whole in the window

pub open_without_head : (bytes : List ℕ) → HasNoRequest (window bytes) → length bytes < most_head → CanBegin bytes → IsOpen bytes
open_without_head bytes none short can = record {
  no_message = λ message rest x. let front = head_in_window bytes x.head (message.body ++ rest) x.reads in none x.head front.0 front.1;
  no_bad_place = no_place none short can;
}
  where
    no_place : HasNoRequest (window bytes) → length bytes < most_head → CanBegin bytes → (status : ℕ) → ¬ (IsBad bytes status)
    no_place none short can status (no_head cannot) = cannot can
    no_place none short can status (too_long long empty) = absurd (omega arith)
    no_place none short can status (refused h rest reads is) = let front = head_in_window bytes h rest reads in none h front.0 front.1

pub bad_without_head : (bytes : List ℕ) → HasNoRequest (window bytes) → most_head ≤ length bytes → IsBad bytes 400
bad_without_head bytes none long =
    too_long long (λ h rest reads. let front = head_in_window bytes h rest reads in none h front.0 front.1)

pub can_begin_in_window : (bytes : List ℕ) → MayBecomeRequest (window bytes) → length bytes < most_head → CanBegin bytes
can_begin_in_window bytes may short =
    can_begin_open bytes (subst MayBecomeRequest (take_all most_head bytes (omega arith)) may)

pub can_begin_within_window : (bytes : List ℕ) → EndsWithinTarget (window bytes) → length bytes < most_head → CanBegin bytes
can_begin_within_window bytes within short = inl (subst EndsWithinTarget (take_all most_head bytes (omega arith)) within)

pub never_is_not_yet : (bytes : List ℕ) → NeverHasRequest bytes → HasNoRequest bytes
never_is_not_yet bytes never h rest reads =
    never [] h rest (subst (λ (t : List ℕ). ReadsRequest t h rest) (sym (append-nil bytes)) reads)

-- no bytes can follow that make the window a head
pub bad_in_window : (bytes : List ℕ) → NeverHasRequest (window bytes) → ¬ (EndsWithinTarget (window bytes)) → IsBad bytes 400
bad_in_window bytes never outside = either (cases_lt (length bytes) most_head)
  where
    either : (length bytes < most_head) ⊎ (most_head ≤ length bytes) → IsBad bytes 400
    either (inl short) =
        let whole : window bytes ≡ bytes = take_all most_head bytes (omega arith) in
        no_head (cannot_begin bytes (subst NeverHasRequest whole never) (subst (λ (t : List ℕ). ¬ (EndsWithinTarget t)) whole outside))
    either (inr long) = bad_without_head bytes (never_is_not_yet (window bytes) never) long

-- ---- too many headers

many_are_refused : (h : RequestHead) → most_headers < length h.fields → refusal h ≡ Some 400
many_are_refused h many =
    let count : length (map name_and_value h.fields) ≡ length h.fields = length-map h.fields name_and_value in
    grind (arith, nat_tests)

pub bad_with_many : (bytes : List ℕ) (h : RequestHead) (rest : List ℕ) → HasHead bytes h rest → most_headers < length h.fields → IsBad bytes 400
bad_with_many bytes h rest reads many = refused h rest reads (many_are_refused h many)

-- a whole head in the window, where any head has too many
pub many_in_window : (bytes : List ℕ) (h : RequestHead) (rest : List ℕ) → RequestOverflows most_headers (window bytes) →
    ReadsRequest (window bytes) h rest → IsBad bytes 400
many_in_window bytes h rest many reads =
    let short : length (window bytes) ≤ most_head = omega (arith, length-take most_head bytes) in
    bad_with_many bytes h (rest ++ drop most_head bytes)
    (subst (λ (t : List ℕ). HasHead t h (rest ++ drop most_head bytes)) (take-append-drop most_head bytes)
    (HasHead-append (window bytes) (drop most_head bytes) h rest (head_of_window (window bytes) h rest short reads)))
    (many [] h (rest ++ []) (ReadsRequest-append (window bytes) h rest [] reads))

-- room for a third of the bytes is enough
pub room_is_enough : (bytes : List ℕ) → RequestExceeds (length bytes / 3) bytes → ⊥
room_is_enough bytes x =
    let front = x.0 in
    let h = x.3 in
    let line : length (front ++ print_end lf) ≡ length (print_request h ++ []) = ap length x.4.1 in
    let few : 3 * length h.fields ≤ length bytes =
    omega (
      arith,
      line,
      head_is_long h x.4.0,
      ap length x.2,
      length-append front x.1,
      length-append front (print_end lf),
      length-append (print_request h) [],
    ) in
    omega (arith, few, x.5)

-- an error is about the room, or it isn't
pub by_error : {P : Type 0} (e : Error) → (e ≢ TooManyHeaders → P) → (e ≡ TooManyHeaders → P) → P
by_error HeaderName other many = other (λ same. cc)
by_error HeaderValue other many = other (λ same. cc)
by_error NewLine other many = other (λ same. cc)
by_error Status other many = other (λ same. cc)
by_error Token other many = other (λ same. cc)
by_error TooManyHeaders other many = many refl
by_error Version other many = other (λ same. cc)

-- no error is about the room
pub bad_with_room : (bytes : List ℕ) (room : ℕ) (e : Error) → room ≡ length (window bytes) / 3 → ¬ (EndsWithinTarget (window bytes)) →
    (e ≢ TooManyHeaders → NeverHasRequest (window bytes)) → (e ≡ TooManyHeaders → RequestExceeds room (window bytes)) → IsBad bytes 400
bad_with_room bytes room e enough outside invalid many =
    by_error e (λ other. bad_in_window bytes (invalid other) outside)
    (λ same. absurd (room_is_enough (window bytes) (subst (λ (n : ℕ). RequestExceeds n (window bytes)) enough (many same))))
