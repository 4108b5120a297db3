-- What a feed knows stays true when more bytes come.
use Rattle.std.proofs.Common.{◌≡◌, ℕ, ◌+◌, ◌<◌, ◌≤◌, List, [], ◌++◌, length, drop, take, None, ap, take-append-drop, sym, ◌∙◌, subst, arith, append_assoc, append-nil}
use Rattle.std.proofs.lemmas.List.{length-append, drop-append-le, nil_from_length, take-append-le, take_all}
use Rattle.httparse.specs.Grammar.{print_request}
use Rattle.wk_wire_rules.specs.Heads.{body_length, refusal, most_body}
use Rattle.wk_wire_rules.specs.Messages.{most_head, IsOpen, IsBad, no_head, too_long, refused}
use Rattle.wk_http.specs.declared.feed.Known.{Known}
use Rattle.wk_http.specs.declared.feed.Known.TheVariants.{OpenBelow, Bad, At}
use Rattle.wk_http.specs.declared.front.Accepted.{Accepted}
use Rattle.wk_http.specs.Feed.{IsKnown}
use Rattle.wk_http.specs.Front.{IsAccepted}
use Rattle.wk_http.specs.Places.{EndsAt}
use Rattle.wk_http.specs.declared.places.Place.{Place}
use Rattle.wk_http.proofs.AcceptedLemmas.{IsAccepted-append}
use Rattle.wk_http.proofs.HeadLemmas.{accepted_body}
use Rattle.wk_http.proofs.MessageLemmas.{HasHead_unique, IsBad-append}
use Rattle.wk_http.proofs.TargetLemmas.{can_begin_head}

pub IsKnown-append : (bytes more : List ℕ) (known : Known) → IsKnown bytes known → IsKnown (bytes ++ more) known
IsKnown-append bytes more (OpenBelow count) is = λ later short.
    let same : (bytes ++ more) ++ later ≡ bytes ++ (more ++ later) = append_assoc bytes more later in
    subst IsOpen (sym same) (is (more ++ later) (omega (arith, ap length same)))
IsKnown-append bytes more (Bad status) is = IsBad-append bytes more status is
IsKnown-append bytes more (At place count) is = (
  omega (arith, is.0, length-append bytes more),
  subst (λ (t : List ℕ). EndsAt t place) (sym (take-append-le count bytes more is.0)) is.1,
)

pub known_behind : (buffer piece : List ℕ) (start : ℕ) (known : Known) → start ≤ length buffer → IsKnown (drop start buffer) known →
    IsKnown (drop start (buffer ++ piece)) known
known_behind buffer piece start known inside is =
    subst (λ (bytes : List ℕ). IsKnown bytes known) (sym (drop-append-le start buffer piece inside))
    (IsKnown-append (drop start buffer) piece known is)

-- fewer bytes than none
pub known_nothing : (bytes : List ℕ) → IsKnown bytes (OpenBelow 0)
known_nothing bytes = λ more short. absurd (omega arith)

-- bytes that are open, and none after them
pub known_open : (bytes : List ℕ) → IsOpen bytes → IsKnown bytes (OpenBelow (length bytes + 1))
known_open bytes is = λ more short.
    let none : more ≡ [] = nil_from_length more (omega (arith, length-append bytes more)) in
    subst IsOpen (sym (ap (λ (m : List ℕ). bytes ++ m) none ∙ append-nil bytes)) is

-- a body that isn't whole
open_in_body : (bytes : List ℕ) (kept : Accepted) → IsAccepted bytes kept → length bytes < kept.head_len + kept.body_len → IsOpen bytes
open_in_body bytes kept x short =
    let long : length bytes ≡ kept.head_len + length x.rest =
    ap length x.reads.0.1 ∙ (length-append (print_request x.head) x.rest ∙ ap (λ n. n + length x.rest) (sym x.describes.head_len)) in
    record {
      no_message = λ message rest y.
          let heads = HasHead_unique bytes x.head y.head x.rest (message.body ++ rest) x.reads y.reads in
          let count : kept.body_len ≡ length message.body = x.describes.body_len ∙ (ap body_length heads.0 ∙ sym y.body) in
          omega (arith, long, count, ap length heads.1, length-append message.body rest);
      no_bad_place = no_place x;
    }
  where
    no_place : IsAccepted bytes kept → (status : ℕ) → ¬ (IsBad bytes status)
    no_place y status (no_head none) = none (can_begin_head bytes y.head y.rest y.reads.0)
    no_place y status (too_long long none) = none y.head y.rest y.reads
    no_place y status (refused h rest reads is) =
        let heads = HasHead_unique bytes h y.head rest y.rest reads y.reads in
        let accepted : refusal h ≡ None = ap refusal heads.0 ∙ y.accepted in
        cc

pub open_below : (bytes : List ℕ) (kept : Accepted) → IsAccepted bytes kept → IsKnown bytes (OpenBelow (kept.head_len + kept.body_len))
open_below bytes kept x = λ more short. open_in_body (bytes ++ more) kept (IsAccepted-append bytes more kept x) short

pub open_now : (bytes : List ℕ) (count : ℕ) → IsKnown bytes (OpenBelow count) → length bytes < count → IsOpen bytes
open_now bytes count is short =
    subst IsOpen (append-nil bytes) (is [] (omega (arith, ap length (append-nil bytes))))

-- all bytes end at a place
pub known_at : (bytes : List ℕ) (place : Place) → EndsAt bytes place → IsKnown bytes (At place (length bytes))
known_at bytes place ends = (omega arith, subst (λ (t : List ℕ). EndsAt t place) (sym (take_all (length bytes) bytes (omega arith))) ends)

-- the bytes that came since are passed over
pub known_after : (bytes : List ℕ) (place next : Place) (count : ℕ) → IsKnown bytes (At place count) →
    ((front : List ℕ) → EndsAt front place → EndsAt (front ++ drop count bytes) next) → EndsAt bytes next
known_after bytes place next count is later =
    subst (λ (t : List ℕ). EndsAt t next) (take-append-drop count bytes) (later (take count bytes) is.1)

-- ---- bounds

-- the head and the body are short
pub accepted_bounds : (bytes : List ℕ) (kept : Accepted) → IsAccepted bytes kept → (kept.head_len ≤ most_head) × (kept.body_len ≤ most_body)
accepted_bounds bytes kept x =
    (omega (arith, x.describes.head_len, x.reads.1), omega (arith, x.describes.body_len, accepted_body x.head x.accepted))
