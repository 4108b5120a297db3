-- Events that are gone through from a place on, and what a sink took of their lines.
use Rattle.std.proofs.Common.{◌≡◌, ◌≤◌, ◌+◌, ℕ, zero, suc, List, [], ◌∷◌, ◌++◌, Option, Some, None, Result, Ok, Err, IfOk, length, drop, slice_get, take, map, subst, add-one, append_assoc, arith, refl, sym, ap, ◌∙◌}
use Rattle.std.specs.Io.KnownBytes.{Appends}
use Rattle.std.proofs.KnownBytes.{Appends-trans}
use Rattle.std.proofs.lemmas.List.{map-append, take-append-drop, take-append-le, take_all}
use mathlib.Core.List.{IsPrefix}
use Rattle.wk_wiki_rules.specs.Events.{Event}
use Rattle.wk_feed_rules.specs.Feeds.{event_line}
use Rattle.wk_feeder.specs.Bytes.{HasTaken, event_bytes, feed_bytes}
use Rattle.wk_feeder.proofs.Tables.{bytes-append}

module _ {E : Type 0} where
  -- what stands from a place on begins with what stands there
  pub drop-at : (all : List E) (at : ℕ) (e : E) → slice_get all at ≡ Some e → drop at all ≡ e ∷ drop (at + 1) all
  drop-at [] at e there = absurd (let none : None ≡ Some e = there in cc)
  drop-at (x ∷ xs) zero e there = let same : x ≡ e = cc in ap (λ y. y ∷ xs) same
  drop-at (x ∷ xs) (suc n) e there = drop-at xs n e there ∙ ap (λ k. e ∷ drop k xs) (add-one n) ∙ sym (ap (λ k. e ∷ drop k (x ∷ xs)) (add-one (suc n)))

  -- one more was taken from a place on
  pub takes-one : {A : Type 0} (f : A → E) (taken : List A) (one : A) (all : List E) (at : ℕ) (whole : List E) → slice_get all at ≡ Some (f one)
      → map f taken ++ drop at all ≡ whole → map f (taken ++ one ∷ []) ++ drop (at + 1) all ≡ whole
  takes-one f taken one all at whole there was =
      ap (λ l. l ++ drop (at + 1) all) (map-append f taken (one ∷ []))
      ∙ append_assoc (map f taken) (f one ∷ []) (drop (at + 1) all)
      ∙ sym (ap (λ l. map f taken ++ l) (drop-at all at (f one) there))
      ∙ was

-- the bytes of events and of further ones
pub events-append : (one two : List Event) → event_bytes (one ++ two) ≡ event_bytes one ++ event_bytes two
events-append one two = ap feed_bytes (map-append event_line one two) ∙ bytes-append (map event_line one) (map event_line two)

-- ---- what a sink took, and what it tells of it

pub tells : (told now : Option (List ℕ)) (bytes : List ℕ) → HasTaken told now bytes → Appends told now bytes
tells None now bytes taken = tt
tells (Some before) now bytes taken = subst (λ (n : Option (List ℕ)). Appends (Some before) n bytes) (sym taken) refl

pub took : (told now : Option (List ℕ)) (bytes : List ℕ) → Appends told now bytes → HasTaken told now bytes
took None now bytes appends = tt
took (Some before) None bytes appends = absurd appends
took (Some before) (Some after) bytes appends = ap (λ l. Some l) appends

-- a sink that took the first events took them all, where it then took those behind them
pub took-all : (told between now : Option (List ℕ)) (sent : ℕ) (seen all : List Event) → IsPrefix seen all → sent ≤ length seen
    → HasTaken told between (event_bytes (take sent seen)) → Appends between now (event_bytes (drop sent all)) → Appends told now (event_bytes all)
took-all told between now sent seen all begins within first later =
    let same : take sent seen ≡ take sent all = sym (take-append-le sent seen begins.0 within) ∙ ap (take sent) begins.1 in
    subst (Appends told now)
    (sym (events-append (take sent seen) (drop sent all)) ∙ ap event_bytes (ap (λ l. l ++ drop sent all) same ∙ take-append-drop sent all))
    (Appends-trans told between now (event_bytes (take sent seen)) (event_bytes (drop sent all)) (tells told between (event_bytes (take sent seen)) first) later)

-- so it is where those that were then sent are counted
pub took-new : (told between now : Option (List ℕ)) (sent count : ℕ) (seen all : List Event) → IsPrefix seen all → sent ≤ length seen → count ≡ length all
    → HasTaken told between (event_bytes (take sent seen)) → Appends between now (event_bytes (drop sent all)) → HasTaken told now (event_bytes (take count all))
took-new told between now sent count seen all begins within counted first later =
    subst (λ (events : List Event). HasTaken told now (event_bytes events)) (sym (take_all count all (omega (arith, counted))))
    (took told now (event_bytes all) (took-all told between now sent seen all begins within first later))

-- so it is where all were sent
pub took-rest : {F : Type 0} (result : Result ℕ F) (told between now : Option (List ℕ)) (sent : ℕ) (seen all : List Event) → IsPrefix seen all → sent ≤ length seen
    → HasTaken told between (event_bytes (take sent seen)) → IfOk result (λ n. (n ≡ length all) × Appends between now (event_bytes (drop sent all)))
    → IfOk result (λ n. (n ≡ length all) × Appends told now (event_bytes all))
took-rest (Ok n) told between now sent seen all begins within first later = (later.0, took-all told between now sent seen all begins within first later.1)
took-rest (Err e) told between now sent seen all begins within first later = tt
