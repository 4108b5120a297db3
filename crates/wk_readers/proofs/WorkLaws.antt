-- What steps of a worker leave of its pass.
use Rattle.std.proofs.Common.{◌≡◌, ◌≢◌, ℕ, ◌+◌, ◌<◌, ◌≤◌, false, List, [], ◌∷◌, ◌++◌, length, slice_get, Some, None, ◌⊎◌, inl, inr, ⊎_elim, refl, sym, ap, ◌∙◌, subst, arith, append_assoc}
use Rattle.std.proofs.lemmas.List.{append-nil}
use mathlib.Core.List.{IsPrefix}
use mathlib.Core.Logic.{dite}
use native.Mathlib.Decide.{ℕ_discrete, dec_le}
use Rattle.wk_wiki_rules.specs.Events.{Event, Claim}
use Rattle.wk_wiki_rules.specs.Entries.{closes, is_save}
use Rattle.wk_wiki_rules.specs.Starts.{Start}
use Rattle.wk_turn.specs.Journal.{Closes, IsListed, times}
use Rattle.wk_turn.specs.Told.{Begun, Story}
use Rattle.wk_turn.proofs.Lists.{prefix_get, prefix_length, prefix_trans, times-append, times-range_out}
use Rattle.wk_shared.specs.Calls.{AddsOwn, HasSeen}
use Rattle.wk_readers.specs.Worked.{HasWorked, IsJobEntry}

abbrev Pass : Type 0
Pass = Story Start Event

-- ---- places

listed-none : (p : ℕ) → IsListed [] p → ⊥
listed-none p l = let none = times-range_out p 0 0 (inr (omega arith)) in omega (arith, l, none)

pub listed-one : (p q : ℕ) → IsListed (q ∷ []) p → p ≡ q
listed-one p q l = dite (ℕ_discrete p q) (λ e. e)
    (λ other. absurd (
    let out : (p < q) ⊎ (q + 1 ≤ p) = dite (dec_le p q) (λ le. inl (omega (arith, le, other))) (λ gt. inr (omega (arith, gt))) in
    let none = times-range_out p q 1 out in omega (arith, l, none)))

pub listed-either : (p : ℕ) (xs ys : List ℕ) → IsListed (xs ++ ys) p → IsListed xs p ⊎ IsListed ys p
listed-either p xs ys l =
    let t = times-append p xs ys in
    dite (ℕ_discrete (times p xs) 0) (λ e. inr (omega (arith, l, t, e))) (λ n. inl (omega (arith, n)))

-- what closes a place closes it in a longer journal
pub closes-longer : (journal longer : List Event) (q p : ℕ) → IsPrefix journal longer → Closes closes journal q p → Closes closes longer q p
closes-longer journal longer q p begins c = (c.0, prefix_get journal longer q c.0 begins c.1, c.2, c.3)

-- ---- one step behind another

pub entry-longer : (journal longer : List Event) (from place : ℕ) → IsPrefix journal longer → IsJobEntry journal from place → IsJobEntry longer from place
entry-longer journal longer from place begins is = record {
  since = is.since;
  event = is.event;
  there = prefix_get journal longer place is.event begins is.there;
  no_save = is.no_save;
}

entry-earlier : (journal : List Event) (before from place : ℕ) → before ≤ from → IsJobEntry journal from place → IsJobEntry journal before place
entry-earlier journal before from place le is = record {
  since = (let s = is.since in omega (arith, le, s));
  event = is.event;
  there = is.there;
  no_save = is.no_save;
}

pub worked-both : (shared : Begun Start) (old mid new : Pass) → HasWorked shared old mid → HasWorked shared mid new → HasWorked shared old new
worked-both shared old mid new first later = record {
  turn = later.turn;
  free = later.free;
  seen = prefix_trans old.seen mid.seen new.seen first.seen later.seen;
  state = later.state;
  run = later.run;
  added = first.added ++ later.added;
  own = later.own ∙ (ap (λ l. l ++ later.added) first.own ∙ append_assoc old.own first.added later.added);
  jobs = λ place listed.
      ⊎_elim (λ (l : IsListed first.added place). entry-longer mid.seen new.seen (length old.seen) place later.seen (first.jobs place l))
      (λ (l : IsListed later.added place). entry-earlier new.seen (length old.seen) (length mid.seen) place (prefix_length old.seen mid.seen first.seen) (later.jobs place l))
      (listed-either place first.added later.added listed);
  closed = λ place listed there.
      ⊎_elim (λ (l : IsListed first.added place).
      let entry = first.jobs place l in
      let both : Some entry.event ≡ Some Claim = sym (prefix_get mid.seen new.seen place entry.event later.seen entry.there) ∙ there in
      let by = first.closed place l (entry.there ∙ both) in
      (by.0, closes-longer mid.seen new.seen by.0 place later.seen by.1))
      (λ (l : IsListed later.added place). later.closed place l there)
      (listed-either place first.added later.added listed);
}

-- ---- one event

module _ (shared : Begun Start) (old new : Pass) (seen : HasSeen shared old new (length new.seen)) where
  pub worked-none : new.own ≡ old.own → HasWorked shared old new
  worked-none own = record {
    turn = seen.turn;
    free = seen.free;
    seen = seen.seen;
    state = seen.state;
    run = seen.run;
    added = [];
    own = own ∙ sym (append-nil old.own);
    jobs = λ place listed. absurd (listed-none place listed);
    closed = λ place listed there. absurd (listed-none place listed);
  }

  pub worked-one : (at : ℕ) (event : Event) → length old.seen ≤ at → AddsOwn old new at (Some event) → is_save event ≡ false → event ≢ Claim → HasWorked shared old new
  worked-one at event since adds no_save no_claim = record {
    turn = seen.turn;
    free = seen.free;
    seen = seen.seen;
    state = seen.state;
    run = seen.run;
    added = at ∷ [];
    own = adds.2;
    jobs = λ place listed.
        let same = listed-one place at listed in
        subst (IsJobEntry new.seen (length old.seen)) (sym same) (record { since = since; event = event; there = adds.1; no_save = no_save });
    closed = λ place listed there.
        let same = listed-one place at listed in
        let both : Some event ≡ Some Claim = sym adds.1 ∙ (ap (slice_get new.seen) (sym same) ∙ there) in
        let is : event ≡ Claim = cc in
        absurd (no_claim is);
  }

  -- a claim, and behind it an event that closes it
  pub worked-two : (a b : ℕ) (event : Event) → length old.seen ≤ a → a < b → slice_get new.seen a ≡ Some Claim → slice_get new.seen b ≡ Some event → new.own ≡ old.own ++ a ∷ b ∷ []
      → closes event ≡ Some a → is_save event ≡ false → HasWorked shared old new
  worked-two a b event since later first last own closing no_save =
      let either : (place : ℕ) → IsListed (a ∷ b ∷ []) place → (place ≡ a) ⊎ (place ≡ b) = λ place listed.
      ⊎_elim (λ (l : IsListed (a ∷ []) place). inl (listed-one place a l)) (λ (l : IsListed (b ∷ []) place). inr (listed-one place b l)) (listed-either place (a ∷ []) (b ∷ []) listed) in
      record {
        turn = seen.turn;
        free = seen.free;
        seen = seen.seen;
        state = seen.state;
        run = seen.run;
        added = a ∷ b ∷ [];
        own = own;
        jobs = λ place listed.
            ⊎_elim
            (λ (e : place ≡ a). subst (IsJobEntry new.seen (length old.seen)) (sym e) (record { since = since; event = Claim; there = first; no_save = refl }))
            (λ (e : place ≡ b). subst (IsJobEntry new.seen (length old.seen)) (sym e) (record { since = omega (arith, since, later); event = event; there = last; no_save = no_save }))
            (either place listed);
        closed = λ place listed there.
            ⊎_elim
            (λ (e : place ≡ a). (b, (event, last, closing ∙ ap (λ n. Some n) (sym e), omega (arith, later, e))))
            (λ (e : place ≡ b).
            let both : Some event ≡ Some Claim = sym last ∙ (ap (slice_get new.seen) (sym e) ∙ there) in
            let is : event ≡ Claim = cc in
            absurd (let wrong : None ≡ Some a = sym (ap closes is) ∙ closing in cc))
            (either place listed);
      }
