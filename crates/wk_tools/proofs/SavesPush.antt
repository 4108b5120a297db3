-- One save more.
use Rattle.std.proofs.Common.{◌≡◌, ℕ, ◌+◌, List, [], ◌∷◌, ◌++◌, length, Option, Some, None, refl, sym, ap, ◌∙◌, subst, append_assoc, arith}
use Rattle.std.specs.Prelude.{option_and_then}
use Rattle.std.proofs.lemmas.List.{append-nil, length-append}
use Rattle.wk_base.specs.Clock.{Ticks, later_moments}
use Rattle.wk_table_rules.specs.Rows.{StoreTables}
use Rattle.wk_page_rules.specs.Verdict.{EditAsked, MostHeld, Verdict, accept, no_change, refuse}
use Rattle.wk_wiki_rules.specs.Steps.{fan_pages}
use Rattle.wk_wiki_rules.specs.States.{State}
use Rattle.wk_wiki_rules.specs.Events.{Event, Save, step_by, with_saved}
use Rattle.wk_wiki_rules.specs.Lives.{replay_from}
use Rattle.wk_wiki_rules.specs.Verdicts.{event_of, verdict_in}
use Rattle.wk_tool_rules.specs.Saving.{SavesMade, saves_made}
use Rattle.wk_wiki_laws.proofs.Parts.{replay-append}
use Rattle.wk_wiki_laws.proofs.TicketSteps.{saved-is}
use Rattle.wk_wiki_rules.specs.SaveOutcomes.{SaveOutcome, save_outcome}
use Rattle.wk_wiki_rules.specs.Starts.{Start}
use Rattle.wk_core.specs.Seen.{WikiSeen, verdict_now}
use Rattle.wk_core.specs.Steps.{HasMade, HasMadeAtMost, HasMadeNothing}
use Rattle.wk_tools.specs.Lived.{HasMadeEach}
use Rattle.wk_tools.specs.Saves.{AreGiven, HasSaved, made_of}

-- ---- events

module _ {K : Type 0} where
  pub made-none : (wiki : WikiSeen K) → HasMadeEach wiki wiki []
  made-none wiki = record { start = refl; journal = sym (append-nil wiki.journal); replayed = refl }

  pub each-push : (old middle new : WikiSeen K) (events : List Event) (event : Event) → HasMadeEach old middle events → HasMade middle new event → HasMadeEach old new (events ++ event ∷ [])
  each-push old middle new events event each made =
      let longer : length middle.journal ≡ length old.journal + length events = ap length each.journal ∙ length-append old.journal events in
      let stepped : step_by fan_pages middle.state (length old.journal + length events) event ≡ Some new.state = subst (λ n. step_by fan_pages middle.state n event ≡ Some new.state) longer made.stepped in
      record {
        start = made.start ∙ each.start;
        journal = made.journal ∙ (ap (λ (j : List Event). j ++ event ∷ []) each.journal ∙ append_assoc old.journal events (event ∷ []));
        replayed =
            replay-append fan_pages old.state (length old.journal) events (event ∷ [])
            ∙ (ap (option_and_then (λ s. replay_from fan_pages s (length old.journal + length events) (event ∷ []))) each.replayed
            ∙ ap (option_and_then (λ s. replay_from fan_pages s (length old.journal + length events + 1) [])) stepped);
      }

  pub each-same : (old middle new : WikiSeen K) (events : List Event) → HasMadeEach old middle events → new.start ≡ middle.start → new.journal ≡ middle.journal → new.state ≡ middle.state → HasMadeEach old new events
  each-same old middle new events each start journal state = record {
    start = start ∙ each.start;
    journal = journal ∙ each.journal;
    replayed = each.replayed ∙ ap (λ (s : State). Some s) (sym state);
  }

-- ---- saves

-- what one save more makes
abbrev with_verdict : SavesMade → ℕ → Verdict → SavesMade
with_verdict made moment (refuse refusal) = record made { refused = Some refusal }
with_verdict made moment (no_change title) = made
with_verdict made moment (accept title text) =
    record { events = made.events ++ Save title text moment ∷ []; after = with_saved made.after title text moment; refused = made.refused }

later-push : (x : ℕ) (xs : List ℕ) (moment : ℕ) → later_moments (x ∷ (xs ++ moment ∷ [])) ≡ xs ++ moment ∷ []
later-push x [] moment = refl
later-push x (y ∷ ys) moment = refl

module _ (most : MostHeld) where
  later-same : (state : State) (journal : ℕ) (edits : List EditAsked) (x : ℕ) (xs : List ℕ) → length xs ≡ length edits → saves_made most state journal edits (later_moments (x ∷ xs)) ≡ saves_made most state journal edits xs
  unfolding saves_made
  later-same state journal [] x [] many = refl
  later-same state journal (edit ∷ edits) x [] many = absurd (omega (arith, many))
  later-same state journal edits x (y ∷ ys) many = refl

  -- events before others
  abbrev behind : Event → SavesMade → SavesMade
  behind event made = record made { events = event ∷ made.events }

  -- what the first save makes, and those behind it
  abbrev first_save : State → ℕ → List EditAsked → List ℕ → ℕ → Verdict → SavesMade
  first_save state journal edits moments moment (refuse refusal) = record { events = []; after = state; refused = Some refusal }
  first_save state journal edits moments moment (no_change title) = saves_made most state journal edits moments
  first_save state journal edits moments moment (accept title text) = behind (Save title text moment) (saves_made most (with_saved state title text moment) (journal + 1) edits moments)

  saves-cons : (state : State) (journal : ℕ) (e : EditAsked) (es : List EditAsked) (x : ℕ) (xs : List ℕ)
      → saves_made most state journal (e ∷ es) (x ∷ xs) ≡ first_save state journal es (later_moments (x ∷ xs)) x (verdict_in most state journal e)
  unfolding saves_made
  saves-cons state journal e es x xs = by (verdict_in most state journal e)
    where
      by : (v : Verdict)
          → (elim v as (λ p. SavesMade) [
            | refuse refusal ↦ record { events = []; after = state; refused = Some refusal }
            | no_change title ↦ saves_made most state journal es (later_moments (x ∷ xs))
            | accept title text ↦ behind (Save title text x) (saves_made most (with_saved state title text x) (journal + 1) es (later_moments (x ∷ xs)))
          ])
          ≡ first_save state journal es (later_moments (x ∷ xs)) x v
      by (refuse refusal) = refl
      by (no_change title) = refl
      by (accept title text) = refl

  -- one save more behind others
  abbrev one_more : ℕ → EditAsked → ℕ → SavesMade → SavesMade
  one_more journal edit moment made = with_verdict made moment (verdict_in most made.after (journal + length made.events) edit)

  behind-verdict : (event : Event) (made : SavesMade) (moment : ℕ) (v : Verdict) → behind event (with_verdict made moment v) ≡ with_verdict (behind event made) moment v
  behind-verdict event made moment (refuse refusal) = refl
  behind-verdict event made moment (no_change title) = refl
  behind-verdict event made moment (accept title text) = refl

  behind-more : (event : Event) (journal : ℕ) (edit : EditAsked) (moment : ℕ) (made : SavesMade) → behind event (one_more (journal + 1) edit moment made) ≡ one_more journal edit moment (behind event made)
  behind-more event journal edit moment made =
      let count : journal + 1 + length made.events ≡ journal + length (event ∷ made.events) = omega arith in
      behind-verdict event made moment (verdict_in most made.after (journal + 1 + length made.events) edit)
      ∙ ap (λ n. with_verdict (behind event made) moment (verdict_in most made.after n edit)) count

  push-first : (state : State) (journal : ℕ) (es : List EditAsked) (x : ℕ) (xs : List ℕ) (edit : EditAsked) (moment : ℕ) (v : Verdict) → length xs ≡ length es
      → ((s : State) (j : ℕ) → (saves_made most s j es xs).refused ≡ None → saves_made most s j (es ++ edit ∷ []) (xs ++ moment ∷ []) ≡ one_more j edit moment (saves_made most s j es xs))
      → (first_save state journal es (later_moments (x ∷ xs)) x v).refused ≡ None
      → first_save state journal (es ++ edit ∷ []) (later_moments (x ∷ (xs ++ moment ∷ []))) x v ≡ one_more journal edit moment (first_save state journal es (later_moments (x ∷ xs)) x v)
  push-first state journal es x xs edit moment (refuse refusal) many before none = absurd (let e : Some refusal ≡ None = none in cc)
  push-first state journal es x xs edit moment (no_change title) many before none =
      let later = later-same state journal es x xs many in
      ap (saves_made most state journal (es ++ edit ∷ [])) (later-push x xs moment)
      ∙ (before state journal (ap (λ (m : SavesMade). m.refused) (sym later) ∙ none) ∙ ap (one_more journal edit moment) (sym later))
  push-first state journal es x xs edit moment (accept title text) many before none =
      let next = with_saved state title text x in
      let later = later-same next (journal + 1) es x xs many in
      ap (λ ms. behind (Save title text x) (saves_made most next (journal + 1) (es ++ edit ∷ []) ms)) (later-push x xs moment)
      ∙ (ap (behind (Save title text x)) (before next (journal + 1) (ap (λ (m : SavesMade). m.refused) (sym later) ∙ none))
      ∙ (ap (λ (m : SavesMade). behind (Save title text x) (one_more (journal + 1) edit moment m)) (sym later)
      ∙ behind-more (Save title text x) journal edit moment (saves_made most next (journal + 1) es (later_moments (x ∷ xs)))))

  saves-none : (state : State) (journal : ℕ) (moments : List ℕ) → saves_made most state journal [] moments ≡ record { events = []; after = state; refused = None }
  unfolding saves_made
  saves-none state journal moments = refl

  one-first : (state : State) (journal : ℕ) (ms : List ℕ) (moment : ℕ) (v : Verdict) → first_save state journal [] ms moment v ≡ with_verdict (record { events = []; after = state; refused = None }) moment v
  one-first state journal ms moment (refuse refusal) = refl
  one-first state journal ms moment (no_change title) = saves-none state journal ms
  one-first state journal ms moment (accept title text) = ap (behind (Save title text moment)) (saves-none (with_saved state title text moment) (journal + 1) ms)

  saves-push : (state : State) (journal : ℕ) (edits : List EditAsked) (moments : List ℕ) (edit : EditAsked) (moment : ℕ) → length moments ≡ length edits → (saves_made most state journal edits moments).refused ≡ None
      → saves_made most state journal (edits ++ edit ∷ []) (moments ++ moment ∷ []) ≡ one_more journal edit moment (saves_made most state journal edits moments)
  saves-push state journal [] [] edit moment many none =
      let same : journal ≡ journal + 0 = omega arith in
      let empty : SavesMade = record { events = []; after = state; refused = None } in
      saves-cons state journal edit [] moment []
      ∙ (one-first state journal (later_moments (moment ∷ [])) moment (verdict_in most state journal edit)
      ∙ (ap (λ n. with_verdict empty moment (verdict_in most state n edit)) same ∙ ap (one_more journal edit moment) (sym (saves-none state journal []))))
  saves-push state journal [] (x ∷ xs) edit moment many none = absurd (omega (arith, many))
  saves-push state journal (e ∷ es) [] edit moment many none = absurd (omega (arith, many))
  saves-push state journal (e ∷ es) (x ∷ xs) edit moment many none =
      let few : length xs ≡ length es = omega (arith, many) in
      let v = verdict_in most state journal e in
      let is = saves-cons state journal e es x xs in
      saves-cons state journal e (es ++ edit ∷ []) x (xs ++ moment ∷ [])
      ∙ (push-first state journal es x xs edit moment v few (λ s j unrefused. saves-push s j es xs edit moment few unrefused) (ap (λ (m : SavesMade). m.refused) (sym is) ∙ none)
      ∙ ap (one_more journal edit moment) (sym is))

-- ---- the wiki

given-push : (left between later : Option (List ℕ)) (moments : List ℕ) (moment : ℕ) → AreGiven left between moments → Ticks between later moment → AreGiven left later (moments ++ moment ∷ [])
given-push left between later [] moment same ticks = (later, subst (λ o. Ticks o later moment) (sym same) ticks, refl)
given-push left between later (x ∷ xs) moment given ticks = (given.0, given.1, given-push given.0 between later xs moment given.2 ticks)

module _ {K : Type 0} (told : K → Option StoreTables) where
  pub saved-none : (wiki : WikiSeen K) (left : Option (List ℕ)) → HasSaved wiki wiki [] left left
  unfolding saves_made
  saved-none wiki left = record { moments = []; given = refl; one_each = refl; none_refused = refl; made = made-none wiki; after = refl }

  -- the same where nothing happened since
  pub saved-same : (old middle new : WikiSeen K) (edits : List EditAsked) (left later : Option (List ℕ)) → HasSaved old middle edits left later → HasMadeNothing told middle new → HasSaved old new edits left later
  saved-same old middle new edits left later saved nothing = record {
    moments = saved.moments;
    given = saved.given;
    one_each = saved.one_each;
    none_refused = saved.none_refused;
    made = each-same old middle new (made_of old edits saved.moments).events saved.made (ap (λ (w : WikiSeen K). w.start) nothing.wiki) (ap (λ (w : WikiSeen K). w.journal) nothing.wiki) (ap (λ (w : WikiSeen K). w.state) nothing.wiki);
    after = ap (λ (w : WikiSeen K). w.state) nothing.wiki ∙ saved.after;
  }

  module _ (old middle new : WikiSeen K) (edits : List EditAsked) (edit : EditAsked) (left between later : Option (List ℕ)) (moment : ℕ) (saved : HasSaved old middle edits left between) (ticks : Ticks between later moment) where
    abbrev made : SavesMade
    made = made_of old edits saved.moments

    -- the verdict on the edit is the one behind the saves
    same-verdict : verdict_in old.start.limits made.after (length old.journal + length made.events) edit ≡ verdict_now middle edit
    same-verdict =
        let longer : length old.journal + length made.events ≡ length middle.journal = sym (ap length saved.made.journal ∙ length-append old.journal made.events) in
        ap (λ (s : State). verdict_in old.start.limits s (length old.journal + length made.events) edit) (sym saved.after)
        ∙ (ap (λ n. verdict_in old.start.limits middle.state n edit) longer
        ∙ ap (λ (m : MostHeld). verdict_in m middle.state (length middle.journal) edit) (sym (ap (λ (s : Start). s.limits) saved.made.start)))

    pushed : made_of old (edits ++ edit ∷ []) (saved.moments ++ moment ∷ []) ≡ with_verdict made moment (verdict_now middle edit)
    pushed = saves-push old.start.limits old.state (length old.journal) edits saved.moments edit moment saved.one_each saved.none_refused ∙ ap (with_verdict made moment) same-verdict

    as_many : length (saved.moments ++ moment ∷ []) ≡ length (edits ++ edit ∷ [])
    as_many =
        let a = length-append saved.moments (moment ∷ []) in
        let b = length-append edits (edit ∷ []) in
        let c = saved.one_each in
        omega (arith, a, b, c)

    from-made : (result : SavesMade) → made_of old (edits ++ edit ∷ []) (saved.moments ++ moment ∷ []) ≡ result → result.refused ≡ None → HasMadeEach old new result.events → new.state ≡ result.after
        → HasSaved old new (edits ++ edit ∷ []) left later
    from-made result is none each after = record {
      moments = saved.moments ++ moment ∷ [];
      given = given-push left between later saved.moments moment saved.given ticks;
      one_each = as_many;
      none_refused = ap (λ (m : SavesMade). m.refused) is ∙ none;
      made = subst (λ (m : SavesMade). HasMadeEach old new m.events) (sym is) each;
      after = after ∙ ap (λ (m : SavesMade). m.after) (sym is);
    }

    by-verdict : (v : Verdict) (outcome : SaveOutcome) → verdict_now middle edit ≡ v → Some outcome ≡ save_outcome middle.state.history v → HasMadeAtMost told middle new (event_of v moment) → HasSaved old new (edits ++ edit ∷ []) left later
    by-verdict (refuse refusal) outcome is some happened = absurd (let e : Some outcome ≡ None = some in cc)
    by-verdict (no_change title) outcome is some nothing =
        from-made made (pushed ∙ ap (with_verdict made moment) is) saved.none_refused
        (each-same old middle new made.events saved.made (ap (λ (w : WikiSeen K). w.start) nothing.wiki) (ap (λ (w : WikiSeen K). w.journal) nothing.wiki) (ap (λ (w : WikiSeen K). w.state) nothing.wiki))
        (ap (λ (w : WikiSeen K). w.state) nothing.wiki ∙ saved.after)
    by-verdict (accept title text) outcome is some has =
        let step = saved-is fan_pages middle.state new.state (length middle.journal) title text moment has.stepped in
        from-made (with_verdict made moment (accept title text)) (pushed ∙ ap (with_verdict made moment) is) saved.none_refused
        (each-push old middle new made.events (Save title text moment) saved.made has)
        (sym step.1 ∙ ap (λ (s : State). with_saved s title text moment) saved.after)

    pub saved-more : (outcome : SaveOutcome) → Some outcome ≡ save_outcome middle.state.history (verdict_now middle edit) → HasMadeAtMost told middle new (event_of (verdict_now middle edit) moment) → HasSaved old new (edits ++ edit ∷ []) left later
    saved-more outcome some happened = by-verdict (verdict_now middle edit) outcome refl some happened
