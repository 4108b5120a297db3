-- What a life holds behind each event.
use Rattle.std.proofs.Common.{◌≡◌, ℕ, suc, ◌+◌, ◌-◌, ◌≤◌, false, List, [], ◌∷◌, ◌++◌, length, drop, Option, Some, None, refl, sym, ap, ◌∙◌, subst, arith, length-append, length-drop, length-take-le}
use Rattle.std.proofs.lemmas.List.{length-map}
use Rattle.std.specs.Prelude.{IsSome}
use Rattle.wk_text_rules.specs.Titles.{PageTitle}
use Rattle.wk_page_rules.specs.History.{Revision, next_revision}
use Rattle.wk_wiki_rules.specs.Jobs.{JobLists, claimed_by, first_queued, given_back, page_held_by}
use Rattle.wk_wiki_rules.specs.Steps.{after_fan, fan_pages}
use Rattle.wk_wiki_rules.specs.States.{State}
use Rattle.wk_wiki_rules.specs.Events.{Event, Save, Claim, Done, Back, Fan, with_jobs, with_refreshed, with_saved}
use Rattle.wk_wiki_laws.specs.Saves.{PageSave, saves}
use Rattle.wk_wiki_rules.specs.Entries.{entries_from}
use Rattle.wk_wiki_rules.specs.Room.{is_claim_refused, is_fan_refused, tickets_out}
use Rattle.wk_wiki_rules.specs.declared.Entry.{Entry}
use Rattle.wk_wiki_rules.specs.declared.Entry.TheVariants as entry
use Rattle.wk_wiki_laws.proofs.Room.{out-step-save, out-step-fan}
use Rattle.wk_wiki_laws.proofs.TicketsOut.{out-claimed, out-dropped, out-given_back}
use Rattle.wk_life_laws.specs.Lives.{Life, IsLife, journal_of, start_of}
use Rattle.wk_life_laws.specs.Next.{IsNext, with_entry, with_event}
use Rattle.wk_life_laws.proofs.Lives.{back_life, claimed_life, counted_life, done_life, fanned_life, saved_life}
use Rattle.wk_life_laws.proofs.RunFacts.{run_continues}
use Rattle.wk_live.specs.HeldState.{Rooms}
use Rattle.wk_core.specs.Accepted.{IsAccepted}
use Rattle.wk_core.specs.LifeHeld.{LifeHeld, KeepsLife}

-- ---- entries that name the revisions in their order

entries-behind : (next : ℕ) (before : List Event) (event : Event) → entries_from next (before ++ event ∷ []) ≡ entries_from next before ++ entries_from (next + length (saves before)) (event ∷ [])
entries-behind next [] event = ap (λ n. entries_from n (event ∷ [])) (omega arith)
entries-behind next (Save title text moment ∷ before) event =
    let later = entries-behind (next + 1) before event in
    let same : next + 1 + length (saves before) ≡ next + suc (length (saves before)) = omega arith in
    ap (λ es. entry.Save next ∷ es) (later ∙ ap (λ n. entries_from (next + 1) before ++ entries_from n (event ∷ [])) same)
entries-behind next (Claim ∷ before) event = ap (λ es. entry.Claim ∷ es) (entries-behind next before event)
entries-behind next (Done ticket ∷ before) event = ap (λ es. entry.Done ticket ∷ es) (entries-behind next before event)
entries-behind next (Back ticket ∷ before) event = ap (λ es. entry.Back ticket ∷ es) (entries-behind next before event)
entries-behind next (Fan ∷ before) event = ap (λ es. entry.Fan ∷ es) (entries-behind next before event)

-- there are as many revisions as at the start, and one for each save
revisions-counted : (life : Life) → IsLife life → length life.state.history.revisions ≡ life.kept.revisions + length (saves (journal_of life))
revisions-counted life is =
    let goes_on = run_continues (start_of life) (journal_of life) life.state is.run in
    let at_start = length-take-le life.kept.revisions life.state.history.revisions is.revisions in
    let texts = ap length goes_on.texts in
    let a = length-map (drop (length (start_of life).state.history.revisions) life.state.history.revisions) (λ (r : Revision). r.text) in
    let b = length-map (saves (journal_of life)) (λ (s : PageSave). s.text) in
    let dropped = length-drop (length (start_of life).state.history.revisions) life.state.history.revisions in
    let within = is.revisions in
    omega (arith, at_start, texts, a, b, dropped, within)

named-next : (life : Life) (event : Event) (next : State) → IsLife life → life.entries ≡ entries_from (life.kept.revisions + 1) (journal_of life) → IsNext life event (with_event life event next)
    → (with_event life event next).entries ≡ entries_from (life.kept.revisions + 1) (journal_of (with_event life event next))
named-next life event next is named goes_on =
    let counted = revisions-counted life is in
    let number : next_revision life.state.history ≡ life.kept.revisions + 1 + length (saves (journal_of life)) = omega (arith, counted) in
    let behind = entries-behind (life.kept.revisions + 1) (journal_of life) event in
    let longer = ap (entries_from (life.kept.revisions + 1)) goes_on.journal in
    let before = ap (λ es. es ++ entries_from (next_revision life.state.history) (event ∷ [])) named in
    let numbered = ap (λ n. entries_from (life.kept.revisions + 1) (journal_of life) ++ entries_from n (event ∷ [])) number in
    before ∙ (numbered ∙ (sym behind ∙ sym longer))

-- ---- each event

abbrev pub behind : LifeHeld → List Entry → State → Rooms → ℕ → LifeHeld
behind held entries state room spare = record {
  life = record held.life { entries = entries; state = state };
  room = room;
  spare = spare;
}

module _ (held : LifeHeld) (capacity : ℕ) (keeps : KeepsLife held capacity) where
  point-is : length (journal_of held.life) ≡ length held.life.entries
  point-is = counted_life held.life keeps.life

  keeps-next : (event : Event) (next : State) (one : Entry) (room : Rooms) (spare : ℕ) → entries_from (next_revision held.life.state.history) (event ∷ []) ≡ one ∷ []
      → IsNext held.life event (with_entry held.life one next)
      → spare + (length held.life.entries + 1 + tickets_out next) ≤ capacity
      → KeepsLife (behind held (held.life.entries ++ one ∷ []) next room spare) capacity
  keeps-next event next one room spare single goes_on within =
      let longer = length-append held.life.entries (one ∷ []) in
      let as_event : with_event held.life event next ≡ with_entry held.life one next = ap (λ es. with_entries es) single in
      record {
        life = goes_on.is;
        few = keeps.few;
        named = subst (λ (l : Life). l.entries ≡ entries_from (held.life.kept.revisions + 1) (journal_of l)) as_event
            (named-next held.life event next keeps.life keeps.named (subst (λ (l : Life). IsNext held.life event l) (sym as_event) goes_on));
        room = omega (arith, longer, within);
      }
    where
      with_entries : List Entry → Life
      with_entries es = record held.life { entries = held.life.entries ++ es; state = next }

  -- a save for which there is room
  pub held-saved : (title : PageTitle) (text : Option (List ℕ)) (moment revision : ℕ) (state : State) (room : Rooms) (spare : ℕ) → IsAccepted held.life title text → held.life.sealed ≡ None
      → state ≡ with_saved held.life.state title text moment → revision ≡ next_revision held.life.state.history → spare + 1 ≤ held.spare
      → KeepsLife (behind held (held.life.entries ++ entry.Save revision ∷ []) state room spare) capacity
      × IsNext held.life (Save title text moment) (with_entry held.life (entry.Save revision) state)
  held-saved title text moment revision state room spare accepted unsealed is number less =
      let goes_on = saved_life held.life (length (journal_of held.life)) moment accepted.edit title text keeps.life refl unsealed accepted.is in
      let next : IsNext held.life (Save title text moment) (with_entry held.life (entry.Save revision) state) = rw (is, number) goes_on in
      let same = out-step-save fan_pages held.life.state state (length (journal_of held.life)) title text moment next.done in
      let within = keeps.room in (
        keeps-next (Save title text moment) state (entry.Save revision) room spare (ap (λ n. entry.Save n ∷ []) (sym number)) next (omega (arith, same, within, less)),
        next,
      )

  pub held-claimed : (page : ℕ) (state : State) (room : Rooms) (spare : ℕ) → first_queued held.life.state.jobs ≡ Some page
      → is_claim_refused held.life.limits held.life.state (length (journal_of held.life)) ≡ false
      → state ≡ with_jobs held.life.state (claimed_by held.life.state.jobs (length (journal_of held.life) + 1)) → spare + 2 ≤ held.spare
      → KeepsLife (behind held (held.life.entries ++ entry.Claim ∷ []) state room spare) capacity × IsNext held.life Claim (with_entry held.life entry.Claim state)
  held-claimed page state room spare first free is less =
      let goes_on = claimed_life held.life (length (journal_of held.life)) page keeps.life refl free first in
      let next : IsNext held.life Claim (with_entry held.life entry.Claim state) = rw is goes_on in
      let more : tickets_out state ≤ tickets_out held.life.state + 1 = rw is (out-claimed held.life.state.jobs.refreshes (length (journal_of held.life) + 1)) in
      let within = keeps.room in
      (keeps-next Claim state entry.Claim room spare refl next (omega (arith, more, within, less)), next)

  pub held-back : (ticket page : ℕ) (state : State) (room : Rooms) → page_held_by held.life.state.jobs ticket ≡ Some page
      → state ≡ with_jobs held.life.state (given_back held.life.state.jobs page)
      → KeepsLife (behind held (held.life.entries ++ entry.Back ticket ∷ []) state room held.spare) capacity × IsNext held.life (Back ticket) (with_entry held.life (entry.Back ticket) state)
  held-back ticket page state room holds is =
      let goes_on = back_life held.life ticket page keeps.life holds in
      let next : IsNext held.life (Back ticket) (with_entry held.life (entry.Back ticket) state) = rw is goes_on in
      let less : tickets_out state + 1 ≤ tickets_out held.life.state = rw is (out-given_back held.life.state.jobs ticket page holds) in
      let within = keeps.room in
      (keeps-next (Back ticket) state (entry.Back ticket) room held.spare refl next (omega (arith, less, within)), next)

  pub held-done : (ticket page : ℕ) (state : State) (room : Rooms) → page_held_by held.life.state.jobs ticket ≡ Some page
      → state ≡ with_refreshed held.life.state page
      → KeepsLife (behind held (held.life.entries ++ entry.Done ticket ∷ []) state room held.spare) capacity × IsNext held.life (Done ticket) (with_entry held.life (entry.Done ticket) state)
  held-done ticket page state room holds is =
      let goes_on = done_life held.life ticket page keeps.life holds in
      let next : IsNext held.life (Done ticket) (with_entry held.life (entry.Done ticket) state) = rw is goes_on in
      let less : tickets_out state + 1 ≤ tickets_out held.life.state = rw is (out-dropped held.life.state.jobs ticket page holds) in
      let within = keeps.room in
      (keeps-next (Done ticket) state (entry.Done ticket) room held.spare refl next (omega (arith, less, within)), next)

  pub held-fanned : (jobs : JobLists) (state : State) (room : Rooms) (spare : ℕ) → after_fan held.life.state.stored fan_pages held.life.state.jobs ≡ Some jobs
      → is_fan_refused held.life.limits held.life.state (length (journal_of held.life)) ≡ false
      → state ≡ with_jobs held.life.state jobs → spare + 1 ≤ held.spare
      → KeepsLife (behind held (held.life.entries ++ entry.Fan ∷ []) state room spare) capacity × IsNext held.life Fan (with_entry held.life entry.Fan state)
  held-fanned jobs state room spare after free is less =
      let goes_on = fanned_life held.life (length (journal_of held.life)) jobs keeps.life refl free after in
      let next : IsNext held.life Fan (with_entry held.life entry.Fan state) = rw is goes_on in
      let same = out-step-fan fan_pages held.life.state state (length (journal_of held.life)) next.done in
      let within = keeps.room in
      (keeps-next Fan state entry.Fan room spare refl next (omega (arith, same, within, less)), next)

-- ---- the same for entries and room that are told by equations

pub some-is : {X : Type 0} (o : Option X) → IsSome o → (x : X) × (o ≡ Some x)
some-is None none = absurd cc
some-is (Some x) some = (x, refl)

pub held-as : (held : LifeHeld) (entries told : List Entry) (state : State) (room : Rooms) (spare capacity other : ℕ) → told ≡ entries → other ≡ capacity
    → KeepsLife (behind held entries state room spare) capacity → KeepsLife (behind held told state room spare) other
held-as held entries told state room spare capacity other same_entries same keeps =
    subst (λ k. KeepsLife (behind held told state room spare) k) (sym same)
    (subst (λ es. KeepsLife (behind held es state room spare) capacity) (sym same_entries) keeps)

pub next-as : (life seen : Life) (event : Event) (one : Entry) (told : List Entry) (state : State) → told ≡ life.entries ++ one ∷ [] → life ≡ seen → IsNext life event (with_entry life one state)
    → IsNext seen event (record life { entries = told; state = state })
next-as life seen event one told state same is next =
    let here : IsNext life event (record life { entries = told; state = state }) =
    subst (λ (es : List Entry). IsNext life event (record life { entries = es; state = state })) (sym same) next in
    subst (λ (l : Life). IsNext l event (record life { entries = told; state = state })) is here
