-- What the generator does as a command.
use Rattle.std.proofs.Common.{◌≡◌, ◌≢◌, ℕ, ◌≤◌, Bool, true, List, take, Option, refl, sym, ap, ◌∙◌, inl, inr, subst}
use Rattle.std.specs.Io.KnownBytes.{Keeps}
use Rattle.std.proofs.KnownBytes.{Keeps-refl}
use Rattle.wk_page_rules.specs.Verdict.{EditAsked}
use Rattle.wk_wiki_rules.specs.Soundness.{IsSound}
use Rattle.wk_wiki_rules.specs.Starts.{Start}
use Rattle.wk_tool_rules.specs.Checks.{gen_text}
use Rattle.wk_tool_laws.proofs.Differing.{none-differs}
use Rattle.wk_core.specs.Loads.{HasOpened}
use Rattle.wk_core.specs.Seen.{WikiSeen, failed_where}
use Rattle.wk_revs.specs.declared.verdict.SaveRefusal.{SaveRefusal}
use Rattle.wk_revs.specs.declared.verdict.SaveRefusal.TheVariants as refusal
use Rattle.wk_serving.specs.Drains.{IsDrainedBy}
use Rattle.wk_tools.specs.Drains.{CanBeFull}
use Rattle.wk_tools.specs.declared.drains.DrainEnd.{DrainEnd}
use Rattle.wk_tools.specs.declared.drains.DrainEnd.TheVariants as drain
use Rattle.wk_tools.specs.Lived.{HasLived}
use Rattle.wk_tools.specs.Saves.{HasSaved, IsRefusedAt, made_of}
use Rattle.wk_commands.specs.Generated.{EndsDrain, IsSettled, end_of_refusal}
use Rattle.wk_commands.specs.Lived.{HasLivedOn}
use Rattle.wk_commands.specs.Written.{HasWritten}
use Rattle.wk_commands.specs.declared.ends.CommandEnd.{CommandEnd}
use Rattle.wk_commands.specs.declared.ends.CommandEnd.TheVariants.{Done, Differs, DoorFault, Full, Memory, StoreFault, WriteFault}
use Rattle.wk_commands.proofs.Lives.{made-on, made-then-lived}
use Rattle.wk_commands.proofs.Opening.{count-same}

kept : (before after : Option (List ℕ)) → after ≡ before → Keeps before after
kept before after is = subst (Keeps before) (sym is) (Keeps-refl before)

module _ {K : Type 0} (is_whole : K → Bool) (faults : K → ℕ) (old new : WikiSeen K) (held : is_whole old.keeper ≡ old.start.whole) (left : is_whole new.keeper ≡ new.start.whole)
    (had_failed : failed_where (is_whole old.keeper) (faults old.keeper) ≡ old.start.failed) (has_failed : failed_where (is_whole new.keeper) (faults new.keeper) ≡ new.start.failed)
    (before after : Option (List ℕ)) (end : CommandEnd) where
  whole-still : (drained : DrainEnd) → IsDrainedBy faults old new drained → is_whole new.keeper ≡ is_whole old.keeper
  whole-still drained by = left ∙ (by.whole ∙ sym held)

  count-still : (drained : DrainEnd) → IsDrainedBy faults old new drained → is_whole old.keeper ≡ true → faults new.keeper ≡ faults old.keeper
  count-still drained by =
      count-same (is_whole old.keeper) (is_whole new.keeper) (faults old.keeper) (faults new.keeper) (whole-still drained by) (has_failed ∙ (by.failed ∙ sym had_failed))

  -- the drain ended before
  until : (at : CommandEnd) (drained : DrainEnd) → IsDrainedBy faults old new drained → end ≡ at → Done ≢ at → WriteFault ≢ at → Differs ≢ at → DoorFault ≢ at → HasWritten at (gen_text new.state) before after
      → (end ≡ Full → CanBeFull old) → (end ≡ StoreFault → 1 ≤ faults new.keeper) → IsSettled is_whole faults old new before after end
  until at drained by is not_done not_write not_differs not_door written full fault = record {
    lived = by.lived;
    history = by.history;
    none_left = λ ended. elim ended [ inl done ↦ absurd (not_done (sym done ∙ is)) | inr other ↦ absurd (elim other [ inl differs ↦ not_differs (sym differs ∙ is) | inr write ↦ not_write (sym write ∙ is) ]) ];
    written = subst (λ e. HasWritten e (gen_text new.state) before after) (sym is) written;
    same = λ done. absurd (not_done (sym done ∙ is));
    differs = λ differs. absurd (not_differs (sym differs ∙ is));
    full = full;
    fault = fault;
    no_door = λ door. not_door (sym door ∙ is);
    tells = by.tells;
    stays_whole = whole-still drained by;
    whole_count = count-still drained by;
  }

  -- the drain went to its end, and the pages were compared; or it ended before
  pub settled-by : (drained : DrainEnd) → IsDrainedBy faults old new drained → EndsDrain new.state drained end before after → IsSettled is_whole faults old new before after end
  settled-by drain.Done by compared = record {
    lived = by.lived;
    history = by.history;
    none_left = λ _. by.done refl;
    written = compared.written;
    same = compared.same;
    differs = compared.differs;
    full = λ full. absurd (compared.not_full full);
    fault = λ fault. absurd (compared.no_fault fault);
    no_door = compared.no_door;
    tells = by.tells;
    stays_whole = whole-still drain.Done by;
    whole_count = count-still drain.Done by;
  }
  settled-by drain.JournalFull by ends =
      until Full drain.JournalFull by ends.0 (λ e. cc) (λ e. cc) (λ e. cc) (λ e. cc) (kept before after ends.1) (λ _. by.full refl)
      (λ fault. absurd (let e : Full ≡ StoreFault = sym ends.0 ∙ fault in cc))
  settled-by drain.StoreFault by ends =
      until StoreFault drain.StoreFault by ends.0 (λ e. cc) (λ e. cc) (λ e. cc) (λ e. cc) (kept before after ends.1) (λ full. absurd (let e : StoreFault ≡ Full = sym ends.0 ∙ full in cc))
      (λ _. by.fault refl)
  settled-by drain.Memory by ends =
      until Memory drain.Memory by ends.0 (λ e. cc) (λ e. cc) (λ e. cc) (λ e. cc) (kept before after ends.1) (λ full. absurd (let e : Memory ≡ Full = sym ends.0 ∙ full in cc))
      (λ fault. absurd (let e : Memory ≡ StoreFault = sym ends.0 ∙ fault in cc))

-- a wiki that is sound and has no job left has no page that differs
pub agrees : {K : Type 0} (is_whole : K → Bool) (faults : K → ℕ) (old new : WikiSeen K) (before after : Option (List ℕ)) (end : CommandEnd) → IsSettled is_whole faults old new before after end → IsSound new.state → end ≢ Differs
agrees is_whole faults old new before after end settled sound differs =
    let none = settled.none_left (inr (inl differs)) in
    settled.differs differs (none-differs new.state sound none.refreshes none.fans)

-- no refusal of a save ends the command so
pub refused-agrees : (why : SaveRefusal) (end : CommandEnd) → end ≡ end_of_refusal why → end ≢ Differs
refused-agrees why end is differs = by why (sym differs ∙ is)
  where
    by : (w : SaveRefusal) → Differs ≡ end_of_refusal w → ⊥
    by refusal.InvalidTitle e = cc
    by refusal.ContentTooBig e = cc
    by refusal.ArticleExists e = cc
    by refusal.MissingTitle e = cc
    by (refusal.EditConflict current) e = cc
    by (refusal.WikiFull limit) e = cc
    by refusal.JournalFull e = cc
    by refusal.Memory e = cc
    by refusal.StoreFault e = cc

module _ {K : Type 0} (old : WikiSeen K) (opening : HasOpened old old.start.limits) where
  pub settled-on : (middle new : WikiSeen K) (edits : List EditAsked) (left later : Option (List ℕ)) → HasSaved old middle edits left later → HasLived middle new → HasLivedOn old.state new.state
  settled-on middle new edits left later saved lived = made-then-lived old opening middle new (made_of old edits saved.moments).events saved.made lived

  pub refused-on : (new : WikiSeen K) (edits : List EditAsked) (left : Option (List ℕ)) (why : SaveRefusal) → IsRefusedAt old new edits left why → HasLivedOn old.state new.state
  refused-on new edits left why refused = made-on old opening new (made_of old (take refused.count edits) refused.saved.moments).events refused.saved.made

-- ---- the keeper

module _ {K : Type 0} (is_whole : K → Bool) (old middle new : WikiSeen K) (same : middle.start ≡ old.start) (held : is_whole old.keeper ≡ old.start.whole) (kept_whole : is_whole middle.keeper ≡ middle.start.whole) where
  pub tells-on : new.start.tells ≡ middle.start.tells → new.start.tells ≡ old.start.tells
  tells-on tells = tells ∙ ap (λ (s : Start). s.tells) same

  middle-whole : is_whole middle.keeper ≡ is_whole old.keeper
  middle-whole = kept_whole ∙ (ap (λ (s : Start). s.whole) same ∙ sym held)

  pub whole-on : is_whole new.keeper ≡ is_whole middle.keeper → is_whole new.keeper ≡ is_whole old.keeper
  whole-on whole = whole ∙ middle-whole

  pub count-on : (faults : K → ℕ) → (old.start.whole ≡ true → faults middle.keeper ≡ faults old.keeper) → (is_whole middle.keeper ≡ true → faults new.keeper ≡ faults middle.keeper) → is_whole old.keeper ≡ true
      → faults new.keeper ≡ faults old.keeper
  count-on faults first then whole = then (middle-whole ∙ whole) ∙ first (sym held ∙ whole)
