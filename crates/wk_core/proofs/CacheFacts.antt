-- What a wiki keeps of drafts lasts, whatever its calls do.
use Rattle.std.proofs.Common.{◌≡◌, ℕ, Result, Ok, Err, List, length, Option, Some, None, inl, inr, sym, ap, subst}
use Rattle.std.specs.Prelude.{IfOk, IfSome, OnErr, OnOk}
use Rattle.wk_text_rules.specs.Titles.{PageTitle}
use Rattle.wk_table_rules.specs.Rows.{StoreTables}
use Rattle.wk_wiki_rules.specs.Steps.{fan_pages}
use Rattle.wk_wiki_rules.specs.States.{State}
use Rattle.wk_wiki_rules.specs.Events.{Event, step}
use Rattle.wk_life_laws.specs.Caches.{IsLastingEntry}
use Rattle.wk_life_laws.proofs.LastingEntries.{lasting-stepped}
use Rattle.wk_life_laws.specs.Lives.{Life, journal_of}
use Rattle.wk_life_laws.specs.Next.{IsNext}
use Rattle.wk_cache.specs.Entries.{CacheShown, entry_kept, entry_of, kept_with, to_front}
use Rattle.wk_cache.specs.declared.kept.Kept.{Kept}
use Rattle.wk_cache.proofs.Lists.{found-among, front-among, put-among}
use Rattle.wk_core.specs.Cached.{AreLasting}
use Rattle.wk_core.specs.Seen.{WikiSeen}
use Rattle.wk_core.specs.Steps.{HasMade, HasMadeNothing}

-- ---- events

lasting-step : (state next : State) (journal : ℕ) (event : Event) (entries : List Kept) → step state journal event ≡ Some next → AreLasting state entries → AreLasting next entries
lasting-step state next journal event entries stepped lasting = record {
  each = λ kept among. lasting-stepped fan_pages state next journal event (entry_kept kept) stepped (lasting.each kept among);
}

pub lasting-same : (state next : State) (entries : List Kept) → next ≡ state → AreLasting state entries → AreLasting next entries
lasting-same state next entries same lasting = subst (λ (s : State). AreLasting s entries) (sym same) lasting

pub lasting-next : (old next : Life) (event : Event) (entries : List Kept) → IsNext old event next → AreLasting old.state entries → AreLasting next.state entries
lasting-next old next event entries made lasting = lasting-step old.state next.state (length (journal_of old)) event entries made.done lasting

-- a call that makes an event, or nothing where it refuses
pub lasting-event : {A B : Type 0} (old next : Life) (event : Event) (entries : List Kept) (result : Result A B) → OnOk result (IsNext old event next) → OnErr result (next ≡ old)
    → AreLasting old.state entries → AreLasting next.state entries
lasting-event old next event entries (Ok _) made same lasting = lasting-next old next event entries made lasting
lasting-event old next event entries (Err _) made same lasting = lasting-same old.state next.state entries (ap (λ (l : Life). l.state) same) lasting

-- the same of the whole wiki
pub lasting-call : {K A B : Type 0} (told : K → Option StoreTables) (old new : WikiSeen K) (event : Event) (entries : List Kept) (result : Result A B) → OnOk result (HasMade old new event)
    → OnErr result (HasMadeNothing told old new) → AreLasting old.state entries → AreLasting new.state entries
lasting-call told old new event entries (Ok _) made nothing lasting = lasting-step old.state new.state (length old.journal) event entries made.stepped lasting
lasting-call {K = K} told old new event entries (Err _) made nothing lasting = lasting-same old.state new.state entries (ap (λ (w : WikiSeen K). w.state) nothing.wiki) lasting

-- ---- entries

pub front-lasting : (state : State) (page : PageTitle) (entries : List Kept) → AreLasting state entries → AreLasting state (to_front page entries)
front-lasting state page entries lasting = record { each = λ kept among. lasting.each kept (front-among page entries kept among) }

new-lasting : (state : State) (most : ℕ) (new : Kept) (entries : List Kept) → IsLastingEntry state (entry_kept new) → AreLasting state entries → AreLasting state (kept_with most new entries)
new-lasting state most new entries fits lasting = record {
  each = λ kept among. elim (put-among most new entries kept among) [
    | inl before ↦ lasting.each kept before
    | inr same ↦ subst (λ (k : Kept). IsLastingEntry state (entry_kept k)) (sym same) fits
  ];
}

pub put-lasting : {A B : Type 0} (state : State) (kept : Kept) (old new : CacheShown) (result : Result A B) → OnOk result (new ≡ record old { entries = kept_with old.most kept old.entries })
    → OnErr result (new ≡ old) → IsLastingEntry state (entry_kept kept) → AreLasting state old.entries → AreLasting state new.entries
put-lasting state kept old new (Ok _) put same fits lasting = subst (λ (c : CacheShown). AreLasting state c.entries) (sym put) (new-lasting state old.most kept old.entries fits lasting)
put-lasting state kept old new (Err _) put same fits lasting = subst (λ (c : CacheShown). AreLasting state c.entries) (sym same) lasting

found-by : (state : State) (page : PageTitle) (entries : List Kept) (found : Option Kept) → found ≡ entry_of page entries → AreLasting state entries
    → IfSome found (λ kept. (kept.draft.page ≡ page) × IsLastingEntry state (entry_kept kept))
found-by state page entries None is lasting = tt
found-by state page entries (Some kept) is lasting = let there = found-among page entries kept (sym is) in (there.1, lasting.each kept there.0)

pub found-lasting : {B : Type 0} (state : State) (page : PageTitle) (entries : List Kept) (result : Result (Option Kept) B) → IfOk result (λ found. found ≡ entry_of page entries)
    → AreLasting state entries → IfOk result (λ found. IfSome found (λ kept. (kept.draft.page ≡ page) × IsLastingEntry state (entry_kept kept)))
found-lasting state page entries (Ok found) is lasting = found-by state page entries found is lasting
found-lasting state page entries (Err _) is lasting = tt
