-- What a page, or a text in its place, expands to at a point.
use Rattle.std.proofs.Common.{◌≡◌, ℕ, true, List, length, take, Option, None, ap, ◌∙◌, subst, arith}
use Rattle.std.specs.Prelude.{All}
use mathlib.Core.List.{IsPrefix}
use Rattle.wk_page_rules.specs.History.{text_of_revision}
use Rattle.wk_view_rules.specs.Plans.{done}
use Rattle.wk_view_rules.specs.Views.{view}
use Rattle.wk_view_rules.specs.Worlds.{Agrees, IsHonest, Read, fits_kind, of_world}
use Rattle.wk_wiki_rules.specs.Steps.{fan_pages}
use Rattle.wk_wiki_rules.specs.States.{State, world_of}
use Rattle.wk_wiki_rules.specs.Events.{Event}
use Rattle.wk_wiki_rules.specs.Lives.{state_at}
use Rattle.wk_wiki_laws.specs.WellFormed.{IsWellFormed}
use Rattle.wk_wiki_rules.specs.Passes.{CacheEntry, IsKeptRead, IsReadAt, PageReading, PassSeen, drafted_in, shown_number}
use Rattle.wk_wiki_rules.specs.Staleness.{first_stale}
use Rattle.wk_wiki_rules.specs.Starts.{Start}
use Rattle.wk_life_laws.specs.Caches.{IsLastingEntry}
use Rattle.wk_life_laws.proofs.CacheEntries.{entry-right}
use Rattle.wk_life_laws.proofs.LastingEntries.{lasting-made}
use Rattle.wk_life_laws.proofs.Marks.{agrees-now}
use Rattle.wk_life_laws.proofs.Since.{IsSoundSince-replayed}
use Rattle.wk_life_laws.specs.Runs.{IsRun}
use Rattle.wk_life_laws.proofs.RunFacts.{run_kept, run_lasting, run_present}
use Rattle.wk_read_laws.proofs.PointLaws.{prefix-short, state-longer}

abbrev pub pass_of : Start → List Event → List ℕ → PassSeen
pass_of start journal own = record { start = start; journal = journal; own = own }

pub read-now : (start : Start) (journal : List Event) (own : List ℕ) (state : State) (reading : PageReading) → IsRun start journal state
    → (Agrees (of_world (world_of state)) reading.reads → drafted_in (world_of state) reading.page reading.given ≡ done reading.expanded reading.reads)
    → IsHonest (text_of_revision state.history) reading.reads → All (λ (r : Read). fits_kind r.kind r.answer ≡ true) reading.reads → first_stale (world_of state) reading.reads ≡ None
    → reading.number ≡ shown_number state.history reading.page → reading.point ≡ length journal → IsReadAt (pass_of start journal own) reading
read-now start journal own state reading run drafted honest formed none number point = record {
  state = state;
  seen = omega (arith, point);
  at = ap (state_at start.state journal) point ∙ run_present start journal state run;
  drafted = drafted (agrees-now state reading.reads honest formed none);
  numbered = number;
}

pub right-longer : (start : Start) (journal longer : List Event) (own others : List ℕ) (reading : PageReading) → IsPrefix journal longer → IsReadAt (pass_of start journal own) reading → IsReadAt (pass_of start longer others) reading
right-longer start journal longer own others reading begins right = record {
  state = right.state;
  seen = (let short = prefix-short journal longer begins in let s = right.seen in omega (arith, short, s));
  at = state-longer start.state journal longer reading.point right.state begins right.seen right.at;
  drafted = right.drafted;
  numbered = right.numbered;
}

pub kept-longer : (start : Start) (journal longer : List Event) (own others : List ℕ) (entry : CacheEntry) → IsPrefix journal longer → IsKeptRead (pass_of start journal own) entry → IsKeptRead (pass_of start longer others) entry
kept-longer start journal longer own others entry begins kept = record {
  own_text = kept.own_text;
  right = right-longer start journal longer own others entry.reading begins kept.right;
  uses = kept.uses;
}

module _ (start : Start) (journal : List Event) (own : List ℕ) (state : State) (entry : CacheEntry) (run : IsRun start journal state) (kept : IsKeptRead (pass_of start journal own) entry) where
  -- the state at the entry's point is of good form
  formed-then : IsWellFormed kept.right.state
  formed-then = (IsSoundSince-replayed fan_pages start.state kept.right.state 0 (take entry.reading.point journal) run.kept.formed kept.right.at).formed

  -- its page expands there to what it has
  viewed-then : view (of_world (world_of kept.right.state)) entry.reading.page ≡ done entry.reading.expanded entry.reading.reads
  viewed-then = subst (λ (given : Option (List ℕ)). drafted_in (world_of kept.right.state) entry.reading.page given ≡ done entry.reading.expanded entry.reading.reads) kept.own_text kept.right.drafted

  pub kept-lasting : IsLastingEntry state entry
  kept-lasting = run_lasting start journal state run kept.right.state entry.reading.point entry kept.right.at
      (lasting-made kept.right.state entry formed-then kept.own_text viewed-then kept.right.numbered)

  pub kept-current : All (λ (r : Read). fits_kind r.kind r.answer ≡ true) entry.reading.reads → first_stale (world_of state) entry.reading.reads ≡ None
      → IsReadAt (pass_of start journal own) (record entry.reading { point = length journal })
  kept-current formed none = entry-right (pass_of start journal own) state (of_world (world_of kept.right.state)) entry (run_present start journal state run)
      (run_kept start journal state run).formed kept-lasting.honest viewed-then formed none
