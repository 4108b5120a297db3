-- What the small wiki of the examples keeps, and what a pass under the turn holds of it.
use Rattle.std.proofs.Common.{◌≡◌, ℕ, zero, suc, [], ◌∷◌, codes, lit≤, None, refl, Some, arith, true}
use Rattle.std.proofs.lemmas.List.Elements.{All-from_recursion}
use Rattle.atomic_table.specs.Seated.{TableId}
use Rattle.wk_page_rules.specs.History.{text_of_revision}
use Rattle.wk_page_rules.specs.Verdict.{full_limits}
use Rattle.wk_view_rules.specs.Worlds.{HasItsText, Read, mark, page_of}
use Rattle.wk_wiki_rules.specs.Computing.{computing}
use Rattle.wk_wiki_rules.specs.Entries.{closes}
use Rattle.wk_wiki_rules.specs.Events.{Claim, Done}
use Rattle.wk_wiki_rules.specs.SaveOutcomes.{deletion}
use Rattle.wk_wiki_rules.specs.Staleness.{present_mark}
use Rattle.wk_wiki_rules.specs.States.{no_state, world_of}
use Rattle.wk_life_laws.specs.Lives.{IsLife, Life}
use Rattle.wk_life_laws.specs.Next.{Begins, IsNext, new_start}
use Rattle.wk_life_laws.specs.Runs.{IsRun}
use Rattle.wk_life_laws.proofs.Lives as law
use Rattle.wk_core.specs.Tickets.{IsDraftFor, IsOut}
use Rattle.wk_turn.specs.Journal.{Closes, IsOpen}
use Rattle.wk_shared.specs.Calls.{HoldsDraft, HoldsTicket, state_by}
use Rattle.wk_complete_laws.specs.Complete.{AreCurrent}
use Rattle.wk_complete_laws.specs.Example.{claimed_a, claimed_life, delete_a, deleted_life, draft_a, edit_asked_of_a, empty_life, pass_claimed, refreshed_a, refreshed_life, save_a, saved_life, ticket_a, title_a, whole_start, wiki_of}

-- ---- what it keeps

begins : Begins empty_life (new_start no_state full_limits true)
begins = law.empty_life full_limits true (record { pages = lit≤ tt; text = lit≤ tt })

saved : IsNext empty_life save_a saved_life
unfolding computing
saved = law.saved_life empty_life 0 11 edit_asked_of_a title_a (Some (codes "x")) begins.is refl refl refl

claimed : IsNext saved_life Claim claimed_life
unfolding computing
claimed = law.claimed_life saved_life 1 1 saved.is refl refl refl

refreshed : IsNext claimed_life (Done 2) refreshed_life
unfolding computing
refreshed = law.done_life claimed_life 2 1 claimed.is refl

deleted : IsNext refreshed_life delete_a deleted_life
unfolding computing
deleted = law.saved_life refreshed_life 3 12 (deletion (codes "A") (Some 1)) title_a None refreshed.is refl refl refl

pub empty-kept : IsLife empty_life
empty-kept = begins.is

pub saved-kept : IsLife saved_life
saved-kept = saved.is

pub claimed-kept : IsLife claimed_life
claimed-kept = claimed.is

pub refreshed-kept : IsLife refreshed_life
refreshed-kept = refreshed.is

pub deleted-kept : IsLife deleted_life
deleted-kept = deleted.is

-- ---- its runs

run-of : (life : Life) → IsLife life → IsRun (wiki_of life).start (wiki_of life).journal (wiki_of life).state
run-of life is = record { full = is.run.full; kept = is.run.kept; none_out = is.run.none_out; calls = is.run.calls; seal = is.run.seal }

pub empty-run : IsRun whole_start [] no_state
unfolding computing
empty-run = run-of empty_life empty-kept

pub claimed-run : IsRun whole_start (save_a ∷ Claim ∷ []) claimed_a
unfolding computing
claimed-run = run-of claimed_life claimed-kept

pub refreshed-run : IsRun whole_start (save_a ∷ Claim ∷ Done 2 ∷ []) refreshed_a
unfolding computing
refreshed-run = run-of refreshed_life refreshed-kept

-- ---- the ticket and its draft

pub ticket-out : IsOut claimed_a ticket_a
unfolding computing
ticket-out = record { page = 1; held = refl; titled = refl }

pub draft-fit : IsDraftFor claimed_a ticket_a draft_a
unfolding computing
draft-fit = record {
  page = refl;
  own_text = refl;
  honest = All-from_recursion (λ (r : Read). HasItsText (text_of_revision claimed_a.history) (page_of r.answer)) draft_a.reads (refl, tt);
}

pub reads-current : AreCurrent (world_of claimed_a) draft_a.reads
unfolding computing
reads-current = All-from_recursion (λ (r : Read). mark r.answer ≡ present_mark (world_of claimed_a) r) draft_a.reads (refl, tt)

-- ---- what a pass holds

-- nothing closes the claim
unclosed : (place : ℕ) → Closes closes (save_a ∷ Claim ∷ []) place 1 → ⊥
unclosed zero closing = let later = closing.3 in omega (arith, later)
unclosed (suc zero) closing = let later = closing.3 in omega (arith, later)
unclosed (suc (suc place)) closing = let e : None ≡ Some closing.0 = closing.1 in cc

claim-open : IsOpen closes (save_a ∷ Claim ∷ []) (0 ∷ 1 ∷ []) 1
claim-open = (lit≤ tt, unclosed)

module _ (turn : TableId) where
  stands : state_by whole_start (pass_claimed turn) 2 ≡ Some claimed_a
  unfolding computing
  stands = refl

  pub ticket-held : HoldsTicket whole_start (pass_claimed turn) ticket_a
  ticket-held = record { claim = claim-open; state = claimed_a; seen = stands; out = ticket-out }

  pub draft-held : HoldsDraft whole_start (pass_claimed turn) ticket_a draft_a
  draft-held = record { state = claimed_a; seen = stands; fit = draft-fit }
