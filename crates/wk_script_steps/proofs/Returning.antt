-- Tickets that come in one after the other, at the end of a life.
use Rattle.std.proofs.Common.{◌≡◌, ℕ, ◌∷◌, [], List, map, refl, sym, ap, ◌∙◌, subst}
use Rattle.std.specs.Prelude.{fold}
use Rattle.wk_table_laws.specs.InOrder.{Rises}
use Rattle.wk_table_laws.proofs.Order.{by_number-rising}
use Rattle.wk_wiki_rules.specs.Events.{Back}
use Rattle.wk_life_laws.specs.Runs.{IsRun}
use Rattle.wk_core.specs.Seen.{WikiSeen}
use Rattle.wk_core.specs.Steps.{HasMade}
use Rattle.wk_script_rules.specs.WikiScripts.{TicketDraft, WikiScript, after_event, all_given_back, given_back_by}
use Rattle.wk_script_steps.proofs.Lists.{taken-out, ticket}
use Rattle.wk_script_steps.specs.Seen.{Holds, script_of}
use Rattle.wk_script_steps.proofs.Holding.{back-apart, holds-others}
use Rattle.wk_script_steps.proofs.LineRuns.{made-is}

-- the life alone
abbrev pub bare : WikiScript → WikiScript
bare s = record s { drafts = [] }

-- which drafts there are plays no part in what comes of a life
bare-back : (s t : WikiScript) (number : ℕ) → bare s ≡ bare t → bare (given_back_by s number) ≡ bare (given_back_by t number)
bare-back s t number same = ap (λ (u : WikiScript). bare (after_event u (Back number))) same

bare-all : (tickets : List ℕ) (s t : WikiScript) → bare s ≡ bare t → bare (fold given_back_by s tickets) ≡ bare (fold given_back_by t tickets)
bare-all [] s t same = same
bare-all (number ∷ tickets) s t same = bare-all tickets (given_back_by s number) (given_back_by t number) (bare-back s t number same)

-- those whose numbers rise come in in their order
pub all-back : (s : WikiScript) → Rises (map ticket s.drafts) → bare (fold given_back_by (bare s) (map ticket s.drafts)) ≡ bare (all_given_back s)
all-back s rises =
    bare-all (map ticket s.drafts) (bare s) s refl
    ∙ sym (ap (λ (ds : List TicketDraft). bare (fold given_back_by s (map ticket ds))) (by_number-rising ticket s.drafts rises))

-- These of the tickets are still to come in: they are out, and once they came in all is as where all of them came in.
pub record AreLeft {K : Type 0} (old now : WikiSeen K) (drafts left : List TicketDraft) : Type 0 where
  pub holds : Holds now.state left
  pub ends : fold given_back_by (script_of now []) (map ticket left) ≡ fold given_back_by (script_of old []) (map ticket drafts)
  pub start : now.start ≡ old.start
  pub keeper : now.keeper ≡ old.keeper

module _ {K : Type 0} (old : WikiSeen K) (drafts : List TicketDraft) where
  pub all-left : Holds old.state drafts → AreLeft old old drafts drafts
  all-left holds = record { holds = holds; ends = refl; start = refl; keeper = refl }

  -- the first of them comes in
  pub one-back : (now next : WikiSeen K) (draft : TicketDraft) (left : List TicketDraft) → IsRun now.start now.journal now.state → AreLeft old now drafts (draft ∷ left)
      → HasMade now next (Back draft.ticket) → next.keeper ≡ now.keeper → AreLeft old next drafts left
  one-back now next draft left run is made keeper = record {
    holds = subst (Holds next.state) (taken-out (draft ∷ left) 0 draft is.holds.rises refl)
        (holds-others now.start now.journal now.state next.state (Back draft.ticket) run made.stepped draft.ticket (draft ∷ left) (back-apart draft.ticket) is.holds);
    ends = ap (λ (s : WikiScript). fold given_back_by s (map ticket left)) (made-is now next (Back draft.ticket) [] [] made) ∙ is.ends;
    start = made.start ∙ is.start;
    keeper = keeper ∙ is.keeper;
  }

  -- all of them came in
  pub none-left : (now : WikiSeen K) → Rises (map ticket drafts) → AreLeft old now drafts [] → script_of now [] ≡ bare (all_given_back (script_of old drafts))
  none-left now rises is = ap bare is.ends ∙ all-back (script_of old drafts) rises
