-- A ticket that is taken from its place, and comes in.
use Rattle.std.proofs.Common.{◌≡◌, ℕ, ◌<◌, List, get_or, set, length, Option, Some, sym, ap, ◌∙◌, subst}
use Rattle.std.specs.List.{remove}
use Rattle.std.specs.Prelude.{Result, find, slice_get}
use Rattle.std.proofs.lemmas.List.{get_or-set_same}
use Rattle.std.proofs.lemmas.Option.{slice_get_within}
use borrow.Author.Tests.{eqb-true}
use Rattle.serde_json.specs.declared.value.Value.{Value}
use Rattle.wk_memory.specs.declared.Memory.{Memory}
use Rattle.wk_table_rules.specs.Rows.{StoreTables}
use Rattle.wk_wiki_rules.specs.Events.{Back}
use Rattle.wk_life_laws.specs.Runs.{IsRun}
use Rattle.wk_core.specs.Seen.{WikiSeen}
use Rattle.wk_core.specs.Steps.{HasMade}
use Rattle.wk_answer_rules.specs.Values.{reply_beside}
use Rattle.wk_script_rules.specs.Replies.{giveback_entries}
use Rattle.wk_script_rules.specs.ScriptLines.{finish_line, giveback_line}
use Rattle.wk_script_rules.specs.WikiScripts.{TicketDraft}
use Rattle.wk_script_steps.specs.Drafts.{has_number, others}
use Rattle.wk_script_steps.proofs.Lists.{taken-out}
use Rattle.wk_script_steps.specs.Seen.{Holds}
use Rattle.wk_script_steps.specs.Told.{Answers}
use Rattle.wk_script_steps.proofs.Calls.{Shows, giveback-told, goes-same}
use Rattle.wk_script_steps.proofs.Holding.{found-fit}
use Rattle.wk_script_steps.proofs.ReadLines.{same-set}

-- the number of one that is found
pub found-number : {K : Type 0} (w : WikiSeen K) (drafts : List TicketDraft) (number : ℕ) (draft : TicketDraft) → Holds w.state drafts → find (has_number number) drafts ≡ Some draft → draft.ticket ≡ number
found-number w drafts number draft holds found = eqb-true draft.ticket number (found-fit w.state number drafts draft holds found).1

module _ {K : Type 0} (told : K → Option StoreTables) (faults : K → ℕ) (old new : WikiSeen K) (drafts : List TicketDraft) (number at : ℕ) (draft : TicketDraft) (result : Result Value Memory)
    (holds : Holds old.state drafts) (found : find (has_number number) drafts ≡ Some draft) (there : slice_get drafts at ≡ Some draft) where
  -- it was taken from the list, in which it was written anew
  pub comes-in : (now taken : TicketDraft) (after : List TicketDraft) → now ≡ draft → taken ≡ get_or (set drafts at now) at taken → after ≡ remove (set drafts at now) at
      → ((ds : List TicketDraft) → Holds old.state ds → find (has_number taken.ticket) ds ≡ Some taken → Answers told faults 0 (finish_line taken.ticket) old new ds (others taken.ticket ds) result)
      → Answers told faults 0 (finish_line number) old new drafts after result
  comes-in now taken after is_now is_taken is_after all =
      let list : set drafts at now ≡ drafts = ap (set drafts at) is_now ∙ same-set drafts at draft there in
      let within : at < length drafts = slice_get_within drafts at draft there in
      let same : taken ≡ draft = is_taken ∙ (get_or-set_same drafts at now taken within ∙ is_now) in
      let mine : taken.ticket ≡ number = ap (λ (d : TicketDraft). d.ticket) same ∙ found-number old drafts number draft holds found in
      let its : find (has_number taken.ticket) drafts ≡ Some taken =
      subst (λ n. find (has_number n) drafts ≡ Some taken) (sym mine) (found ∙ ap Some (sym same))
      in
      let left : others taken.ticket drafts ≡ after =
      ap (λ (d : TicketDraft). others d.ticket drafts) same ∙ (taken-out drafts at draft holds.rises there ∙ (ap (λ (ds : List TicketDraft). remove ds at) (sym list) ∙ sym is_after))
      in
      subst (λ (ds : List TicketDraft). Answers told faults 0 (finish_line number) old new drafts ds result) left
      (subst (λ n. Answers told faults 0 (finish_line n) old new drafts (others taken.ticket drafts) result) mine (all drafts holds its))

  -- it was taken from the list, and is given back
  pub gives-back : (after : List TicketDraft) → IsRun old.start old.journal old.state → new.keeper ≡ old.keeper → HasMade old new (Back draft.ticket) → after ≡ remove drafts at
      → Shows (reply_beside (giveback_entries draft.title) (length new.journal)) result → Answers told faults 0 (giveback_line number) old new drafts after result
  gives-back after run keeper made is_after value =
      subst (λ (ds : List TicketDraft). Answers told faults 0 (giveback_line number) old new drafts ds result) (taken-out drafts at draft holds.rises there ∙ sym is_after)
      (giveback-told told faults old new drafts draft run holds (goes-same told faults old new keeper) number result found made value)
