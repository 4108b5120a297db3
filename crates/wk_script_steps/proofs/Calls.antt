-- What each line is answered, by what the calls of the wiki told.
use Rattle.std.proofs.Common.{◌≡◌, ℕ, ◌+◌, ◌≤◌, true, false, List, [], ◌∷◌, ◌++◌, length, Option, Some, None, refl, sym, ap, ◌∙◌, subst, arith}
use Rattle.std.specs.Prelude.{IsSome, IfOk, Result, find, is_some, option_map}
use Rattle.serde_json.specs.View.{view}
use Rattle.serde_json.specs.declared.value.Value.{Value}
use Rattle.wk_memory.specs.declared.Memory.{Memory}
use Rattle.wk_base.specs.Faults.{Rose}
use Rattle.wk_table_rules.specs.Rows.{StoreTables}
use Rattle.wk_text_rules.specs.Titles.{PageTitle}
use Rattle.wk_view_rules.specs.Plans.{done}
use Rattle.wk_view_rules.specs.Views.{Expanded}
use Rattle.wk_view_rules.specs.Worlds.{Read}
use Rattle.wk_wiki_rules.specs.Jobs.{FanEntry, first_fan, first_queued}
use Rattle.wk_wiki_rules.specs.Steps.{fan_pages}
use Rattle.wk_wiki_rules.specs.States.{title_at, world_of}
use Rattle.wk_wiki_rules.specs.Events.{Claim, Done, Back, Fan}
use Rattle.wk_wiki_rules.specs.Claims.{ClaimOutcome, claim_outcome}
use Rattle.wk_wiki_rules.specs.Fans.{FanOutcome, next_fan_outcome}
use Rattle.wk_wiki_rules.specs.Room.{is_claim_refused, is_fan_refused}
use Rattle.wk_wiki_rules.specs.Staleness.{StaleRead, first_stale}
use Rattle.wk_life_laws.specs.Runs.{IsRun}
use Rattle.wk_core.specs.Seen.{WikiSeen}
use Rattle.wk_core.specs.Steps.{GoesOn, HasMade, HasMadeNothing}
use Rattle.wk_core.specs.Tickets.{IsOut}
use Rattle.wk_answer_rules.specs.Values.{ApiReply, reply_beside}
use Rattle.wk_answer_rules.specs.ApiErrors.{api_error, nomemory, storefault}
use Rattle.wk_script_rules.specs.ScriptLines.{ScriptLine, claim_line, finish_line, giveback_line, fan_line}
use Rattle.wk_script_rules.specs.WikiScripts.{TicketDraft, WikiScript, point_of, after_event, drafted, given_back_by}
use Rattle.wk_script_rules.specs.Replies.{claim_entries, done_entries, stale_entries, giveback_entries, fan_entries}
use Rattle.wk_script_rules.specs.Runs.{LineRun, finish_out_of_memory, finish_failed, fan_out_of_memory, fan_failed}
use Rattle.wk_script_steps.specs.Drafts.{begun, has_number, others}
use Rattle.wk_script_steps.specs.Seen.{Holds, script_of}
use Rattle.wk_script_steps.specs.Told.{Answers}
use Rattle.wk_script_steps.proofs.Answering.{tells-fault, tells-memory, tells-step}
use Rattle.wk_script_steps.proofs.Holding.{back-apart, done-apart, holds-claimed, holds-on, holds-others}
use Rattle.wk_script_steps.proofs.LineRuns.{Comes, given-back, made-is, one-claimed, one-fanned, one-finished, one-stale}

-- this is what a result shows, where it is a value
abbrev pub Shows : ApiReply → Result Value Memory → Type 0
Shows reply result = IfOk result (λ v. view v ≡ reply.value)

-- it shows this at a point that is the journal's length
pub shows-at : (point n : ℕ) (reply : ℕ → ApiReply) (result : Result Value Memory) → point ≡ n → Shows (reply point) result → Shows (reply n) result
shows-at point n reply result same shown = subst (λ p. Shows (reply p) result) same shown

-- it shows the ticket and the title of this claim
pub claim-shown : (number point : ℕ) (title : PageTitle) (claim : ClaimOutcome) (result : Result Value Memory) → number ≡ claim.ticket → title ≡ claim.title
    → Shows (reply_beside (claim_entries (record { ticket = number; title = title })) point) result → Shows (reply_beside (claim_entries claim) point) result
claim-shown number point title claim result ticket_is title_is shown =
    let P : ClaimOutcome → Type 0 = λ c. Shows (reply_beside (claim_entries c) point) result in
    let same : record { ticket = number; title = title } ≡ claim = (λ i. record { ticket = ticket_is i; title = title_is i }) in
    subst P same shown

-- it shows this title, which came in
pub title-shown : (point : ℕ) (title other : PageTitle) (result : Result Value Memory) → title ≡ other
    → Shows (reply_beside (giveback_entries title) point) result → Shows (reply_beside (giveback_entries other) point) result
title-shown point title other result same shown = subst (λ (t : PageTitle). Shows (reply_beside (giveback_entries t) point) result) same shown

module _ {K : Type 0} (told : K → Option StoreTables) (faults : K → ℕ) where
  goes-nowhere : (w : WikiSeen K) → GoesOn told faults w w
  goes-nowhere w = record { tells = refl; never_falls = omega arith; whole = λ is. refl }

  -- the keeper is as it was
  pub goes-same : (old new : WikiSeen K) → new.keeper ≡ old.keeper → GoesOn told faults old new
  goes-same old new same = record {
    tells = ap (λ (k : K). is_some (told k)) same;
    never_falls = subst (λ (k : K). faults old.keeper ≤ faults k) (sym same) (omega arith);
    whole = λ is. ap faults same;
  }

  -- ---- a line that leaves the wiki as it was

  -- it is as the rules have it
  pub answers-still : (moment : ℕ) (line : ScriptLine) (w : WikiSeen K) (drafts after : List TicketDraft) (reply : ApiReply) (result : Result Value Memory)
      → Comes w.start.limits (script_of w drafts) moment line reply (script_of w after) → Holds w.state after → Shows reply result
      → Answers told faults moment line w w drafts after result
  answers-still moment line w drafts after reply result comes holds value = record {
    reply = reply;
    tells = tells-step told faults moment line w w drafts after reply comes holds refl (goes-nowhere w);
    value = value;
  }

  -- memory is wanting
  pub starved-still : (moment : ℕ) (line : ScriptLine) (w : WikiSeen K) (drafts : List TicketDraft) (result : Result Value Memory)
      → LineRun w.start.limits (script_of w drafts) moment line (Some (api_error nomemory (length w.journal))) (script_of w drafts)
      → Holds w.state drafts → Shows (api_error nomemory (length w.journal)) result → Answers told faults moment line w w drafts drafts result
  starved-still moment line w drafts result run holds value = record {
    reply = api_error nomemory (length w.journal);
    tells = tells-memory told faults moment line w w drafts drafts run holds refl (goes-nowhere w);
    value = value;
  }

  -- the same where the wiki and the tickets are said to be as they were
  module _ (moment : ℕ) (line : ScriptLine) (old new : WikiSeen K) (drafts after : List TicketDraft) (result : Result Value Memory) (holds : Holds old.state drafts) (same : new ≡ old) (lists : after ≡ drafts) where
    at-same : Answers told faults moment line old old drafts drafts result → Answers told faults moment line old new drafts after result
    at-same answers = subst (λ (w : WikiSeen K). Answers told faults moment line old w drafts after result) (sym same)
        (subst (λ (ds : List TicketDraft). Answers told faults moment line old old drafts ds result) (sym lists) answers)

    pub answers-same : (reply : ApiReply) → Comes old.start.limits (script_of old drafts) moment line reply (script_of old drafts) → Shows reply result
        → Answers told faults moment line old new drafts after result
    answers-same reply comes value = at-same (answers-still moment line old drafts drafts reply result comes holds value)

    pub starved-same : LineRun old.start.limits (script_of old drafts) moment line (Some (api_error nomemory (length old.journal))) (script_of old drafts)
        → Shows (api_error nomemory (length old.journal)) result → Answers told faults moment line old new drafts after result
    starved-same run value = at-same (starved-still moment line old drafts result run holds value)

  -- ---- `claim`

  pub claim-told : (old new : WikiSeen K) (claim : ClaimOutcome) (drafts after : List TicketDraft) (result : Result Value Memory) → IsRun old.start old.journal old.state → Holds old.state drafts
      → claim_outcome old.state (length old.journal) ≡ Some claim → is_claim_refused old.start.limits old.state (length old.journal) ≡ false
      → HasMade old new Claim → IsOut new.state claim → new.keeper ≡ old.keeper → after ≡ drafts ++ begun claim ∷ []
      → Shows (reply_beside (claim_entries claim) (length new.journal)) result
      → Answers told faults 0 claim_line old new drafts after result
  claim-told old new claim drafts after result run holds some room made out keeper is value = record {
    reply = reply_beside (claim_entries claim) (length new.journal);
    tells = tells-step told faults 0 claim_line old new drafts after (reply_beside (claim_entries claim) (length new.journal))
        (one-claimed old.start.limits (script_of old drafts) 0 claim (script_of new after) some room
        (made-is old new Claim drafts after made ∙ ap (λ (ds : List TicketDraft). record (after_event (script_of old drafts) Claim) { drafts = ds }) is))
        (subst (Holds new.state) (sym is) (holds-claimed old.start old.journal old.state new.state claim drafts run made.stepped out (numbered (first_queued old.state.jobs) some) holds))
        made.start (goes-same old new keeper);
    value = value;
  }
    where
      numbered : (o : Option ℕ) → option_map (λ page. record { ticket = length old.journal + 1; title = title_at old.state.history page }) o ≡ Some claim
          → claim.ticket ≡ length old.journal + 1
      numbered None is_some = absurd (let e : None ≡ Some claim = is_some in cc)
      numbered (Some page) is_some = let e : Some (record { ticket = length old.journal + 1; title = title_at old.state.history page }) ≡ Some claim = is_some in
          sym (ap (λ (c : ClaimOutcome). c.ticket) (let same : record { ticket = length old.journal + 1; title = title_at old.state.history page } ≡ claim = cc in same))

  -- ---- `fan`

  pub fan-told : (old new : WikiSeen K) (fan : FanOutcome) (drafts : List TicketDraft) (result : Result Value Memory) → IsRun old.start old.journal old.state → Holds old.state drafts
      → next_fan_outcome fan_pages old.state ≡ Some fan → is_fan_refused old.start.limits old.state (length old.journal) ≡ false
      → HasMade old new Fan → GoesOn told faults old new → Shows (reply_beside (fan_entries fan) (length new.journal)) result
      → Answers told faults 0 fan_line old new drafts drafts result
  fan-told old new fan drafts result run holds some room made keeper value = record {
    reply = reply_beside (fan_entries fan) (length new.journal);
    tells = tells-step told faults 0 fan_line old new drafts drafts (reply_beside (fan_entries fan) (length new.journal))
        (one-fanned old.start.limits (script_of old drafts) 0 fan (script_of new drafts) some room (made-is old new Fan drafts drafts made))
        (holds-on old.start old.journal old.state new.state Fan run made.stepped drafts (λ t. (λ e. cc, λ e. cc)) holds)
        made.start keeper;
    value = value;
  }

  -- nothing was made, and the keeper goes on
  module _ (old new : WikiSeen K) (drafts : List TicketDraft) (result : Result Value Memory) (holds : Holds old.state drafts) (nothing : HasMadeNothing told old new) (keeper : GoesOn told faults old new) where
    goes-there : GoesOn told faults old (record old { keeper = new.keeper })
    goes-there = record { tells = keeper.tells; never_falls = keeper.never_falls; whole = keeper.whole }

    -- it is as the rules have it
    pub fan-still : (reply : ApiReply) → Comes old.start.limits (script_of old drafts) 0 fan_line reply (script_of old drafts) → Shows reply result
        → Answers told faults 0 fan_line old new drafts drafts result
    fan-still reply comes value = subst (λ (w : WikiSeen K). Answers told faults 0 fan_line old w drafts drafts result) (sym nothing.wiki) (record {
      reply = reply;
      tells = tells-step told faults 0 fan_line old (record old { keeper = new.keeper }) drafts drafts reply comes holds refl goes-there;
      value = value;
    })

    -- memory is wanting
    pub fan-starved : Shows (api_error nomemory (length old.journal)) result → Answers told faults 0 fan_line old new drafts drafts result
    fan-starved value = subst (λ (w : WikiSeen K). Answers told faults 0 fan_line old w drafts drafts result) (sym nothing.wiki) (record {
      reply = api_error nomemory (length old.journal);
      tells = tells-memory told faults 0 fan_line old (record old { keeper = new.keeper }) drafts drafts fan_out_of_memory holds refl goes-there;
      value = value;
    })

    -- the store fails
    pub fan-failed-told : IsSome (first_fan old.state.jobs) → is_fan_refused old.start.limits old.state (length old.journal) ≡ false
        → Rose (faults old.keeper) (faults new.keeper) → Shows (api_error storefault (length old.journal)) result → Answers told faults 0 fan_line old new drafts drafts result
    fan-failed-told stands room rose value = by (first_fan old.state.jobs) refl stands
      where
        by : (o : Option FanEntry) → first_fan old.state.jobs ≡ o → IsSome o → Answers told faults 0 fan_line old new drafts drafts result
        by None is none = absurd (let e : false ≡ true = none in cc)
        by (Some fan) is some = subst (λ (w : WikiSeen K). Answers told faults 0 fan_line old w drafts drafts result) (sym nothing.wiki) (record {
          reply = api_error storefault (length old.journal);
          tells = tells-fault told faults 0 fan_line old (record old { keeper = new.keeper }) drafts drafts (fan_failed is room) holds refl goes-there rose;
          value = value;
        })

  -- ---- a ticket that comes in

  module _ (old new : WikiSeen K) (drafts : List TicketDraft) (draft : TicketDraft) (run : IsRun old.start old.journal old.state) (holds : Holds old.state drafts) (keeper : GoesOn told faults old new) where
    holds-back : HasMade old new (Back draft.ticket) → Holds new.state (others draft.ticket drafts)
    holds-back made = holds-others old.start old.journal old.state new.state (Back draft.ticket) run made.stepped draft.ticket drafts (back-apart draft.ticket) holds

    back-is : HasMade old new (Back draft.ticket) → script_of new (others draft.ticket drafts) ≡ given_back_by (script_of old drafts) draft.ticket
    back-is made = made-is old new (Back draft.ticket) drafts (others draft.ticket drafts) made

    -- it is given back
    pub giveback-told : (number : ℕ) (result : Result Value Memory) → find (has_number number) drafts ≡ Some draft → HasMade old new (Back draft.ticket)
        → Shows (reply_beside (giveback_entries draft.title) (length new.journal)) result
        → Answers told faults 0 (giveback_line number) old new drafts (others draft.ticket drafts) result
    giveback-told number result found made value = record {
      reply = reply_beside (giveback_entries draft.title) (length new.journal);
      tells = tells-step told faults 0 (giveback_line number) old new drafts (others draft.ticket drafts) (reply_beside (giveback_entries draft.title) (length new.journal))
          (given-back old.start.limits (script_of old drafts) 0 number draft (script_of new (others draft.ticket drafts)) found (back-is made)) (holds-back made) made.start keeper;
      value = value;
    }

    module _ (found : find (has_number draft.ticket) drafts ≡ Some draft) (result : Result Value Memory) where
      -- its refresh is done
      pub done-told : (expanded : Expanded) (reads : List Read) → drafted draft ≡ done expanded reads → first_stale (world_of old.state) reads ≡ None
          → HasMade old new (Done draft.ticket) → Shows (reply_beside done_entries (length new.journal)) result
          → Answers told faults 0 (finish_line draft.ticket) old new drafts (others draft.ticket drafts) result
      done-told expanded reads is current made value = record {
        reply = reply_beside done_entries (length new.journal);
        tells = tells-step told faults 0 (finish_line draft.ticket) old new drafts (others draft.ticket drafts) (reply_beside done_entries (length new.journal))
            (one-finished old.start.limits (script_of old drafts) 0 draft.ticket draft expanded reads (script_of new (others draft.ticket drafts)) found is current
            (made-is old new (Done draft.ticket) drafts (others draft.ticket drafts) made))
            (holds-others old.start old.journal old.state new.state (Done draft.ticket) run made.stepped draft.ticket drafts (done-apart draft.ticket) holds)
            made.start keeper;
        value = value;
      }

      -- a read isn't current
      pub stale-told : (expanded : Expanded) (reads : List Read) (stale : StaleRead) → drafted draft ≡ done expanded reads → first_stale (world_of old.state) reads ≡ Some stale
          → HasMade old new (Back draft.ticket) → Shows (reply_beside (stale_entries stale) (length new.journal)) result
          → Answers told faults 0 (finish_line draft.ticket) old new drafts (others draft.ticket drafts) result
      stale-told expanded reads stale is other made value = record {
        reply = reply_beside (stale_entries stale) (length new.journal);
        tells = tells-step told faults 0 (finish_line draft.ticket) old new drafts (others draft.ticket drafts) (reply_beside (stale_entries stale) (length new.journal))
            (one-stale old.start.limits (script_of old drafts) 0 draft.ticket draft expanded reads stale (script_of new (others draft.ticket drafts)) found is other (back-is made))
            (holds-back made) made.start keeper;
        value = value;
      }

      -- memory is wanting
      pub starved-back : HasMade old new (Back draft.ticket) → Shows (api_error nomemory (length new.journal)) result
          → Answers told faults 0 (finish_line draft.ticket) old new drafts (others draft.ticket drafts) result
      starved-back made value = record {
        reply = api_error nomemory (length new.journal);
        tells = tells-memory told faults 0 (finish_line draft.ticket) old new drafts (others draft.ticket drafts)
            (subst (λ (t : WikiScript). LineRun old.start.limits (script_of old drafts) 0 (finish_line draft.ticket) (Some (api_error nomemory (point_of t))) t) (sym (back-is made))
            (finish_out_of_memory found))
            (holds-back made) made.start keeper;
        value = value;
      }

      -- the store fails
      pub failed-back : (expanded : Expanded) (reads : List Read) → drafted draft ≡ done expanded reads → first_stale (world_of old.state) reads ≡ None
          → HasMade old new (Back draft.ticket) → Rose (faults old.keeper) (faults new.keeper) → Shows (api_error storefault (length new.journal)) result
          → Answers told faults 0 (finish_line draft.ticket) old new drafts (others draft.ticket drafts) result
      failed-back expanded reads is current made rose value = record {
        reply = api_error storefault (length new.journal);
        tells = tells-fault told faults 0 (finish_line draft.ticket) old new drafts (others draft.ticket drafts)
            (subst (λ (t : WikiScript). LineRun old.start.limits (script_of old drafts) 0 (finish_line draft.ticket) (Some (api_error storefault (point_of t))) t) (sym (back-is made))
            (finish_failed found is current))
            (holds-back made) made.start keeper rose;
        value = value;
      }
