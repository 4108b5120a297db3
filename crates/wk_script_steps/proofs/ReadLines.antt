-- A read for one of the tickets.
use Rattle.std.proofs.Common.{◌≡◌, ℕ, ◌<◌, true, List, length, map, set, get_or, Some, Option, refl, sym, ap, ◌∙◌, subst}
use Rattle.std.proofs.lemmas.List.{set-get_or}
use Rattle.std.proofs.lemmas.Option.{get_or_from_slice_get, slice_get_read}
use Rattle.std.specs.Prelude.{Err, IfOk, Ok, OnErr, OnOk, Result, find, slice_get}
use Rattle.wk_memory.specs.declared.Memory.{Memory}
use Rattle.wk_text_rules.specs.Titles.{PageTitle}
use Rattle.wk_view_rules.specs.Plans.{done, need}
use Rattle.wk_view_rules.specs.Views.{Expanded}
use Rattle.wk_view_rules.specs.Worlds.{Answer, Read, World, answer_in, fits_kind, mark}
use Rattle.wk_view_rules.specs.declared.Kind.{Kind}
use Rattle.wk_view_rules.specs.declared.Kind.TheVariants.{Exists, Include, View}
use Rattle.wk_wiki_rules.specs.States.{State, world_of}
use Rattle.wk_script_lines.specs.Shown.{read_shown}
use Rattle.serde_json.specs.View.{view}
use Rattle.serde_json.specs.declared.value.Value.{Value}
use Rattle.wk_table_rules.specs.Rows.{StoreTables}
use Rattle.wk_core.specs.Seen.{WikiSeen}
use Rattle.wk_script_rules.specs.ScriptLines.{read_line}
use Rattle.wk_script_rules.specs.WikiScripts.{TicketDraft, drafted, read_further}
use Rattle.wk_script_rules.specs.Replies.{line_error, noread, read_entries}
use Rattle.wk_script_rules.specs.Steps.{present_read}
use Rattle.wk_answer_rules.specs.Values.{reply_beside}
use Rattle.wk_script_steps.specs.Drafts.{has_number, longer}
use Rattle.wk_script_steps.proofs.Lists.{read-at}
use Rattle.wk_script_steps.specs.Reads.{IsRead, ReadsNext, nothing_left, one_more}
use Rattle.wk_script_steps.specs.Seen.{Holds, script_of}
use Rattle.wk_script_steps.specs.Told.{Answers}
use Rattle.wk_script_steps.proofs.Calls.{answers-still}
use Rattle.wk_script_steps.proofs.Holding.{holds-read}
use Rattle.wk_script_steps.proofs.LineRuns.{nothing-to-read, one-read}

-- what stands at a place is written there again
pub same-set : (drafts : List TicketDraft) (at : ℕ) (draft : TicketDraft) → slice_get drafts at ≡ Some draft → set drafts at draft ≡ drafts
same-set drafts at draft is = ap (set drafts at) (sym (get_or_from_slice_get drafts at draft draft is)) ∙ set-get_or drafts at draft

-- what stands at the place that was found
pub at-place : (drafts slice : List TicketDraft) (number at : ℕ) (draft : TicketDraft) → slice ≡ drafts → at < length slice → find (has_number number) slice ≡ slice_get slice at
    → draft ≡ get_or drafts at draft → (slice_get drafts at ≡ Some draft) × (find (has_number number) drafts ≡ Some draft)
at-place drafts slice number at draft same within found is =
    let inside : at < length drafts = subst (λ (ds : List TicketDraft). at < length ds) same within in
    let there : slice_get drafts at ≡ Some draft = slice_get_read drafts (length drafts) at draft refl inside is in
    (there, subst (λ (ds : List TicketDraft). find (has_number number) ds ≡ slice_get ds at) same found ∙ there)

-- ---- one read

-- the present answer has the form that its kind asks for
pub answer-fits : (pages : World) (title : PageTitle) (kind : Kind) → fits_kind kind (answer_in pages title kind) ≡ true
answer-fits pages title View = refl
answer-fits pages title Include = refl
answer-fits pages title Exists = refl

-- what is shown of a read, by its mark
pub shown-read : (state : State) (title : PageTitle) (kind : Kind) (answer : Answer) (at point shown : ℕ) → answer ≡ answer_in (world_of state) title kind → shown ≡ mark answer → at ≡ point
    → (reply_beside (read_shown title kind shown) at).value ≡ (reply_beside (read_entries (present_read state title kind)) point).value
shown-read state title kind answer at point shown is marked there =
    λ i. (reply_beside (read_shown title kind ((marked ∙ ap mark is) i)) (there i)).value

pub longer-by : (state : State) (title : PageTitle) (kind : Kind) (answer : Answer) (old : TicketDraft) → answer ≡ answer_in (world_of state) title kind
    → longer old (record { title = title; kind = kind; answer = answer }) ≡ longer old (present_read state title kind)
longer-by state title kind answer old is = ap (λ (a : Answer). longer old (record { title = title; kind = kind; answer = a })) is

module _ (state : State) (point : ℕ) (old between new : TicketDraft) where
  -- the draft needs nothing
  pub reads-nothing : (result : Result Value Memory) (at : ℕ) (expanded : Expanded) (reads : List Read) → new ≡ old → drafted old ≡ done expanded reads → at ≡ point
      → IfOk result (λ v. view v ≡ (line_error noread at).value) → ReadsNext state point old new result
  reads-nothing (Ok v) at expanded reads same is there value = nothing_left is same (value ∙ ap (λ p. (line_error noread p).value) there)
  reads-nothing (Err memory) at expanded reads same is there value = same

  -- it needs one, which was read
  pub reads-one : (result : Result Value Memory) (title : PageTitle) (kind : Kind) (reads : List Read) → between ≡ old → drafted old ≡ need title kind reads
      → IfOk result (λ v. view v ≡ (reply_beside (read_entries (present_read state title kind)) point).value)
      → OnOk result (new ≡ longer between (present_read state title kind)) → OnErr result (new ≡ between) → ReadsNext state point old new result
  reads-one (Ok v) title kind reads same is value further unread = one_more is (further ∙ ap (λ (d : TicketDraft). longer d (present_read state title kind)) same) value
  reads-one (Err memory) title kind reads same is value further unread = unread ∙ same

-- ---- a read for one of the tickets

module _ {K : Type 0} (told : K → Option StoreTables) (faults : K → ℕ) (w : WikiSeen K) (number at : ℕ) (drafts : List TicketDraft) (old : TicketDraft) (v : Value) where
  pub read-told : (new : TicketDraft) → Holds w.state drafts → find (has_number number) drafts ≡ Some old → slice_get drafts at ≡ Some old
      → IsRead w.state (length w.journal) old new (view v) → Answers told faults 0 (read_line number) w w drafts (set drafts at new) (Ok v)
  read-told new holds found there (nothing_left {expanded = expanded} {reads = reads} is same value) =
      subst (λ (ds : List TicketDraft). Answers told faults 0 (read_line number) w w drafts ds (Ok v)) (sym (ap (set drafts at) same ∙ same-set drafts at old there))
      (answers-still told faults 0 (read_line number) w drafts drafts (line_error noread (length w.journal)) (Ok v)
      (nothing-to-read w.start.limits (script_of w drafts) 0 number old expanded reads found is) holds value)
  read-told new holds found there (one_more {title = title} {kind = kind} {reads = reads} is further value) =
      let read = present_read w.state title kind in
      let lists : map (read_further old.ticket read) drafts ≡ set drafts at new = read-at drafts at old read holds.rises there ∙ ap (set drafts at) (sym further) in
      subst (λ (ds : List TicketDraft). Answers told faults 0 (read_line number) w w drafts ds (Ok v)) lists
      (answers-still told faults 0 (read_line number) w drafts (map (read_further old.ticket read) drafts) (reply_beside (read_entries read) (length w.journal)) (Ok v)
      (one-read w.start.limits (script_of w drafts) 0 number old title kind reads (script_of w (map (read_further old.ticket read) drafts)) found is refl)
      (holds-read w.state old.ticket title kind drafts holds) value)
