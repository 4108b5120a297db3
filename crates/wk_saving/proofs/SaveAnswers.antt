-- What is told of a save is what the rules tell.
use Rattle.std.proofs.Common.{◌≡◌, ℕ, ◌+◌, Bool, true, false, cond, not, List, length, Option, Some, None, Result, Ok, Err, refl, sym, ap, ◌∙◌, subst}
use Rattle.std.specs.Prelude.{◌&&◌, ◌||◌, is_none, nat_lt, option_map, IfOk, IfSome, IsSome}
use Rattle.serde_json.specs.Data.{Data}
use Rattle.wk_table_rules.specs.Rows.{StoreTables}
use Rattle.wk_text_rules.specs.Titles.{PageTitle}
use Rattle.wk_page_rules.specs.History.{History, current_revision, current_text, page_exists, page_to_save}
use Rattle.wk_page_rules.specs.Kept.{kept}
use Rattle.wk_page_rules.specs.Verdict.{EditAsked, MostHeld, Verdict, Refusal, refuse, no_change, accept, body_bytes, article_exists, content_too_big, edit_conflict, is_conflict, is_journal_full, is_same_text, judged_at, limit_passed, max_text, missing_title, real_title, wiki_full, with_room}
use Rattle.wk_page_rules.specs.declared.Limit.{Limit}
use Rattle.wk_wiki_rules.specs.States.{State}
use Rattle.wk_wiki_rules.specs.Events.{Event, Save}
use Rattle.wk_wiki_rules.specs.Verdicts.{journal_use, verdict_in}
use Rattle.wk_wiki_rules.specs.SaveOutcomes.{SaveOutcome, save_outcome, unchanged}
use Rattle.wk_core.specs.Seen.{WikiSeen}
use Rattle.wk_core.specs.Steps.{HasMadeAtMost}
use Rattle.wk_answer_rules.specs.ApiErrors.{api_error, save_error}
use Rattle.wk_answer_rules.specs.Saves.{Answered, edit_entries, failed_at, outcome_entries, save_answer, shown_at}
use Rattle.wk_answer_rules.specs.Values.{ApiReply, Entries, reply_beside}
use Rattle.wk_answer_laws.proofs.Orders.{titled, untitled}
use Rattle.wk_saving.specs.Saved.{IsActed, by_rule, told_by}
use Rattle.wk_saving.specs.declared.saved_replies.SaveKind.{SaveKind}
use Rattle.wk_saving.specs.declared.saved_replies.SaveKind.TheVariants.{Deletion, Edit}

-- ---- of an edit without a text it is never told that nothing changes

abbrev Changes : Verdict → Type 0
Changes (refuse refusal) = Unit {0}
Changes (no_change title) = ⊥
Changes (accept title text) = Unit {0}

either : (b : Bool) (v w : Verdict) → Changes v → Changes w → Changes (cond b v w)
either true v w first second = first
either false v w first second = second

room : (full : Bool) (v : Verdict) → Changes v → Changes (with_room full v)
room full (refuse refusal) changes = tt
room full (no_change title) changes = changes
room true (accept title text) changes = tt
room false (accept title text) changes = tt

abbrev no_text : Option (List ℕ)
no_text = None

differs : (text : Option (List ℕ)) (title : PageTitle) (v : Verdict) → Changes v → Changes (cond (is_same_text text no_text) (no_change title) v)
differs None title v changes = changes
differs (Some text) title v changes = changes

limited : (limit : Option Limit) (title : PageTitle) → Changes (elim limit [ None ↦ accept title no_text | Some l ↦ refuse (wiki_full l) ])
limited None title = tt
limited (Some l) title = tt

judged-changes : (h : History) (most : MostHeld) (edit : EditAsked) (title : PageTitle) → Changes (judged_at h most edit title no_text)
judged-changes h most edit title =
    either (nat_lt max_text (body_bytes no_text)) (refuse content_too_big) _ tt
    (either (edit.create_only && page_exists h title) (refuse article_exists) _ tt
    (either ((edit.no_create || is_none no_text) && not (page_exists h title)) (refuse missing_title) _ tt
    (either (is_conflict edit.base (current_revision h title)) (refuse (edit_conflict (current_revision h title))) _ tt
    (differs (current_text h title) title _ (limited (limit_passed h most title no_text) title)))))

never-same : (most : MostHeld) (state : State) (journal : ℕ) (edit : EditAsked) (title : PageTitle) → edit.body ≡ None → verdict_in most state journal edit ≡ no_change title → ⊥
never-same most state journal edit title none same = subst Changes same (by (real_title edit.title) refl)
  where
    by : (o : Option PageTitle) → real_title edit.title ≡ o → Changes (verdict_in most state journal edit)
    by None e = subst Changes (sym (untitled most state journal edit e)) tt
    by (Some named) e =
        let judged = titled most state journal edit named e
        ∙ ap (λ (body : Option (List ℕ)). with_room (is_journal_full most (journal_use state journal)) (judged_at state.history most edit named (option_map kept body))) none in
        subst Changes (sym judged) (room (is_journal_full most (journal_use state journal)) (judged_at state.history most edit named no_text) (judged-changes state.history most edit named))

-- ---- refusals

pub is-told : (cause : Option Refusal) (v : Verdict) → option_map refuse cause ≡ Some v → IsSome cause
is-told None v is = absurd (let e : None ≡ Some v = is in cc)
is-told (Some refusal) v is = refl

-- ---- answers that make no event

module _ {K : Type 0} (told : K → Option StoreTables) (faults : K → ℕ) (wiki : WikiSeen K) where
  pub told-acted : (answered : Answered) (value : Data) → answered.event ≡ None → value ≡ answered.reply.value → IsActed told faults wiki wiki answered value
  told-acted answered value none is =
      by_rule is (subst (λ (event : Option Event). HasMadeAtMost told wiki wiki event) (sym none) (record { wiki = refl; tables = refl })) refl

  pub read-acted : {V E : Type 0} (view : V → Data) (answered : Answered) (result : Result V E) → answered.event ≡ None → IfOk result (λ v. view v ≡ answered.reply.value)
      → IfOk result (λ v. IsActed told faults wiki wiki answered (view v))
  read-acted view answered (Err error) none is = tt
  read-acted view answered (Ok v) none is = told-acted answered (view v) none is

  -- an edit that is refused
  pub refused-acted : {V E : Type 0} (view : V → Data) (entries_of : SaveOutcome → Entries) (moment point : ℕ) (cause : Option Refusal) (v : Verdict) (result : Result V E)
      → option_map refuse cause ≡ Some v → point ≡ length wiki.journal → IfOk result (λ r. IfSome cause (λ refusal. view r ≡ (api_error (save_error refusal) point).value))
      → IfOk result (λ r. IsActed told faults wiki wiki (save_answer entries_of wiki.state (length wiki.journal) moment v) (view r))
  refused-acted view entries_of moment point None v result is same reply = absurd (let e : None ≡ Some v = is in cc)
  refused-acted view entries_of moment point (Some refusal) v result is same reply =
      let e : Some (refuse refusal) ≡ Some v = is in
      let verdict : refuse refusal ≡ v = cc in
      subst (λ (w : Verdict). IfOk result (λ r. IsActed told faults wiki wiki (save_answer entries_of wiki.state (length wiki.journal) moment w) (view r))) verdict
      (read-acted view (failed_at (length wiki.journal) (save_error refusal)) result refl
      (subst (λ p. IfOk result (λ r. view r ≡ (api_error (save_error refusal) p).value)) same reply))

  -- an edit that changes nothing
  pub same-acted : {V E : Type 0} (view : V → Data) (kind : SaveKind) (most : MostHeld) (moment point page : ℕ) (edit : EditAsked) (title : PageTitle) (result : Result V E)
      → (kind ≡ Deletion → edit.body ≡ None) → verdict_in most wiki.state (length wiki.journal) edit ≡ no_change title → page ≡ page_to_save wiki.state.history title
      → point ≡ length wiki.journal → IfOk result (λ r. view r ≡ (reply_beside (edit_entries (unchanged title page)) point).value)
      → IfOk result (λ r. IsActed told faults wiki wiki (save_answer (told_by kind) wiki.state (length wiki.journal) moment (verdict_in most wiki.state (length wiki.journal) edit)) (view r))
  same-acted view Deletion most moment point page edit title result no_body verdict number same reply = absurd (never-same most wiki.state (length wiki.journal) edit title (no_body refl) verdict)
  same-acted view Edit most moment point page edit title result no_body verdict number same reply =
      subst (λ (w : Verdict). IfOk result (λ r. IsActed told faults wiki wiki (save_answer edit_entries wiki.state (length wiki.journal) moment w) (view r))) (sym verdict)
      (read-acted view (shown_at (length wiki.journal) (outcome_entries edit_entries (save_outcome wiki.state.history (no_change title)))) result refl
      (subst (λ (z : ℕ × ℕ). IfOk result (λ r. view r ≡ (reply_beside (edit_entries (unchanged title z.0)) z.1).value)) (λ i. (number i, same i)) reply))

-- ---- a save that is planned

-- what is told behind a journal of this length where the verdict is to accept a text of this title
abbrev told_behind : (SaveOutcome → Entries) → History → PageTitle → Option (List ℕ) → ℕ → ApiReply
told_behind entries_of h title text point = reply_beside (outcome_entries entries_of (save_outcome h (accept title text))) (point + 1)

pub planned-acted : {K V E : Type 0} (told : K → Option StoreTables) (faults : K → ℕ) (old new : WikiSeen K) (view : V → Data) (entries_of : SaveOutcome → Entries) (moment point : ℕ)
    (v : Verdict) (title : PageTitle) (text : Option (List ℕ)) (ready : Data) (result : Result V E) → v ≡ accept title text → point ≡ length old.journal
    → ready ≡ (told_behind entries_of old.state.history title text point).value
    → ((reply : ApiReply) → ready ≡ reply.value → IfOk result (λ r. IsActed told faults old new (record { reply = reply; event = Some (Save title text moment) }) (view r)))
    → IfOk result (λ r. IsActed told faults old new (save_answer entries_of old.state (length old.journal) moment v) (view r))
planned-acted told faults old new view entries_of moment point v title text ready result is same made acted =
    subst (λ (w : Verdict). IfOk result (λ r. IsActed told faults old new (save_answer entries_of old.state (length old.journal) moment w) (view r))) (sym is)
    (acted (told_behind entries_of old.state.history title text (length old.journal)) (made ∙ ap (λ p. (told_behind entries_of old.state.history title text p).value) same))
