-- What is told of an edit whose text is transformed is what the rules tell.
use Rattle.std.proofs.Common.{◌≡◌, ℕ, Bool, true, false, cond, List, length, Option, Some, None, Result, sym, ap, ◌∙◌, subst, refl}
use Rattle.std.specs.Prelude.{nat_lt, option_map, IfOk}
use Rattle.serde_json.specs.Data.{Data}
use Rattle.wk_table_rules.specs.Rows.{StoreTables}
use Rattle.wk_text_rules.specs.Titles.{PageTitle}
use Rattle.wk_page_rules.specs.History.{text_of_revision}
use Rattle.wk_page_rules.specs.Verdict.{EditAsked, MostHeld, body_bytes, max_text, real_title}
use Rattle.wk_view_rules.specs.Plans.{done}
use Rattle.wk_view_rules.specs.Worlds.{Agrees, IsHonest, IsSeen, Seen, World, of_seen, of_world}
use Rattle.wk_wiki_rules.specs.States.{State, world_of}
use Rattle.wk_wiki_rules.specs.Staleness.{first_stale}
use Rattle.wk_subst_rules.specs.Substitution.{substituted}
use Rattle.wk_life_laws.proofs.Marks.{agrees-now}
use Rattle.wk_expand.proofs.StepLaws.{agrees-seen}
use Rattle.wk_subst.specs.Substituted.{IsSubstituted}
use Rattle.wk_core.specs.Seen.{WikiSeen}
use Rattle.wk_answer_rules.specs.ApiErrors.{ApiError, api_error, contenttoobig, invalidtitle}
use Rattle.wk_answer_rules.specs.Saves.{Answered, edit_answer, subst_answer}
use Rattle.wk_answer_rules.specs.Transforms.{transformed_edit}
use Rattle.wk_answer_laws.proofs.Orders.{subst-judged}
use Rattle.wk_saving.specs.Saved.{IsActed}
use Rattle.wk_saving.specs.Transforming.{error_before}

-- ---- what comes before the transform

-- the error, by the title that the edit names and by whether the text is too long as it is given
abbrev error_by : Option PageTitle → Bool → Option ApiError
error_by o big = elim o as (λ p. Option ApiError) [ None ↦ Some invalidtitle | Some title ↦ cond big (Some contenttoobig) None ]

module _ (most : MostHeld) (state : State) (journal moment : ℕ) (edit : EditAsked) where
  late-by : (o : Option PageTitle) (big : Bool) → real_title edit.title ≡ o → nat_lt max_text (body_bytes edit.body) ≡ big
      → error_by o big ≡ None → subst_answer most state journal moment edit ≡ edit_answer most state journal moment (transformed_edit state edit)
  late-by None big named size e = absurd (let some : Some invalidtitle ≡ None = e in cc)
  late-by (Some title) true named size e = absurd (let some : Some contenttoobig ≡ None = e in cc)
  late-by (Some title) false named size e = subst-judged most state journal moment edit title named size

  -- where no error comes before the transform, the edit of what its text becomes is what is judged
  subst-late : error_before edit ≡ None → subst_answer most state journal moment edit ≡ edit_answer most state journal moment (transformed_edit state edit)
  subst-late e = late-by (real_title edit.title) (nat_lt max_text (body_bytes edit.body)) refl refl e

-- none is told where none comes before it
pub no-error : {V : Type 0} (view : V → Data) (edit : EditAsked) (point : ℕ) (refused : Option V) → refused ≡ None
    → option_map view refused ≡ option_map (λ (error : ApiError). (api_error error point).value) (error_before edit) → error_before edit ≡ None
no-error view edit point refused is told = by (error_before edit) (sym (ap (option_map view) is) ∙ told)
  where
    by : (o : Option ApiError) → None ≡ option_map (λ (error : ApiError). (api_error error point).value) o → o ≡ None
    by None e = refl
    by (Some error) e = absurd (let some : None ≡ Some (api_error error point).value = e in cc)

-- ---- behind the transform

module _ {K : Type 0} (told : K → Option StoreTables) (faults : K → ℕ) (old new : WikiSeen K) (most : MostHeld) (moment : ℕ) (edit : EditAsked) (none : error_before edit ≡ None) where
  pub late-acted : (value : Data) → IsActed told faults old new (edit_answer most old.state (length old.journal) moment (transformed_edit old.state edit)) value
      → IsActed told faults old new (subst_answer most old.state (length old.journal) moment edit) value
  late-acted value acted = subst (λ (answered : Answered). IsActed told faults old new answered value) (sym (subst-late most old.state (length old.journal) moment edit none)) acted

  pub late-told : {V E : Type 0} (view : V → Data) (result : Result V E)
      → IfOk result (λ v. IsActed told faults old new (edit_answer most old.state (length old.journal) moment (transformed_edit old.state edit)) (view v))
      → IfOk result (λ v. IsActed told faults old new (subst_answer most old.state (length old.journal) moment edit) (view v))
  late-told view result acted =
      subst (λ (answered : Answered). IfOk result (λ v. IsActed told faults old new answered (view v))) (sym (subst-late most old.state (length old.journal) moment edit none)) acted

-- ---- reads that are current

-- By honest reads that are all current, what the text became is what it becomes in the state.
pub made-now : (state : State) (saved text : List ℕ) (reads : Seen) → IsSubstituted saved text reads → IsSeen reads → IsHonest (text_of_revision state.history) reads
    → first_stale (world_of state) reads ≡ None → substituted (of_world (world_of state)) saved ≡ done text reads
made-now state saved text reads made seen honest none = made.everywhere (of_world (world_of state)) (agrees-now state reads honest seen.formed none)

-- What a text became by answers of a world is what it becomes in the world.
pub made-by : (w : World) (seen : Seen) (asked saved text : List ℕ) (reads : Seen) → Agrees (of_world w) seen → Agrees (of_seen seen) reads → saved ≡ asked → IsSubstituted saved text reads
    → substituted (of_world w) asked ≡ done text reads
made-by w seen asked saved text reads answers read same made =
    subst (λ t. substituted (of_world w) t ≡ done text reads) same (made.everywhere (of_world w) (agrees-seen (of_world w) seen reads answers read))
