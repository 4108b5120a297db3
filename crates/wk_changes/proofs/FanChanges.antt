-- The change of a fan, by the pages that it serves.
use Rattle.std.proofs.Common.{◌≡◌, ℕ, zero, suc, ◌≤◌, ◌<◌, Bool, true, cond, eqb, List, [], ◌∷◌, ◌++◌, length, take, refl, sym, ap, ap₂, ◌∙◌, subst, arith}
use Rattle.std.specs.Prelude.{AllPairs}
use Rattle.wk_text_rules.specs.Titles.{PageTitle}
use Rattle.wk_page_rules.specs.declared.Reach.{Reach}
use Rattle.wk_page_rules.specs.PageRows.{PageRows}
use Rattle.wk_table_rules.specs.Changes.{TableEdit, drop_job, set_job}
use Rattle.wk_wiki_rules.specs.Jobs.{FanEntry}
use Rattle.wk_wiki_rules.specs.Steps.{cursor_behind, next_served}
use Rattle.wk_wiki_rules.specs.Users.{users}
use Rattle.wk_wiki_rules.specs.States.{State, title_at}
use Rattle.wk_wiki_laws.proofs.FanServes.{users-rise}
use Rattle.wk_wiki_rules.specs.TableChanges.{fan_change, refreshes_edits, row_of_fan, served_edit}
use Rattle.wk_changes.specs.Parts.{are_last}

taken-few : {X : Type 0} (most : ℕ) (xs : List X) → length (take most xs) ≤ most
taken-few zero [] = omega arith
taken-few zero (x ∷ xs) = omega arith
taken-few (suc most) [] = omega arith
taken-few (suc most) (x ∷ xs) = let later = taken-few most xs in omega (arith, later)

pub users-few : (stored : List PageRows) (title : PageTitle) (reach : Reach) (above most : ℕ) → length (users stored title reach above most) ≤ most
unfolding users
users-few stored title reach above most = taken-few most _

-- where nothing is stored, no page names a title
pub no-users : (title : PageTitle) (reach : Reach) (above most : ℕ) → users [] title reach above most ≡ []
unfolding users
no-users title reach above zero = refl
no-users title reach above (suc most) = refl

pub last-of-none : (most : ℕ) (fan : FanEntry) → are_last [] most fan ≡ true
last-of-none most fan =
    ap (λ (pages : List ℕ). eqb (length pages) 0) (no-users fan.title fan.reach (cursor_behind (next_served [] most fan) fan.cursor) 1)

module _ (state : State) (most : ℕ) (fan : FanEntry) (served : List ℕ) (same : served ≡ next_served state.stored most fan) where
  pub served-rise : AllPairs (λ (a b : ℕ). a < b) served
  served-rise = subst (λ (pages : List ℕ). AllPairs (λ (a b : ℕ). a < b) pages) (sym same) (users-rise state fan.title fan.reach fan.cursor most)

  pub served-few : length served ≤ most
  served-few = subst (λ (pages : List ℕ). length pages ≤ most) (sym same) (users-few state.stored fan.title fan.reach fan.cursor most)

  pub change-is : (last : Bool) (edits : List TableEdit) (edit : TableEdit) → last ≡ are_last state.stored most fan
      → edits ≡ refreshes_edits (title_at state.history) state.jobs served
      → edit ≡ cond last (drop_job fan.number) (set_job (row_of_fan (record fan { cursor = cursor_behind served fan.cursor })))
      → edits ++ edit ∷ [] ≡ fan_change most state fan
  change-is last edits edit gone queued own =
      let own' : edit ≡ served_edit state.stored most fan =
      own ∙ ap₂ (λ (b : Bool) (pages : List ℕ). cond b (drop_job fan.number) (set_job (row_of_fan (record fan { cursor = cursor_behind pages fan.cursor })))) gone same in
      ap₂ (λ (xs : List TableEdit) (x : TableEdit). xs ++ x ∷ []) (queued ∙ ap (refreshes_edits (title_at state.history) state.jobs) same) own'
