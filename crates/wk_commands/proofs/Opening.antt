-- A wiki that was opened over a keeper, and what is left of it.
use Rattle.std.proofs.Common.{◌≡◌, ◌≤◌, ℕ, Bool, true, List, Option, Some, IfSome, Result, Ok, Err, refl, sym, ap, ◌∙◌, subst, arith}
use Rattle.std.specs.Prelude.{is_some}
use Rattle.wk_page_rules.specs.Verdict.{MostHeld}
use Rattle.wk_base.specs.Faults.{Rose}
use Rattle.wk_table_rules.specs.GoodStore.{first_broken}
use Rattle.wk_table_rules.specs.Rows.{StoreTables}
use Rattle.wk_wiki_rules.specs.Starts.{Start}
use Rattle.wk_core.specs.declared.outcomes.LoadCause.{LoadCause}
use Rattle.wk_core.specs.declared.outcomes.LoadCause.TheVariants as cause
use Rattle.wk_core.specs.Loads.{HasOpened, bad_store_of}
use Rattle.wk_core.specs.Seen.{WikiSeen, failed_where}
use Rattle.wk_core.specs.Steps.{KeeperGoesOn}
use Rattle.wk_commands.specs.Worked.{IsNotOpened, IsWorked}
use Rattle.wk_commands.specs.declared.ends.CommandEnd.{CommandEnd}
use Rattle.wk_commands.specs.declared.works.Work.{Work}
use Rattle.wk_commands.specs.declared.works.Work.TheVariants.{Check}

module _ {K : Type 0} where
  pub opened-as : (wiki : WikiSeen K) (most limits : MostHeld) → most ≡ limits → HasOpened wiki most → HasOpened wiki limits
  opened-as wiki most limits is opening = subst (HasOpened wiki) is opening

-- nothing happened, and the keeper that is left has the tables
pub unopened-left : {K : Type 0} (told : K → Option StoreTables) (faults : K → ℕ) (is_whole : K → Bool) (keeper left given : K) (moments before : Option (List ℕ)) (why : LoadCause) → left ≡ given → told given ≡ told keeper
    → IfSome (bad_store_of why) (λ row. IfSome (told keeper) (λ tables. first_broken tables ≡ Some row)) → (why ≡ cause.StoreFault → Rose (faults keeper) (faults given)) → faults keeper ≤ faults given
    → (is_whole keeper ≡ true → faults given ≡ faults keeper) → is_whole given ≡ is_whole keeper → IsNotOpened told faults is_whole keeper left moments moments before before why
unopened-left told faults is_whole keeper left given moments before why is tables broken fault never_falls whole stays_whole = record {
  no_moment = refl;
  nothing_written = refl;
  tables = ap told is ∙ tables;
  broken = broken;
  fault = λ failed. subst (λ k. Rose (faults keeper) (faults k)) (sym is) (fault failed);
  never_falls = subst (λ k. faults keeper ≤ faults k) (sym is) never_falls;
  whole = λ is_so. ap faults is ∙ whole is_so;
  stays_whole = ap is_whole is ∙ stays_whole;
}

-- a keeper that is whole has failed as often as is told
pub count-same : (before after : Bool) (old new : ℕ) → after ≡ before → failed_where after new ≡ failed_where before old → before ≡ true → new ≡ old
count-same before after old new same failed whole =
    let e : Some new ≡ Some old = ap (λ (b : Bool). failed_where b new) (sym (same ∙ whole)) ∙ (failed ∙ ap (λ (b : Bool). failed_where b old) whole) in cc

-- the keeper that is left of a wiki which began as that one did that was opened over a keeper
module _ {K : Type 0} (is_whole : K → Bool) (faults : K → ℕ) (first last : WikiSeen K) (keeper left : K) (same : last.start ≡ first.start) (opened_whole : is_whole first.keeper ≡ is_whole keeper)
    (whole_first : is_whole first.keeper ≡ first.start.whole) (whole_left : is_whole left ≡ last.start.whole) where
  pub left-whole : is_whole left ≡ is_whole keeper
  left-whole = whole_left ∙ (ap (λ (s : Start). s.whole) same ∙ (sym whole_first ∙ opened_whole))

  pub left-count : faults first.keeper ≡ faults keeper → failed_where (is_whole first.keeper) (faults first.keeper) ≡ first.start.failed → failed_where (is_whole left) (faults left) ≡ last.start.failed → is_whole keeper ≡ true
      → faults left ≡ faults keeper
  left-count opened_count failed_first failed_left whole =
      let still : is_whole left ≡ is_whole first.keeper = left-whole ∙ sym opened_whole in
      let failed : failed_where (is_whole left) (faults left) ≡ failed_where (is_whole first.keeper) (faults first.keeper) = failed_left ∙ (ap (λ (s : Start). s.failed) same ∙ sym failed_first) in
      count-same (is_whole first.keeper) (is_whole left) (faults first.keeper) (faults left) still failed (opened_whole ∙ whole) ∙ opened_count

-- the keeper that is left tells its tables where that one did over which the wiki was opened
pub left-tells : {K : Type 0} (told : K → Option StoreTables) (first last : WikiSeen K) (keeper left : K) → is_some (told left) ≡ last.start.tells → last.start.tells ≡ first.start.tells → is_some (told first.keeper) ≡ first.start.tells
    → is_some (told first.keeper) ≡ is_some (told keeper) → is_some (told left) ≡ is_some (told keeper)
left-tells told first last keeper left at_last same at_first opening = at_last ∙ (same ∙ (sym at_first ∙ opening))

-- a wiki that was compared stays as it is, and its keeper
pub checked-on : {K : Type 0} (told : K → Option StoreTables) (faults : K → ℕ) (is_whole : K → Bool) (work : Work) (first last : WikiSeen K) (keeper left : K) (moments later before after : Option (List ℕ)) (end : CommandEnd)
    → IsWorked is_whole faults work first last moments later before after end → left ≡ last.keeper → faults first.keeper ≡ faults keeper → is_some (told left) ≡ is_some (told keeper) → is_whole left ≡ is_whole keeper
    → work ≡ Check → KeeperGoesOn told faults is_whole keeper left
checked-on {K = K} told faults is_whole work first last keeper left moments later before after end worked is same_count tells stays_whole asked =
    let same : last ≡ first = (subst (λ (w : Work). IsWorked is_whole faults w first last moments later before after end) asked worked).0 in
    let count : faults left ≡ faults keeper = ap faults is ∙ (ap (λ (w : WikiSeen K). faults w.keeper) same ∙ same_count) in record {
      tells = tells;
      never_falls = omega (arith, count);
      whole = λ _. count;
      stays_whole = stays_whole;
    }

-- ---- an end or a cause

pub ok-is : (a b : CommandEnd) → ◌≡◌ {A = Result CommandEnd LoadCause} (Ok a) (Ok b) → a ≡ b
ok-is a b is = cc

pub err-is-not : (why : LoadCause) (b : CommandEnd) → ◌≡◌ {A = Result CommandEnd LoadCause} (Err why) (Ok b) → ⊥
err-is-not why b is = cc
