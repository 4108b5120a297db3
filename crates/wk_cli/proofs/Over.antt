-- A script over the store that was opened.
use Rattle.std.proofs.Common.{◌≡◌, ◌≤◌, ℕ, Bool, true, List, [], Option, Some, None, Result, IfSome, is_some, refl, sym, ◌∙◌, subst}
use Rattle.wk_base.specs.Faults.{Rose}
use Rattle.wk_page_rules.specs.Verdict.{MostHeld}
use Rattle.wk_table_rules.specs.GoodStore.{first_broken}
use Rattle.wk_table_rules.specs.Rows.{StoreTables}
use Rattle.wk_wiki_rules.specs.Lives.{opened}
use Rattle.wk_commands.specs.Worked.{limits_with_journal}
use Rattle.wk_core.specs.Limits.{AreWithinFull}
use Rattle.wk_core.specs.Loads.{HasOpened, bad_store_of}
use Rattle.wk_core.specs.Seen.{WikiSeen}
use Rattle.wk_core.specs.declared.outcomes.LoadCause.{LoadCause}
use Rattle.wk_core.specs.declared.outcomes.LoadCause.TheVariants as cause
use Rattle.wk_script_runs.specs.Ends.{keeper_left}
use Rattle.wk_script_runs.specs.Outside.{Outside}
use Rattle.wk_script.specs.Report.{IsHandedAt, IsRunTo, bad_of}
use Rattle.wk_script.specs.declared.script.ScriptEnd.{ScriptEnd}
use Rattle.wk_cli.specs.Scripted.{IsOver, not_loaded, ran}
use Rattle.wk_cli.specs.Statuses.{status_of_cause, status_of_end}
use Rattle.wk_cli.specs.declared.ends.Finish.{Finish}

-- limits that are those of others within the full ones
pub within-as : (most limits : MostHeld) → most ≡ limits → AreWithinFull limits → AreWithinFull most
within-as most limits is within = subst AreWithinFull (sym is) within

pub opened-as : {K : Type 0} (wiki : WikiSeen K) (most limits : MostHeld) → most ≡ limits → HasOpened wiki most → HasOpened wiki limits
opened-as wiki most limits is opening = subst (HasOpened wiki) is opening

module _ {K : Type 0} (told : K → Option StoreTables) (faults : K → ℕ) (is_whole : K → Bool) (journal : ℕ) (keeper : K) (before after : Outside) (finish : Finish K) where
  -- the wiki was opened, and the script ran
  pub run-over : (wiki : WikiSeen K) (how : ScriptEnd) (points : List ℕ) (handed : Result (WikiSeen K) K)
      → HasOpened wiki (limits_with_journal journal)
      → IfSome (told keeper) (λ tables. (first_broken tables ≡ None) × (wiki.state ≡ opened tables))
      → is_some (told wiki.keeper) ≡ is_some (told keeper)
      → is_whole wiki.keeper ≡ wiki.start.whole → is_whole wiki.keeper ≡ is_whole keeper
      → faults wiki.keeper ≡ faults keeper
      → IsRunTo told faults wiki before after how points handed → IsHandedAt how handed
      → (is_some (told wiki.keeper) ≡ true → bad_of how ≡ None)
      → finish.status ≡ status_of_end how → finish.points.items ≡ points → finish.bad ≡ bad_of how → finish.store ≡ Some (keeper_left handed)
      → IsOver told faults is_whole journal keeper before after finish
  run-over wiki how points handed opened_is state tells as_start whole no_fault run handed_at not_bad status_is points_are bad_is store_is = ran (record {
    wiki = wiki;
    opened_is = opened_is;
    state = state;
    tells = tells;
    whole = sym as_start ∙ whole;
    no_fault = no_fault;
    how = how;
    handed = handed;
    run = subst (λ (ps : List ℕ). IsRunTo told faults wiki before after how ps handed) (sym points_are) run;
    handed_at = handed_at;
    not_bad = λ is. not_bad (tells ∙ is);
    status_is = status_is;
    bad_is = bad_is;
    store_is = store_is;
  })

-- it wasn't opened
module _ {K : Type 0} (told : K → Option StoreTables) (faults : K → ℕ) (is_whole : K → Bool) (journal : ℕ) (keeper : K) (before : Outside) (finish : Finish K) where
  pub unloaded-over : (why : LoadCause) (left : K)
      → IfSome (bad_store_of why) (λ row. IfSome (told keeper) (λ tables. first_broken tables ≡ Some row))
      → told left ≡ told keeper
      → (why ≡ cause.StoreFault → Rose (faults keeper) (faults left)) → faults keeper ≤ faults left
      → (is_whole keeper ≡ true → faults left ≡ faults keeper)
      → finish.status ≡ status_of_cause why → finish.points.items ≡ [] → finish.bad ≡ bad_store_of why → finish.store ≡ Some left
      → IsOver told faults is_whole journal keeper before before finish
  unloaded-over why left broken tables fault never_falls whole status_is points_are bad_is store_is = not_loaded (record {
    why = why;
    left = left;
    untouched = record { same = refl; nothing = points_are };
    status_is = status_is;
    bad_is = bad_is;
    broken = broken;
    store_is = store_is;
    tables = tables;
    fault = fault;
    never_falls = never_falls;
    whole = whole;
  })
