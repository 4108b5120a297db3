-- What comes of a restart, by what the calls of the wiki told.
use Rattle.std.proofs.Common.{◌≡◌, ℕ, ◌≤◌, Bool, true, false, List, [], Option, Some, None, refl, sym, ap, ◌∙◌, subst, arith}
use Rattle.std.specs.Prelude.{IfSome, is_some}
use Rattle.wk_base.specs.Faults.{Rose}
use Rattle.wk_page_rules.specs.Verdict.{MostHeld}
use Rattle.wk_table_rules.specs.Rows.{StoreTables}
use Rattle.wk_table_rules.specs.GoodStore.{first_broken}
use Rattle.wk_table_rules.specs.declared.BadStore.{BadStore}
use Rattle.wk_wiki_rules.specs.States.{State}
use Rattle.wk_wiki_rules.specs.Lives.{opened, reopened}
use Rattle.wk_wiki_rules.specs.Tables.{tables_of}
use Rattle.wk_life_laws.specs.Runs.{IsRun}
use Rattle.wk_life_laws.proofs.RunFacts.{run_good, run_opened}
use Rattle.wk_core.specs.Loads.{HasOpened, bad_store_of}
use Rattle.wk_core.specs.Seen.{IsTold, WikiSeen}
use Rattle.wk_core.specs.declared.outcomes.LoadCause.{LoadCause}
use Rattle.wk_core.specs.declared.outcomes.LoadCause.TheVariants as cause
use Rattle.wk_script_rules.specs.WikiScripts.{TicketDraft, WikiScript, all_given_back, script_from}
use Rattle.wk_script_steps.specs.Reopened.{IsLost, Reopens}
use Rattle.wk_script_steps.specs.Seen.{script_of}
use Rattle.wk_script_steps.proofs.Returning.{bare}

-- a store whose tables are told is opened as the state reopened
told-opened : (o : Option StoreTables) (last next : State) → IfSome o (λ tables. tables ≡ tables_of last) → IfSome o (λ tables. (first_broken tables ≡ None) × (next ≡ opened tables))
    → opened (tables_of last) ≡ reopened last → is_some o ≡ true → next ≡ reopened last
told-opened None last next is there back some = absurd (let e : false ≡ true = some in cc)
told-opened (Some tables) last next is there back some = there.1 ∙ (ap opened is ∙ back)

-- it isn't bad
told-good : (o : Option StoreTables) (last : State) (bad : Option BadStore) → IfSome o (λ tables. tables ≡ tables_of last) → IfSome bad (λ b. IfSome o (λ tables. first_broken tables ≡ Some b))
    → first_broken (tables_of last) ≡ None → is_some o ≡ true → bad ≡ None
told-good o last None is broken good some = refl
told-good None last (Some b) is broken good some = absurd (let e : false ≡ true = some in cc)
told-good (Some tables) last (Some b) is broken good some = absurd (let e : None ≡ Some b = sym good ∙ (sym (ap first_broken is) ∙ broken) in cc)

-- The tickets of a wiki came in, and its keeper is released.
pub record IsReleased {K : Type 0} (told : K → Option StoreTables) (is_whole : K → Bool) (old last : WikiSeen K) (drafts : List TicketDraft) (keeper : K) : Type 0 where
  pub run : IsRun last.start last.journal last.state
  pub ended : script_of last [] ≡ bare (all_given_back (script_of old drafts))
  pub start : last.start ≡ old.start
  pub kept : last.keeper ≡ old.keeper
  pub same : keeper ≡ last.keeper
  pub tables : IsTold told last.state last.keeper
  pub whole : is_whole last.keeper ≡ last.start.whole

module _ {K : Type 0} (told : K → Option StoreTables) (faults : K → ℕ) (is_whole : K → Bool) (old last : WikiSeen K) (drafts : List TicketDraft) (keeper : K) (is : IsReleased told is_whole old last drafts keeper) where
  last-state : last.state ≡ (all_given_back (script_of old drafts)).state
  last-state = ap (λ (s : WikiScript). s.state) is.ended

  keeper-is : keeper ≡ old.keeper
  keeper-is = is.same ∙ is.kept

  keeper-told : IfSome (told keeper) (λ tables. tables ≡ tables_of last.state)
  keeper-told = subst (λ (k : K). IfSome (told k) (λ tables. tables ≡ tables_of last.state)) (sym is.same) is.tables

  keeper-whole : is_whole keeper ≡ old.start.whole
  keeper-whole = ap is_whole is.same ∙ (is.whole ∙ ap (λ start. start.whole) is.start)

  -- the store is opened anew
  pub reopens : (new : WikiSeen K) (most : MostHeld) → most ≡ last.start.limits → HasOpened new most
      → IfSome (told keeper) (λ tables. (first_broken tables ≡ None) × (new.state ≡ opened tables))
      → is_some (told new.keeper) ≡ is_some (told keeper) → is_whole new.keeper ≡ is_whole keeper → is_whole new.keeper ≡ new.start.whole
      → faults new.keeper ≡ faults keeper → Reopens told faults old drafts new
  reopens new most limits new_is there tells whole new_whole faultless = record {
    begun = begins;
    told_state = λ some. begins ∙ ap script_from (told-opened (told keeper) last.state new.state keeper-told there (run_opened last.start last.journal last.state is.run)
        (ap (λ (k : K). is_some (told k)) keeper-is ∙ some) ∙ ap reopened last-state);
    goes = record {
      limits = new_is.limits ∙ (limits ∙ ap (λ start. start.limits) is.start);
      unsealed = λ before. new_is.unsealed;
      stays_whole = sym new_whole ∙ (whole ∙ keeper-whole);
      tells = tells ∙ ap (λ (k : K). is_some (told k)) keeper-is;
      never_falls = (let e : faults new.keeper ≡ faults old.keeper = same-count in omega arith);
      whole = λ before. same-count;
    };
    no_fault = same-count;
  }
    where
      begins : script_of new [] ≡ script_from new.state
      begins = λ i. record { start = new_is.start i; journal = new_is.journal i; state = new.state; drafts = [] }

      same-count : faults new.keeper ≡ faults old.keeper
      same-count = faultless ∙ ap faults keeper-is

  -- it isn't
  pub is-lost : (why : LoadCause) (after : K) → IfSome (bad_store_of why) (λ bad. IfSome (told keeper) (λ tables. first_broken tables ≡ Some bad))
      → told after ≡ told keeper → (why ≡ cause.StoreFault → Rose (faults keeper) (faults after)) → faults keeper ≤ faults after
      → (is_whole keeper ≡ true → faults after ≡ faults keeper) → IsLost told faults old drafts why after
  is-lost why after bad tells fault never_falls whole = record {
    tells = ap (λ o. is_some o) tells ∙ ap (λ (k : K). is_some (told k)) keeper-is;
    tables = subst (λ (s : State). IfSome (told after) (λ tables. tables ≡ tables_of s)) last-state
        (subst (λ o. IfSome o (λ tables. tables ≡ tables_of last.state)) (sym tells) keeper-told);
    not_bad = λ some. told-good (told keeper) last.state (bad_store_of why) keeper-told bad (run_good last.start last.journal last.state is.run) (ap (λ (k : K). is_some (told k)) keeper-is ∙ some);
    fault = λ failed. subst (λ (k : K). Rose (faults k) (faults after)) keeper-is (fault failed);
    never_falls = subst (λ (k : K). faults k ≤ faults after) keeper-is never_falls;
    whole = λ before. whole (keeper-whole ∙ before) ∙ ap faults keeper-is;
  }
