-- Each question of an expansion is paid for by a node, none is for a viewed page's text, and each is of a title that
-- a page can have. The counters stay within their limits.
use Rattle.std.proofs.Common.{refl, ◌≡◌, ℕ, suc, ◌+◌, ◌≤◌, Bool, true, false, List, [], ◌∷◌, ◌++◌, length, subst, Option, Some, None, arith, inl, inr}
use Rattle.std.specs.Bool.{if◌then◌else◌, nat_lt}
use Rattle.std.specs.List.{list_any}
use Rattle.std.proofs.lemmas.Bool.{cases_Bool}
use borrow.Author.Tests.{ltb-false}
use Rattle.wk_text_rules.specs.Titles.{PageTitle, title_eq}
use Rattle.wk_view_rules.specs.Expansions.{Expansion, Output, Progress, give, answer_to, ◌>>=◌, charged, argument_within_limit, inclusion_within_limit, no_progress, most_nodes, most_bytes, with_nodes, with_argument, with_include}
use Rattle.wk_view_rules.specs.Plans.{Plan, gives, asks, and_then}
use Rattle.wk_view_rules.specs.Worlds.{Answer, kind_eq}
use Rattle.wk_view_rules.specs.declared.Kind.{Kind}
use Rattle.wk_view_laws.specs.Limits.{IsWithinLimits}
use Rattle.wk_view_laws.specs.Titles.{IsPageTitle}
use Rattle.wk_view_rules.specs.declared.Kind.TheVariants.{View, Include, Exists}

-- a question that an expansion asks: none for a viewed page's text, and only of titles that pages can have
pub record IsAsked (title : PageTitle) (kind : Kind) : Type 0 where
  pub no_view : kind_eq kind View ≡ false
  pub of_page : IsPageTitle title

-- the titles that were tested for existence, with one more question
abbrev pub tested_with : PageTitle → Kind → List PageTitle → List PageTitle
tested_with title View tested = tested
tested_with title Include tested = tested
tested_with title Exists tested = if list_any (title_eq title) tested then tested else tested ++ title ∷ []

-- The counters are within the limits, and count the titles that were tested.
pub record IsKept (progress : Progress) : Type 0 where
  pub limits : IsWithinLimits progress.counters
  pub counted : progress.counters.exists ≡ length progress.tested

-- Each way through the plan asks such questions, and ends with at least so many nodes as there were questions,
-- counted from `base`, and with the titles that were asked for existence, from those at its start.
abbrev pub EndsPaid : {A : Type 0} → ℕ → List PageTitle → Plan (A × Progress) → Type 0
EndsPaid base tested (gives (x, progress)) = (base ≤ progress.counters.nodes) × IsKept progress × (progress.tested ≡ tested)
EndsPaid base tested (asks title kind more) = IsAsked title kind × ((answer : Answer) → EndsPaid (suc base) (tested_with title kind tested) (more answer))

-- An expansion that begins with so many nodes more than questions ends with at least as many.
pub record Pays {A : Type 0} (credit : ℕ) (m : Expansion A) : Type 0 where
  pub pays : (base : ℕ) (progress : Progress) → base + credit ≤ progress.counters.nodes → IsKept progress → EndsPaid base progress.tested (m progress)

pub pays-give : {A : Type 0} (x : A) → Pays 0 (give x)
pays-give x = record { pays = λ base progress below kept. (omega arith, kept, refl) }

pub pays-more : {A : Type 0} {m : Expansion A} → Pays 0 m → Pays 1 m
pays-more h = record { pays = λ base progress below kept. h.pays base progress (omega arith) kept }

ends-bind : {A B : Type 0} (credit base : ℕ) (tested : List PageTitle) (p : Plan (A × Progress)) (next : A → Expansion B) → ((x : A) → Pays credit (next x)) → EndsPaid (base + credit) tested p → EndsPaid base tested (and_then p (λ end. next end.0 end.1))
ends-bind credit base tested (gives (x, progress)) next later h = subst (λ t. EndsPaid base t (next x progress)) h.2 ((later x).pays base progress h.0 h.1)
ends-bind credit base tested (asks title kind more) next later h = (
  h.0,
  λ answer. ends-bind credit (suc base) (tested_with title kind tested) (more answer) next later
      (let one_more : suc (base + credit) ≡ suc base + credit = omega arith in
      subst (λ n. EndsPaid n (tested_with title kind tested) (more answer)) one_more (h.1 answer)),
)

pub pays-bind : {A B : Type 0} {credit : ℕ} {m : Expansion A} {next : A → Expansion B} → Pays 0 m → ((x : A) → Pays credit (next x)) → Pays credit (m >>= next)
pays-bind {credit = credit} {m = m} {next = next} first later = record {
  pays = λ base progress below kept. ends-bind credit base progress.tested (m progress) next later (first.pays (base + credit) progress (omega arith) kept);
}

-- a question for a text takes the credit
pub pays-answer : {B : Type 0} {title : PageTitle} {next : Answer → Expansion B} → IsPageTitle title → ((answer : Answer) → Pays 0 (next answer)) → Pays 1 (answer_to title Include >>= next)
pays-answer of_page later = record {
  pays = λ base progress below kept. (record { no_view = refl; of_page = of_page }, λ answer. (later answer).pays (suc base) progress (omega arith) kept);
}

-- a charge gives credit
pub pays-charged : (n credit more : ℕ) {rest : Expansion Output} → Pays more rest → more ≤ credit + n → Pays credit (charged n rest)
pays-charged n credit more {rest} h enough = record {
  pays = λ base progress below kept.
      let most = kept.limits in
      let limits : (nodes : ℕ) → nodes ≤ most_nodes → IsWithinLimits (with_nodes nodes progress).counters =
      λ nodes fits. record { nodes = fits; include = most.include; argument = most.argument; exists = most.exists }
      in
      elim (cases_Bool (nat_lt most_nodes (progress.counters.nodes + n))) [
        | inl over ↦
            let spent : base ≤ most_nodes = omega (arith, most.nodes) in
            rw over (spent, record { limits = limits most_nodes (omega arith); counted = kept.counted }, refl)
        | inr within ↦
            let fits : progress.counters.nodes + n ≤ most_nodes = ltb-false _ _ within in
            rw within (h.pays base (with_nodes (progress.counters.nodes + n) progress) (omega arith)
            (record { limits = limits (progress.counters.nodes + n) fits; counted = kept.counted }))
      ];
}

pub pays-argument : (out : Output) → Pays 0 (argument_within_limit out)
pays-argument out = record {
  pays = λ base progress below kept.
      let most = kept.limits in
      elim (cases_Bool (nat_lt most_bytes (progress.counters.argument + length out))) [
        | inl over ↦ rw over (omega arith, kept, refl)
        | inr within ↦
            let fits : progress.counters.argument + length out ≤ most_bytes = ltb-false _ _ within in
            let limits : IsWithinLimits (with_argument (progress.counters.argument + length out) progress).counters =
            record { nodes = most.nodes; include = most.include; argument = fits; exists = most.exists }
            in
            rw within (omega arith, record { limits = limits; counted = kept.counted }, refl)
      ];
}

pub pays-inclusion : (title : PageTitle) (out : Output) → Pays 0 (inclusion_within_limit title out)
pays-inclusion title out = record {
  pays = λ base progress below kept.
      let most = kept.limits in
      elim (cases_Bool (nat_lt most_bytes (progress.counters.include + length out))) [
        | inl over ↦ rw over (omega arith, kept, refl)
        | inr within ↦
            let fits : progress.counters.include + length out ≤ most_bytes = ltb-false _ _ within in
            let limits : IsWithinLimits (with_include (progress.counters.include + length out) progress).counters =
            record { nodes = most.nodes; include = fits; argument = most.argument; exists = most.exists }
            in
            rw within (omega arith, record { limits = limits; counted = kept.counted }, refl)
      ];
}

pub pays-if : {A : Type 0} {credit : ℕ} (b : Bool) {m n : Expansion A} → Pays credit m → Pays credit n → Pays credit (if b then m else n)
pays-if true h k = h
pays-if false h k = k

pub pays-option : {A X : Type 0} {credit : ℕ} (o : Option X) {none : Expansion A} {some : X → Expansion A} → Pays credit none → ((x : X) → Pays credit (some x)) → Pays credit (elim o [ None ↦ none | Some x ↦ some x ])
pays-option None h k = h
pays-option (Some x) h k = k x

-- the same, where the test's answer is of use
pub pays-unless : {A : Type 0} {credit : ℕ} (b : Bool) {m n : Expansion A} → Pays credit m → (b ≡ false → Pays credit n) → Pays credit (if b then m else n)
pays-unless true h k = h
pays-unless false h k = k refl

pub pays-found : {A X : Type 0} {credit : ℕ} (o : Option X) {none : Expansion A} {some : X → Expansion A} → Pays credit none → ((x : X) → o ≡ Some x → Pays credit (some x)) → Pays credit (elim o [ None ↦ none | Some x ↦ some x ])
pays-found None h k = h
pays-found (Some x) h k = k x refl

-- so it is at the start
pub kept-start : IsKept no_progress
kept-start = record {
  limits = record { nodes = omega arith; include = omega arith; argument = omega arith; exists = omega arith };
  counted = refl;
}
