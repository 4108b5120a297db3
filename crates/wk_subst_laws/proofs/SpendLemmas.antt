-- What a substitution's steps ask, cost and give: each question is of a page's text and is paid for by a node, and what comes
-- out is at most as long as the source and what calls gave.
use Rattle.std.proofs.Common.{◌≡◌, ◌++◌, ◌/◌, ℕ, suc, ◌+◌, ◌≤◌, List, length, Option, Some, None, refl, subst, arith, inl, inr}
use Rattle.std.specs.Bool.{nat_lt}
use Rattle.std.proofs.lemmas.Bool.{cases_Bool}
use borrow.Author.Tests.{ltb-false}
use Rattle.wk_text_rules.specs.Titles.{PageTitle}
use Rattle.wk_view_rules.specs.Expansions.{Expansion, Progress, give, answer_to, ◌>>=◌, most_nodes, most_bytes, with_include, with_nodes}
use Rattle.wk_view_rules.specs.Plans.{Plan, gives, asks, and_then}
use Rattle.wk_view_rules.specs.Worlds.{Answer}
use Rattle.wk_view_rules.specs.declared.Kind.{Kind}
use Rattle.wk_view_rules.specs.declared.Kind.TheVariants.{Include}
use Rattle.wk_view_laws.specs.Titles.{IsPageTitle}
use Rattle.wk_subst_rules.specs.Budget.{charged_or, result_or}
use Rattle.wk_subst_rules.specs.Places.{Bound, Place}

-- a question that a substitution asks
pub record IsAsked (title : PageTitle) (kind : Kind) : Type 0 where
  pub of_text : kind ≡ Include
  pub of_page : IsPageTitle title

pub record IsAllowed (progress : Progress) : Type 0 where
  pub nodes : progress.counters.nodes ≤ most_nodes
  pub include : progress.counters.include ≤ most_bytes

-- How far a substitution has come as a number, and how much of a text counts for it where that stands: a charge brings the
-- number on, what a call gives brings it on by its length, and a value that an argument gives is paid for by two charges.
pub record Weighs (measure : Progress → ℕ) (gain : ℕ → ℕ) (weight : Place → List ℕ → ℕ) : Type 0 where
  pub charged : (n : ℕ) (progress : Progress) → measure (with_nodes (progress.counters.nodes + n) progress) ≡ measure progress + gain n
  pub spent : (progress : Progress) → progress.counters.nodes ≤ most_nodes → measure progress ≤ measure (with_nodes most_nodes progress)
  pub counted : (n : ℕ) (progress : Progress) → measure (with_include (progress.counters.include + n) progress) ≡ measure progress + n
  pub append : (place : Place) (xs ys : List ℕ) → weight place (xs ++ ys) ≡ weight place xs + weight place ys
  pub most : (place : Place) (xs : List ℕ) → weight place xs ≤ length xs
  pub value : (place : Place) (bound : List Bound) (xs : List ℕ) → place.bound ≡ Some bound → weight place xs ≤ gain 1 + gain (length xs / 64)

-- Behind a start with such a number: it only grows, and a value is at most as long as its source and it became.
pub record Fits {A : Type 0} (measure : Progress → ℕ) (size : A → ℕ) (most before : ℕ) (x : A) (after : Progress) : Type 0 where
  pub grown : before ≤ measure after
  pub short : size x + before ≤ most + measure after

-- Each way through the plan asks such questions, and ends with at least so many nodes as there were questions, counted from
-- `base`, and with a value that fits.
abbrev pub Ends : {A : Type 0} → ℕ → (A → Progress → Type 0) → Plan (A × Progress) → Type 0
Ends base fits (gives (x, progress)) = (base ≤ progress.counters.nodes) × IsAllowed progress × fits x progress
Ends base fits (asks title kind more) = IsAsked title kind × ((answer : Answer) → Ends (suc base) fits (more answer))

-- An expansion that begins with so many nodes more than questions ends with at least as many, and with a value that is as long
-- as its source, which has so many bytes, and what calls gave.
pub record Spends {A : Type 0} (measure : Progress → ℕ) (credit : ℕ) (size : A → ℕ) (most : ℕ) (m : Expansion A) : Type 0 where
  pub spends : (base : ℕ) (progress : Progress) → base + credit ≤ progress.counters.nodes → IsAllowed progress → Ends base (Fits measure size most (measure progress)) (m progress)

ends-imp : {A : Type 0} (base : ℕ) (fits better : A → Progress → Type 0) (p : Plan (A × Progress)) → ((x : A) (after : Progress) → fits x after → better x after) → Ends base fits p → Ends base better p
ends-imp base fits better (gives (x, progress)) f h = (h.0, h.1, f x progress h.2)
ends-imp base fits better (asks title kind more) f h = (h.0, λ answer. ends-imp (suc base) fits better (more answer) f (h.1 answer))

-- ---- weaker claims

pub spends-more : {measure : Progress → ℕ} {A : Type 0} {size : A → ℕ} {most : ℕ} {m : Expansion A} → Spends measure 0 size most m → Spends measure 1 size most m
spends-more h = record { spends = λ base progress below allowed. h.spends base progress (omega arith) allowed }

pub spends-other : {measure : Progress → ℕ} {A : Type 0} {credit : ℕ} {m : Expansion A} (size other : A → ℕ) (most more : ℕ) → most ≤ more → ((x : A) → other x ≤ size x) → Spends measure credit size most m → Spends measure credit other more m
spends-other size other most more longer smaller h = record {
  spends = λ base progress below allowed.
      ends-imp base _ _ _ (λ x after fits. record { grown = fits.grown; short = omega (arith, fits.short, longer, smaller x) })
      (h.spends base progress below allowed);
}

-- of what comes out nothing is said
pub spends-apart : {measure : Progress → ℕ} {A : Type 0} {credit : ℕ} {m : Expansion A} (size : A → ℕ) (most : ℕ) → Spends measure credit size most m → Spends measure credit (λ x. 0) 0 m
spends-apart size most h = record {
  spends = λ base progress below allowed.
      ends-imp base _ _ _ (λ x after fits. record { grown = fits.grown; short = omega (arith, fits.grown) })
      (h.spends base progress below allowed);
}

-- ---- values and questions

pub spends-give : {measure : Progress → ℕ} {A : Type 0} (size : A → ℕ) (most : ℕ) (x : A) → size x ≤ most → Spends measure 0 size most (give x)
spends-give size most x short = record {
  spends = λ base progress below allowed. (omega arith, allowed, record { grown = omega arith; short = omega (arith, short) });
}

pub spends-answer : {measure : Progress → ℕ} {B : Type 0} {size : B → ℕ} {most : ℕ} {title : PageTitle} {next : Answer → Expansion B} → IsPageTitle title → ((answer : Answer) → Spends measure 0 size most (next answer)) → Spends measure 1 size most (answer_to title Include >>= next)
spends-answer of_page later = record {
  spends = λ base progress below allowed. (record { of_text = refl; of_page = of_page }, λ answer. (later answer).spends (suc base) progress (omega arith) allowed);
}

-- ---- one behind another

ends-bind : {measure : Progress → ℕ} {A B : Type 0} (credit base before : ℕ) (size : A → ℕ) (first : ℕ) (other : B → ℕ) (later most : ℕ) (p : Plan (A × Progress)) (next : A → Expansion B) → later + first ≤ most → ((x : A) → Spends measure credit other (later + size x) (next x)) → Ends (base + credit) (Fits measure size first before) p → Ends base (Fits measure other most before) (and_then p (λ end. next end.0 end.1))
ends-bind credit base before size first other later most (gives (x, progress)) next long h e =
    ends-imp base _ _ _
    (λ y after fits. record { grown = omega (arith, fits.grown, e.2.grown); short = omega (arith, fits.short, e.2.short, long) })
    ((h x).spends base progress e.0 e.1)
ends-bind {measure = measure} credit base before size first other later most (asks title kind more) next long h e = (
  e.0,
  λ answer. ends-bind credit (suc base) before size first other later most (more answer) next long h
      (let one_more : suc (base + credit) ≡ suc base + credit = omega arith in
      subst (λ n. Ends n (Fits measure size first before) (more answer)) one_more (e.1 answer)),
)

pub spends-bind : {measure : Progress → ℕ} {A B : Type 0} {credit : ℕ} {m : Expansion A} {next : A → Expansion B} (size : A → ℕ) (first : ℕ) (other : B → ℕ) (later most : ℕ) → later + first ≤ most → Spends measure 0 size first m → ((x : A) → Spends measure credit other (later + size x) (next x)) → Spends measure credit other most (m >>= next)
spends-bind {measure = measure} {credit = credit} {m = m} {next = next} size first other later most long h k = record {
  spends = λ base progress below allowed.
      ends-bind credit base (measure progress) size first other later most (m progress) next long k
      (h.spends (base + credit) progress (omega arith) allowed);
}

-- where of the first value nothing is said
pub spends-then : {measure : Progress → ℕ} {A B : Type 0} {credit : ℕ} {m : Expansion A} {next : A → Expansion B} (other : B → ℕ) (most : ℕ) → Spends measure 0 (λ x. 0) 0 m → ((x : A) → Spends measure credit other most (next x)) → Spends measure credit other most (m >>= next)
spends-then other most h k =
    spends-bind (λ x. 0) 0 other most most (omega arith) h (λ x. spends-other other other most (most + 0) (omega arith) (λ y. omega arith) (k x))

-- ---- the budget

pub spends-charged : {measure : Progress → ℕ} {gain : ℕ → ℕ} {weight : Place → List ℕ → ℕ} (w : Weighs measure gain weight) (size : List ℕ → ℕ) (most : ℕ) (source : List ℕ) (n credit more : ℕ) {rest : Expansion (List ℕ)} → size source ≤ most → more ≤ credit + n → Spends measure more size (most + gain n) rest → Spends measure credit size most (charged_or source n rest)
spends-charged w size most source n credit more {rest} short enough h = record {
  spends = λ base progress below allowed. elim (cases_Bool (nat_lt most_nodes (progress.counters.nodes + n))) [
    | inl over ↦
        let spent : base ≤ most_nodes = omega (arith, allowed.nodes) in
        let grown = w.spent progress allowed.nodes in
        rw over (spent, record { nodes = omega arith; include = allowed.include }, record { grown = grown; short = omega (arith, short, grown) })
    | inr within ↦
        let fits : progress.counters.nodes + n ≤ most_nodes = ltb-false _ _ within in
        let on = w.charged n progress in
        rw within
        (ends-imp base _ _ _ (λ x after later. record { grown = omega (arith, on, later.grown); short = omega (arith, on, later.short) })
        (h.spends base (with_nodes (progress.counters.nodes + n) progress) (omega arith) (record { nodes = fits; include = allowed.include })))
  ];
}

pub spends-result : {measure : Progress → ℕ} {gain : ℕ → ℕ} {weight : Place → List ℕ → ℕ} (w : Weighs measure gain weight) (size : List ℕ → ℕ) (most : ℕ) (source out : List ℕ) → size source ≤ most → size out ≤ length out → Spends measure 0 size most (result_or source out)
spends-result w size most source out short long = record {
  spends = λ base progress below allowed. elim (cases_Bool (nat_lt most_bytes (progress.counters.include + length out))) [
    | inl over ↦ rw over (omega arith, allowed, record { grown = omega arith; short = omega (arith, short) })
    | inr within ↦
        let fits : progress.counters.include + length out ≤ most_bytes = ltb-false _ _ within in
        let on = w.counted (length out) progress in
        rw within (omega arith, record { nodes = allowed.nodes; include = fits }, record { grown = omega (arith, on); short = omega (arith, on, long) })
  ];
}

-- ---- choices

pub spends-option : {measure : Progress → ℕ} {A X : Type 0} {credit : ℕ} {size : A → ℕ} {most : ℕ} (o : Option X) {none : Expansion A} {some : X → Expansion A} → Spends measure credit size most none → ((x : X) → Spends measure credit size most (some x)) → Spends measure credit size most (elim o [ None ↦ none | Some x ↦ some x ])
spends-option None h k = h
spends-option (Some x) h k = k x

pub spends-found : {measure : Progress → ℕ} {A X : Type 0} {credit : ℕ} {size : A → ℕ} {most : ℕ} (o : Option X) {none : Expansion A} {some : X → Expansion A} → Spends measure credit size most none → ((x : X) → o ≡ Some x → Spends measure credit size most (some x)) → Spends measure credit size most (elim o [ None ↦ none | Some x ↦ some x ])
spends-found None h k = h
spends-found (Some x) h k = k x refl
