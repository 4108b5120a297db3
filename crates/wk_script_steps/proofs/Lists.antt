-- Lists of tickets whose numbers rise: one that is taken out, and one that reads further.
use Rattle.std.proofs.Common.{◌≡◌, ℕ, zero, suc, ◌<◌, Bool, true, false, not, cond, eqb, List, [], ◌∷◌, length, get_or, map, drop, set, Some, None, refl, sym, ap, ◌∙◌, subst, arith}
use Rattle.std.proofs.lemmas.Option.{slice_get_read}
use Rattle.std.specs.List.{AllByRecursion, remove}
use Rattle.std.specs.Prelude.{find, slice_get}
use Rattle.wk_table_laws.specs.InOrder.{Rises}
use Rattle.wk_view_rules.specs.Worlds.{Read}
use Rattle.wk_script_rules.specs.WikiScripts.{TicketDraft, read_further}
use Rattle.wk_script_steps.specs.Drafts.{longer, others}

abbrev pub ticket : TicketDraft → ℕ
ticket draft = draft.ticket

all-at : (P : ℕ → Type 0) (drafts : List TicketDraft) (at : ℕ) (draft : TicketDraft) → AllByRecursion P (map ticket drafts) → slice_get drafts at ≡ Some draft → P (ticket draft)
all-at P [] at draft all is = absurd (let e : None ≡ Some draft = is in cc)
all-at P (d ∷ drafts) zero draft all is = let same : d ≡ draft = (let e : Some d ≡ Some draft = is in cc) in subst (λ (x : TicketDraft). P (ticket x)) same all.0
all-at P (d ∷ drafts) (suc at) draft all is = all-at P drafts at draft all.1 is

pub same-number : (a b : ℕ) → a ≡ b → eqb a b ≡ true
same-number a b same = subst (λ c. eqb a c ≡ true) same (self a)
  where
    self : (n : ℕ) → eqb n n ≡ true
    self n = grind arith

above-number : (number other : ℕ) → number < other → eqb other number ≡ false
above-number number other above = grind arith

below-number : (number other : ℕ) → other < number → eqb other number ≡ false
below-number number other below = grind arith

-- those of higher numbers are others, and read nothing further
kept-above : (number : ℕ) (drafts : List TicketDraft) → AllByRecursion (λ m. number < m) (map ticket drafts) → others number drafts ≡ drafts
kept-above number [] above = refl
kept-above number (d ∷ drafts) above =
    ap (λ (b : Bool). cond (not b) (d ∷ others number drafts) (others number drafts)) (above-number number (ticket d) above.0)
    ∙ ap (λ (ds : List TicketDraft). d ∷ ds) (kept-above number drafts above.1)

read-above : (number : ℕ) (read : Read) (drafts : List TicketDraft) → AllByRecursion (λ m. number < m) (map ticket drafts) → map (read_further number read) drafts ≡ drafts
read-above number read [] above = refl
read-above number read (d ∷ drafts) above =
    ap (λ (b : Bool). cond b (longer d read) d ∷ map (read_further number read) drafts) (above-number number (ticket d) above.0)
    ∙ ap (λ (ds : List TicketDraft). d ∷ ds) (read-above number read drafts above.1)

-- the ticket that stands at a place is taken out
pub taken-out : (drafts : List TicketDraft) (at : ℕ) (draft : TicketDraft) → Rises (map ticket drafts) → slice_get drafts at ≡ Some draft → others (ticket draft) drafts ≡ remove drafts at
taken-out [] at draft rises is = absurd (let e : None ≡ Some draft = is in cc)
taken-out (d ∷ drafts) zero draft rises is =
    let same : d ≡ draft = (let e : Some d ≡ Some draft = is in cc) in
    ap (λ (b : Bool). cond (not b) (d ∷ others (ticket draft) drafts) (others (ticket draft) drafts)) (same-number (ticket d) (ticket draft) (ap ticket same))
    ∙ kept-above (ticket draft) drafts (subst (λ (x : TicketDraft). AllByRecursion (λ m. ticket x < m) (map ticket drafts)) same rises.0)
taken-out (d ∷ drafts) (suc at) draft rises is =
    ap (λ (b : Bool). cond (not b) (d ∷ others (ticket draft) drafts) (others (ticket draft) drafts))
    (below-number (ticket draft) (ticket d) (all-at (λ m. ticket d < m) drafts at draft rises.0 is))
    ∙ ap (λ (ds : List TicketDraft). d ∷ ds) (taken-out drafts at draft rises.1 is)

-- the ticket that stands at a place reads further
pub read-at : (drafts : List TicketDraft) (at : ℕ) (draft : TicketDraft) (read : Read) → Rises (map ticket drafts) → slice_get drafts at ≡ Some draft
    → map (read_further (ticket draft) read) drafts ≡ set drafts at (longer draft read)
read-at [] at draft read rises is = absurd (let e : None ≡ Some draft = is in cc)
read-at (d ∷ drafts) zero draft read rises is =
    let same : d ≡ draft = (let e : Some d ≡ Some draft = is in cc) in
    ap (λ (b : Bool). cond b (longer d read) d ∷ map (read_further (ticket draft) read) drafts) (same-number (ticket d) (ticket draft) (ap ticket same))
    ∙ (λ i. longer (same i) read ∷ read-above (ticket draft) read drafts (subst (λ (x : TicketDraft). AllByRecursion (λ m. ticket x < m) (map ticket drafts)) same rises.0) i)
read-at (d ∷ drafts) (suc at) draft read rises is =
    ap (λ (b : Bool). cond b (longer d read) d ∷ map (read_further (ticket draft) read) drafts)
    (below-number (ticket draft) (ticket d) (all-at (λ m. ticket d < m) drafts at draft rises.0 is))
    ∙ ap (λ (ds : List TicketDraft). d ∷ ds) (read-at drafts at draft read rises.1 is)

-- what is found passes the test
pub found-passes : (test : TicketDraft → Bool) (drafts : List TicketDraft) (draft : TicketDraft) → find test drafts ≡ Some draft → test draft ≡ true
found-passes test [] draft is = absurd (let e : None ≡ Some draft = is in cc)
found-passes test (d ∷ drafts) draft is = by (test d) refl is (found-passes test drafts draft)
  where
    by : (b : Bool) → test d ≡ b → cond b (Some d) (find test drafts) ≡ Some draft → (find test drafts ≡ Some draft → test draft ≡ true) → test draft ≡ true
    by true passes is later = let same : d ≡ draft = (let e : Some d ≡ Some draft = is in cc) in subst (λ (x : TicketDraft). test x ≡ true) same passes
    by false fails is later = later is

-- ---- the first that passes a test

find-from : (test : TicketDraft → Bool) (drafts : List TicketDraft) (at : ℕ) (draft : TicketDraft) → slice_get drafts at ≡ Some draft → test draft ≡ true → find test (drop at drafts) ≡ Some draft
find-from test [] at draft is passes = absurd (let e : None ≡ Some draft = is in cc)
find-from test (d ∷ drafts) zero draft is passes =
    let same : d ≡ draft = (let e : Some d ≡ Some draft = is in cc) in
    ap (λ (b : Bool). cond b (Some d) (find test drafts)) (ap test same ∙ passes) ∙ ap Some same
find-from test (d ∷ drafts) (suc at) draft is passes = find-from test drafts at draft is passes

-- none before the place passed
pub found-at : (test : TicketDraft → Bool) (drafts : List TicketDraft) (at : ℕ) (draft : TicketDraft) → draft ≡ get_or drafts at draft → at < length drafts → test draft ≡ true
    → find test drafts ≡ find test (drop at drafts) → find test drafts ≡ slice_get drafts at
found-at test drafts at draft is within passes none_before =
    let there = slice_get_read drafts (length drafts) at draft refl within is in
    none_before ∙ find-from test drafts at draft there passes ∙ sym there
