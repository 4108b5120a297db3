-- The numbers of the jobs, where one of the two lists changes, and the greatest number.
use Rattle.std.proofs.Common.{◌≡◌, ℕ, eqb, true, false, None, refl, ◌+◌, ◌<◌, ◌≤◌, List, [], ◌∷◌, ◌++◌, length, map, max, take, get_or, sym, ap, ◌∙◌, subst, arith}
use Rattle.std.specs.List.{All, AllByRecursion, IsDistinct, fold}
use Rattle.std.proofs.lemmas.List.{map-append, take_more}
use Rattle.std.proofs.lemmas.List.Elements.{All-weaker, recursion_from_All}
use Rattle.std.proofs.lemmas.List.Sums.{fold-append}
use Rattle.wk_text_rules.specs.Titles.{PageTitle}
use Rattle.wk_page_rules.specs.declared.Reach.{Reach}
use Rattle.wk_wiki_rules.specs.Jobs.{RefreshEntry, FanEntry, JobLists, IsNumbered, numbers_of, has_fan, has_refresh, fan_set, refresh_queued, set_anew}
use Rattle.wk_wiki_rules.proofs.JobLemmas.{IsNumbered-fan_set}
use Rattle.wk_wiki_rules.proofs.Lists.{map-map}
use Rattle.wk_jobs.specs.Entries.{claimed_entry, queued_entry, entries}
use Rattle.wk_jobs.specs.declared.refreshes.ClaimedJob.{ClaimedJob}
use Rattle.wk_jobs.specs.declared.refreshes.QueuedJob.{QueuedJob}
use Rattle.wk_wiki_rules.specs.Steps.{next_above}

abbrev pub lists_with : List RefreshEntry → List FanEntry → ℕ → JobLists
lists_with refreshes fans next = record { refreshes = refreshes; fans = fans; next = next }

pub numbered-refreshes : (xs ys : List RefreshEntry) (fans : List FanEntry) (next : ℕ) → ys ≡ xs → IsNumbered (lists_with xs fans next) → IsNumbered (lists_with ys fans next)
numbered-refreshes xs ys fans next same numbered = subst (λ jobs. IsNumbered (lists_with jobs fans next)) (sym same) numbered

pub numbered-fans : (refreshes : List RefreshEntry) (xs ys : List FanEntry) (next : ℕ) → ys ≡ xs → IsNumbered (lists_with refreshes xs next) → IsNumbered (lists_with refreshes ys next)
numbered-fans refreshes xs ys next same numbered = subst (λ jobs. IsNumbered (lists_with refreshes jobs next)) (sym same) numbered

-- one number more
pub greatest-more : {X : Type 0} (number : X → ℕ) (from : ℕ) (xs : List X) (i : ℕ) (x : X) → i < length xs → x ≡ get_or xs i x
    → max (fold max from (map number (take i xs))) (number x) ≡ fold max from (map number (take (i + 1) xs))
greatest-more number from xs i x inside is =
    ap (λ y. max (fold max from (map number (take i xs))) (number y)) is
    ∙ sym (ap (λ ys. fold max from (map number ys)) (take_more xs i x inside) ∙ ap (fold max from) (map-append number (take i xs) (get_or xs i x ∷ []))
    ∙ fold-append max from (map number (take i xs)) (number (get_or xs i x) ∷ []))

greatest-below : (bound from : ℕ) (ns : List ℕ) → from < bound → AllByRecursion (λ n. (1 ≤ n) × (n < bound)) ns → fold max from ns < bound
greatest-below bound from [] low all = low
greatest-below bound from (n ∷ ns) low all = greatest-below bound (max from n) ns (let here : n < bound = all.0.1 in omega arith) all.1

-- the next number behind a restart isn't above the next number before it
pub next_above-fits : (lists : JobLists) → IsNumbered lists → next_above (numbers_of lists) ≤ lists.next
next_above-fits lists numbered =
    let below : fold max 0 (numbers_of lists) < lists.next =
    greatest-below lists.next 0 (numbers_of lists) (let some : 1 ≤ lists.next = numbered.positive in omega arith)
    (recursion_from_All (λ n. (1 ≤ n) × (n < lists.next)) (numbers_of lists) numbered.bounded) in
    omega arith

-- the greatest number of both kinds
pub greatest-both : (refreshes : List RefreshEntry) (fans : List FanEntry)
    → fold max (fold max 0 (map (λ (job : RefreshEntry). job.number) refreshes)) (map (λ (job : FanEntry). job.number) fans)
    ≡ fold max 0 (map (λ (job : RefreshEntry). job.number) refreshes ++ map (λ (job : FanEntry). job.number) fans)
greatest-both refreshes fans = sym (fold-append max 0 (map (λ (job : RefreshEntry). job.number) refreshes) (map (λ (job : FanEntry). job.number) fans))

pub greatest-entries : (cs : List ClaimedJob) (front behind qs : List QueuedJob) → front ++ behind ≡ qs
    → fold max (fold max (fold max 0 (map (λ (job : ClaimedJob). job.number) cs)) (map (λ (job : QueuedJob). job.number) front)) (map (λ (job : QueuedJob). job.number) behind)
    ≡ fold max 0 (map (λ (job : RefreshEntry). job.number) (entries cs qs))
greatest-entries cs front behind qs parts =
    let of_claimed = map-map (λ (job : RefreshEntry). job.number) claimed_entry (λ (job : ClaimedJob). job.number) (λ job. refl) cs in
    let of_queued = map-map (λ (job : RefreshEntry). job.number) queued_entry (λ (job : QueuedJob). job.number) (λ job. refl) qs in
    let low = fold max 0 (map (λ (job : ClaimedJob). job.number) cs) in
    sym (fold-append max low (map (λ (job : QueuedJob). job.number) front) (map (λ (job : QueuedJob). job.number) behind))
    ∙ ap (fold max low) (sym (map-append (λ (job : QueuedJob). job.number) front behind) ∙ ap (map (λ (job : QueuedJob). job.number)) parts)
    ∙ sym (fold-append max 0 (map (λ (job : ClaimedJob). job.number) cs) (map (λ (job : QueuedJob). job.number) qs))
    ∙ ap (fold max 0)
    (ap (λ ns. ns ++ map (λ (job : QueuedJob). job.number) qs) (sym of_claimed)
    ∙ ap (λ ns. map (λ (job : RefreshEntry). job.number) (map claimed_entry cs) ++ ns) (sym of_queued)
    ∙ sym (map-append (λ (job : RefreshEntry). job.number) (map claimed_entry cs) (map queued_entry qs)))

-- ---- what a call makes of the lists, by cases

pub refresh_queued-new : (lists : JobLists) (page : ℕ) → has_refresh lists page ≡ false
    → refresh_queued lists page ≡ lists_with (lists.refreshes ++ record { number = lists.next; page = page; ticket = None } ∷ []) lists.fans (lists.next + 1)
refresh_queued-new lists page none = rw none refl

pub fan_set-there : (lists : JobLists) (title : PageTitle) (reach : Reach) → has_fan lists title ≡ true
    → fan_set lists title reach ≡ lists_with lists.refreshes (map (set_anew title reach) lists.fans) lists.next
fan_set-there lists title reach there = rw there refl

pub fan_set-new : (lists : JobLists) (title : PageTitle) (reach : Reach) → has_fan lists title ≡ false
    → fan_set lists title reach ≡ lists_with lists.refreshes (lists.fans ++ record { number = lists.next; title = title; reach = reach; cursor = 0 } ∷ []) (lists.next + 1)
fan_set-new lists title reach none = rw none refl

-- ---- the numbers of the refresh jobs alone

each-front : (P : ℕ → Type 0) (xs ys : List ℕ) → AllByRecursion P (xs ++ ys) → AllByRecursion P xs
each-front P [] ys all = tt
each-front P (x ∷ xs) ys all = (all.0, each-front P xs ys all.1)

distinct-front : (xs ys : List ℕ) → IsDistinct eqb (xs ++ ys) → IsDistinct eqb xs
unfolding IsDistinct
distinct-front [] ys apart = tt
distinct-front (x ∷ xs) ys apart = (each-front (λ y. eqb x y ≡ false) xs ys apart.0, distinct-front xs ys apart.1)

pub refreshes-apart : (lists : JobLists) → IsNumbered lists → IsDistinct eqb (map (λ (job : RefreshEntry). job.number) lists.refreshes)
refreshes-apart lists numbered = distinct-front (map (λ (job : RefreshEntry). job.number) lists.refreshes) (map (λ (job : FanEntry). job.number) lists.fans) numbered.own

-- the next number may be passed over
pub numbered-later : (lists : JobLists) (n : ℕ) → lists.next ≤ n → IsNumbered lists → IsNumbered (lists_with lists.refreshes lists.fans n)
numbered-later lists n later numbered = record {
  own = numbered.own;
  bounded = All-weaker (λ number. (1 ≤ number) × (number < lists.next)) (λ number. (1 ≤ number) × (number < n)) (λ number bounds. (bounds.0, omega (arith, bounds.1))) (numbers_of lists) numbered.bounded;
  positive = omega (arith, numbered.positive);
}

-- a fan job more, of any cursor, whose number isn't below the next one
pub numbered-fan : (lists : JobLists) (job : FanEntry) → lists.next ≤ job.number → has_fan lists job.title ≡ false → IsNumbered lists → IsNumbered (lists_with lists.refreshes (lists.fans ++ job ∷ []) (job.number + 1))
numbered-fan lists job later none numbered =
    let number = λ (other : FanEntry). other.number in
    let from = lists_with lists.refreshes lists.fans job.number in
    let begun : FanEntry = record { number = job.number; title = job.title; reach = job.reach; cursor = 0 } in
    let set : IsNumbered (lists_with lists.refreshes (lists.fans ++ begun ∷ []) (job.number + 1)) =
    subst IsNumbered (fan_set-new from job.title job.reach none) (IsNumbered-fan_set from job.title job.reach (numbered-later lists job.number later numbered)) in
    let same = ap (λ ns. map (λ (other : RefreshEntry). other.number) lists.refreshes ++ ns) (map-append number lists.fans (begun ∷ []) ∙ sym (map-append number lists.fans (job ∷ []))) in
    record {
      own = subst (IsDistinct eqb) same set.own;
      bounded = subst (All (λ n. (1 ≤ n) × (n < job.number + 1))) same set.bounded;
      positive = set.positive;
    }
