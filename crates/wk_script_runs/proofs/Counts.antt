-- Counts of faults that rise, and the replies that tell of them.
use Rattle.std.proofs.Common.{◌≡◌, ◌≢◌, ℕ, suc, ◌+◌, ◌^◌, ◌<◌, ◌≤◌, List, [], ◌∷◌, ◌++◌, refl, arith}
use Rattle.std.specs.List.{AllByRecursion}
use Rattle.wk_base.specs.Faults.{Rose}
use Rattle.wk_answer_rules.specs.Values.{ApiReply}
use Rattle.wk_answer_rules.specs.ApiErrors.{api_error, nomemory, storefault}
use Rattle.wk_script_rules.specs.Runs.{HasNoFailure}
use Rattle.wk_script_runs.specs.Served.{StoreFaults, no_replies, one_fault, passed_over, risen}

-- a count that rises by m and then by n
pub risen-on : (a b c m n : ℕ) → risen a m ≤ b → risen b n ≤ c → risen a (m + n) ≤ c
risen-on a b c m n first second = omega arith

-- faults of the front, and of the back
pub split-faults : (front back : List ApiReply) (n : ℕ) → StoreFaults (front ++ back) n
    → (i : ℕ) × (j : ℕ) × StoreFaults front i × StoreFaults back j × (n ≡ i + j)
split-faults [] back n all = (0, n, no_replies, all, omega arith)
split-faults (reply ∷ front) back n (one_fault {n = m} is all) =
    let parts = split-faults front back m all in
    let sum : m ≡ parts.0 + parts.1 = parts.4 in
    (suc parts.0, parts.1, one_fault is parts.2, parts.3, omega (arith, sum))
split-faults (reply ∷ front) back n (passed_over all) =
    let parts = split-faults front back n all in
    (parts.0, parts.1, passed_over parts.2, parts.3, parts.4)

-- no replies
none-told : (n : ℕ) → StoreFaults [] n → n ≡ 0
none-told n no_replies = refl

-- one reply
pub one-counted : (before now : ℕ) (reply : ApiReply) → (reply ≡ api_error storefault reply.point → Rose before now) → before ≤ now
    → (n : ℕ) → StoreFaults (reply ∷ []) n → risen before n ≤ now
one-counted before now reply fault rises n (one_fault {n = m} is more) = let none : m ≡ 0 = none-told m more in let rose = fault is in omega (arith, none, rose)
one-counted before now reply fault rises n (passed_over more) = let none : n ≡ 0 = none-told n more in omega (arith, none, rises)

pub none-counted : (before now : ℕ) → before ≤ now → (n : ℕ) → StoreFaults [] n → risen before n ≤ now
none-counted before now rises n all = let none : n ≡ 0 = none-told n all in omega (arith, none, rises)

-- one more, of the store itself
pub one-more-counted : (before mid now n : ℕ) → risen before n ≤ mid → Rose mid now → risen before (n + 1) ≤ now
one-more-counted before mid now n first rose = omega (arith, first, rose)

pub no-more-counted : (before mid now n : ℕ) → risen before n ≤ mid → mid ≤ now → risen before (n + 0) ≤ now
no-more-counted before mid now n first rises = omega (arith, first, rises)

-- ---- where no fault was counted

-- no reply tells of one
pub none-of-them : (before : ℕ) (replies : List ApiReply) → before + 1 < 2 ^ 64 → ((n : ℕ) → StoreFaults replies n → risen before n ≤ before)
    → AllByRecursion (λ reply. reply ≢ api_error storefault reply.point) replies
none-of-them before [] room counted = tt
none-of-them before (reply ∷ replies) room counted = (
  λ is. let one = counted 1 (one_fault is (zero-told replies)) in absurd (omega (arith, room, one)),
  none-of-them before replies room (λ n all. counted n (passed_over all)),
)
  where
    zero-told : (rs : List ApiReply) → StoreFaults rs 0
    zero-told [] = no_replies
    zero-told (r ∷ rs) = passed_over (zero-told rs)

-- with no want of memory there is no failure at all
pub no-failures : (replies : List ApiReply) → AllByRecursion (λ reply. reply ≢ api_error nomemory reply.point) replies
    → AllByRecursion (λ reply. reply ≢ api_error storefault reply.point) replies → AllByRecursion HasNoFailure replies
no-failures [] memory store = tt
no-failures (reply ∷ replies) memory store = (record { memory = memory.0; store = store.0 }, no-failures replies memory.1 store.1)
