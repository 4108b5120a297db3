-- Each refresh job is queued or claimed.
use Rattle.std.proofs.Common.{◌≡◌, ℕ, ◌+◌, Bool, cond, List, [], ◌∷◌, length, Option, Some, None, refl, arith}
use Rattle.std.specs.Prelude.{count_by}
use Rattle.std.proofs.lemmas.List.Sums.{sum_by-cons}
use Rattle.wk_wiki_rules.specs.Jobs.{RefreshEntry, is_claimed, is_queued}

count-more : (p : RefreshEntry → Bool) (job : RefreshEntry) (jobs : List RefreshEntry) → count_by p (job ∷ jobs) ≡ cond (p job) 1 0 + count_by p jobs
count-more p job jobs = sum_by-cons (λ j. cond (p j) 1 0) job jobs

one : (number page : ℕ) (ticket : Option ℕ) → cond (is_queued (record { number = number; page = page; ticket = ticket })) 1 0 + cond (is_claimed (record { number = number; page = page; ticket = ticket })) 1 0 ≡ 1
one number page None = refl
one number page (Some ticket) = refl

pub queued_or_claimed : (jobs : List RefreshEntry) → count_by is_queued jobs + count_by is_claimed jobs ≡ length jobs
queued_or_claimed [] = refl
queued_or_claimed (job ∷ jobs) =
    let later = queued_or_claimed jobs in
    let queued = count-more is_queued job jobs in
    let claimed = count-more is_claimed job jobs in
    let of_job : cond (is_queued job) 1 0 + cond (is_claimed job) 1 0 ≡ 1 = one job.number job.page job.ticket in
    omega (arith, later, queued, claimed, of_job)
