use Rattle.std.proofs.Common.{◌≡◌, ℕ, true, take}
use Rattle.wk_index.specs.Named.{Kept, has, is_in}
use Rattle.wk_index.proofs.named.add_each.Given as goal

abbrev pub invariant-loop-page : goal.invariant-loop-page
invariant-loop-page l =
    ((page : ℕ) → is_in page (take l.page-index l.pages) ≡ true → has l.named l.title page ≡ true) × Kept l.initial.named l.named
