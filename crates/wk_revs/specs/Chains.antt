-- Which of a page's revisions is the newest with at most some number, by the page of each revision in turn (own).
use Rattle.std.specs.Prelude.{◌≡◌, ℕ, zero, suc, ◌+◌, ◌-◌, ◌<◌, ◌≤◌, ◌==◌, List, length, get_or, min, Option, None, Some, if◌then◌else◌}
use Rattle.wk_revs.specs.declared.chains.Link.{Link}

-- the greatest number, at most this one, of a revision of the page, 0 where there is none
abbrev pub last_up_to : List ℕ → ℕ → ℕ → ℕ
last_up_to pages page zero = 0
last_up_to pages page (suc n) =
    let earlier = last_up_to pages page n in if get_or pages n 0 == page then suc n else earlier

-- the same of all revisions where the number is greater than theirs
abbrev pub newest_up_to : List ℕ → ℕ → ℕ → ℕ
newest_up_to pages page number = last_up_to pages page (min number (length pages))

-- a number, or none for 0
abbrev pub number_or_none : ℕ → Option ℕ
number_or_none number = if number == 0 then None else Some number

-- 0, or the number of a revision of the page
pub record IsOwn (pages : List ℕ) (page : ℕ) (number : ℕ) : Type 0 where
  pub within : number ≤ length pages
  pub own : 0 < number → get_or pages (number - 1) 0 ≡ page

-- no link
abbrev pub no_link : Link
no_link = record { before = 0; far = 0; depth = 0 }

-- the link of the revision behind so many revisions: the one before it of its page, and one further back
pub record IsLinked (pages : List ℕ) (count : ℕ) (link : Link) : Type 0 where
  pub before : link.before ≡ last_up_to pages (get_or pages count 0) count
  pub far_within : link.far ≤ count
  pub far_own : IsOwn pages (get_or pages count 0) link.far

-- Each revision is of a page, with a number above 0, and has its link; and each page has its newest revision.
pub record AreChains (pages : List ℕ) (links : List Link) (newest : List ℕ) : Type 0 where
  pub lengths : length links ≡ length pages
  pub real : (k : ℕ) → k < length pages → 0 < get_or pages k 0
  pub linked : (k : ℕ) → k < length pages → IsLinked pages k (get_or links k no_link)
  pub ends : (q : ℕ) → get_or newest q 0 ≡ last_up_to pages (q + 1) (length pages)

-- a revision of the page from which the newest up to a number is found: it isn't below that
pub record IsAbove (pages : List ℕ) (page : ℕ) (number : ℕ) (at : ℕ) : Type 0 where
  pub own : IsOwn pages page at
  pub above : newest_up_to pages page number ≤ at

-- what the chains stand for: the page of each revision, how many pages there are, and for how many revisions more
-- there is room
pub record Chained : Type 0 where
  pub pages : List ℕ
  pub count : ℕ
  pub spare : ℕ
