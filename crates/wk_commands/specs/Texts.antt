-- The lines of counts (own).
use Rattle.std.specs.Prelude.{ℕ, List, [], ◌∷◌, ◌++◌, codes}
use Rattle.std.specs.Fmt.{decimal}

-- so many pages exist, and so many differ
abbrev pub check_counts : ℕ → ℕ → List ℕ
check_counts pages differ = codes "pages " ++ (decimal pages ++ (codes " differ " ++ (decimal differ ++ 10 ∷ [])))

-- so many pages exist, so many revisions were made, no job is left, and so many pages differ
abbrev pub gen_counts : ℕ → ℕ → ℕ → List ℕ
gen_counts pages revisions differ =
    codes "pages " ++ (decimal pages ++ (codes " revisions " ++ (decimal revisions ++ (codes " jobs 0 differ " ++ (decimal differ ++ 10 ∷ [])))))

-- the door listens at this address
abbrev pub listening_line : List ℕ → List ℕ
listening_line address = codes "listening on " ++ (address ++ 10 ∷ [])

-- so many connections were served
abbrev pub served_line : ℕ → List ℕ
served_line count = codes "served " ++ (decimal count ++ 10 ∷ [])

-- so many events were taken of a feed
abbrev pub replica_line : ℕ → List ℕ
replica_line events = codes "replica " ++ (decimal events ++ 10 ∷ [])

-- what `serve` prints at this address, where it serves so many connections
abbrev pub serve_text : List ℕ → ℕ → List ℕ
serve_text address count = listening_line address ++ served_line count
