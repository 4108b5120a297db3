-- The users of a title are the pages that are listed, and some page names a title where a first one is listed.
use Rattle.std.proofs.Common.{◌≡◌, ℕ, ◌+◌, ◌<◌, Bool, true, ltb, ◌&&◌, List, [], ◌∷◌, length, map, take, refl, inl, inr, arith}
use Rattle.std.specs.List.{enumerate_from, filter, list_any}
use Rattle.std.proofs.lemmas.Bool.{cases_Bool, lt-ltb}
use Rattle.wk_text_rules.specs.Titles.{PageTitle}
use Rattle.wk_page_rules.specs.PageRows.{PageRows, names}
use Rattle.wk_page_rules.specs.declared.Reach.{Reach}
use Rattle.wk_page_rules.specs.declared.Reach.TheVariants.{Text, Both}
use Rattle.wk_wiki_rules.specs.Users.{some_page_names, users}
use Rattle.wk_wiki_rules.specs.Links.{linking_pages}
use Rattle.wk_index.specs.declared.named.Kind.TheVariants.{Linked}
use Rattle.wk_index.specs.Named.{kind_of, listed}

pub users-listed : (stored : List PageRows) (title : PageTitle) (reach : Reach) (above most : ℕ) → users stored title reach above most ≡ listed (kind_of reach) stored title above most
unfolding users
users-listed stored title Text above most = refl
users-listed stored title Both above most = refl

pub linking-listed : (stored : List PageRows) (title : PageTitle) (above most : ℕ) → linking_pages stored title above most ≡ listed Linked stored title above most
unfolding linking_pages
linking-listed stored title above most = refl

module _ (test : PageRows → Bool) where
  any-from : (n : ℕ) (stored : List PageRows) → 0 < n
      → list_any test stored ≡ ltb 0 (length (take 1 (map (λ page. page.0) (filter (λ page. ltb 0 page.0 && test page.1) (enumerate_from n stored)))))
  any-from n [] positive = refl
  any-from n (rows ∷ stored) positive =
      let low : ltb 0 n ≡ true = lt-ltb 0 n positive in
      elim (cases_Bool (test rows)) [
        | inl passes ↦ rw (passes, low) refl
        | inr fails ↦ rw (fails, low) (any-from (n + 1) stored (omega arith))
      ]

-- some page names a title where a first one is listed
pub names-len : (stored : List PageRows) (title : PageTitle) (reach : Reach) → some_page_names stored title reach ≡ ltb 0 (length (users stored title reach 0 1))
unfolding users
names-len stored title reach = any-from (λ rows. names rows title reach) 1 stored (omega arith)
