-- Titles in a set, and among others.
use Rattle.std.proofs.Common.{◌≡◌, ℕ, Bool, true, false, cond, ◌&&◌, ◌||◌, List, [], ◌∷◌, ◌++◌, refl, sym, ap, ◌∙◌}
use Rattle.std.specs.Prelude.{bytes_eq}
use Rattle.std.specs.List.{list_any}
use Rattle.std.specs.Cmp.Lexicographic.{slice_cmp}
use Rattle.std.specs.Ordering.{int_cmp, int_eq, is_eq, nat_cmp, ordering_then}
use Rattle.std.specs.declared.cmp.Ordering.{Ordering}
use Rattle.std.specs.declared.cmp.Ordering.TheVariants.{Less, Equal, Greater}
use Rattle.std.proofs.lemmas.Cmp.{int_eq_equiv}
use Rattle.std.proofs.lemmas.Map.Text.{is_eq-slice_cmp}
use Rattle.std.proofs.lemmas.Bool.Decides.{same_from_decides}
use Rattle.std.proofs.lemmas.Slice.Eq.{bytes_eq-Decides}
use Rattle.std.proofs.lemmas.List.Folds.{list_any-append}
use Rattle.wk_text_rules.specs.Titles.{PageTitle, title_cmp, title_eq}
use Rattle.wk_table_rules.specs.Rows.{PageColumns, JobColumns}
use Rattle.wk_table_rules.specs.GoodStore.{stands_already}
use Rattle.wk_good_rows.specs.Among.{is_among, IsTitlesOf, IsTitlesOfJobs}

bytes_eq_comm : (xs ys : List ℕ) → bytes_eq xs ys ≡ bytes_eq ys xs
bytes_eq_comm xs ys =
    same_from_decides {P = xs ≡ ys} _ _ (bytes_eq-Decides xs ys)
    (λ t. sym ((bytes_eq-Decides ys xs).0 t), λ e. (bytes_eq-Decides ys xs).1 (sym e))

pub title_eq_comm : (a b : PageTitle) → title_eq a b ≡ title_eq b a
title_eq_comm a b = rw (int_eq_equiv.symm a.ns b.ns, bytes_eq_comm a.key b.key) refl

then-eq : (a b : Ordering) → is_eq (ordering_then a b) ≡ (is_eq a && is_eq b)
then-eq Less b = refl
then-eq Equal b = refl
then-eq Greater b = refl

-- what the order says is what the test says
pub same-title : (a b : PageTitle) → is_eq (title_cmp a b) ≡ title_eq b a
same-title a b =
    then-eq (int_cmp a.ns b.ns) (slice_cmp nat_cmp a.key b.key)
    ∙ ap (λ t. int_eq a.ns b.ns && t) (is_eq-slice_cmp a.key b.key)
    ∙ title_eq_comm a b

-- the keys that a set has
pub contains-is : (keys : List PageTitle) (title : PageTitle) → list_any (λ key. is_eq (title_cmp title key)) keys ≡ is_among title keys
contains-is [] title = refl
contains-is (key ∷ keys) title = rw (same-title title key, contains-is keys title) refl

cond-or : (b c : Bool) → cond b true c ≡ (b || c)
cond-or true c = refl
cond-or false c = refl

-- a set with one more title
pub added-is : (old new : List PageTitle) (title : PageTitle)
    → ((q : PageTitle) → list_any (λ key. is_eq (title_cmp q key)) new ≡ cond (is_eq (title_cmp title q)) true (list_any (λ key. is_eq (title_cmp q key)) old))
    → (other : PageTitle) → is_among other new ≡ (title_eq title other || is_among other old)
added-is old new title updates other =
    sym (contains-is new other) ∙ updates other ∙ cond-or (is_eq (title_cmp title other)) (list_any (λ key. is_eq (title_cmp other key)) old)
    ∙ rw (same-title title other, title_eq_comm other title, contains-is old other) refl

or-comm : (a b : Bool) → (a || b) ≡ (b || (a || false))
or-comm true true = refl
or-comm true false = refl
or-comm false true = refl
or-comm false false = refl

-- one more page
pub IsTitlesOf-more : (old new : List PageTitle) (pages : List PageColumns) (page : PageColumns)
    → ((other : PageTitle) → is_among other new ≡ (title_eq page.page_title other || is_among other old)) → IsTitlesOf old pages → IsTitlesOf new (pages ++ page ∷ [])
IsTitlesOf-more old new pages page added are title =
    added title ∙ ap (λ b. title_eq page.page_title title || b) (are title)
    ∙ or-comm (title_eq page.page_title title) (list_any (λ p. title_eq p.page_title title) pages)
    ∙ sym (list_any-append (λ p. title_eq p.page_title title) pages (page ∷ []))

-- one more job of the kind
pub IsTitlesOfJobs-more : (old new : List PageTitle) (cmd : List ℕ) (jobs : List JobColumns) (job : JobColumns) → bytes_eq job.job_cmd cmd ≡ true
    → ((other : PageTitle) → is_among other new ≡ (title_eq job.job_title other || is_among other old)) → IsTitlesOfJobs old cmd jobs → IsTitlesOfJobs new cmd (jobs ++ job ∷ [])
IsTitlesOfJobs-more old new cmd jobs job kind added are title =
    added title ∙ ap (λ b. title_eq job.job_title title || b) (are title)
    ∙ or-comm (title_eq job.job_title title) (stands_already jobs cmd title)
    ∙ sym (list_any-append (λ row. bytes_eq row.job_cmd cmd && title_eq row.job_title title) jobs (job ∷ []) ∙ ap (λ b. stands_already jobs cmd title || (b && title_eq job.job_title title || false)) kind)

-- one more job of another kind
pub IsTitlesOfJobs-other : (titles : List PageTitle) (cmd : List ℕ) (jobs : List JobColumns) (job : JobColumns) → bytes_eq job.job_cmd cmd ≡ false
    → IsTitlesOfJobs titles cmd jobs → IsTitlesOfJobs titles cmd (jobs ++ job ∷ [])
IsTitlesOfJobs-other titles cmd jobs job other are title =
    are title
    ∙ sym (list_any-append (λ row. bytes_eq row.job_cmd cmd && title_eq row.job_title title) jobs (job ∷ [])
    ∙ ap (λ b. stands_already jobs cmd title || (b && title_eq job.job_title title || false)) other ∙ or-none (stands_already jobs cmd title))
  where
    or-none : (b : Bool) → (b || false) ≡ b
    or-none true = refl
    or-none false = refl
