-- What stands in a row of a query, as a row of a table.
use Rattle.std.proofs.Common.{◌≡◌, ◌<◌, ◌-◌, ◌^◌, ℕ, pos, nat_lt, List, [], ◌∷◌, map, Bool, true, false, int_eq, refl, sym, ap, subst, ◌∙◌, arith}
use Rattle.std.specs.List.{AllByRecursion}
use Rattle.std.specs.List.Sorted.{IsPermutation}
use Rattle.std.proofs.lemmas.List.Sorted.{IsPermutation-map}
use Rattle.std.proofs.lemmas.Bool.Decides.{nat_tests}
use Rattle.sqlite_value.specs.declared.value.Value.{Value}
use Rattle.wk_table_rules.specs.Rows.{PageColumns, RevisionColumns, LinkColumns, CategoryColumns, RedirectColumns, JobColumns}
use Rattle.wk_sqltables.specs.Entries.{stored_moment, stored_flag, revision_values}
use Rattle.wk_sqlkeeper.specs.Stored.{IsPage, IsRevision, IsLink, IsMember, IsRedirect, IsJob}
use Rattle.wk_sqlkeeper.specs.Reading.{StandAs}
use Rattle.wk_sqlkeeper.specs.Decoded.{nat_in, whole_in, words_in, of_moment, flag_in, page_in, revision_in, link_in, member_in, redirect_in, job_in}

of_stored : (n : ℕ) → n < 2 ^ 64 → of_moment (stored_moment n) ≡ n
of_stored n low = go (nat_lt n (2 ^ 63)) refl
  where
    back : nat_lt n (2 ^ 63) ≡ false → 2 ^ 64 - 1 - (2 ^ 64 - 1 - n) ≡ n
    back high = grind (arith, nat_tests)

    go : (b : Bool) → nat_lt n (2 ^ 63) ≡ b → of_moment (stored_moment n) ≡ n
    go true is = rw is refl
    go false is = rw is (back is)

of_flag : (b : Bool) → int_eq (stored_flag b) (pos 1) ≡ b
of_flag true = refl
of_flag false = refl

pub page_is : (v : List Value) (p : PageColumns) → IsPage v p → p ≡ page_in v
page_is v p h =
    let id = sym (ap nat_in h.id) in
    let ns = sym (ap whole_in h.namespace) in
    let key = sym (ap words_in h.title) in
    let latest = sym (ap nat_in h.latest) in
    let len = sym (ap nat_in h.len) in
    λ i. record { page_id = id i; page_title = record { ns = ns i; key = key i }; page_latest = latest i; page_len = len i }

pub revision_is : (v : List Value) (r : RevisionColumns) → IsRevision v r → r ≡ revision_in v
revision_is v r h =
    let id = sym (ap nat_in h.id) in
    let page = sym (ap nat_in h.page) in
    let parent = sym (ap nat_in h.parent) in
    let timestamp = sym (ap (λ w. of_moment (whole_in w)) h.timestamp ∙ of_stored r.rev_timestamp h.fits) in
    let len = sym (ap nat_in h.len) in
    let gone = sym (ap flag_in h.gone ∙ of_flag r.rev_gone) in
    let text = sym (ap words_in h.text) in
    λ i. record { rev_id = id i; rev_page = page i; rev_parent_id = parent i; rev_timestamp = timestamp i; rev_len = len i; rev_gone = gone i; rev_text = text i }

pub link_is : (v : List Value) (l : LinkColumns) → IsLink v l → l ≡ link_in v
link_is v l h =
    let from = sym (ap nat_in h.from) in
    let from_namespace = sym (ap whole_in h.from_namespace) in
    let ns = sym (ap whole_in h.namespace) in
    let key = sym (ap words_in h.title) in
    λ i. record { from = from i; from_namespace = from_namespace i; target = record { ns = ns i; key = key i } }

pub member_is : (v : List Value) (m : CategoryColumns) → IsMember v m → m ≡ member_in v
member_is v m h =
    let from = sym (ap nat_in h.from) in
    let to = sym (ap words_in h.to) in
    let sortkey = sym (ap words_in h.sortkey) in
    let prefix = sym (ap words_in h.prefix) in
    λ i. record { cl_from = from i; cl_to = to i; cl_sortkey = sortkey i; cl_sortkey_prefix = prefix i }

pub redirect_is : (v : List Value) (r : RedirectColumns) → IsRedirect v r → r ≡ redirect_in v
redirect_is v r h =
    let from = sym (ap nat_in h.from) in
    let ns = sym (ap whole_in h.namespace) in
    let key = sym (ap words_in h.title) in
    λ i. record { rd_from = from i; rd_title = record { ns = ns i; key = key i } }

pub job_is : (v : List Value) (j : JobColumns) → IsJob v j → j ≡ job_in v
job_is v j h =
    let id = sym (ap nat_in h.id) in
    let cmd = sym (ap words_in h.cmd) in
    let ns = sym (ap whole_in h.namespace) in
    let key = sym (ap words_in h.title) in
    let params = sym (ap words_in h.params) in
    λ i. record { job_id = id i; job_cmd = cmd i; job_title = record { ns = ns i; key = key i }; job_params = params i }

-- ---- lists

module _ {X : Type 0} (stands : List Value → X → Type 0) (back : List Value → X) (is : (v : List Value) (x : X) → stands v x → x ≡ back v) where
  all_back : (vs : List (List Value)) (xs : List X) → StandAs stands vs xs → xs ≡ map back vs
  all_back [] [] h = refl
  all_back [] (x ∷ xs) h = absurd h
  all_back (v ∷ vs) [] h = absurd h
  all_back (v ∷ vs) (x ∷ xs) h = let one = is v x h.0 in let more = all_back vs xs h.1 in λ i. one i ∷ more i

  module _ (values : X → List Value) (fits : X → Type 0) (again : (x : X) → fits x → back (values x) ≡ x) where
    back_again : (xs : List X) → AllByRecursion fits xs → map back (map values xs) ≡ xs
    back_again [] all = refl
    back_again (x ∷ xs) all = let one = again x all.0 in let more = back_again xs all.1 in λ i. one i ∷ more i

    -- what was read of rows that hold these is these
    pub same_read : (xs read : List X) (vs : List (List Value)) → AllByRecursion fits xs → vs ≡ map values xs → StandAs stands vs read → read ≡ xs
    same_read xs read vs all are h = all_back vs read h ∙ ap (map back) are ∙ back_again xs all

    -- or in another order
    pub moved_read : (xs read : List X) (vs : List (List Value)) → AllByRecursion fits xs → IsPermutation (map values xs) vs → StandAs stands vs read → IsPermutation xs read
    moved_read xs read vs all are h =
        let moved = IsPermutation-map back (map values xs) vs are in
        subst (IsPermutation xs) (sym (all_back vs read h)) (subst (λ l. IsPermutation l (map back vs)) (back_again xs all) moved)

pub all_fit : {X : Type 0} (xs : List X) → AllByRecursion (λ x. Unit {0}) xs
all_fit [] = tt
all_fit (x ∷ xs) = (tt, all_fit xs)

pub revision_again : (r : RevisionColumns) → r.rev_timestamp < 2 ^ 64 → revision_in (revision_values r) ≡ r
revision_again r low =
    let timestamp = of_stored r.rev_timestamp low in
    let gone = of_flag r.rev_gone in
    λ i. record r { rev_timestamp = timestamp i; rev_gone = gone i }
