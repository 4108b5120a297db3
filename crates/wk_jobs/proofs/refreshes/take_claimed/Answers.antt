use Rattle.std.proofs.Common.{◌≡◌, ℕ, Bool, eqb, [], ◌∷◌, map, Some, ap, sym, ◌∙◌}
use Rattle.std.specs.Prelude.{position, is_some}
use Rattle.std.proofs.lemmas.List.Quantifiers.{position-Some}
use Rattle.wk_jobs.specs.Entries.{claimed_entry}
use Rattle.wk_jobs.specs.declared.refreshes.ClaimedJob.{ClaimedJob}
use Rattle.wk_jobs.proofs.Entries.{taken-out}
use Rattle.wk_jobs.proofs.Places.{position-there}
use Rattle.wk_jobs.proofs.refreshes.take_claimed.Goals as goal

abbrev is_of : ℕ → ClaimedJob → Bool
is_of page job = eqb job.page page

pub unwrap-place-requires : goal.unwrap-place-requires
unwrap-place-requires c =
    ap is_some (c.place_of_page.ensures ∙ ap (position (is_of c.args.page)) c.deref.ensures.value)
    ∙ position-there (is_of c.args.page) c.args.claimed.now.items ∙ c.requires.there

pub returns-clause-others : goal.returns-clause-others
returns-clause-others c =
    let found : position (is_of c.args.page) c.args.claimed.now.items ≡ Some c.unwrap-place.result =
    ap (position (is_of c.args.page)) (sym c.deref.ensures.value) ∙ sym c.place_of_page.ensures ∙ c.unwrap-place.ensures in
    let at = position-Some (is_of c.args.page) c.args.claimed.now.items c.unwrap-place.result c.remove.result found in
    ap (map claimed_entry) c.remove.ensures.items
    ∙ (taken-out c.args.page c.args.claimed.now.items c.unwrap-place.result c.remove.result at.0 at.1 at.2 c.requires.one).0

pub returns-clause-own : goal.returns-clause-own
returns-clause-own c =
    let found : position (is_of c.args.page) c.args.claimed.now.items ≡ Some c.unwrap-place.result =
    ap (position (is_of c.args.page)) (sym c.deref.ensures.value) ∙ sym c.place_of_page.ensures ∙ c.unwrap-place.ensures in
    let at = position-Some (is_of c.args.page) c.args.claimed.now.items c.unwrap-place.result c.remove.result found in
    (taken-out c.args.page c.args.claimed.now.items c.unwrap-place.result c.remove.result at.0 at.1 at.2 c.requires.one).1
    ∙ ap (λ job. claimed_entry job ∷ []) (sym c.remove.ensures.value)
