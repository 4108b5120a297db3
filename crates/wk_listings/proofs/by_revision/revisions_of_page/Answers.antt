use Rattle.std.proofs.Common.{◌≡◌, IfOk, codes, map, ap, ap₂, subst, ◌∙◌, List, ℕ}
use Rattle.serde_json.specs.View.{view}
use Rattle.wk_page_rules.specs.History.{Revision}
use Rattle.wk_answer_rules.specs.Lists.{revision_entries, revisions_listed}
use Rattle.wk_listings.specs.Replied.{value_at}
use Rattle.wk_listings.specs.Owners.{falling, numbered_at}
use Rattle.wk_listings.specs.declared.numbers.Owner.TheVariants.{OfPage}
use Rattle.wk_listings.proofs.by_revision.revisions_of_page.Goals as goal

pub returns : goal.returns
returns c =
    let h = c.args.revs.now.history in
    let found = ap (map (numbered_at h)) c.deref.ensures.value ∙ c.in_ok-numbers.ensures ∙ ap₂ (falling h (OfPage c.args.page)) c.end.ensures c.in_ok-most.ensures in
    subst (λ (rs : List (ℕ × Revision)). IfOk c.listed_revisions.result (λ v. view v ≡ value_at c.args.point (revisions_listed (codes "revisions") (revision_entries c.args.content) c.args.listing.now.limit rs))) found c.listed_revisions.ensures
