use Rattle.std.proofs.Common.{◌≡◌, IfOk, map, ap, ap₂, subst, ◌∙◌, List, ℕ, Option}
use Rattle.serde_json.specs.Data.{Data}
use Rattle.serde_json.specs.View.{view}
use Rattle.wk_answer_rules.specs.Values.{array_of, object_of, reply_beside}
use Rattle.wk_replies.specs.Listed.{listed_entries}
use Rattle.wk_listings.specs.Owners.{numbered_at}
use Rattle.wk_listings.specs.Shapes.{entries_in}
use Rattle.wk_listings.proofs.Listed.{revisions_are_listed}
use Rattle.wk_listings.proofs.entries.listed_revisions.Goals as goal

pub returns : goal.returns
returns c =
    let h = c.args.revs.now.history in
    let list = c.in_ok-list.ensures ∙ ap (λ (ns : List ℕ). array_of (map (λ n. object_of (entries_in h c.args.shape (numbered_at h n))) ns)) c.first.ensures in
    let told = ap₂ (λ (o : Option ℕ) (d : Data). (reply_beside (listed_entries c.args.name.now o d) c.args.point).value) c.last_number.ensures list in
    subst (λ (d : Data). IfOk c.listed.result (λ v. view v ≡ d)) (told ∙ revisions_are_listed c.args.name.now h c.args.shape c.args.limit c.args.numbers.now c.args.point) c.listed.ensures
