use Rattle.std.proofs.Common.{◌≡◌, ℕ, List, sym, ◌∙◌}
use Rattle.std.specs.Prelude.{Some}
use Rattle.std.proofs.lemmas.Result.{IfOk-weaker}
use Rattle.wk_text_rules.specs.Marked.{all_plain}
use Rattle.wk_text_rules.specs.Occurrences.{prefix_from}
use Rattle.wk_links.specs.Newlines.{without_newlines}
use Rattle.wk_links.proofs.LinkLemmas.{prefix_from-all_plain}
use Rattle.wk_links.proofs.what.prefix.Goals as goal

pub returns-in-Some : goal.returns-in-Some
returns-in-Some c =
    let label = c.in-Some.label.now in
    rw c.in-Some.is (IfOk-weaker c.label_prefix.result (λ (text : List ℕ). text ≡ without_newlines label) (λ (text : List ℕ). text ≡ prefix_from (Some (all_plain label))) (λ text e. e ∙ sym (prefix_from-all_plain label)) c.label_prefix.ensures)
