-- A least point that isn't reached is answered by its error, and makes no event.
use Rattle.std.proofs.Common.{◌≡◌, ℕ, true, length, Option, ap, subst}
use Rattle.std.specs.Prelude.{nat_lt}
use Rattle.serde_json.specs.Data.{Data}
use Rattle.wk_table_rules.specs.Rows.{StoreTables}
use Rattle.wk_page_rules.specs.Verdict.{MostHeld}
use Rattle.wk_core.specs.Seen.{WikiSeen}
use Rattle.wk_request_rules.specs.Requests.{Request}
use Rattle.wk_answer_rules.specs.ApiErrors.{api_error, futurepoint}
use Rattle.wk_answer_rules.specs.Answers.{answer_to_request}
use Rattle.wk_answer_rules.specs.Saves.{Answered}
use Rattle.wk_answer_laws.proofs.Orders.{early}
use Rattle.wk_saving.specs.Saved.{IsActed}
use Rattle.wk_saving.proofs.SaveAnswers.{told-acted}
use Rattle.wk_answer.proofs.ReadFacts.{early-told}

pub early-acted : {K : Type 0} (told : K → Option StoreTables) (faults : K → ℕ) (wiki : WikiSeen K) (most : MostHeld) (moment point : ℕ) (request : Request) (value : Data) → point ≡ length wiki.journal
    → nat_lt point request.least ≡ true → value ≡ (api_error (futurepoint point) point).value
    → IsActed told faults wiki wiki (answer_to_request most wiki.state (length wiki.journal) moment request) value
early-acted told faults wiki most moment point request value same is value_is =
    let later : nat_lt (length wiki.journal) request.least ≡ true = subst (λ p. nat_lt p request.least ≡ true) same is in
    told-acted told faults wiki (answer_to_request most wiki.state (length wiki.journal) moment request) value
    (ap (λ (answered : Answered). answered.event) (early most wiki.state (length wiki.journal) moment request later))
    (early-told most wiki.state (length wiki.journal) moment point request value same is value_is)
