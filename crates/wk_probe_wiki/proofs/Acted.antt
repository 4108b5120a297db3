-- Parameters that are refused make no event.
use Rattle.std.proofs.Common.{◌≡◌, ℕ, List, length, Option, Some, None, refl, sym, subst, Bor}
use Rattle.std.proofs.lemmas.Result.{IfOk-weaker}
use Rattle.std.specs.Prelude.{Result, IfOk}
use Rattle.serde_json.specs.Data.{Data}
use Rattle.serde_json.specs.View.{view}
use Rattle.serde_json.specs.declared.value.Value.{Value}
use Rattle.wk_memory.specs.declared.Memory.{Memory}
use Rattle.wk_table_rules.specs.Rows.{StoreTables}
use Rattle.wk_request_rules.specs.Requests.{ParsedRequest, valid, invalid}
use Rattle.wk_request.specs.Refusals.{Refuses}
use Rattle.wk_request.specs.declared.refusal.RequestRefusal.TheVariants.{Refused}
use Rattle.wk_answer_rules.specs.Answers.{answer_to_parsed}
use Rattle.wk_answer.specs.Declined.{IsDeclined}
use Rattle.wk_answer.specs.Saved.{IsActed, by_rule}
use Rattle.wk_core.specs.Seen.{WikiSeen}
use Rattle.wk_probe_wiki.specs.Refused.{IsRefusal}

-- parameters that are declined for a refusal are refused for it
pub declined_is_refusal : (number : ℕ) (parameter : Bor (List ℕ)) (point : ℕ) (result : Result Value Memory) → IsDeclined (Refused number parameter) point result
    → (parsed : ParsedRequest) → Refuses parsed (Refused number parameter) → IfOk result (λ v. IsRefusal parsed point (view v))
declined_is_refusal number parameter point result declined (valid request) refuses = absurd (let e : None ≡ Some (number, parameter.now) = refuses in cc)
declined_is_refusal number parameter point result declined (invalid cause) refuses =
    IfOk-weaker result _ _ (λ v is. record { cause = cause; refused = refl; told = is }) (declined cause (sym refuses))

-- the rules answer so, and nothing happened
pub refusal_is_acted : {K : Type 0} (told : K → Option StoreTables) (faults : K → ℕ) (w : WikiSeen K) (moment : ℕ) (parsed : ParsedRequest) (value : Data)
    → IsRefusal parsed (length w.journal) value
    → IsActed told faults w w (answer_to_parsed w.start.limits w.state (length w.journal) moment parsed) value
refusal_is_acted told faults w moment parsed value r =
    subst (λ (p : ParsedRequest). IsActed told faults w w (answer_to_parsed w.start.limits w.state (length w.journal) moment p) value) (sym r.refused)
    (by_rule r.told (record { wiki = refl; tables = refl }) refl)
