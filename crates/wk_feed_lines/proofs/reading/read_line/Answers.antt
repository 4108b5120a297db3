use Rattle.std.proofs.Common.{◌≡◌, Bool, cond, ℕ, List, Option, Some, None, Result, Ok, Err, option_map, sym, ap, ◌∙◌, subst}
use Rattle.std.specs.Prelude.{IfOk, IfSome, IsUtf8}
use Rattle.serde_json.specs.View.{view}
use Rattle.serde_json.specs.declared.value.Value.{Value}
use Rattle.wk_feed_rules.specs.Lines.{FeedLine as SaidLine}
use Rattle.wk_feed_rules.specs.Reading.{said}
use Rattle.wk_feed_lines.specs.Said.{line_of}
use Rattle.wk_feed_lines.specs.declared.line.FeedLine.{FeedLine}
use Rattle.wk_feed_lines.proofs.Written.{none-said, said-is, says}
use Rattle.wk_feed_lines.proofs.reading.read_line.Goals as goal

-- what is told is what is said by UTF-8
told : {E : Type 0} (bytes : List ℕ) (value : Option SaidLine) (r : Result (Option FeedLine) E) → (IsUtf8 bytes → value ≡ said bytes)
    → IfOk r (λ line. option_map line_of line ≡ value) → IfOk r (λ line. IsUtf8 bytes → option_map line_of line ≡ said bytes)
told bytes value (Ok line) same is = λ utf8. is ∙ same utf8
told bytes value (Err e) same is = tt

all-text : {E : Type 0} (bytes : List ℕ) (r : Result (Option FeedLine) E) → IsUtf8 bytes → IfOk r (λ line. IfSome line (λ _. IsUtf8 bytes))
all-text bytes (Ok None) utf8 = tt
all-text bytes (Ok (Some line)) utf8 = utf8
all-text bytes (Err e) utf8 = tt

pub returns-in_default-clause-said : goal.returns-in_default-clause-said
returns-in_default-clause-said c =
    λ utf8. none-said c.args.bytes.now (sym (ap (option_map view) c.in_default.is) ∙ c.in_ok-value.ensures.read utf8)

pub returns-then-not-branch-clause-said : goal.returns-then-not-branch-clause-said
returns-then-not-branch-clause-said c =
    let d = view c.in-Some.value in
    λ utf8. sym (ap (λ (b : Bool). cond b (says d) None) c.if-not-branch.true)
    ∙ said-is c.args.bytes.now d c.in_ok-is_compact.field-0 (sym (ap (option_map view) c.in-Some.is) ∙ c.in_ok-value.ensures.read utf8) c.in_ok-is_compact.ensures

pub returns-clause-said : goal.returns-clause-said
returns-clause-said c =
    let d = view c.in-Some.value in
    told c.args.bytes.now (says d) c.value_says.result
    (λ utf8. sym (ap (λ (b : Bool). cond b (says d) None) c.if-not-branch.false)
    ∙ said-is c.args.bytes.now d c.in_ok-is_compact.field-0 (sym (ap (option_map view) c.in-Some.is) ∙ c.in_ok-value.ensures.read utf8) c.in_ok-is_compact.ensures)
    c.value_says.ensures

pub returns-clause-text : goal.returns-clause-text
returns-clause-text c =
    all-text c.args.bytes.now c.value_says.result (subst (λ (o : Option Value). IfSome o (λ _. IsUtf8 c.args.bytes.now)) c.in-Some.is c.in_ok-value.ensures.text)
