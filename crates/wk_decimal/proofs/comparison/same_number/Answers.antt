use Rattle.std.proofs.Common.{sym, ◌∙◌, ◌+◌}
use Rattle.std.proofs.lemmas.Bool.{false≢true}
use Rattle.wk_decimal.specs.Numeral.{digits_of}
use Rattle.wk_decimal.proofs.SignLemmas.{same_as_zero, other_than_zero, same_as_others, same_from_beq, other_from_beq}
use Rattle.wk_decimal.proofs.comparison.same_number.Goals as goal
use Rattle.wk_decimal.proofs.comparison.same_number.Goals.{then-is_zero-via-then-is_zero, then-is_zero-via-else-is_zero+then-is_zero-2}

pub returns-then-is_zero-3 : goal.returns-then-is_zero-3
returns-then-is_zero-3 c =
    let a = c.args.a.now in
    let b = c.args.b.now in
    let zero_a = sym c.is_zero-then-is_zero.ensures ∙ c.if-is_zero-3.true in
    c.is_zero-then-is_zero-3.ensures ∙ same_as_zero a.minus b.minus (digits_of a) (digits_of b) (a.up + b.down) (b.up + a.down) zero_a c.requires.b

pub returns-else-is_zero-3 : goal.returns-else-is_zero-3
returns-else-is_zero-3 c =
    let a = c.args.a.now in
    let b = c.args.b.now in
    let other_a = sym c.is_zero-then-is_zero.ensures ∙ c.if-is_zero-3.false in
    c.if-is_zero-3.false ∙ other_than_zero a.minus b.minus (digits_of a) (digits_of b) (a.up + b.down) (b.up + a.down) other_a c.requires.a (elim c.then-is_zero.branch [
      | then-is_zero-via-then-is_zero w ↦ absurd (false≢true (sym other_a ∙ sym c.is_zero.ensures ∙ w.if-is_zero.true))
      | then-is_zero-via-else-is_zero+then-is_zero-2 w ↦ sym w.is_zero-else-is_zero.ensures ∙ w.if-is_zero-2.true
    ])

pub returns-else-a-b : goal.returns-else-a-b
returns-else-a-b c =
    let a = c.args.a.now in
    let b = c.args.b.now in
    let other_a = sym c.is_zero.ensures ∙ c.if-is_zero.false in
    let other_b = sym c.is_zero-else-is_zero.ensures ∙ c.if-is_zero-2.false in
    same_as_others a.minus b.minus (digits_of a) (digits_of b) (a.up + b.down) (b.up + a.down) _ other_a other_b c.requires.a c.requires.b
    (λ t. absurd (false≢true (sym c.if-a-b.false ∙ t)))
    (λ both. absurd (other_from_beq a.minus b.minus c.if-a-b.false both.0))

pub returns-then-a-b : goal.returns-then-a-b
returns-then-a-b c =
    let a = c.args.a.now in
    let b = c.args.b.now in
    let other_a = sym c.is_zero.ensures ∙ c.if-is_zero.false in
    let other_b = sym c.is_zero-else-is_zero.ensures ∙ c.if-is_zero-2.false in
    same_as_others a.minus b.minus (digits_of a) (digits_of b) (a.up + b.down) (b.up + a.down) _ other_a other_b c.requires.a c.requires.b
    (λ t. (same_from_beq a.minus b.minus c.if-a-b.true, c.same_size.ensures.0 t))
    (λ both. c.same_size.ensures.1 both.1)
