use Rattle.std.proofs.Common.{Some, length, string_bytes, sym, ap, ◌∙◌}
use Rattle.std.specs.List.{list_any}
use Rattle.wk_out.proofs.ListedLaws.{listed-sealed}
use Rattle.wk_out.proofs.PlainLaws.{plain_text-none, plain_text-some}
use Rattle.wk_out.proofs.output.Out.plain_text.Goals as goal

pub returns-then-is_any_sealed : goal.returns-then-is_any_sealed
returns-then-is_any_sealed c =
    plain_text-none _ _ _ c.self.invariant c.self.view_is
    (listed-sealed (length (string_bytes c.self.inside.text)) c.self.inside.runs.items ∙ ap (list_any (λ run. run.sealed)) (sym c.deref.ensures.value) ∙ sym c.if-is_any_sealed.ensures)

pub returns-else-is_any_sealed : goal.returns-else-is_any_sealed
returns-else-is_any_sealed c =
    ap Some c.deref-else-is_any_sealed.ensures
    ∙ plain_text-some _ _ _ c.self.invariant c.self.view_is
    (listed-sealed (length (string_bytes c.self.inside.text)) c.self.inside.runs.items ∙ ap (list_any (λ run. run.sealed)) (sym c.deref.ensures.value) ∙ sym c.if-is_any_sealed.ensures)
