use Rattle.std.proofs.Common.{◌++◌, string_bytes, encode_utf8, ap, sym, ◌∙◌}
use Rattle.std.specs.Str.Iter.{chars_rest}
use Rattle.wk_text_rules.specs.Titles.{with_spaces}
use Rattle.wk_title.proofs.SpacesLemmas.{with_spaces_step}
use Rattle.wk_good_rows.proofs.normal.push_with_spaces.Goals as goal

pub loop-c-preserved : goal.loop-c-preserved
loop-c-preserved c = (
  tt,
  tt,
  ap (λ l. l ++ with_spaces (chars_rest c.next.new.self)) (c.in_ok-push.ensures.bytes ∙ ap (λ ch. string_bytes c.loop-c.into ++ encode_utf8 ch) c.with_space.ensures)
      ∙ with_spaces_step (string_bytes c.loop-c.into) c.in-Some.c (chars_rest c.next.new.self)
      ∙ ap (λ l. string_bytes c.loop-c.into ++ with_spaces l) (sym c.in-Some.ensures.steps.0)
      ∙ c.loop-c.invariant.2,
)
