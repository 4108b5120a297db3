use Rattle.std.proofs.Common.{◌++◌, encode_utf8, string_bytes, ap, sym, ◌∙◌}
use Rattle.std.specs.Str.Iter.{chars_rest}
use Rattle.wk_text_rules.specs.Titles.{with_spaces}
use Rattle.wk_title.proofs.SpacesLemmas.{with_spaces_step}
use Rattle.wk_expand.proofs.words.spaced.Goals as goal

pub loop-c-preserved : goal.loop-c-preserved
loop-c-preserved c = (
  tt,
  tt,
  ap (λ l. l ++ with_spaces (chars_rest c.next.new.self)) (c.in_ok-push.ensures.bytes ∙ ap (λ ch. string_bytes c.loop-c.text ++ encode_utf8 ch) c.with_space.ensures)
      ∙ with_spaces_step (string_bytes c.loop-c.text) c.in-Some.c (chars_rest c.next.new.self)
      ∙ ap (λ l. string_bytes c.loop-c.text ++ with_spaces l) (sym c.in-Some.ensures.steps.0)
      ∙ c.loop-c.invariant.2,
)
