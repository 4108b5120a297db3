use Rattle.std.proofs.Common.{◌++◌, ℕ, length, encode_utf8, string_bytes, arith, length-append, ap, sym, ◌∙◌}
use Rattle.std.specs.Str.Iter.{chars_rest}
use Rattle.wk_text_rules.specs.Titles.{with_spaces}
use Rattle.wk_title.proofs.SpacesLemmas.{length-with_space, with_spaces_step}
use Rattle.wk_title.proofs.spaces.push_with_spaces.Goals as goal

pub unwrap-requires : goal.unwrap-requires
unwrap-requires c =
    let same = ap (λ ch. length (encode_utf8 ch)) c.with_space.ensures ∙ length-with_space c.in-Some.c in
    c.push.ensures.succeeds (omega (arith, same, ap length c.in-Some.ensures.steps.0, length-append {A = ℕ}))

pub loop-c-preserved : goal.loop-c-preserved
loop-c-preserved c =
    let same = ap (λ ch. length (encode_utf8 ch)) c.with_space.ensures ∙ length-with_space c.in-Some.c in
    let bytes = rw c.unwrap.ensures at c.push.ensures.bytes in
    let len = rw c.unwrap.ensures at c.push.ensures.len in (
      tt,
      tt,
      omega (arith, same, len, c.push.ensures.capacity, ap length c.in-Some.ensures.steps.0, length-append {A = ℕ}),
      ap (λ l. l ++ with_spaces (chars_rest c.next.new.self)) (bytes ∙ ap (λ ch. string_bytes c.loop-c.into ++ encode_utf8 ch) c.with_space.ensures)
          ∙ with_spaces_step (string_bytes c.loop-c.into) c.in-Some.c (chars_rest c.next.new.self)
          ∙ ap (λ l. string_bytes c.loop-c.into ++ with_spaces l) (sym c.in-Some.ensures.steps.0)
          ∙ c.loop-c.invariant.3,
    )
