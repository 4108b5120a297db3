use Rattle.std.proofs.Common.{◌≡◌, ◌+◌, ◌∙◌, ap, arith, length}
use Rattle.std.proofs.lemmas.List.{length_push}
use Rattle.wk_bytes.proofs.LineLaws.{lines-push_behind, count-first, count-none}
use Rattle.wk_bytes.proofs.lines.cut_whole.Goals as goal

pub loop-part-preserved : goal.loop-part-preserved
loop-part-preserved c = record {
  lines = λ more.
      lines-push_behind _ _ _ _ _ _ _ more c.in-Some.ensures.found.1 c.in-Some.ensures.found.0 c.in_ok-whole_line.ensures c.in_ok-push_back.ensures.items
      ∙ c.loop-part.invariant.lines more;
  count =
      let long : length c.push_back.new.self.items ≡ length c.loop-part.whole.items + 1 =
      ap length c.in_ok-push_back.ensures.items ∙ length_push c.loop-part.whole.items c.in_ok-whole_line.field-0 in
      omega (arith, long, c.loop-part.invariant.count, count-first _ _ _ c.in-Some.ensures.found.1 c.in-Some.ensures.found.0);
}

pub returns-clause-count : goal.returns-clause-count
returns-clause-count c = omega (arith, c.loop-part.invariant.count, count-none c.loop-part.left.now c.in_default.ensures.none)
