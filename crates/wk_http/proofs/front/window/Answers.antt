use Rattle.std.proofs.Common.{sym, arith, length-take}
use Rattle.std.proofs.lemmas.List.{take_all}
use Rattle.wk_wire_rules.specs.Messages.{most_head}
use Rattle.wk_http.proofs.front.window.Goals as goal

pub slice_bounds-result-end : goal.slice_bounds-result-end
slice_bounds-result-end c = omega (arith, length-take most_head c.args.bytes.now)

pub returns-else-bytes-gt-MOST_HEAD : goal.returns-else-bytes-gt-MOST_HEAD
returns-else-bytes-gt-MOST_HEAD c = sym (take_all most_head c.args.bytes.now (omega arith))
