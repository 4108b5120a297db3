use Rattle.std.proofs.Common.{◌≡◌, sym, ◌∙◌, rules}
use Rattle.std.specs.Char.{len_utf8}
use Rattle.std.specs.List.{sum_by}
use Rattle.wk_title.proofs.Keys.{length-encodes}
use Rattle.wk_title.proofs.legal.byte_length.Goals as goal

pub returns : goal.returns
returns c =
    let total : c.sum.result ≡ sum_by len_utf8 c.args.cs.now = search rules in
    total ∙ sym (length-encodes c.args.cs.now)
