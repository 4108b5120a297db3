use Rattle.std.proofs.Common.{length, ap, arith}
use Rattle.wk_links.proofs.NewlineLemmas.{length-without_newlines}
use Rattle.wk_links.proofs.what.label_prefix.Goals as goal

pub new-requires : goal.new-requires
new-requires c =
    omega (arith, ap length c.as_str.ensures.value, ap length c.in_ok-text.ensures, length-without_newlines c.args.label.now, c.requires)
