use Rattle.std.proofs.Common.{◌++◌, ap, ◌∙◌}
use Rattle.wk_links.proofs.SeenLemmas.{seen-all_plain, seen-all_sealed}
use Rattle.wk_links.proofs.scan.push_seen.Goals as goal

pub returns-then-sealed : goal.returns-then-sealed
returns-then-sealed c =
    rw (c.if-sealed.true, seen-all_sealed c.args.text.now) c.push_newlines.ensures

pub returns-in_ok-extend_from_slice : goal.returns-in_ok-extend_from_slice
returns-in_ok-extend_from_slice c =
    rw (c.if-sealed.false, seen-all_plain c.args.text.now) (c.in_ok-extend_from_slice.ensures.items ∙ ap (λ xs. c.args.bytes.now.items ++ xs) c.as_bytes.ensures.value)
