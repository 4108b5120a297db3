use Rattle.std.proofs.Common.{refl, ap}
use Rattle.wk_view_rules.specs.Expansions.{Output}
use Rattle.wk_expand.specs.declared.stack.Listing.{Listing}
use Rattle.wk_expand.proofs.work.Work.passed.Goals as goal

pub returns : goal.returns
returns c =
    let w = c.args.self.now in
    let with : Output → Listing = λ out. record { list = w.listing.list; at = w.listing.at; out = out } in
    record { expander = refl; opened = refl; listing = ap with c.in_ok-append.ensures.ok }
