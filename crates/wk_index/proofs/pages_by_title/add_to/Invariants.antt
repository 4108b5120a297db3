use Rattle.std.proofs.Common.{Bor, map}
use Rattle.wk_index.specs.Named.{Kept}
use Rattle.wk_index.specs.declared.pages_by_title.TitlePages.{TitlePages}
use Rattle.wk_index.proofs.GatheredLaws.{AddsKnown}
use Rattle.wk_index.proofs.pages_by_title.add_to.Given as goal

abbrev pub invariant-loop-known : goal.invariant-loop-known
invariant-loop-known l = AddsKnown (map (λ (k : Bor TitlePages). k.now) l.yielded) l.named × Kept l.initial.named l.named
