use Rattle.std.proofs.Common.{◌≡◌, ◌+◌, None}
use Rattle.wk_core.specs.Steps.{GoesOn}
use Rattle.wk_tool_rules.specs.Generator.{generated}
use Rattle.wk_tools.specs.Generating.{IsGenerating, pages_left}
use Rattle.wk_tools.proofs.generator.generate.Given as goal

abbrev pub invariant-pages : goal.invariant-pages
invariant-pages g l =
    IsGenerating l.fn.wiki l.wiki (generated l.pages l.number) (pages_left l.pages (l.done + 1) l.seed) (g.C.Clock.left l.fn.clock) (g.C.Clock.left l.clock)
    × (l.wiki.start.sealed ≡ None)
    × GoesOn g.K.Keeper.told g.K.Keeper.faults l.fn.wiki l.wiki
    × (g.K.Keeper.faults l.wiki.keeper ≡ g.K.Keeper.faults l.fn.wiki.keeper)
