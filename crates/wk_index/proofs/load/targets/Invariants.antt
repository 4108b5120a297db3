use Rattle.std.proofs.Common.{◌≡◌, map, take}
use Rattle.wk_index.specs.Places.{AreTitled, GathersTitles, Grows}
use Rattle.wk_index.proofs.load.targets.Given as goal

abbrev pub invariant-loop-row : goal.invariant-loop-row
invariant-loop-row l =
    (l.titles.items ≡ map (λ row. row.target) (take l.row-index l.rows)) × GathersTitles l.titles.items l.page l.gathered × Grows l.initial.gathered l.gathered × AreTitled l.gathered
