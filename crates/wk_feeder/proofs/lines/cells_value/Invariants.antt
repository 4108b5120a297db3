use Rattle.std.proofs.Common.{◌≡◌, map, take}
use Rattle.serde_json.specs.View.{view}
use Rattle.wk_feeder.specs.Cells.{data_of}
use Rattle.wk_feeder.proofs.lines.cells_value.Given as goal

abbrev pub invariant-loop-cell : goal.invariant-loop-cell
invariant-loop-cell l = map view l.values.items ≡ map data_of (take l.cell-index l.cells)
