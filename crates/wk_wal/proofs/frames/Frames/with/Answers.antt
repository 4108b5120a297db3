use Rattle.std.proofs.Common.{sym, ◌∙◌}
use Rattle.sqlite_wal.proofs.FormatLemmas.{salts_differ}
use Rattle.wk_wal.proofs.frames.Frames.with.Goals as goal

-- a frame with other salts ends nothing
pub returns-then-ne : goal.returns-then-ne
returns-then-ne c = record {
  whole = λ ends. absurd (salts_differ _ _ (sym c.if-ne.true ∙ c.ne.ensures) ends.fits.salt);
}
