-- The table is held against the definition at each of the 256 bytes, by computing.
use Rattle.std.proofs.Common.{not, refl, nat_lt, slice_index_or}
use Rattle.std.proofs.lemmas.Bool.{agree_below_at}
use Rattle.wk_lex.specs.declared.atoms.TheConstants.{FIRST_BYTES}
use Rattle.wk_lex.specs.FirstBytes.{ends_line}
use Rattle.wk_lex.proofs.atoms.is_in_line.Goals as goal

pub returns-clause-value : goal.returns-clause-value
returns-clause-value c = agree_below_at (λ b. nat_lt (slice_index_or FIRST_BYTES b 0) 50) (λ b. not (ends_line b)) 256 c.args.byte refl c.ranges.byte.fits
