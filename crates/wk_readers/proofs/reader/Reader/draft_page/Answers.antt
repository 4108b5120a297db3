use Rattle.std.proofs.Common.{List, None, subst, sym}
use Rattle.wk_shared.specs.Looks.{IsPresentRead}
use Rattle.wk_cache.specs.declared.kept.Kept.{Kept}
use Rattle.wk_readers.specs.Reads.{KeepsOrAdds, fresh_entry}
use Rattle.wk_readers.proofs.reader.Reader.draft_page.Goals as goal

pub returns-in-Ok-clause-read : goal.returns-in-Ok-clause-read
returns-in-Ok-clause-read g c = record {
  right = subst (λ p. IsPresentRead c.args.shared.now p c.args.title.now None c.in-Ok.read) (sym c.keep.ensures.pass) c.in-Ok.ensures.read;
  left = subst (λ (l : List Kept). KeepsOrAdds l c.keep.new.self.entries (fresh_entry c.in-Ok.read)) c.in-Ok.ensures.kept c.keep.ensures.kept;
}
