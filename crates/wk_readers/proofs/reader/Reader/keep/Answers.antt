use Rattle.wk_cache.specs.declared.kept.Kept.{Kept}
use Rattle.std.proofs.Common.{List, subst}
use Rattle.wk_readers.specs.Reads.{KeepsOrAdds, fresh_entry}
use Rattle.wk_readers.proofs.ReaderLaws.{entries-kept, entry-fresh, entry_with, kept-adds, kept-right, right-inside}
use Rattle.wk_readers.proofs.reader.Reader.keep.Goals as goal

pub invariant_of-self : goal.invariant_of-self
invariant_of-self g c =
    let read = c.args.read.now in let put = c.put-refused in
    record {
      right = kept-right put.result c.self.inside.pass c.self.inside.cache put.new.self read (entry_with c.in-Ok.draft read) (entry-fresh c.in-Ok.draft read c.in-Ok.ensures) put.ensures.ok put.ensures.err c.self.invariant.right
          (right-inside c.self.inside.pass c.self.inside.cache c.args.self.now c.self.view_is read c.requires.right) c.requires.own_text;
      knows = c.self.invariant.knows;
    }

pub returns-clause-kept : goal.returns-clause-kept
returns-clause-kept g c =
    let read = c.args.read.now in let put = c.put-refused in
    subst (λ (l : List Kept). KeepsOrAdds l put.new.self.entries (fresh_entry read)) (entries-kept c.self.inside.pass c.self.inside.cache c.args.self.now c.self.view_is)
    (kept-adds put.result c.self.inside.pass c.self.inside.cache put.new.self read (entry_with c.in-Ok.draft read) (entry-fresh c.in-Ok.draft read c.in-Ok.ensures) put.ensures.ok put.ensures.err)
