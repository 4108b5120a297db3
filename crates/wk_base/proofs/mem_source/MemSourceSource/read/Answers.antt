-- The bytes that are left are those behind the place, which went on by the bytes that were copied.
use Rattle.std.proofs.Common.{◌≡◌, ◌+◌, drop, sym, ap, ◌∙◌, drop-drop}
use Rattle.wk_base.proofs.ReadFront.{consumes_front}
use Rattle.wk_base.proofs.mem_source.MemSourceSource.read.Goals as goal

pub returns-clause-bytes : goal.returns-clause-bytes
returns-clause-bytes c =
    let inside = c.self.inside in
    let copy = c.copy_front-n in
    let n = copy.result in
    let later : drop (inside.at + n) inside.bytes.items ≡ drop n c.args.self.now.rest =
    sym (drop-drop n inside.at inside.bytes.items) ∙ ap (λ s. drop n s.rest) c.self.view_is in
    consumes_front _ _ _ _ n (rw c.rest.ensures at copy.ensures.count) (rw c.rest.ensures at copy.ensures.copied) copy.auto.to later
