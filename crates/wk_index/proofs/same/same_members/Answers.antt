use Rattle.std.proofs.Common.{map, ap}
use Rattle.std.proofs.lemmas.Slice.Eq.{slice_eq-Decides}
use Rattle.wk_table_rows.specs.Members.{member_of}
use Rattle.wk_index.proofs.SameLaws.{Decides-triple, same-triples}
use Rattle.wk_index.proofs.same.same_members.Goals as goal

pub returns : goal.returns
returns c =
    let decides = slice_eq-Decides Decides-triple c.args.a.now c.args.b.now c.eq.result c.eq.ensures in
    (λ is. ap (map member_of) (decides.0 is), λ same. decides.1 (same-triples c.args.a.now c.args.b.now same))
