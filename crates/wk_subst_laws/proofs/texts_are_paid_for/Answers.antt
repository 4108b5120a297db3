use Rattle.std.proofs.Common.{arith}
use Rattle.wk_subst_laws.proofs.RoundLemmas.{items-end}
use Rattle.wk_subst_laws.proofs.texts_are_paid_for.Goals as goal

pub returns-clause-paid : goal.returns-clause-paid
returns-clause-paid c = λ a left place items progress before x seen within end. (items-end a left place items progress before x seen within end).1.short

pub returns-clause-within : goal.returns-clause-within
returns-clause-within c = λ a left place items progress before x seen within end.
    let there = items-end a left place items progress before x seen within end in
    record { nodes = there.0.nodes; include = there.0.include }

pub returns-clause-most : goal.returns-clause-most
returns-clause-most c = λ a left place items progress before x seen within end.
    let there = items-end a left place items progress before x seen within end in
    omega (arith, there.1.short, there.0.nodes, there.0.include)
