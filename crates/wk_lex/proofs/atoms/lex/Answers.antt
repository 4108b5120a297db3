use Rattle.std.proofs.Common.{◌≡◌, ◌∙◌, [], ◌∷◌, ◌++◌, length, refl, sym, subst, arith}
use Rattle.std.proofs.Math.ListN.{drop_of_length-le}
use Rattle.wk_lex.specs.Spans.{IsAtomAt, IsRow}
use Rattle.wk_lex.proofs.AtomSteps.{AreFound, atom_from, found-none, found-more, found-all, found-runs, row-more, row-within}
use Rattle.wk_lex.proofs.atoms.lex.Goals as goal

pub loop-at-init : goal.loop-at-init
loop-at-init c = record {
  text = c.new-tags.ensures;
  within = omega arith;
  row = subst (IsRow 0 0) (sym c.in_ok-found.ensures.items) refl;
  atoms = subst (λ found. AreFound c.args.mode c.args.selected.now found 0) (sym c.in_ok-found.ensures.items) (found-none c.args.mode c.args.selected.now);
}

pub loop-at-preserved : goal.loop-at-preserved
loop-at-preserved c =
    let here : IsAtomAt c.args.mode c.args.selected.now c.loop-at.at c.atom_at-kind.result =
    subst (λ t. IsAtomAt c.args.mode t c.loop-at.at c.atom_at-kind.result) c.loop-at.invariant.text c.atom_at-kind.ensures.atom in
    let pushed : c.loop-at.found.items ++ atom_from c.atom_at-kind.result.0 c.loop-at.at c.atom_at-kind.result.1 ∷ [] ≡ c.push.new.self.items = sym c.in_ok-push.ensures.items in
    record {
      text = c.atom_at-kind.ensures.text ∙ c.loop-at.invariant.text;
      within = here.within.1;
      row = subst (IsRow 0 c.atom_at-kind.result.1) pushed (row-more 0 c.loop-at.at c.loop-at.found.items c.atom_at-kind.result.0 c.atom_at-kind.result.1 here.within.0 c.loop-at.invariant.row);
      atoms =
          subst (λ found. AreFound c.args.mode c.args.selected.now found c.atom_at-kind.result.1) pushed
          (found-more c.args.mode c.args.selected.now c.loop-at.found.items c.loop-at.at c.atom_at-kind.result here c.loop-at.invariant.atoms);
    }

pub returns-clause-atoms : goal.returns-clause-atoms
returns-clause-atoms c =
    found-all c.args.mode c.args.selected.now c.loop-at.found.items c.loop-at.at (drop_of_length-le c.args.selected.now c.loop-at-test.false) c.loop-at.invariant.atoms

pub returns-clause-within : goal.returns-clause-within
returns-clause-within c =
    let end : c.loop-at.at ≡ length c.args.selected.now = omega arith in
    row-within 0 (length c.args.selected.now) c.loop-at.found.items (subst (λ n. IsRow 0 n c.loop-at.found.items) end c.loop-at.invariant.row)

pub returns-clause-runs : goal.returns-clause-runs
returns-clause-runs c =
    found-runs c.args.mode c.args.selected.now c.loop-at.found.items
    (found-all c.args.mode c.args.selected.now c.loop-at.found.items c.loop-at.at (drop_of_length-le c.args.selected.now c.loop-at-test.false) c.loop-at.invariant.atoms)
