use Rattle.std.proofs.Common.{◌∙◌, subst}
use Rattle.wk_lex.specs.Ahead.{IsNextAtom}
use Rattle.wk_tree.proofs.AtomLemmas.{matched-begins, matched-more, matched-ends}
use Rattle.wk_tree.proofs.matching.matched.Goals as goal

pub loop-atom-init : goal.loop-atom-init
loop-atom-init c = record {
  text = c.requires.whole;
  matched =
      matched-begins c.args.atoms.atoms (record { tokens = c.in_ok-with_capacity.field-0; bars = c.new.result; openers = c.new-2.result })
      c.in_ok-with_capacity.ensures.items c.new.ensures.items c.new-2.ensures.items;
}

pub loop-atom-preserved : goal.loop-atom-preserved
loop-atom-preserved c = record {
  text = c.in-Some.ensures.text ∙ c.loop-atom.invariant.text;
  matched =
      matched-more c.args.text.now c.args.atoms.atoms c.loop-atom.ahead.atoms c.next.new.self.atoms c.in-Some.atom c.loop-atom.matching c.step.new.matching
      (subst (λ t. IsNextAtom t c.loop-atom.ahead.atoms c.next.new.self.atoms c.in-Some.atom) c.loop-atom.invariant.text c.in-Some.ensures.atom)
      c.loop-atom.invariant.matched c.in_ok-step.ensures;
}

pub returns : goal.returns
returns c = matched-ends c.args.atoms.atoms c.loop-atom.ahead.atoms c.loop-atom.matching c.in_default.ensures.atom c.loop-atom.invariant.matched c.plain_bars.ensures.tokens
