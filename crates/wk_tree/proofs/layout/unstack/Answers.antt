use Rattle.std.proofs.Common.{◌≡◌, ◌+◌, ◌++◌, take, drop, reverse, ap, subst, sym, ◌∙◌, arith}
use Rattle.wk_tree.proofs.StackLemmas.{IsUnstacked, unstacked-none, unstacked-more, unstacked-no-more, unstacked-long, range-there}
use Rattle.wk_tree.proofs.layout.unstack.Goals as goal
use Rattle.wk_tree.proofs.layout.unstack.Goals.{in-Some+in_ok-push, in_default}

pub loop-one-init : goal.loop-one-init
loop-one-init g c = unstacked-none c.args.list.now.items c.args.stack.now.items

pub loop-one-preserved : goal.loop-one-preserved
loop-one-preserved g c = elim c.match-pop.branch [
  | in-Some+in_ok-push w ↦
      subst (λ l. IsUnstacked (c.loop-one._one + 1) c.args.list.now.items c.args.stack.now.items l c.pop.new.self.items) (sym w.in_ok-push.ensures.items ∙ ap (λ v. v.items) (sym w.list-is))
      (unstacked-more c.loop-one._one c.args.list.now.items c.args.stack.now.items c.loop-one.list.items c.loop-one.stack.items c.pop.new.self.items w.in-Some.one c.loop-one.invariant w.in-Some.ensures.items)
  | in_default w ↦
      subst (λ v. IsUnstacked (c.loop-one._one + 1) c.args.list.now.items c.args.stack.now.items v.items c.pop.new.self.items) (sym w.list-is)
      (unstacked-no-more c.loop-one._one c.args.list.now.items c.args.stack.now.items c.loop-one.list.items c.loop-one.stack.items c.pop.new.self.items c.loop-one.invariant w.in_default.ensures.items (sym c.loop-one.stack.ok.0 ∙ w.in_default.ensures.cases.0))
]

pub overflow_sub-len : goal.overflow_sub-len
overflow_sub-len g c =
    omega (arith, unstacked-long c.loop-one._one c.args.list.now.items c.args.stack.now.items c.loop-one.list.items c.loop-one.stack.items c.loop-one.invariant, c.len-start.ensures, c.len.ensures, c.args.list.now.ok.0, c.loop-one.list.ok.0)

pub returns-clause-range : goal.returns-clause-range
returns-clause-range g c = λ all begins.
    let done : c.loop-one._one ≡ c.args.count = omega (arith, c.loop-one-test.false, c.loop-one.auto._one-end) in
    range-there c.args.list.now.items (take c.loop-one._one (reverse c.args.stack.now.items)) c.loop-one.list.items all c.in_ok-start.start c.in_ok-len.len
    c.loop-one.invariant.gained
    (c.in_ok-start.ensures ∙ c.len-start.ensures ∙ c.args.list.now.ok.0)
    (c.in_ok-len.ensures ∙ omega (arith, c.len.ensures, c.len-start.ensures, c.loop-one.list.ok.0, c.args.list.now.ok.0))
    begins
    ∙ ap (λ n. take n (reverse c.args.stack.now.items)) done

pub returns-clause-list : goal.returns-clause-list
returns-clause-list g c =
    let done : c.loop-one._one ≡ c.args.count = omega (arith, c.loop-one-test.false, c.loop-one.auto._one-end) in
    c.loop-one.invariant.gained ∙ ap (λ n. c.args.list.now.items ++ take n (reverse c.args.stack.now.items)) done

pub returns-clause-stack : goal.returns-clause-stack
returns-clause-stack g c =
    let done : c.loop-one._one ≡ c.args.count = omega (arith, c.loop-one-test.false, c.loop-one.auto._one-end) in
    c.loop-one.invariant.kept ∙ ap (λ n. drop n (reverse c.args.stack.now.items)) done
