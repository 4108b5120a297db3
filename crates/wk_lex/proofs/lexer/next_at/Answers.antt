use Rattle.std.proofs.Common.{◌+◌, ◌<◌, length, refl, subst, sym, arith}
use Rattle.wk_lex.specs.Ahead.{AreBytes, IsLongest, IsNextAt}
use Rattle.wk_tree_rules.specs.declared.AtomKind.TheVariants.{Bar, Equals, Byte}
use Rattle.wk_lex.proofs.FirstLemmas.{bar-by_mark, equals-by_mark}
use Rattle.wk_lex.proofs.LexerLemmas.{byte-anywhere, mark-next, next-bytes}
use Rattle.wk_lex.proofs.lexer.next_at.Goals as goal

pub returns-then-is_text-clause-next : goal.returns-then-is_text-clause-next
returns-then-is_text-clause-next c =
    let here = byte-anywhere c.args.mode c.tags.inside.text.now c.args.at (subst (λ t. c.args.at < length t) (sym c.tags.view_is) c.requires) c.if-is_text.ensures.plain c.if-is_text.ensures.space c.if-is_text.ensures.tab in
    next-bytes c.args.mode c.args.tags.now c.args.at Byte c.behind_text.result refl
    (subst (λ t. AreBytes c.args.mode t c.args.at c.behind_text.result) c.tags.view_is (c.behind_text.ensures.bytes c.args.mode here))
    (subst (λ t. IsLongest t c.args.at c.behind_text.result) c.tags.view_is c.behind_text.ensures.longest)

pub returns-in-123-clause-next : goal.returns-in-123-clause-next
returns-in-123-clause-next c =
    subst (λ t. IsNextAt c.args.mode t c.args.at c.opening_at.result) c.tags.view_is
    (mark-next c.args.mode c.tags.inside.text.now 123 c.args.at c.opening_at.result (λ e. absurd (omega (arith, e))) (λ e. absurd (omega (arith, e))) (λ e. absurd (omega (arith, e))) refl
    (subst (λ t. c.args.at < length t) (sym c.tags.view_is) c.requires) c.in-123.is (c.opening_at.ensures c.args.mode))

pub returns-in-91-clause-next : goal.returns-in-91-clause-next
returns-in-91-clause-next c =
    subst (λ t. IsNextAt c.args.mode t c.args.at c.opening_at-in-91.result) c.tags.view_is
    (mark-next c.args.mode c.tags.inside.text.now 91 c.args.at c.opening_at-in-91.result (λ e. absurd (omega (arith, e))) (λ e. absurd (omega (arith, e))) (λ e. absurd (omega (arith, e))) refl
    (subst (λ t. c.args.at < length t) (sym c.tags.view_is) c.requires) c.in-91.is (c.opening_at-in-91.ensures c.args.mode))

pub returns-in-125-clause-next : goal.returns-in-125-clause-next
returns-in-125-clause-next c =
    subst (λ t. IsNextAt c.args.mode t c.args.at c.closing_at.result) c.tags.view_is
    (mark-next c.args.mode c.tags.inside.text.now 125 c.args.at c.closing_at.result (λ e. absurd (omega (arith, e))) (λ e. absurd (omega (arith, e))) (λ e. absurd (omega (arith, e))) refl
    (subst (λ t. c.args.at < length t) (sym c.tags.view_is) c.requires) c.in-125.is (c.closing_at.ensures c.args.mode))

pub returns-in-93-clause-next : goal.returns-in-93-clause-next
returns-in-93-clause-next c =
    subst (λ t. IsNextAt c.args.mode t c.args.at c.closing_at-in-93.result) c.tags.view_is
    (mark-next c.args.mode c.tags.inside.text.now 93 c.args.at c.closing_at-in-93.result (λ e. absurd (omega (arith, e))) (λ e. absurd (omega (arith, e))) (λ e. absurd (omega (arith, e))) refl
    (subst (λ t. c.args.at < length t) (sym c.tags.view_is) c.requires) c.in-93.is (c.closing_at-in-93.ensures c.args.mode))

pub returns-in-124-clause-next : goal.returns-in-124-clause-next
returns-in-124-clause-next c =
    let within = subst (λ t. c.args.at < length t) (sym c.tags.view_is) c.requires in
    subst (λ t. IsNextAt c.args.mode t c.args.at (Bar, c.args.at + 1)) c.tags.view_is
    (mark-next c.args.mode c.tags.inside.text.now 124 c.args.at (Bar, c.args.at + 1) (λ e. absurd (omega (arith, e))) (λ e. absurd (omega (arith, e))) (λ e. absurd (omega (arith, e))) refl
    within c.in-124.is (λ line. bar-by_mark c.tags.inside.text.now c.args.at within c.args.mode line c.in-124.is))

pub returns-in-61-clause-next : goal.returns-in-61-clause-next
returns-in-61-clause-next c =
    let within = subst (λ t. c.args.at < length t) (sym c.tags.view_is) c.requires in
    subst (λ t. IsNextAt c.args.mode t c.args.at (Equals, c.args.at + 1)) c.tags.view_is
    (mark-next c.args.mode c.tags.inside.text.now 61 c.args.at (Equals, c.args.at + 1) (λ e. absurd (omega (arith, e))) (λ e. absurd (omega (arith, e))) (λ e. absurd (omega (arith, e))) refl
    within c.in-61.is (λ line. equals-by_mark c.tags.inside.text.now c.args.at within c.args.mode line c.in-61.is))
