use Rattle.std.proofs.Common.{rules, ap, ◌∙◌, sym, subst, List, ℕ, [], ◌∷◌, ◌++◌, Some}
use mathlib.Core.List.{IsPrefix}
use Rattle.atomic_table.specs.Table.{rest}
use Rattle.wk_turn.specs.declared.board.Stage.TheVariants.{Idle}
use Rattle.wk_turn.specs.Journal.{added, ClosesOwn, AreOwn}
use Rattle.wk_turn.proofs.Steps.{marks, hands_on}
use Rattle.wk_turn.proofs.line.give_turn.Goals as goal

pub fetch_max-requires : goal.fetch_max-requires
fetch_max-requires g c =
    let put = c.exchange-nothing.ensures.3 in let turn = c.requires.turn in let state = c.requires.state in
    let before = g.S.Storied.journal c.args.before.now.value in let after = g.S.Storied.journal c.args.state in (
      search rules,
      search rules,
      marks g.S.Storied.start g.S.Storied.journal g.S.Storied.closes _ _ _ _ turn.0.0 before c.args.state _ (ap (λ m. m.0.stage) put ∙ turn.0.1) (ap (λ m. m.1) put ∙ ap (λ cs. (0, Some c.args.state) ∷ rest cs) turn.1) state.1
          (subst (ClosesOwn g.S.Storied.closes before after) (sym (ap (λ m. m.0.own) put)) c.requires.closes) state.2,
    )

pub fetch_add-served-requires : goal.fetch_add-served-requires
fetch_add-served-requires g c =
    let put = c.exchange-nothing.ensures.3 in let turn = c.requires.turn in
    let carried = ap (λ m. m.1) put ∙ ap (λ cs. (0, Some c.args.state) ∷ rest cs) turn.1 in
    let did = (c.fetch_max.ensures.2 _ _ _ (ap (λ m. m.0.stage) put ∙ turn.0.1) carried).0 in (
      search rules,
      search rules,
      hands_on g.S.Storied.start g.S.Storied.journal g.S.Storied.closes _ _ _ _ turn.0.0 c.args.state (ap (λ m. m.0.stage) did) (ap (λ m. m.1) did ∙ carried) (ap (λ m. m.0.start) did ∙ (ap (λ m. m.0.start) put ∙ c.requires.state.0)) (ap (λ m. m.0.seen) did),
    )

pub returns-clause-idle : goal.returns-clause-idle
returns-clause-idle g c =
    let put = c.exchange-nothing.ensures.3 in let turn = c.requires.turn in let after = g.S.Storied.journal c.args.state in
    let did = (c.fetch_max.ensures.2 _ _ _ (ap (λ m. m.0.stage) put ∙ turn.0.1) (ap (λ m. m.1) put ∙ ap (λ cs. (0, Some c.args.state) ∷ rest cs) turn.1)).0 in
    c.call.ensures.2 ∙ (c.fetch_add-served.ensures.2 ∙ (ap (λ m. (record m.0 { stage = Idle }, [])) did
    ∙ ap (λ m. (record m.0 { seen = after; own = m.0.own ++ added (g.S.Storied.journal c.args.before.now.value) after; own_one = []; own_two = []; stage = Idle }, [])) put))

pub returns-clause-own : goal.returns-clause-own
returns-clause-own g c =
    let put = c.exchange-nothing.ensures.3 in let turn = c.requires.turn in let after = g.S.Storied.journal c.args.state in
    let own = (c.fetch_max.ensures.2 _ _ _ (ap (λ m. m.0.stage) put ∙ turn.0.1) (ap (λ m. m.1) put ∙ ap (λ cs. (0, Some c.args.state) ∷ rest cs) turn.1)).2 in
    subst (λ (places : List ℕ). AreOwn g.S.Storied.closes after (places ++ added (g.S.Storied.journal c.args.before.now.value) after)) (ap (λ m. m.0.own) put) own

pub returns-clause-seen : goal.returns-clause-seen
returns-clause-seen g c =
    let put = c.exchange-nothing.ensures.3 in let turn = c.requires.turn in let after = g.S.Storied.journal c.args.state in
    let seen = (c.fetch_max.ensures.2 _ _ _ (ap (λ m. m.0.stage) put ∙ turn.0.1) (ap (λ m. m.1) put ∙ ap (λ cs. (0, Some c.args.state) ∷ rest cs) turn.1)).1 in
    subst (λ (l : List g.row.S-Entry.Denot). IsPrefix l after) (ap (λ m. m.0.seen) put) seen
