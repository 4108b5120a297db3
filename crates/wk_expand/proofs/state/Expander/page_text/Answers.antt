use Rattle.std.proofs.Common.{◌/◌, [], refl, sym, subst, arith, length}
use Rattle.std.proofs.lemmas.Result.{IfOk-weaker}
use Rattle.wk_view_rules.specs.Expand.{included}
use Rattle.wk_view_rules.specs.Expansions.{charged, give}
use Rattle.wk_view_rules.specs.Texts.{node_error}
use Rattle.wk_expand.specs.Running.{ComesTo}
use Rattle.wk_expand.specs.Stack.{parts_at, text_at}
use Rattle.wk_frames.specs.Levels.{HasLists}
use Rattle.wk_frames.specs.Frames.{ShowsBindings}
use Rattle.wk_expand.specs.State.{current}
use Rattle.wk_frames.proofs.BindLaws.{has-none, shows-none}
use Rattle.wk_expand.proofs.LeadLaws.{here-later, leads-behind, leads-comes}
use Rattle.wk_expand.proofs.NodeLaws.{node-there}
use Rattle.wk_expand.proofs.PageLaws.{charged-as, included-is, run_text}
use Rattle.wk_expand.proofs.RunLaws.{comes-in, gives-then}
use Rattle.wk_expand.proofs.state.Expander.page_text.Goals as goal

pub returns-then-not-charge : goal.returns-then-not-charge
returns-then-not-charge c =
    λ seen p h.
    let s = c.args.self.now in
    let t = c.charge.new.self in
    let whole = included p.inner p.viewed p.frame c.args.title c.args.source c.args.text (parts_at p) in
    let rest = run_text p.inner p.viewed p.frame c.args.title c.args.source c.args.text (parts_at p) in
    leads-comes s c.args.node p h seen whole c.in_ok-node_error.field-0 t
    (gives-then seen whole (give node_error) s t node_error c.in_ok-node_error.field-0
    (comes-in seen whole (charged (length c.args.text / 64) rest) (give node_error) s t (included-is p.inner p.viewed p.frame c.args.title c.args.source c.args.text (parts_at p))
    (charged-as seen c.len.result (length c.args.text) rest (give node_error) s t c.len.ensures.value (c.if-not-charge.ensures.spent seen rest)))
    refl c.in_ok-node_error.ensures)

pub bind-requires-clause-there : goal.bind-requires-clause-there
bind-requires-clause-there c =
    node-there c.args.self.now c.charge.new.self c.args.node (c.if-not-charge.ensures.within [] (give [])).same c.requires

pub bind-requires-clause-lists : goal.bind-requires-clause-lists
bind-requires-clause-lists c =
    subst (HasLists (current c.charge.new.self)) (sym c.new.ensures) (has-none (current c.charge.new.self))

pub returns : goal.returns
returns c =
    let s = c.args.self.now in
    let t = c.charge.new.self in
    IfOk-weaker c.bind.result _ _ (λ next leads seen p h.
    let whole = included p.inner p.viewed p.frame c.args.title c.args.source c.args.text (parts_at p) in
    let rest = run_text p.inner p.viewed p.frame c.args.title c.args.source c.args.text (parts_at p) in
    let begun : ComesTo seen whole s rest t =
    comes-in seen whole (charged (length c.args.text / 64) rest) rest s t (included-is p.inner p.viewed p.frame c.args.title c.args.source c.args.text (parts_at p))
    (charged-as seen c.len.result (length c.args.text) rest rest s t c.len.ensures.value (c.if-not-charge.ensures.within seen rest))
    in
    leads-behind seen p whole rest s t next c.bind.new.self begun
    (leads seen p rest (here-later s c.args.node p h t begun.same)
    (record {
      bindings = [];
      bound = record {
        shows = subst (λ args. ShowsBindings (text_at p) args []) (sym c.new.ensures) (shows-none (text_at p));
        lists = subst (HasLists (text_at p)) (sym c.new.ensures) (has-none (text_at p));
        few = omega arith;
      };
      is = refl;
    }))) c.bind.ensures
