use Rattle.std.proofs.Common.{Err, refl, sym, ap, ◌∙◌}
use Rattle.std.proofs.KnownBytes.{Keeps-refl}
use Rattle.wk_tool_rules.specs.Generator.{generated}
use Rattle.wk_commands.specs.Generated.{refused, settled}
use Rattle.wk_commands.proofs.Generated.{agrees, count-on, refused-agrees, refused-on, settled-on, tells-on, whole-on}
use Rattle.wk_commands.proofs.Lives.{sound-on}
use Rattle.wk_commands.proofs.generates.generate_pages.Goals as goal

pub returns-in-Ok-clause-generated : goal.returns-in-Ok-clause-generated
returns-in-Ok-clause-generated g c = settled c.generate.new.wiki c.in-Ok.ensures.saved c.settle.ensures.settled

pub returns-in-Ok-clause-lived : goal.returns-in-Ok-clause-lived
returns-in-Ok-clause-lived g c =
    settled-on c.args.wiki c.requires.opened c.generate.new.wiki c.settle.result.0 (generated c.args.pages c.args.number) (g.C.Clock.left c.args.clock.now) (g.C.Clock.left c.generate.new.clock)
    c.in-Ok.ensures.saved c.settle.ensures.settled.lived

pub returns-in-Ok-clause-sound : goal.returns-in-Ok-clause-sound
returns-in-Ok-clause-sound g c =
    sound-on c.args.wiki c.requires.opened c.settle.result.0.state c.facts.ensures.run
    (settled-on c.args.wiki c.requires.opened c.generate.new.wiki c.settle.result.0 (generated c.args.pages c.args.number) (g.C.Clock.left c.args.clock.now) (g.C.Clock.left c.generate.new.clock)
    c.in-Ok.ensures.saved c.settle.ensures.settled.lived)

pub returns-in-Err-clause-generated : goal.returns-in-Err-clause-generated
returns-in-Err-clause-generated g c = refused c.in-Err.refusal c.in-Err.ensures.refused c.end_of_refusal.ensures (Keeps-refl (g.O.Sink.taken c.args.output.now)) (λ fault. c.in-Err.ensures.fault (ap Err fault))

pub returns-in-Err-clause-lived : goal.returns-in-Err-clause-lived
returns-in-Err-clause-lived g c =
    refused-on c.args.wiki c.requires.opened c.generate.new.wiki (generated c.args.pages c.args.number) (g.C.Clock.left c.args.clock.now) c.in-Err.refusal c.in-Err.ensures.refused

pub returns-in-Err-clause-sound : goal.returns-in-Err-clause-sound
returns-in-Err-clause-sound g c =
    sound-on c.args.wiki c.requires.opened c.generate.new.wiki.state c.facts.ensures.run
    (refused-on c.args.wiki c.requires.opened c.generate.new.wiki (generated c.args.pages c.args.number) (g.C.Clock.left c.args.clock.now) c.in-Err.refusal c.in-Err.ensures.refused)

pub returns-in-Ok-clause-agrees : goal.returns-in-Ok-clause-agrees
returns-in-Ok-clause-agrees g c = λ sound.
    let lived =
    settled-on c.args.wiki c.requires.opened c.generate.new.wiki c.settle.result.0 (generated c.args.pages c.args.number) (g.C.Clock.left c.args.clock.now) (g.C.Clock.left c.generate.new.clock)
    c.in-Ok.ensures.saved c.settle.ensures.settled.lived
    in
    agrees g.K.Keeper.is_whole g.K.Keeper.faults c.generate.new.wiki c.settle.result.0 (g.O.Sink.taken c.args.output.now) (g.O.Sink.taken c.settle.new.output) c.settle.result.1 c.settle.ensures.settled
    (sound-on c.args.wiki c.requires.opened c.settle.result.0.state c.facts.ensures.run lived sound)

pub returns-in-Err-clause-agrees : goal.returns-in-Err-clause-agrees
returns-in-Err-clause-agrees g c = λ sound. refused-agrees c.in-Err.refusal c.end_of_refusal.result c.end_of_refusal.ensures

pub returns-in-Ok-clause-tells : goal.returns-in-Ok-clause-tells
returns-in-Ok-clause-tells g c =
    tells-on g.K.Keeper.is_whole c.args.wiki c.generate.new.wiki c.settle.result.0 c.in-Ok.ensures.saved.made.start c.facts.ensures.whole c.facts-in-Ok.ensures.whole c.settle.ensures.settled.tells

pub returns-in-Ok-clause-stays_whole : goal.returns-in-Ok-clause-stays_whole
returns-in-Ok-clause-stays_whole g c =
    whole-on g.K.Keeper.is_whole c.args.wiki c.generate.new.wiki c.settle.result.0 c.in-Ok.ensures.saved.made.start c.facts.ensures.whole c.facts-in-Ok.ensures.whole c.settle.ensures.settled.stays_whole

pub returns-in-Err-clause-tells : goal.returns-in-Err-clause-tells
returns-in-Err-clause-tells g c =
    tells-on g.K.Keeper.is_whole c.args.wiki c.generate.new.wiki c.generate.new.wiki c.in-Err.ensures.refused.saved.made.start c.facts.ensures.whole c.facts-in-Err.ensures.whole refl

pub returns-in-Err-clause-stays_whole : goal.returns-in-Err-clause-stays_whole
returns-in-Err-clause-stays_whole g c =
    whole-on g.K.Keeper.is_whole c.args.wiki c.generate.new.wiki c.generate.new.wiki c.in-Err.ensures.refused.saved.made.start c.facts.ensures.whole c.facts-in-Err.ensures.whole refl

pub returns-in-Ok-clause-whole_count : goal.returns-in-Ok-clause-whole_count
returns-in-Ok-clause-whole_count g c =
    count-on g.K.Keeper.is_whole c.args.wiki c.generate.new.wiki c.settle.result.0 c.in-Ok.ensures.saved.made.start c.facts.ensures.whole c.facts-in-Ok.ensures.whole g.K.Keeper.faults c.in-Ok.ensures.keeper.whole
    c.settle.ensures.settled.whole_count

pub returns-in-Err-clause-whole_count : goal.returns-in-Err-clause-whole_count
returns-in-Err-clause-whole_count g c = λ is. c.in-Err.ensures.keeper.whole (sym c.facts.ensures.whole ∙ is)
