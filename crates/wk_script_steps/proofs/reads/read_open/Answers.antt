use Rattle.std.proofs.Common.{length}
use Rattle.wk_script_steps.proofs.Reading.{need-of}
use Rattle.wk_script_steps.proofs.ReadLines.{reads-nothing, reads-one}
use Rattle.wk_script_rules.specs.WikiScripts.{drafted}
use Rattle.wk_script_steps.proofs.reads.read_open.Goals as goal

pub returns-in-Ok-Done : goal.returns-in-Ok-Done
returns-in-Ok-Done g c =
    let wiki = c.args.wiki.now in
    let step = rw c.in-Ok-Done.field-0-is at c.in-Ok-Done.ensures.step in
    reads-nothing wiki.state (length wiki.journal) c.args.ticket.now c.args.ticket.now c.step.new.self c.no_read.result c.point.result c.in-Ok-Done._draft.expanded c.in-Ok-Done._draft.reads
    c.in-Ok-Done.ensures.same step.2 c.point.ensures c.no_read.ensures

pub returns-in-Ok-Needs : goal.returns-in-Ok-Needs
returns-in-Ok-Needs g c =
    let wiki = c.args.wiki.now in
    let step = rw c.in-Ok-Needs.field-0-is at c.in-Ok-Needs.ensures.step in
    let needs = need-of (drafted c.args.ticket.now) c.in-Ok-Needs.title c.in-Ok-Needs.kind step in
    reads-one wiki.state (length wiki.journal) c.args.ticket.now c.step.new.self c.read_needed.new.ticket c.read_needed.result c.in-Ok-Needs.title c.in-Ok-Needs.kind needs.0
    c.in-Ok-Needs.ensures.same needs.1 c.read_needed.ensures.ok c.read_needed.ensures.read c.read_needed.ensures.err
