use Rattle.wk_commands.specs.Fed.{with_feed, with_lines}
use Rattle.wk_commands.proofs.serves.serve_links.Goals as goal

-- with its feed
pub returns-then-asked : goal.returns-then-asked
returns-then-asked g c =
    let then = c.serve_feeding.ensures in record {
      served = with_feed c.if-asked.true then.served;
      links = then.links;
      wiki = then.wiki;
      never_falls = then.never_falls;
      no_write_fault = then.no_write_fault;
      write_fault = then.write_fault;
      door_never_falls = then.door_never_falls;
    }

-- with its lines
pub returns-else-asked : goal.returns-else-asked
returns-else-asked g c =
    let then = c.serve_plain.ensures in record {
      served = with_lines c.if-asked.false then.served;
      links = then.links;
      wiki = then.wiki;
      never_falls = then.never_falls;
      no_write_fault = then.no_write_fault;
      write_fault = then.write_fault;
      door_never_falls = then.door_never_falls;
    }
