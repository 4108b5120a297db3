use Rattle.wk_index.proofs.GatheredLaws.{KeptEntries-set}
use Rattle.wk_index.proofs.gathered.Gathered.into_found.Goals as goal

pub returns : goal.returns
returns c = record {
  included = c.in_ok-included.ensures;
  both = c.in_ok-mentioned.ensures.0;
  tested = c.in_ok-mentioned.ensures.1;
  linked = c.in_ok-linked.ensures;
  members = KeptEntries-set c.args.self.members.items c.in_ok-members.members.keys (λ q. c.in_ok-members.ensures.0 q);
}
