use Rattle.std.proofs.Common.{[], refl, sym, ◌∙◌}
use Rattle.wk_http.specs.Requests.{message_in}
use Rattle.wk_shared.specs.Calls.{seen_by}
use Rattle.wk_session_rules.specs.Replies.{answered, bare, refused, status_of, told}
use Rattle.wk_session.proofs.Passing.{goes-nowhere}
use Rattle.wk_session.proofs.Replying.{bare-carried}
use Rattle.wk_session.proofs.replies.answer_message.Goals as goal

pub returns-then-status-ne200 : goal.returns-then-status-ne200
returns-then-status-ne200 g c = record {
  free = c.requires.free;
  made = [];
  goes = goes-nowhere (seen_by c.args.shared.now.start c.args.worker.now.reader.pass);
  moments = [];
  given = refl;
  reply = bare (status_of (message_in c.args.message.now));
  replied = refused (λ is. c.if-status-ne200.true (c.status_of-status.ensures ∙ is));
  carried = bare-carried c.bare.result c.status_of-status.result (status_of (message_in c.args.message.now)) c.status_of-status.ensures c.bare.ensures;
}

pub returns : goal.returns
returns g c =
    let asked = c.answer_asked-told.ensures in
    record {
      free = asked.on.free;
      made = asked.on.made;
      goes = asked.on.goes;
      moments = asked.moments;
      given = asked.given;
      reply = told asked.on.reply;
      replied = answered (sym c.status_of-status.ensures ∙ c.if-status-ne200.false) asked.on.answered;
      carried = c.told.ensures asked.on.reply asked.on.value asked.on.point;
    }
