use Rattle.std.proofs.Common.{Some, refl, ap}
use Rattle.std.specs.Prelude.{string_bytes}
use Rattle.wk_sending.proofs.Sent.{body-shown}
use Rattle.wk_sending.proofs.replies.Answer.told.Goals as goal

pub returns : goal.returns
returns c = λ reply shows at. record {
  status = refl;
  body = body-shown string_bytes c.body_of.result c.args.value reply.value c.body_of.ensures shows;
  point = ap Some at;
}
