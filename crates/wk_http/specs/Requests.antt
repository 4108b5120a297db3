-- The message that a request holds, and what a feed answers.
use Rattle.std.specs.Prelude.{◌≡◌, ℕ, List, string_bytes}
use Rattle.wk_wire_rules.specs.Heads.{Message}
use Rattle.wk_wire_rules.specs.Messages.{IsMessage, IsBad, IsOpen}
use Rattle.wk_http.specs.declared.request.HttpRequest.{HttpRequest}
use Rattle.wk_http.specs.declared.request.Next.{Next}
use Rattle.wk_http.specs.declared.request.Next.TheVariants.{Whole, More, Bad}

abbrev pub message_in : HttpRequest → Message
message_in request = record {
  method = request.method;
  path = string_bytes request.path;
  query = request.query.items;
  body = request.body.items;
  multipart = request.multipart;
  last = request.last;
}

-- The answer at bytes, of which these are left: the whole message at their front, after which the rest is left;
-- More exactly where they hold no whole message and no bad place; or the bad place at their front.
abbrev pub Gives : List ℕ → Next → List ℕ → Type 0
Gives bytes (Whole request) left = IsMessage bytes (message_in request) left
Gives bytes More left = IsOpen bytes × (left ≡ bytes)
Gives bytes (Bad status) left = IsBad bytes status × (left ≡ bytes)
