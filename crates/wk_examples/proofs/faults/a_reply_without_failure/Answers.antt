use Rattle.std.proofs.Common.{◌≡◌, ℕ, List, [], ap, codes}
use Rattle.serde_json.specs.Data.{Data, null, boolean, number, string, array, object, no_members, member}
use Rattle.wk_answer_rules.specs.Values.{ApiReply}
use Rattle.wk_script_rules.specs.Computing.{computing as scripts}
use Rattle.wk_examples.proofs.faults.a_reply_without_failure.Goals as goal

-- the first key of a reply
first_key_of : Data → List ℕ
first_key_of null = []
first_key_of (boolean b) = []
first_key_of (number n) = []
first_key_of (string s) = []
first_key_of (array items) = []
first_key_of (object no_members) = []
first_key_of (object (member key value later)) = key

-- that of a save isn't that of an error
pub returns : goal.returns
unfolding scripts first_key_of
returns c = (
  record {
    memory = λ e. absurd (let keys : codes "edit" ≡ codes "error" = ap (λ (r : ApiReply). first_key_of r.value) e in cc);
    store = λ e. absurd (let keys : codes "edit" ≡ codes "error" = ap (λ (r : ApiReply). first_key_of r.value) e in cc);
  },
  tt,
)
