-- What the answers and counts of the code stand for.
use Rattle.std.specs.Prelude.{ℕ, List, Option, option_map}
use Rattle.wk_text_rules.specs.Titles.{PageTitle}
use Rattle.wk_view_rules.specs.Expansions.{Counters}
use Rattle.wk_view_rules.specs.Worlds as rule
use Rattle.wk_view_rules.specs.declared.Kind.{Kind}
use Rattle.wk_expand.specs.declared.answer.Answer.{Answer}
use Rattle.wk_expand.specs.declared.answer.Answer.TheVariants.{Page, Exists}
use Rattle.wk_expand.specs.declared.answer.Counts.{Counts}

abbrev pub page_text : ℕ × List ℕ → rule.PageText
page_text p = record { revision = p.0; text = p.1 }

abbrev pub answer_of : Answer → rule.Answer
answer_of (Page p) = rule.page (option_map page_text p)
answer_of (Exists there) = rule.existence there

-- the text that an answer gives
abbrev pub text_in : rule.Answer → Option (List ℕ)
text_in answer = option_map (λ (p : rule.PageText). p.text) (rule.page_of answer)

abbrev pub read_with : PageTitle → Kind → rule.Answer → rule.Read
read_with title kind answer = record { title = title; kind = kind; answer = answer }

abbrev pub counters_of : Counts → Counters
counters_of counts = record {
  nodes = counts.nodes;
  include = counts.include;
  argument = counts.argument;
  exists = counts.exists;
}
