use Rattle.std.proofs.Common.{◌≡◌, List, [], ◌∷◌, map, Option, Some, Result, Ok, Err, option_and_then, option_map, refl, sym, ap, ◌∙◌}
use Rattle.std.specs.Prelude.{IfOk}
use Rattle.serde_json.specs.Data.{Data, Items}
use Rattle.serde_json.specs.Find.{as_array}
use Rattle.serde_json.specs.View.{items_of, items_view, view}
use Rattle.serde_json.specs.declared.value.Value.{Value}
use Rattle.wk_feed_rules.specs.Reading.{list_of, values_say}
use Rattle.wk_feed_lines.specs.Said.{line_of}
use Rattle.wk_feed_lines.specs.declared.line.FeedLine.{FeedLine}
use Rattle.wk_feed_lines.proofs.reading.value_says.Goals as goal

listed : (ds : List Data) → list_of (items_of ds) ≡ ds
listed [] = refl
listed (d ∷ ds) = ap (λ l. d ∷ l) (listed ds)

-- what the values of an array say
said : {E : Type 0} (values slice : List Value) (d : Data) (told : Result (Option FeedLine) E) → slice ≡ values → Some (items_view values) ≡ as_array d
    → IfOk told (λ line. option_map line_of line ≡ values_say (map view slice))
    → IfOk told (λ line. option_map line_of line ≡ option_and_then (λ (items : Items). values_say (list_of items)) (as_array d))
said values slice d (Ok line) same found is =
    is ∙ (ap (λ (vs : List Value). values_say (map view vs)) same ∙ (ap values_say (sym (listed (map view values)))
    ∙ ap (λ (o : Option Items). option_and_then (λ (items : Items). values_say (list_of items)) o) found))
said values slice d (Err e) same found is = tt

pub returns-in-Some : goal.returns-in-Some
returns-in-Some c =
    said c.in-Some.values.now.items c.deref.result.now (view c.args.value.now) c.values_say.result c.deref.ensures.value c.in-Some.ensures c.values_say.ensures
