-- Arrays of values, as replies have them.
use Rattle.std.proofs.Common.{◌≡◌, List, [], ◌∷◌, map, Vec, Global, refl, ap, ◌∙◌}
use Rattle.serde_json.specs.Data.{Data, array, item}
use Rattle.serde_json.specs.View.{view, items_of as items_seen}
use Rattle.serde_json.specs.declared.value.Value.{Value, Array}
use Rattle.serde_json.proofs.Views.{view-Array}
use Rattle.wk_answer_rules.specs.Values.{array_of, items_of}

items_are_seen : (values : List Data) → items_seen values ≡ items_of values
items_are_seen [] = refl
items_are_seen (value ∷ values) = ap (item value) (items_are_seen values)

pub array_view : (values : Vec Value Global) → view (Array values) ≡ array_of (map view values.items)
array_view values = view-Array values ∙ ap array (items_are_seen (map view values.items))
