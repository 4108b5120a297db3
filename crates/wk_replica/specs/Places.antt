-- Where a row stands, as the rules have it.
use Rattle.wk_feed_rules.specs.Taking.{RowPlace}
use Rattle.wk_replica.specs.declared.places.Place.{Place}

abbrev pub place_shown : Place → RowPlace
place_shown place = record { table = place.table; number = place.number; title = record { ns = place.namespace; key = place.key.now } }
