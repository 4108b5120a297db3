-- Events as they are taken of a wiki, with what their lines tell (own).
use Rattle.wk_wiki_rules.specs.Events.{Event, Save, Claim, Done, Back, Fan}
use Rattle.wk_feeder.specs.declared.events.FeedEvent.{FeedEvent}
use Rattle.wk_feeder.specs.declared.events.FeedEvent.TheVariants as taken

abbrev pub event_of : FeedEvent → Event
event_of (taken.Save title text moment) = Save title text moment
event_of taken.Claim = Claim
event_of (taken.Done ticket) = Done ticket
event_of (taken.Back ticket) = Back ticket
event_of taken.Fan = Fan
