-- What a connection in memory tells (own).
use Rattle.wk_base.specs.Forms.{BytesLeft, BytesTaken}

-- the bytes that come from the peer, and those that go to it
pub record BothWays : Type 0 where
  pub source : BytesLeft
  pub sink : BytesTaken
