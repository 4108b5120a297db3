-- The messages of a session that were answered, one more, and how it ends.
use Rattle.std.proofs.Common.{◌≡◌, ◌≢◌, ℕ, ◌+◌, ◌<◌, ◌≤◌, true, false, List, [], ◌∷◌, ◌++◌, length, refl, sym, ap, ◌∙◌, subst, arith, append-nil, length-append, inl, inr}
use Rattle.std.proofs.KnownBytes.{Appends-nil, Appends-trans, Consumes-nil, Consumes-trans}
use Rattle.std.specs.Io.KnownBytes.{Appends, Consumes}
use Rattle.std.specs.Option.{option_to_list}
use Rattle.std.specs.Prelude.{◌^◌, Option, Result, Ok, Err}
use Rattle.wk_base.specs.Faults.{Rose}
use Rattle.wk_wire_rules.specs.Heads.{Message}
use Rattle.wk_wire_rules.specs.Messages.{Ending, IsOpen, Messages, bad, between, closed, ends_bad as stream_bad, ends_between, ends_closed as stream_closed, ends_within, within}
use Rattle.wk_wire_rules.specs.Responses.{response}
use Rattle.wk_wiki_rules.specs.Passes.{PassSeen}
use Rattle.wk_http.specs.declared.report.Refresh.{Refresh}
use Rattle.wk_http.specs.declared.report.SessionEnd.{SessionEnd}
use Rattle.wk_http.specs.declared.report.SessionEnd.TheVariants.{PeerEnd, Cut, Closed, Bad, ReadFault, WriteFault, Bound, Memory}
use Rattle.wk_messages.specs.Reading.{Gives, Reading, StopsAt, nothing_read}
use Rattle.wk_session_rules.specs.Points.{GoesOn}
use Rattle.wk_session_rules.specs.Replies.{sent}
use Rattle.wk_session_rules.specs.Sessions.{BeginsWith, IsReadingEnd, IsWritingEnd, nothing}
use Rattle.wk_sending.specs.Sending.{IsCounted, IsEnded, IsSent}
use Rattle.wk_session.proofs.Ends.{part-behind}
use Rattle.wk_session.proofs.Passing.{goes-both, goes-nowhere}
use Rattle.wk_session.proofs.Streams.{begins-behind, begins-push, messages-behind, messages-whole}
use Rattle.wk_replica_reads.specs.Sessions.{EndsSo, Exchange, Exchanges, IsReadSession, LinkSeen, bad_unsent, bytes_of, cut, ends_bad, ends_closed, messages_of, none, peer_end, points_of, unread, unsent}
use Rattle.wk_replica_reads.specs.Serving.{HasDoneNothing, HasServed, IsReplied, RepliedTo}
use Rattle.wk_replica_reads.proofs.Lists.{bytes-push, exchanges-push, messages-push, points-push}

-- ---- messages that were answered

module _ (old : PassSeen) (before : LinkSeen) where
  -- none yet
  served-none : HasServed old old before before nothing_read []
  served-none = record {
    read = [];
    consumed = Consumes-nil before.rest;
    counted = refl;
    exchanges = [];
    begins = nothing;
    exchanged = none;
    written = Appends-nil before.taken;
    points_are = refl;
  }

  pub served-begun : (reading : Reading) (points : List ℕ) → reading ≡ nothing_read → points ≡ [] → HasServed old old before before reading points
  served-begun reading points unread_yet no_point =
      subst (λ (r : Reading). HasServed old old before before r points) (sym unread_yet)
      (subst (λ (l : List ℕ). HasServed old old before before nothing_read l) (sym no_point) served-none)

  module _ (now : PassSeen) (middle : LinkSeen) (reading : Reading) (points : List ℕ) (s : HasServed old now before middle reading points) where
    -- the bytes that were read since are left behind those that were
    behind-read : (more : List ℕ) → BeginsWith (s.read ++ more) (messages_of s.exchanges) (reading.left ++ more)
    behind-read more = begins-behind s.read reading.left more (messages_of s.exchanges) s.begins

    counted-on : (total : ℕ) (more : List ℕ) → total ≡ reading.total + length more → total ≡ length (s.read ++ more)
    counted-on total more is = omega (arith, is, s.counted, length-append s.read more)

    module _ (next : Reading) (rest : Option (List ℕ)) (message : Message) (g : Gives reading next middle.rest rest message) where
      consumed-on : Consumes before.rest rest (s.read ++ g.read)
      consumed-on = Consumes-trans before.rest middle.rest rest s.read g.read s.consumed g.consumed

      -- one more was answered
      module _ (new : PassSeen) (after : LinkSeen) (more : List ℕ) (result : Result (Unit {0}) SessionEnd) (sent_whole : Unit {0}) (whole : result ≡ Ok sent_whole)
          (r : RepliedTo now new message (record middle { rest = rest }) after points more result) where
        abbrev one : Exchange
        one = record { message = message; reply = r.reply }

        abbrev all : List Exchange
        all = s.exchanges ++ one ∷ []

        all-exchanged : Exchanges old all new
        all-exchanged = exchanges-push old now new s.exchanges one s.exchanged r.replied r.goes

        one-written : Appends middle.taken after.taken (sent message r.reply)
        one-written = written-whole result sent_whole whole r.sent_is
          where
            written-whole : (x : Result (Unit {0}) SessionEnd) (u : Unit {0}) → x ≡ Ok u → IsSent (sent message r.reply) middle.taken after.taken x → Appends middle.taken after.taken (sent message r.reply)
            written-whole (Ok u) v is w = w
            written-whole (Err e) v is w = absurd (let wrong : Err e ≡ Ok v = is in cc)

        all-written : Appends before.taken after.taken (bytes_of all)
        all-written =
            subst (Appends before.taken after.taken) (sym (bytes-push s.exchanges one))
            (Appends-trans before.taken middle.taken after.taken (bytes_of s.exchanges) (sent message r.reply) s.written one-written)

        all-consumed : Consumes before.rest after.rest (s.read ++ g.read)
        all-consumed = subst (λ (x : Option (List ℕ)). Consumes before.rest x (s.read ++ g.read)) (sym r.rest) consumed-on

        all-messages : messages_of all ≡ messages_of s.exchanges ++ message ∷ []
        all-messages = messages-push s.exchanges one

        all-points : more ≡ points_of all
        all-points = r.points_are ∙ (ap (λ (l : List ℕ). l ++ option_to_list r.reply.point) s.points_are ∙ sym (points-push s.exchanges one))

        replied-more : message.last ≡ false → HasServed old new before after next more
        replied-more last = record {
          read = s.read ++ g.read;
          consumed = all-consumed;
          counted = counted-on next.total g.read g.counted;
          exchanges = all;
          begins = subst (λ (l : List Message). BeginsWith (s.read ++ g.read) l next.left) (sym all-messages)
              (begins-push (s.read ++ g.read) (reading.left ++ g.read) next.left (messages_of s.exchanges) message (behind-read g.read) g.is last);
          exchanged = all-exchanged;
          written = all-written;
          points_are = all-points;
        }

        -- it was the last
        replied-last : message.last ≡ true → next.total < 2 ^ 40 + 2 ^ 13 → IsReadSession old new before after Closed more 0 []
        replied-last last few = record {
          read = s.read ++ g.read;
          consumed = all-consumed;
          few = omega (arith, few, counted-on next.total g.read g.counted);
          begun = old;
          looked = goes-nowhere old;
          exchanges = all;
          served = new;
          exchanged = all-exchanged;
          more_points = [];
          ends = ends_closed
              (subst (λ (l : List Message). Messages (s.read ++ g.read) l closed) (sym all-messages)
              (messages-behind (s.read ++ g.read) (reading.left ++ g.read) (messages_of s.exchanges) (message ∷ []) closed (behind-read g.read)
              (stream_closed g.is last)))
              refl all-written;
          points_are = all-points ∙ sym (append-nil (points_of all));
          no_jobs = refl;
          no_refreshes = refl;
        }

      module _ (new : PassSeen) (after : LinkSeen) (more : List ℕ) (result : Result (Unit {0}) SessionEnd) (sent_whole : Unit {0}) (whole : result ≡ Ok sent_whole) where
        no-starving : (result ≡ Err Memory) → ⊥
        no-starving is = let wrong : Ok sent_whole ≡ Err Memory = sym whole ∙ is in cc

        pub served-more : IsReplied now new message (record middle { rest = rest }) after points more result → message.last ≡ false → HasServed old new before after next more
        served-more (inl r) last = replied-more new after more result sent_whole whole r last
        served-more (inr starved) last = absurd (no-starving starved.0)

        pub session-closed : IsReplied now new message (record middle { rest = rest }) after points more result → message.last ≡ true → next.total < 2 ^ 40 + 2 ^ 13
            → IsReadSession old new before after Closed more 0 []
        session-closed (inl r) last few = replied-last new after more result sent_whole whole r last few
        session-closed (inr starved) last few = absurd (no-starving starved.0)

      -- it wasn't answered in full
      module _ (new : PassSeen) (after : LinkSeen) (more : List ℕ) (end : SessionEnd) (few : next.total < 2 ^ 40 + 2 ^ 13) where
        session-unsent : RepliedTo now new message (record middle { rest = rest }) after points more (Err end) → IsReadSession old new before after end more 0 []
        session-unsent r = record {
          read = s.read ++ g.read;
          consumed = subst (λ (x : Option (List ℕ)). Consumes before.rest x (s.read ++ g.read)) (sym r.rest) consumed-on;
          few = omega (arith, few, counted-on next.total g.read g.counted);
          begun = old;
          looked = goes-nowhere old;
          exchanges = s.exchanges;
          served = now;
          exchanged = s.exchanged;
          more_points = option_to_list r.reply.point;
          ends = unsent r.sent_is.0 (behind-read g.read) g.is r.replied r.goes
              (part-behind before.taken middle.taken after.taken (bytes_of s.exchanges) (sent message r.reply) s.written r.sent_is.1);
          points_are = r.points_are ∙ ap (λ (l : List ℕ). l ++ option_to_list r.reply.point) s.points_are;
          no_jobs = refl;
          no_refreshes = refl;
        }

        session-starved : end ≡ Memory → HasDoneNothing now new (record middle { rest = rest }) after points more → IsReadSession old new before after end more 0 []
        session-starved is starved = record {
          read = s.read ++ g.read;
          consumed = subst (λ (o : LinkSeen). Consumes before.rest o.rest (s.read ++ g.read)) (sym starved.link) consumed-on;
          few = omega (arith, few, counted-on next.total g.read g.counted);
          begun = old;
          looked = goes-nowhere old;
          exchanges = s.exchanges;
          served = now;
          exchanged = s.exchanged;
          more_points = [];
          ends = unread (subst IsReadingEnd (sym is) tt) (λ bound. absurd (let e : Memory ≡ Bound = sym is ∙ bound in cc)) (behind-read g.read)
              (λ other. absurd (other is)) (sym starved.pass)
              (subst (λ (o : LinkSeen). Appends before.taken o.taken (bytes_of s.exchanges)) (sym starved.link) s.written);
          points_are = starved.points_are ∙ (s.points_are ∙ sym (append-nil (points_of s.exchanges)));
          no_jobs = refl;
          no_refreshes = refl;
        }

        pub session-part : IsReplied now new message (record middle { rest = rest }) after points more (Err end) → IsReadSession old new before after end more 0 []
        session-part (inl r) = session-unsent r
        session-part (inr starved) = session-starved (let e : Err end ≡ Err Memory = starved.0 in cc) starved.1

    -- no message was given
    module _ (next : Reading) (rest taken : Option (List ℕ)) (few : next.total < 2 ^ 40 + 2 ^ 13) where
      abbrev after-reading : LinkSeen
      after-reading = record { rest = rest; taken = taken }

      module _ (why end : SessionEnd) (x : StopsAt reading next middle.rest rest why) where
        session-stopped : EndsSo (s.read ++ x.read) s.exchanges now now before after-reading end [] → IsReadSession old now before after-reading end points 0 []
        session-stopped ends = record {
          read = s.read ++ x.read;
          consumed = Consumes-trans before.rest middle.rest rest s.read x.read s.consumed x.consumed;
          few = omega (arith, few, counted-on next.total x.read x.counted);
          begun = old;
          looked = goes-nowhere old;
          exchanges = s.exchanges;
          served = now;
          exchanged = s.exchanged;
          more_points = [];
          ends = ends;
          points_are = s.points_are ∙ sym (append-nil (points_of s.exchanges));
          no_jobs = refl;
          no_refreshes = refl;
        }

        -- nothing was sent since
        same-taken : taken ≡ middle.taken → Appends before.taken taken (bytes_of s.exchanges)
        same-taken same = subst (λ (t : Option (List ℕ)). Appends before.taken t (bytes_of s.exchanges)) (sym same) s.written

        -- a stream that ends where no message is left
        whole-stream : (ending : Ending) → Messages (reading.left ++ x.read) [] ending → Messages (s.read ++ x.read) (messages_of s.exchanges) ending
        whole-stream ending is = messages-whole (s.read ++ x.read) (reading.left ++ x.read) (messages_of s.exchanges) ending (behind-read x.read) is

      session-no-more : (why end : SessionEnd) (x : StopsAt reading next middle.rest rest why) → IsReadingEnd why → (why ≡ Bound → 2 ^ 40 ≤ length (s.read ++ x.read)) →
          (why ≢ Memory → IsOpen (reading.left ++ x.read)) → end ≡ why → taken ≡ middle.taken → IsReadSession old now before after-reading end points 0 []
      session-no-more why end x reading_end bound is_open is same =
          subst (λ (e : SessionEnd). IsReadSession old now before after-reading e points 0 []) (sym is)
          (session-stopped why why x (unread reading_end bound (behind-read x.read) is_open refl (same-taken why why x same)))

      stopped-at : (why end : SessionEnd) → StopsAt reading next middle.rest rest why → IsEnded middle.taken taken why end → IsReadSession old now before after-reading end points 0 []
      stopped-at PeerEnd end x (is, same) =
          subst (λ (e : SessionEnd). IsReadSession old now before after-reading e points 0 []) (sym is)
          (session-stopped PeerEnd PeerEnd x
          (peer_end (whole-stream PeerEnd PeerEnd x between (subst (λ (l : List ℕ). Messages l [] between) (sym x.holds.0) ends_between)) x.holds.1 refl (same-taken PeerEnd PeerEnd x same)))
      stopped-at Cut end x (is, same) =
          subst (λ (e : SessionEnd). IsReadSession old now before after-reading e points 0 []) (sym is)
          (session-stopped Cut Cut x (cut (whole-stream Cut Cut x within (ends_within x.holds.0 x.holds.1)) x.holds.2 refl (same-taken Cut Cut x same)))
      stopped-at Closed end x ended = absurd x.holds
      stopped-at (Bad status) end x (inl (is, sent_whole)) =
          subst (λ (e : SessionEnd). IsReadSession old now before after-reading e points 0 []) (sym is)
          (session-stopped (Bad status) (Bad status) x
          (ends_bad (whole-stream (Bad status) (Bad status) x (bad status) (stream_bad x.holds)) refl
          (Appends-trans before.taken middle.taken taken (bytes_of s.exchanges) (response status [] true) s.written sent_whole)))
      stopped-at (Bad status) end x (inr (writing, part)) =
          session-stopped (Bad status) end x
          (bad_unsent writing (whole-stream (Bad status) end x (bad status) (stream_bad x.holds)) refl
          (part-behind before.taken middle.taken taken (bytes_of s.exchanges) (response status [] true) s.written part))
      stopped-at ReadFault end x (is, same) = session-no-more ReadFault end x tt (λ bound. absurd (let e : ReadFault ≡ Bound = bound in cc)) (λ other. x.holds) is same
      stopped-at WriteFault end x ended = absurd x.holds
      stopped-at Bound end x (is, same) =
          session-no-more Bound end x tt (λ bound. (let many = x.holds.1 in omega (arith, many, counted-on next.total x.read x.counted))) (λ other. x.holds.0) is same
      stopped-at Memory end x (is, same) = session-no-more Memory end x tt (λ bound. absurd (let e : Memory ≡ Bound = bound in cc)) (λ other. absurd (other refl)) is same

-- ---- a session whose pass has looked first

pub looked-first : (old begun new : PassSeen) (before after : LinkSeen) (end : SessionEnd) (points : List ℕ) (jobs : ℕ) (refreshes : List (ℕ × Refresh)) → jobs ≡ 0 → refreshes ≡ [] → GoesOn old begun [] →
    IsReadSession begun new before after end points 0 [] → IsReadSession old new before after end points jobs refreshes
looked-first old begun new before after end points jobs refreshes no_jobs no_refreshes goes x = record {
  read = x.read;
  consumed = x.consumed;
  few = x.few;
  begun = x.begun;
  looked = goes-both old begun x.begun [] [] goes x.looked;
  exchanges = x.exchanges;
  served = x.served;
  exchanged = x.exchanged;
  more_points = x.more_points;
  ends = x.ends;
  points_are = x.points_are;
  no_jobs = no_jobs;
  no_refreshes = no_refreshes;
}

-- ---- over a link

-- the session whose reading ended so, where the link's sides are as the calls left them
pub session-read : (old now : PassSeen) (before middle : LinkSeen) (reading next : Reading) (points : List ℕ) (s : HasServed old now before middle reading points)
    → (rest later taken more_taken : Option (List ℕ)) (why end : SessionEnd) → next.total < 2 ^ 40 + 2 ^ 13 → StopsAt reading next middle.rest rest why → taken ≡ middle.taken → later ≡ rest
    → IsEnded taken more_taken why end → IsReadSession old now before (record { rest = later; taken = more_taken }) end points 0 []
session-read old now before middle reading next points s rest later taken more_taken why end few x same kept ended =
    subst (λ (r : Option (List ℕ)). IsReadSession old now before (record { rest = r; taken = more_taken }) end points 0 []) (sym kept)
    (stopped-at old before now middle reading points s next rest more_taken few why end x
    (subst (λ (t : Option (List ℕ)). IsEnded t more_taken why end) same ended))

-- the counts behind a message that wasn't answered in full
pub counted-part : (old new : PassSeen) (message : Message) (before after : LinkSeen) (points more : List ℕ) (result : Result (Unit {0}) SessionEnd) (end : SessionEnd) (reads more_reads last_reads writes more_writes last_writes first_reads first_writes : ℕ)
    → result ≡ Err end → IsReplied old new message before after points more (Err end) → reads ≡ first_reads → writes ≡ first_writes → more_reads ≡ reads → more_writes ≡ writes → last_reads ≡ more_reads
    → more_writes ≤ last_writes → (result ≢ Err WriteFault → last_writes ≡ more_writes) → (result ≡ Err WriteFault → Rose more_writes last_writes) → IsCounted end first_reads last_reads first_writes last_writes
counted-part old new message before after points more result end reads more_reads last_reads writes more_writes last_writes first_reads first_writes ended_by replied same_reads same_writes read_kept write_kept last grows no_write rose = record {
  reads_never_fall = omega (arith, same_reads, read_kept, last);
  no_read_fault = λ other. last ∙ (read_kept ∙ same_reads);
  read_fault = λ is. absurd (never replied is);
  writes_never_fall = omega (arith, same_writes, write_kept, grows);
  no_write_fault = λ other. no_write (λ e. other (let both = sym ended_by ∙ e in cc)) ∙ (write_kept ∙ same_writes);
  write_fault = λ is. subst (λ n. Rose n last_writes) (write_kept ∙ same_writes) (rose (subst (λ (w : SessionEnd). result ≡ Err w) is ended_by));
}
  where
    never : IsReplied old new message before after points more (Err end) → end ≢ ReadFault
    never (inl r) is = subst IsWritingEnd is r.sent_is.0
    never (inr starved) is =
        let e : Err end ≡ Err Memory = starved.0 in
        let same : end ≡ Memory = cc in
        let wrong : Memory ≡ ReadFault = sym same ∙ is in
        absurd cc

-- what comes of a message behind a read
pub part-over : (now new : PassSeen) (message : Message) (rest taken : Option (List ℕ)) (middle after : LinkSeen) (points more : List ℕ) (result : Result (Unit {0}) SessionEnd)
    → taken ≡ middle.taken → IsReplied now new message (record { rest = rest; taken = taken }) after points more result
    → IsReplied now new message (record middle { rest = rest }) after points more result
part-over now new message rest taken middle after points more result same x =
    subst (λ (o : LinkSeen). IsReplied now new message o after points more result) (λ i. record { rest = rest; taken = same i }) x
