-- The messages of a session that were answered, one more, and how it ends.
use Rattle.std.proofs.Common.{◌≡◌, ◌≢◌, ℕ, ◌+◌, ◌<◌, ◌≤◌, true, false, List, [], ◌∷◌, ◌++◌, length, take, refl, sym, ap, ◌∙◌, subst, arith, append-nil, length-append, inl, inr}
use Rattle.std.proofs.KnownBytes.{Appends-nil, Appends-trans, Consumes-nil, Consumes-trans}
use Rattle.std.specs.Io.KnownBytes.{Appends, Consumes}
use Rattle.std.specs.Option.{option_to_list}
use Rattle.std.specs.Prelude.{◌⊎◌, ◌^◌, Option, Result, Ok, Err}
use Rattle.wk_base.specs.Faults.{Rose}
use Rattle.wk_wire_rules.specs.Heads.{Message}
use Rattle.wk_wire_rules.specs.Messages.{IsOpen, Messages, bad, between, closed, ends_bad as stream_bad, ends_between, ends_closed as stream_closed, ends_within, within}
use Rattle.wk_wire_rules.specs.Responses.{response}
use Rattle.wk_wiki_rules.specs.Passes.{PassSeen}
use Rattle.wk_http.specs.declared.report.Refresh.{Refresh}
use Rattle.wk_http.specs.declared.request.HttpRequest.{HttpRequest}
use Rattle.wk_http.specs.declared.report.SessionEnd.{SessionEnd}
use Rattle.wk_http.specs.declared.report.SessionEnd.TheVariants.{PeerEnd, Cut, Closed, Bad, ReadFault, WriteFault, Bound, Memory}
use Rattle.wk_messages.specs.Reading.{Gives, HoldsNone, Reading, StopsAt, nothing_read}
use Rattle.wk_session_rules.specs.Points.{GoesOn}
use Rattle.wk_session_rules.specs.Replies.{sent}
use Rattle.wk_session_rules.specs.Exchanges.{Exchange, Exchanges, bytes_of, jobs_done, messages_of, moments_of, none, points_of, refreshes_of}
use Rattle.wk_session_rules.specs.Sessions.{AppendsPart, BeginsWith, EndsSo, GivesMoments, IsReadingEnd, IsSession, IsWritingEnd, Outside, bad_unsent, cut, ends_bad, ends_closed, nothing, peer_end, unread, unsent}
use Rattle.wk_sending.specs.Sending.{IsCounted, IsEnded}
use Rattle.wk_session.specs.Serving.{HasDoneNothing, HasServed, IsReplied, RepliedTo, Serves}
use Rattle.wk_session.proofs.Passing.{goes-both, goes-nowhere}
use Rattle.wk_session.proofs.Lists.{bytes-push, exchanges-push, messages-push, moments-push, points-push, refreshes-push}
use Rattle.wk_session.proofs.Streams.{begins-behind, begins-push, gives-both, messages-behind, messages-whole}

-- ---- what was sent

-- a part behind what was sent whole
pub part-behind : (taken middle later : Option (List ℕ)) (first others : List ℕ) → Appends taken middle first → AppendsPart middle later [] others → AppendsPart taken later first others
part-behind taken middle later first others whole part =
    (part.0, part.1, Appends-trans taken middle later first (take part.0 others) whole part.2)

-- ---- messages that were answered

module _ (fails : Type 0) (old : PassSeen) (before : Outside) where
  -- none yet
  pub served-none : HasServed fails old old before before nothing_read [] []
  served-none = record {
    read = [];
    consumed = Consumes-nil before.rest;
    counted = refl;
    exchanges = [];
    begins = nothing;
    exchanged = none;
    given = refl;
    written = Appends-nil before.taken;
    points_are = refl;
    refreshes_are = refl;
  }

  pub served-begun : (reading : Reading) (points : List ℕ) (refreshes : List (ℕ × Refresh)) → reading ≡ nothing_read → points ≡ [] → refreshes ≡ [] → HasServed fails old old before before reading points refreshes
  served-begun reading points refreshes unread_yet no_point no_refresh =
      subst (λ (r : Reading). HasServed fails old old before before r points refreshes) (sym unread_yet)
      (subst (λ (l : List ℕ). HasServed fails old old before before nothing_read l refreshes) (sym no_point)
      (subst (λ (l : List (ℕ × Refresh)). HasServed fails old old before before nothing_read [] l) (sym no_refresh) served-none))

  module _ (now : PassSeen) (middle : Outside) (reading : Reading) (points : List ℕ) (refreshes : List (ℕ × Refresh)) (s : HasServed fails old now before middle reading points refreshes) where
    -- the bytes that were read since are left behind those that were
    pub behind-read : (more : List ℕ) → BeginsWith (s.read ++ more) (messages_of s.exchanges) (reading.left ++ more)
    behind-read more = begins-behind s.read reading.left more (messages_of s.exchanges) s.begins

    counted-on : (total : ℕ) (more : List ℕ) → total ≡ reading.total + length more → total ≡ length (s.read ++ more)
    counted-on total more is = omega (arith, is, s.counted, length-append s.read more)

    module _ (next : Reading) (rest : Option (List ℕ)) (message : Message) (g : Gives reading next middle.rest rest message) where
      consumed-on : Consumes before.rest rest (s.read ++ g.read)
      consumed-on = Consumes-trans before.rest middle.rest rest s.read g.read s.consumed g.consumed

      -- one more was answered
      module _ (new : PassSeen) (after : Outside) (more : List ℕ) (later : List (ℕ × Refresh))
          (one : Serves fails now new message (record middle { rest = rest }) after points more refreshes later) where
        abbrev pub all : List Exchange
        all = s.exchanges ++ one.exchange ∷ []

        all-exchanged : Exchanges fails old all new
        all-exchanged = exchanges-push fails old now new s.exchanges one.exchange s.exchanged one.is

        all-given : GivesMoments before.moments after.moments (moments_of all)
        all-given =
            subst (GivesMoments before.moments after.moments) (sym (moments-push s.exchanges one.exchange))
            (gives-both before.moments middle.moments after.moments (moments_of s.exchanges) one.exchange.moments s.given one.given)

        all-written : Appends before.taken after.taken (bytes_of all)
        all-written =
            subst (Appends before.taken after.taken)
            (sym (bytes-push s.exchanges one.exchange ∙ ap (λ (m : Message). bytes_of s.exchanges ++ sent m one.exchange.reply) one.message_is))
            (Appends-trans before.taken middle.taken after.taken (bytes_of s.exchanges) (sent message one.exchange.reply) s.written one.written)

        all-consumed : Consumes before.rest after.rest (s.read ++ g.read)
        all-consumed = subst (λ (r : Option (List ℕ)). Consumes before.rest r (s.read ++ g.read)) (sym one.rest) consumed-on

        all-messages : messages_of all ≡ messages_of s.exchanges ++ message ∷ []
        all-messages = messages-push s.exchanges one.exchange ∙ ap (λ (m : Message). messages_of s.exchanges ++ m ∷ []) one.message_is

        all-points : more ≡ points_of all
        all-points =
            one.points_are ∙ (ap (λ (l : List ℕ). l ++ option_to_list one.exchange.reply.point) s.points_are ∙ sym (points-push s.exchanges one.exchange))

        all-refreshes : later ≡ refreshes_of all
        all-refreshes =
            one.refreshes_are
            ∙ (ap (λ (l : List (ℕ × Refresh)). l ++ (one.exchange.point, one.exchange.refresh) ∷ []) s.refreshes_are ∙ sym (refreshes-push s.exchanges one.exchange))

        pub served-more : message.last ≡ false → HasServed fails old new before after next more later
        served-more last = record {
          read = s.read ++ g.read;
          consumed = all-consumed;
          counted = counted-on next.total g.read g.counted;
          exchanges = all;
          begins = subst (λ (l : List Message). BeginsWith (s.read ++ g.read) l next.left) (sym all-messages)
              (begins-push (s.read ++ g.read) (reading.left ++ g.read) next.left (messages_of s.exchanges) message (behind-read g.read) g.is last);
          exchanged = all-exchanged;
          given = all-given;
          written = all-written;
          points_are = all-points;
          refreshes_are = all-refreshes;
        }

        -- it was the last
        pub session-closed : message.last ≡ true → next.total < 2 ^ 40 + 2 ^ 13 → IsSession fails old new before after Closed more (jobs_done later) later
        session-closed last few = record {
          read = s.read ++ g.read;
          consumed = all-consumed;
          few = omega (arith, few, counted-on next.total g.read g.counted);
          begun = old;
          looked = goes-nowhere old;
          exchanges = all;
          served = new;
          exchanged = all-exchanged;
          more_moments = [];
          more_points = [];
          ends = ends_closed
              (subst (λ (l : List Message). Messages (s.read ++ g.read) l closed) (sym all-messages)
              (messages-behind (s.read ++ g.read) (reading.left ++ g.read) (messages_of s.exchanges) (message ∷ []) closed (behind-read g.read)
              (stream_closed g.is last)))
              refl all-written;
          given = subst (GivesMoments before.moments after.moments) (sym (append-nil (moments_of all))) all-given;
          points_are = all-points ∙ sym (append-nil (points_of all));
          jobs_are = refl;
          refreshes_are = all-refreshes;
        }

      -- it wasn't answered in full
      module _ (new : PassSeen) (after : Outside) (more : List ℕ) (later : List (ℕ × Refresh)) (end : SessionEnd) (few : next.total < 2 ^ 40 + 2 ^ 13) (same : later ≡ refreshes) where
        session-unsent : RepliedTo fails now new message (record middle { rest = rest }) after points more (Err end) → IsSession fails old new before after end more (jobs_done later) later
        session-unsent r = record {
          read = s.read ++ g.read;
          consumed = subst (λ (r : Option (List ℕ)). Consumes before.rest r (s.read ++ g.read)) (sym r.rest) consumed-on;
          few = omega (arith, few, counted-on next.total g.read g.counted);
          begun = old;
          looked = goes-nowhere old;
          exchanges = s.exchanges;
          served = now;
          exchanged = s.exchanged;
          more_moments = r.moments;
          more_points = option_to_list r.reply.point;
          ends = unsent r.sent_is.0 (behind-read g.read) g.is r.replied r.goes
              (part-behind before.taken middle.taken after.taken (bytes_of s.exchanges) (sent message r.reply) s.written r.sent_is.1);
          given = gives-both before.moments middle.moments after.moments (moments_of s.exchanges) r.moments s.given r.given;
          points_are = r.points_are ∙ ap (λ (l : List ℕ). l ++ option_to_list r.reply.point) s.points_are;
          jobs_are = refl;
          refreshes_are = same ∙ s.refreshes_are;
        }

        session-starved : end ≡ Memory → HasDoneNothing now new (record middle { rest = rest }) after points more → IsSession fails old new before after end more (jobs_done later) later
        session-starved is starved = record {
          read = s.read ++ g.read;
          consumed = subst (λ (o : Outside). Consumes before.rest o.rest (s.read ++ g.read)) (sym starved.outside) consumed-on;
          few = omega (arith, few, counted-on next.total g.read g.counted);
          begun = old;
          looked = goes-nowhere old;
          exchanges = s.exchanges;
          served = now;
          exchanged = s.exchanged;
          more_moments = [];
          more_points = [];
          ends = unread (subst IsReadingEnd (sym is) tt) (λ bound. absurd (let e : Memory ≡ Bound = sym is ∙ bound in cc)) (behind-read g.read)
              (λ other. absurd (other is)) (sym starved.pass)
              (subst (λ (o : Outside). Appends before.taken o.taken (bytes_of s.exchanges)) (sym starved.outside) s.written);
          given = subst (GivesMoments before.moments after.moments) (sym (append-nil (moments_of s.exchanges)))
              (subst (λ (o : Outside). GivesMoments before.moments o.moments (moments_of s.exchanges)) (sym starved.outside) s.given);
          points_are = starved.points_are ∙ (s.points_are ∙ sym (append-nil (points_of s.exchanges)));
          jobs_are = refl;
          refreshes_are = same ∙ s.refreshes_are;
        }

        pub session-part : IsReplied fails now new message (record middle { rest = rest }) after points more (Err end) → IsSession fails old new before after end more (jobs_done later) later
        session-part (inl r) = session-unsent r
        session-part (inr starved) = session-starved (let e : Err end ≡ Err Memory = starved.0 in cc) starved.1

    -- no message was given
    module _ (next : Reading) (rest taken : Option (List ℕ)) (few : next.total < 2 ^ 40 + 2 ^ 13) where
      abbrev pub after-reading : Outside
      after-reading = record { rest = rest; moments = middle.moments; taken = taken }

      module _ (why end : SessionEnd) (x : StopsAt reading next middle.rest rest why) where
        abbrev pub stopped-read : List ℕ
        stopped-read = s.read ++ x.read

        session-stopped : EndsSo fails stopped-read s.exchanges now now before after-reading end [] [] → IsSession fails old now before after-reading end points (jobs_done refreshes) refreshes
        session-stopped ends = record {
          read = stopped-read;
          consumed = Consumes-trans before.rest middle.rest rest s.read x.read s.consumed x.consumed;
          few = omega (arith, few, counted-on next.total x.read x.counted);
          begun = old;
          looked = goes-nowhere old;
          exchanges = s.exchanges;
          served = now;
          exchanged = s.exchanged;
          more_moments = [];
          more_points = [];
          ends = ends;
          given = subst (GivesMoments before.moments middle.moments) (sym (append-nil (moments_of s.exchanges))) s.given;
          points_are = s.points_are ∙ sym (append-nil (points_of s.exchanges));
          jobs_are = refl;
          refreshes_are = s.refreshes_are;
        }

        -- nothing was sent since
        same-taken : taken ≡ middle.taken → Appends before.taken taken (bytes_of s.exchanges)
        same-taken same = subst (λ (t : Option (List ℕ)). Appends before.taken t (bytes_of s.exchanges)) (sym same) s.written

      session-no-more : (why end : SessionEnd) (x : StopsAt reading next middle.rest rest why) → IsReadingEnd why → (why ≡ Bound → 2 ^ 40 ≤ length (s.read ++ x.read)) →
          (why ≢ Memory → IsOpen (reading.left ++ x.read)) → end ≡ why → taken ≡ middle.taken → IsSession fails old now before after-reading end points (jobs_done refreshes) refreshes
      session-no-more why end x reading_end bound is_open is same =
          subst (λ (e : SessionEnd). IsSession fails old now before after-reading e points (jobs_done refreshes) refreshes) (sym is)
          (session-stopped why why x (unread reading_end bound (behind-read x.read) is_open refl (same-taken why why x same)))

      pub stopped-at : (why end : SessionEnd) → StopsAt reading next middle.rest rest why → IsEnded middle.taken taken why end → IsSession fails old now before after-reading end points (jobs_done refreshes) refreshes
      stopped-at PeerEnd end x (is, same) =
          subst (λ (e : SessionEnd). IsSession fails old now before after-reading e points (jobs_done refreshes) refreshes) (sym is)
          (session-stopped PeerEnd PeerEnd x
          (peer_end
          (messages-whole (s.read ++ x.read) (reading.left ++ x.read) (messages_of s.exchanges) between (behind-read x.read)
          (subst (λ (l : List ℕ). Messages l [] between) (sym x.holds.0) ends_between))
          x.holds.1 refl (same-taken PeerEnd PeerEnd x same)))
      stopped-at Cut end x (is, same) =
          subst (λ (e : SessionEnd). IsSession fails old now before after-reading e points (jobs_done refreshes) refreshes) (sym is)
          (session-stopped Cut Cut x
          (cut
          (messages-whole (s.read ++ x.read) (reading.left ++ x.read) (messages_of s.exchanges) within (behind-read x.read)
          (ends_within x.holds.0 x.holds.1))
          x.holds.2 refl (same-taken Cut Cut x same)))
      stopped-at Closed end x ended = absurd x.holds
      stopped-at (Bad status) end x (inl (is, sent_whole)) =
          subst (λ (e : SessionEnd). IsSession fails old now before after-reading e points (jobs_done refreshes) refreshes) (sym is)
          (session-stopped (Bad status) (Bad status) x
          (ends_bad
          (messages-whole (s.read ++ x.read) (reading.left ++ x.read) (messages_of s.exchanges) (bad status) (behind-read x.read) (stream_bad x.holds)) refl
          (Appends-trans before.taken middle.taken taken (bytes_of s.exchanges) (response status [] true) s.written sent_whole)))
      stopped-at (Bad status) end x (inr (writing, part)) =
          session-stopped (Bad status) end x
          (bad_unsent writing
          (messages-whole (s.read ++ x.read) (reading.left ++ x.read) (messages_of s.exchanges) (bad status) (behind-read x.read) (stream_bad x.holds)) refl
          (part-behind before.taken middle.taken taken (bytes_of s.exchanges) (response status [] true) s.written part))
      stopped-at ReadFault end x (is, same) = session-no-more ReadFault end x tt (λ bound. absurd (let e : ReadFault ≡ Bound = bound in cc)) (λ other. x.holds) is same
      stopped-at WriteFault end x ended = absurd x.holds
      stopped-at Bound end x (is, same) =
          session-no-more Bound end x tt (λ bound. (let many = x.holds.1 in omega (arith, many, counted-on next.total x.read x.counted))) (λ other. x.holds.0) is same
      stopped-at Memory end x (is, same) = session-no-more Memory end x tt (λ bound. absurd (let e : Memory ≡ Bound = bound in cc)) (λ other. absurd (other refl)) is same

-- ---- a session behind its beginning

pub looked-first : (fails : Type 0) (old begun new : PassSeen) (before after : Outside) (end : SessionEnd) (points : List ℕ) (jobs told : ℕ) (refreshes : List (ℕ × Refresh)) → told ≡ jobs → GoesOn old begun [] →
    IsSession fails begun new before after end points jobs refreshes → IsSession fails old new before after end points told refreshes
looked-first fails old begun new before after end points jobs told refreshes same goes x = record {
  read = x.read;
  consumed = x.consumed;
  few = x.few;
  begun = x.begun;
  looked = goes-both old begun x.begun [] [] goes x.looked;
  exchanges = x.exchanges;
  served = x.served;
  exchanged = x.exchanged;
  more_moments = x.more_moments;
  more_points = x.more_points;
  ends = x.ends;
  given = x.given;
  points_are = x.points_are;
  jobs_are = same ∙ x.jobs_are;
  refreshes_are = x.refreshes_are;
}

-- memory was wanting before the first message
pub session-unbegun : (fails : Type 0) (old new : PassSeen) (outside : Outside) (points : List ℕ) (refreshes : List (ℕ × Refresh)) → GoesOn old new [] → points ≡ [] → refreshes ≡ []
    → IsSession fails old new outside outside Memory points 0 refreshes
session-unbegun fails old new outside points refreshes goes no_point no_refresh = record {
  read = [];
  consumed = Consumes-nil outside.rest;
  few = omega arith;
  begun = new;
  looked = goes;
  exchanges = [];
  served = new;
  exchanged = none;
  more_moments = [];
  more_points = [];
  ends = unread tt (λ bound. absurd (let e : Memory ≡ Bound = bound in cc)) nothing (λ other. absurd (other refl)) refl (Appends-nil outside.taken);
  given = refl;
  points_are = no_point;
  jobs_are = sym (ap jobs_done no_refresh);
  refreshes_are = no_refresh;
}

-- ---- over a link

-- the session whose reading ended so, where the link's sides are as the calls left them
pub session-read : (fails : Type 0) (old now : PassSeen) (before middle : Outside) (reading next : Reading) (points : List ℕ) (refreshes : List (ℕ × Refresh)) (s : HasServed fails old now before middle reading points refreshes)
    → (rest later taken more_taken : Option (List ℕ)) (why end : SessionEnd) → next.total < 2 ^ 40 + 2 ^ 13 → StopsAt reading next middle.rest rest why → taken ≡ middle.taken → later ≡ rest
    → IsEnded taken more_taken why end → IsSession fails old now before (record { rest = later; moments = middle.moments; taken = more_taken }) end points (jobs_done refreshes) refreshes
session-read fails old now before middle reading next points refreshes s rest later taken more_taken why end few x same kept ended =
    subst (λ (r : Option (List ℕ)). IsSession fails old now before (record { rest = r; moments = middle.moments; taken = more_taken }) end points (jobs_done refreshes) refreshes) (sym kept)
    (stopped-at fails old before now middle reading points refreshes s next rest more_taken few why end x
    (subst (λ (t : Option (List ℕ)). IsEnded t more_taken why end) same ended))

-- what ended the reading ended the session, or the writing did
ended-as : (taken later : Option (List ℕ)) (why end : SessionEnd) → IsEnded taken later why end → (end ≡ why) ⊎ ((why ≢ ReadFault) × IsWritingEnd end)
ended-as taken later PeerEnd end (is, same) = inl is
ended-as taken later Cut end (is, same) = inl is
ended-as taken later Closed end (is, same) = inl is
ended-as taken later (Bad status) end (inl (is, whole)) = inl is
ended-as taken later (Bad status) end (inr (writing, part)) = inr (λ e. absurd (let wrong : Bad status ≡ ReadFault = e in cc), writing)
ended-as taken later ReadFault end (is, same) = inl is
ended-as taken later WriteFault end (is, same) = inl is
ended-as taken later Bound end (is, same) = inl is
ended-as taken later Memory end (is, same) = inl is

-- the counts behind a reading that ended so, and what was written then
pub counted-read : (old new : Reading) (x y taken later : Option (List ℕ)) (read : Result HttpRequest SessionEnd) (why end : SessionEnd) (reads more_reads last_reads writes more_writes last_writes first_reads first_writes : ℕ) → read ≡ Err why → StopsAt old new x y why → IsEnded taken later why end
    → reads ≡ first_reads → writes ≡ first_writes → reads ≤ more_reads → (read ≢ Err ReadFault → more_reads ≡ reads) → (read ≡ Err ReadFault → Rose reads more_reads) → more_writes ≡ writes
    → last_reads ≡ more_reads → more_writes ≤ last_writes → (end ≢ WriteFault → last_writes ≡ more_writes) → (end ≡ WriteFault → why ≢ WriteFault → Rose more_writes last_writes)
    → IsCounted end first_reads last_reads first_writes last_writes
counted-read old new x y taken later read why end reads more_reads last_reads writes more_writes last_writes first_reads first_writes ended_by stops ended same_reads same_writes rises no_read rose kept last grows no_write write = record {
  reads_never_fall = omega (arith, same_reads, rises, last);
  no_read_fault = λ other. last ∙ (no_read (λ e. other (by-read e)) ∙ same_reads);
  read_fault = λ is. subst (λ (z : ℕ × ℕ). Rose z.0 z.1) (λ i. (same_reads i, sym last i)) (rose (subst (λ (w : SessionEnd). read ≡ Err w) (of-read is) ended_by));
  writes_never_fall = omega (arith, same_writes, kept, grows);
  no_write_fault = λ other. no_write other ∙ (kept ∙ same_writes);
  write_fault = λ is. subst (λ n. Rose n last_writes) (kept ∙ same_writes) (write is never);
}
  where
    never : why ≢ WriteFault
    never is = subst (λ (w : SessionEnd). HoldsNone (old.left ++ stops.read) y new.total w) is stops.holds

    by-read : read ≡ Err ReadFault → end ≡ ReadFault
    by-read e = by (ended-as taken later why end ended)
      where
        same : why ≡ ReadFault
        same = let both = sym ended_by ∙ e in cc

        by : (end ≡ why) ⊎ ((why ≢ ReadFault) × IsWritingEnd end) → end ≡ ReadFault
        by (inl is) = is ∙ same
        by (inr other) = absurd (other.0 same)

    of-read : end ≡ ReadFault → why ≡ ReadFault
    of-read is = by (ended-as taken later why end ended)
      where
        by : (end ≡ why) ⊎ ((why ≢ ReadFault) × IsWritingEnd end) → why ≡ ReadFault
        by (inl same) = sym same ∙ is
        by (inr other) = absurd (subst IsWritingEnd is other.1)

-- the counts behind a message that wasn't answered in full
pub counted-part : (fails : Type 0) (old new : PassSeen) (message : Message) (before after : Outside) (points more : List ℕ) (result : Result (Unit {0}) SessionEnd) (end : SessionEnd) (reads more_reads last_reads writes more_writes last_writes first_reads first_writes : ℕ)
    → result ≡ Err end → IsReplied fails old new message before after points more (Err end) → reads ≡ first_reads → writes ≡ first_writes → more_reads ≡ reads → more_writes ≡ writes → last_reads ≡ more_reads
    → more_writes ≤ last_writes → (result ≢ Err WriteFault → last_writes ≡ more_writes) → (result ≡ Err WriteFault → Rose more_writes last_writes) → IsCounted end first_reads last_reads first_writes last_writes
counted-part fails old new message before after points more result end reads more_reads last_reads writes more_writes last_writes first_reads first_writes ended_by replied same_reads same_writes read_kept write_kept last grows no_write rose = record {
  reads_never_fall = omega (arith, same_reads, read_kept, last);
  no_read_fault = λ other. last ∙ (read_kept ∙ same_reads);
  read_fault = λ is. absurd (never replied is);
  writes_never_fall = omega (arith, same_writes, write_kept, grows);
  no_write_fault = λ other. no_write (λ e. other (let both = sym ended_by ∙ e in cc)) ∙ (write_kept ∙ same_writes);
  write_fault = λ is. subst (λ n. Rose n last_writes) (write_kept ∙ same_writes) (rose (subst (λ (w : SessionEnd). result ≡ Err w) is ended_by));
}
  where
    never : IsReplied fails old new message before after points more (Err end) → end ≢ ReadFault
    never (inl r) is = subst IsWritingEnd is r.sent_is.0
    never (inr starved) is =
        let e : Err end ≡ Err Memory = starved.0 in
        let same : end ≡ Memory = cc in
        let wrong : Memory ≡ ReadFault = sym same ∙ is in
        absurd cc

-- the outside behind a read
behind-link : (rest moments taken : Option (List ℕ)) (middle : Outside) → taken ≡ middle.taken → moments ≡ middle.moments → (record { rest = rest; moments = moments; taken = taken }) ≡ (record middle { rest = rest })
behind-link rest moments taken middle same clock = λ i. record { rest = rest; moments = clock i; taken = same i }

-- what is answered is no end
pub is-no-end : {A : Type 0} (result : Result A SessionEnd) (value : A) (end : SessionEnd) → result ≡ Ok value → result ≢ Err end
is-no-end result value end is e = absurd (let both = sym is ∙ e in cc)

-- what comes of a message behind a read
pub part-over : (fails : Type 0) (now new : PassSeen) (message : Message) (rest moments taken : Option (List ℕ)) (middle after : Outside) (points more : List ℕ) (result : Result (Unit {0}) SessionEnd)
    → taken ≡ middle.taken → moments ≡ middle.moments → IsReplied fails now new message (record { rest = rest; moments = moments; taken = taken }) after points more result
    → IsReplied fails now new message (record middle { rest = rest }) after points more result
part-over fails now new message rest moments taken middle after points more result same clock x =
    subst (λ (o : Outside). IsReplied fails now new message o after points more result) (behind-link rest moments taken middle same clock) x

pub serves-over : (fails : Type 0) (now new : PassSeen) (message : Message) (rest moments taken : Option (List ℕ)) (middle after : Outside) (points more : List ℕ) (refreshes later : List (ℕ × Refresh))
    → taken ≡ middle.taken → moments ≡ middle.moments → Serves fails now new message (record { rest = rest; moments = moments; taken = taken }) after points more refreshes later
    → Serves fails now new message (record middle { rest = rest }) after points more refreshes later
serves-over fails now new message rest moments taken middle after points more refreshes later same clock x =
    subst (λ (o : Outside). Serves fails now new message o after points more refreshes later) (behind-link rest moments taken middle same clock) x
