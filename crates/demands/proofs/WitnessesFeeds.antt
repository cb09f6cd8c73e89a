-- The hypotheses of the theorems on a trace that arrives bit by bit are met, and each theorem at these values. Assumes nothing.
use mathlib.Core.Path.{refl, subst⁻¹}
use mathlib.Core.List.{List, [], ◌∷◌, ◌++◌}
use Prim.Native.Nat.{ℕ}
use native.Mathlib.Omega.{arith}
use lib.Count.{ones, ones_in}
use Rattle.numbers.specs.BigEndian.{word, bytes}
use Rattle.numbers.proofs.Octets.{octets_zeros}
use Rattle.source.specs.Arrivals.{arrival, first, counted, distance, ahead, behind}
use Rattle.source.specs.Blocks.{packets, count_all, block_count}
use Rattle.source.specs.Distances.{reach_of}
use Rattle.source.specs.Places.{pack, marks, place, places, moved, added}
use Rattle.source.specs.Record.{sound, fresh, has_counted, lost}
use Rattle.trace.specs.Checksum.{words, ones_add, ones_sum}
use Rattle.trace.specs.Contents.{every, label_byte, label_ok, label_body, count_ok, good_records, arrivals_body}
use Rattle.trace.specs.Layout.{record_bytes, records_bytes, header, filled, checked, label_block, arrivals_block}
use Rattle.trace.specs.Places.{zeroth_of, later_of}
use Rattle.trace.specs.Reading.{right_check, contents_of, block_of}
use Rattle.trace.specs.Writing.{records_of}
use Rattle.trace.proofs.Limits.{below}
use Rattle.table.specs.Decimal.{digits_of, decimal, signed}
use Rattle.table.specs.Field.{special, any_special, doubled_byte, doubled, as_field, line}
use Rattle.table.specs.Lines.{row_bytes}
use Rattle.walk.specs.Blocks as Blocks
use Rattle.walk.specs.Pieces.{wholes, whole_in}
use Rattle.walk.specs.Fitting.{front}
use Rattle.convert.specs.Runs.{start_of, sound_run, next_of, arrived, row_of}
use Rattle.answers.specs.declared.Refusal.TheVariants.{Incomplete, Contents}
use Rattle.table.specs.Theorems.{row_most}
use Rattle.convert.specs.Feeds.{fresh_upload, sound_upload, completed, rest_in, broken, feed_of, close_of}
use Rattle.convert.specs.FeedTheorems.{Enough}
use Rattle.convert.proofs.FeedAll.{cuts_agree, feed_stays_sound}
use Rattle.convert.proofs.FeedParts.{feed_in_parts}
use Rattle.convert.proofs.FeedRefusals.{refused_is_unchanged, feed_room_is_exact, close_may_go_on, close_repeats, fault_repeats, kept_repeats}
use Rattle.convert.proofs.FeedPrints.{feeds_print}
use Rattle.demands.specs.PrintedTable.{Holds}
use Rattle.demands.specs.Witnesses.{label, whole, text, c1_packets}
use Rattle.demands.specs.WitnessesFeeds.{zeros, cut, rooms, stretch, back, fed, MetFeeds}
use Rattle.demands.proofs.FedTables.{fed_holds_count}
use Rattle.demands.proofs.Witnesses.{met}

pub met_feeds : MetFeeds
unfolding label_block arrivals_block records_of record_bytes records_bytes header filled checked bytes words ones_add ones_sum word block_of right_check contents_of label_body label_byte every arrivals_body count_ok good_records zeroth_of later_of start_of sound_run label_ok next_of arrived wholes whole_in Blocks.cut block_count sound fresh has_counted packets count_all arrival first counted distance reach_of ahead behind pack marks place moved added row_of row_bytes as_field any_special special doubled doubled_byte decimal digits_of signed line lost places ones ones_in front sound_upload completed rest_in feed_of close_of Enough
met_feeds = record {
  same = refl;
  fresh = record { long = omega arith; zeros = refl; bytes = octets_zeros 1024 };
  bytes = below 256 whole (omega arith) refl;
  few = omega arith;
  enough = (omega arith, (omega arith, (omega arith, tt)));
  again = refl;
  whole_enough = (omega arith, tt);
  sound = refl;
  front_bytes = below 256 stretch (omega arith) refl;
  both_few = omega arith;
  front_room = omega arith;
  back_room = omega arith;
  both_room = omega arith;
  malformed = tt;
  no_room = refl;
  closed = refl;
  empty = refl;
  labels = below 256 (label ++ label) (omega arith) refl;
  faulty = refl;
  broken = refl;
}

used : Unit {0}
used =
    let m = met_feeds in
    let prints = feeds_print rooms zeros cut m.fresh m.bytes m.few m.enough in
    let held = subst⁻¹ (λ (t : List ℕ). Holds t text 1 c1_packets) m.same met.held in
    let table = fed_holds_count rooms zeros cut text 1 c1_packets m.fresh m.bytes m.few m.enough met.c1_described held in
    let last = table.last (omega arith) in
    let agree = cuts_agree rooms rooms zeros cut (whole ∷ []) m.fresh m.again m.bytes m.few m.enough m.whole_enough in
    let stays = feed_stays_sound fresh_upload zeros stretch row_most m.fresh.bytes m.front_bytes m.sound in
    let parts = feed_in_parts fresh_upload zeros stretch back row_most row_most row_most m.fresh.bytes m.front_bytes m.both_few m.front_room m.back_room m.both_room in
    let unchanged = refused_is_unchanged fresh_upload [] stretch row_most m.malformed in
    let exact = feed_room_is_exact fresh_upload zeros whole 0 41 m.no_room in
    let enough-room = exact.enough 41 (omega arith) in
    let fewer = exact.fewer 40 (omega arith) in
    let on = close_may_go_on fed.upload fed.lent 0 m.closed in
    let again = close_repeats fresh_upload zeros Incomplete 0 0 m.empty in
    let fault = fault_repeats fresh_upload zeros (label ++ label) row_most Contents 1 0 m.fresh.bytes m.labels m.faulty in
    let kept = kept_repeats (broken fresh_upload) zeros Incomplete m.broken refl in
    tt
