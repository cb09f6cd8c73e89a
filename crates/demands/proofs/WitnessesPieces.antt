-- The hypotheses of the theorems on pieces of a trace are met, and each theorem at these values. Assumes nothing.
use Rattle.std.specs.Prelude.{None}
use mathlib.Core.Path.{◌≡◌, refl}
use mathlib.Core.List.{[], ◌++◌}
use native.Mathlib.Omega.{arith}
use lib.Count.{ones, ones_in}
use Rattle.answers.specs.Writers.{written}
use Rattle.numbers.specs.BigEndian.{word, bytes}
use Rattle.source.specs.Arrivals.{arrival, first, counted, distance, ahead, behind}
use Rattle.source.specs.Blocks.{packets, count_all, block_count}
use Rattle.source.specs.Distances.{reach_of}
use Rattle.source.specs.Places.{pack, marks, place, places, moved, added}
use Rattle.source.specs.Record.{sound, fresh, has_counted, lost}
use Rattle.trace.specs.Checksum.{words, ones_add, ones_sum}
use Rattle.trace.specs.Contents.{every, label_byte, label_ok, label_body, count_ok, good_records, arrivals_body}
use Rattle.trace.specs.Layout.{record_bytes, records_bytes, header, filled, checked, label_block, arrivals_block}
use Rattle.trace.specs.Places.{zeroth_of, later_of}
use Rattle.trace.specs.Reading.{right_check, contents_of, block_of}
use Rattle.trace.specs.Writing.{records_of}
use Rattle.trace.proofs.Limits.{below}
use Rattle.table.specs.Decimal.{digits_of, decimal, signed}
use Rattle.table.specs.Field.{special, any_special, doubled_byte, doubled, as_field, line}
use Rattle.table.specs.Lines.{row_bytes}
use Rattle.table.specs.Theorems.{row_most}
use Rattle.walk.specs.Blocks as Blocks
use Rattle.walk.specs.Pieces.{wholes, whole_in}
use Rattle.walk.specs.Fitting.{fitting}
use Rattle.walk.specs.Machines.{Session, more, done, began}
use Rattle.walk.proofs.Pieces.{blocks_in_pieces, trace_in_pieces}
use Rattle.walk.proofs.Fits.{room_is_enough}
use Rattle.walk.specs.Singles.{singly}
use Rattle.walk.proofs.Sessions.{session_prints}
use Rattle.walk.proofs.Singles.{singles_print}
use Rattle.convert.specs.Runs.{start_of, sound_run, next_of, call_next, arrived, row_of}
use Rattle.convert.specs.Tables.{ecntable}
use Rattle.convert.specs.Pieces.{begin_of, took_of, calls}
use Rattle.convert.specs.Theorems.{block_calls}
use Rattle.convert.proofs.Whole.{mirrors, calls_print}
use Rattle.convert.proofs.Followed.{follows, trace_prints, rows_have_room}
use Rattle.demands.specs.Witnesses.{label, c1_block, whole}
use Rattle.demands.specs.WitnessesPieces.{part, parted, started, given, single_given, one, MetPieces}

whole_session : Session calls whole (given c1_block [])
unfolding label_block arrivals_block records_of record_bytes records_bytes header filled checked bytes words ones_add ones_sum word block_of right_check contents_of label_body label_byte every arrivals_body count_ok good_records zeroth_of later_of start_of begin_of sound_run label_ok next_of arrived took_of fitting wholes whole_in Blocks.cut block_count sound fresh has_counted packets count_all arrival first counted distance reach_of ahead behind pack marks place moved added row_of row_bytes as_field any_special special doubled doubled_byte decimal digits_of signed line lost places ones ones_in
whole_session = began _ (more _ c1_block [] row_most _ (done _ [] (omega arith)))

parted_session : Session calls parted (given (c1_block ++ part) part)
unfolding label_block arrivals_block records_of record_bytes records_bytes header filled checked bytes words ones_add ones_sum word block_of right_check contents_of label_body label_byte every arrivals_body count_ok good_records zeroth_of later_of start_of begin_of sound_run label_ok next_of arrived took_of fitting wholes whole_in Blocks.cut block_count sound fresh has_counted packets count_all arrival first counted distance reach_of ahead behind pack marks place moved added row_of row_bytes as_field any_special special doubled doubled_byte decimal digits_of signed line lost places ones ones_in
parted_session = began _ (more _ (c1_block ++ part) [] row_most _ (done _ part (omega arith)))

single_session : Session (singly block_calls) whole single_given
unfolding label_block arrivals_block records_of record_bytes records_bytes header filled checked bytes words ones_add ones_sum word block_of right_check contents_of label_body label_byte every arrivals_body count_ok good_records zeroth_of later_of start_of sound_run label_ok next_of arrived call_next written wholes whole_in Blocks.cut block_count sound fresh has_counted packets count_all arrival first counted distance reach_of ahead behind pack marks place moved added row_of row_bytes as_field any_special special doubled doubled_byte decimal digits_of signed line lost places ones ones_in
single_session = began _ (more _ c1_block [] row_most _ (done _ [] (omega arith)))

row_taken : (took_of started label c1_block row_most).refusal ≡ None
unfolding label_block arrivals_block records_of record_bytes records_bytes header filled checked bytes words ones_add ones_sum word block_of right_check contents_of every arrivals_body count_ok good_records later_of next_of arrived took_of fitting wholes whole_in Blocks.cut block_count sound fresh has_counted packets count_all arrival first counted distance reach_of ahead behind pack marks place moved added row_of row_bytes as_field any_special special doubled doubled_byte decimal digits_of signed line lost places ones ones_in
row_taken = refl

pub met_pieces : MetPieces
unfolding label_block arrivals_block records_of record_bytes records_bytes header filled checked bytes words ones_add ones_sum word label_byte every sound_run label_ok sound fresh has_counted places ones ones_in fitting wholes whole_in Blocks.cut
met_pieces = record {
  whole_bytes = below 256 whole (omega arith) refl;
  parted_bytes = below 256 parted (omega arith) refl;
  whole_few = omega arith;
  parted_few = omega arith;
  whole_session = whole_session;
  parted_session = parted_session;
  single_session = single_session;
  sound = refl;
  block_bytes_lem = below 256 c1_block (omega arith) refl;
  row_room = omega arith;
  row_taken = row_taken;
  label_whole = refl;
  label_some = omega arith;
  byte_room = omega arith;
  byte_taken = refl;
}

used : Unit {0}
used =
    let m = met_pieces in
    let whole-printed = trace_prints whole (given c1_block []) m.whole_bytes m.whole_few m.whole_session in
    let parted-printed = trace_prints parted (given (c1_block ++ part) part) m.parted_bytes m.parted_few m.parted_session in
    let session = session_prints _ _ calls ecntable whole (given c1_block []) follows m.whole_bytes m.whole_few m.whole_session in
    let single-printed = calls_print whole single_given m.whole_bytes m.whole_few m.single_session in
    let singles = singles_print _ _ block_calls ecntable whole single_given mirrors m.whole_bytes m.whole_few m.single_session in
    let rows = rows_have_room started label c1_block row_most refl (omega arith) m.sound m.block_bytes_lem m.row_room m.row_taken in
    let blocks = blocks_in_pieces label (c1_block ++ part) m.label_whole in
    let trace = trace_in_pieces label (c1_block ++ part) m.label_whole m.label_some in
    let bytes-taken = room_is_enough _ one (λ s. Unit {0}) 1 (λ i s b p o. (omega arith, tt)) 1 whole tt 2 tt m.whole_bytes m.byte_room m.byte_taken in
    tt
