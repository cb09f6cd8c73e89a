-- The hypotheses on a run are met, and each theorem is used where they are. Assumes nothing.
use Rattle.std.specs.Prelude.{None}
use mathlib.Core.Path.{◌≡◌, refl}
use mathlib.Core.List.{List, []}
use Prim.Native.Nat.{ℕ}
use native.Mathlib.Omega.{arith}
use lib.Count.{ones, ones_in}
use lib.ListN.{drop}
use Rattle.answers.specs.Writers.{written}
use Rattle.numbers.specs.BigEndian.{word, bytes}
use Rattle.numbers.specs.Since.{signed as signedWord}
use Rattle.format.specs.Blocks.{block_bytes}
use Rattle.source.specs.Arrivals.{arrival, first, counted, distance, ahead, behind, jumped, remembering}
use Rattle.source.specs.Blocks.{packets, count_all, block_count}
use Rattle.source.specs.Distances.{reach_of}
use Rattle.source.specs.Places.{pack, marks, place, places, moved, added}
use Rattle.source.specs.Record.{sound, fresh, has_counted}
use Rattle.trace.specs.Checksum.{words, ones_add, ones_sum}
use Rattle.trace.specs.Contents.{every, label_byte, label_body, count_ok, good_records, arrivals_body, label_ok}
use Rattle.trace.specs.Layout.{record_bytes, records_bytes, header, filled, checked, label_block, arrivals_block}
use Rattle.trace.specs.Reading.{right_check, contents_of, block_of}
use Rattle.trace.specs.Writing.{records_of}
use Rattle.trace.proofs.Limits.{below}
use Rattle.walk.specs.Blocks.{cut}
use Rattle.walk.specs.Fitting.{fitting}
use Rattle.walk.specs.Programs.{Printed}
use Rattle.walk.specs.Pieces.{wholes, whole_in}
use Rattle.walk.specs.Machines.{Gave, more, done, Session, began}
use Rattle.walk.specs.Singles.{Held as Handed}
use Rattle.sources.specs.Places.{held_of, rest_of}
use Rattle.sources.specs.Rules.{rising, fault}
use Rattle.sources.specs.Stands.{stands_at, found, put, with_place}
use Rattle.sources.specs.Answers.{refusal, count_answer, count_places}
use Rattle.sources.specs.Tables.{fault_in, counted_in}
use Rattle.sources.specs.Tallies.{shifted, tallied}
use Rattle.sources.specs.Runs.{start_of, counted_run, next_of, run_fault, call_next}
use Rattle.sources.specs.Rows.{rows_fault}
use Rattle.sources.specs.Streams.{Kept}
use Rattle.sources.specs.Pieces.{Held, begin_of, took_of, end_fault, calls}
use Rattle.sources.specs.RunWitnesses as some
use Rattle.sources.specs.RunWitnesses.{MetRun}
use Rattle.sources.proofs.Streamed.{trace_prints}
use Rattle.sources.proofs.EndRoom.{end_has_room}
use Rattle.sources.proofs.SingleCalls.{calls_print, lines_rise}

abbrev blocks : List ℕ
blocks = drop block_bytes some.trace

-- ---- the calls for one block each

abbrev begun : Handed Kept
begun = ((some.single).begin some.zeroth).state

abbrev took_1 : Gave (Handed Kept)
took_1 = (some.single).blocks begun blocks 0

abbrev took_2 : Gave (Handed Kept)
took_2 = (some.single).blocks took_1.state (drop block_bytes blocks) 0

abbrev took_3 : Gave (Handed Kept)
took_3 = (some.single).blocks took_2.state (drop block_bytes (drop block_bytes blocks)) 0

singles : (q : Printed) × Session some.single some.trace q
unfolding label_block arrivals_block records_of record_bytes records_bytes header filled checked bytes words ones_add ones_sum word block_of right_check contents_of label_body label_byte every arrivals_body count_ok good_records cut start_of run_fault call_next next_of counted_run counted_in count_answer count_places refusal fault_in fault held_of rest_of rising stands_at found put with_place shifted tallied signedWord block_count sound fresh has_counted packets count_all arrival first counted distance reach_of ahead behind jumped remembering pack marks place moved added places ones ones_in wholes whole_in written
singles = (
  _,
  began _ (more begun blocks [] 0 _ (more took_1.state (drop block_bytes blocks) [] 0 _
      (more took_2.state (drop block_bytes (drop block_bytes blocks)) [] 0 _ (done took_3.state [] (omega arith))))),
)

-- ---- the calls over pieces: all blocks at once

abbrev took : Gave Held
took = calls.blocks some.begun blocks 0

pieces : (q : Printed) × Session calls some.trace q
unfolding label_block arrivals_block records_of record_bytes records_bytes header filled checked bytes words ones_add ones_sum word block_of right_check contents_of label_body label_byte label_ok every arrivals_body count_ok good_records cut start_of begin_of took_of fitting rows_fault run_fault next_of counted_run counted_in count_answer count_places refusal fault_in fault held_of rest_of rising stands_at found put with_place shifted tallied signedWord block_count sound fresh has_counted packets count_all arrival first counted distance reach_of ahead behind jumped remembering pack marks place moved added places ones ones_in wholes whole_in
pieces = (_, began _ (more some.begun blocks [] 0 _ (done took.state [] (omega arith))))

good : end_fault (some.begun).progress some.zeroth (some.begun).progress.ended [] ≡ None
unfolding label_block arrivals_block records_of record_bytes records_bytes header filled checked bytes words ones_add ones_sum word block_of right_check contents_of label_body label_byte label_ok every start_of begin_of rows_fault run_fault fault_in fault held_of rest_of rising fresh
good = refl

pub met_run : MetRun
unfolding label_block arrivals_block records_of record_bytes records_bytes header filled checked bytes words ones_add ones_sum word every block_of right_check contents_of label_body label_byte start_of begin_of
met_run = record {
  bytes = below 256 some.trace (omega arith) refl;
  few = omega arith;
  singles = singles;
  pieces = pieces;
  narrow = (omega arith, (omega arith, (omega arith, (omega arith, (omega arith, (omega arith, (omega arith, (omega arith, (omega arith, (omega arith, (omega arith, (omega arith, (omega arith, (omega arith, (omega arith, (omega arith, tt))))))))))))))));
  small = omega arith;
  good = good;
}

used : Unit {0}
used =
    let by-single = calls_print some.trace met_run.singles.0 met_run.bytes met_run.few met_run.singles.1 in
    let by-pieces = trace_prints some.trace met_run.pieces.0 met_run.bytes met_run.few met_run.pieces.1 in
    let in_order = lines_rise some.trace met_run.bytes in
    let room = end_has_room (some.begun).progress some.zeroth [] met_run.small met_run.narrow met_run.good in
    tt
