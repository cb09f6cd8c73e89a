-- The theorems on the runs from C are applied to values: C1's trace, a label and one arrivals block. Assumes nothing.
use Rattle.std.specs.Prelude.{Result}
use Rattle.answers.specs.declared.Unwritten.{Unwritten}
use mathlib.Core.Path.{refl}
use mathlib.Core.List.{List, []}
use Prim.Native.Nat.{ℕ}
use native.Mathlib.Omega.{arith}
use lib.Count.{ones, ones_in}
use lib.ListN.{replicate}
use Rattle.answers.specs.Writers.{written, stored}
use Rattle.numbers.specs.BigEndian.{word, bytes}
use Rattle.numbers.specs.Since as since
use Rattle.source.specs.Arrivals.{arrival, first, counted, distance, ahead, behind}
use Rattle.source.specs.Blocks.{packets, count_all, block_count}
use Rattle.source.specs.Distances.{reach_of}
use Rattle.source.specs.Places.{pack, marks, place, places, moved, added}
use Rattle.source.specs.Record.{sound, fresh, has_counted, lost}
use Rattle.trace.specs.Checksum.{words, ones_add, ones_sum}
use Rattle.trace.specs.Contents.{every, label_byte, label_ok, label_body, count_ok, good_records, arrivals_body}
use Rattle.trace.specs.Layout.{record_bytes, records_bytes, header, filled, checked, label_block, arrivals_block}
use Rattle.trace.specs.Places.{zeroth_of, later_of}
use Rattle.trace.specs.Reading.{right_check, contents_of, block_of}
use Rattle.trace.specs.Writing.{records_of}
use Rattle.table.specs.Decimal.{digits_of, decimal, signed}
use Rattle.table.specs.Field.{special, any_special, doubled_byte, doubled, as_field, line}
use Rattle.table.specs.Lines.{row_bytes}
use Rattle.table.specs.Theorems.{row_most}
use Rattle.walk.specs.Blocks as Blocks
use Rattle.walk.specs.Pieces.{wholes, whole_in}
use Rattle.walk.specs.Programs.{Printed}
use Rattle.walk.specs.Steps.{Next, fault_in, state_after}
use Rattle.walk.specs.Machines.{Session, more, done, began}
use Rattle.walk.specs.Singles.{singly}
use Rattle.convert.specs.Runs.{start_of, sound_run, next_of, call_next, arrived, row_of}
use Rattle.convert.specs.Theorems.{block_calls}
use Rattle.lent.specs.RunWords.{run_with, run_words}
use Rattle.lent.specs.SourceWords.{source_with, source_words}
use Rattle.capi.specs.Codes.{length_code}
use Rattle.capi.specs.StepCalls.{words_after, Takes}
use Rattle.capi.specs.RunCalls.{run_next}
use Rattle.demands.specs.Witnesses.{label, c1_block, whole}
use Rattle.demands.proofs.WitnessesPieces.{met_pieces}
use Rattle.callers.specs.RunFromC.{run_calls}
use Rattle.callers.proofs.Sessions.{session_reads}
use Rattle.callers.proofs.RunFromC.{reads_as, run_from_c_prints, run_start_is, run_block_is}

-- what a function of a run gives on values
pub took : {R A : Type 0} (code : Result ℕ Unwritten → R) (words_of : A → List ℕ) (words : List ℕ) (given : A) (next : Next A) (bytes old : List ℕ)
    → let w = written (fault_in next) bytes old in Takes code words_of words given next bytes old (code w) (words_after words (words_of (state_after given next w)) w) (stored (fault_in next) bytes old)
took code words_of words given next bytes old = record { answers = refl; keeps = refl; stores = refl }

-- block 0, the next block with room for its row, and the end
run_session : (q : Printed) × Session (singly run_calls) whole q
unfolding label_block arrivals_block records_of record_bytes records_bytes header filled checked bytes words ones_add ones_sum word block_of right_check contents_of label_body label_byte every arrivals_body count_ok good_records zeroth_of later_of start_of sound_run label_ok next_of arrived call_next written wholes whole_in Blocks.cut block_count sound fresh has_counted packets count_all arrival first counted distance reach_of ahead behind pack marks place moved added row_of row_bytes as_field any_special special doubled doubled_byte decimal digits_of signed line lost places ones ones_in run_next run_with run_words source_with source_words since.signed
run_session = (_, began _ (more _ c1_block [] row_most _ (done _ [] (omega arith))))

used : Unit {0}
used =
    let m = met_pieces in
    let prints = run_from_c_prints whole run_session.0 m.whole_bytes m.whole_few run_session.1 in
    let reads = session_reads _ _ run_calls block_calls whole run_session.0 reads_as m.whole_bytes run_session.1 in
    let starts = run_start_is label (replicate 15 0) _ _ refl (record { answers = refl; stores = refl }) in
    let block = run_block_is (record { words = []; zeroth = label }) c1_block [] _ _ _ (took length_code run_words [] _ _ _ []) in
    tt
