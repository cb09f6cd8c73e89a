-- The hypotheses are met. Assumes nothing.
use Rattle.std.specs.Prelude.{None, Ok, Err}
use Rattle.answers.specs.declared.Unwritten.{Unwritten}
use mathlib.Core.Path.{◌≡◌, refl}
use mathlib.Core.Bool.{true}
use mathlib.Core.List.{[], ◌∷◌, flat_map}
use Prim.Native.Nat.{◌^◌, ◌≤◌}
use lib.ListN.{length, take, replicate}
use native.Mathlib.Omega.{arith}
use lib.Count.{ones, ones_in}
use lib.Dec.{leb→le}
use lib.Signed.{le_z_yes, lt_z_yes}
use Rattle.answers.specs.Writers.{written}
use Rattle.answers.specs.declared.Refusal.TheVariants.{PacketSize}
use Rattle.numbers.specs.BigEndian.{word, bytes}
use Rattle.format.specs.declared.Form.TheVariants.{One}
use Rattle.source.specs.Arrivals.{arrival, first, counted, distance, ahead, behind}
use Rattle.source.specs.Blocks.{packets, count_all, block_count}
use Rattle.source.specs.Distances.{reach_of}
use Rattle.source.specs.Places.{pack, marks, place, places, moved, added}
use Rattle.source.specs.Record.{sound, fresh, has_counted, lost}
use Rattle.report.specs.Reports.{counts_bytes, feedback_of, feedback_bytes}
use Rattle.rtcp.specs.declared.Profile.{Profile}
use Rattle.rtcp.specs.Header.{header_at, padding}
use Rattle.rtcp.specs.Packets.{padding_right, may_stand}
use Rattle.rtcp.specs.Compound.{begins_in, blocks, reading}
use Rattle.sources.specs.Compounds.{receiver_report}
use Rattle.trace.specs.Checksum.{words, ones_add, ones_sum}
use Rattle.trace.specs.Contents.{every, label_byte, label_ok, label_body, count_ok, good_records, arrivals_body}
use Rattle.trace.specs.Layout.{record_bytes, records_bytes, record_at, header, filled, checked, label_block, arrivals_block}
use Rattle.trace.specs.Reading.{right_check, contents_of, block_of}
use Rattle.trace.specs.Places.{later_of}
use Rattle.trace.specs.Retired.{retired, retired_in}
use Rattle.trace.specs.Writing.{records_of, arrivals_ok, arrivals_fault}
use Rattle.trace.specs.Theorems.{records_in}
use Rattle.trace.proofs.Limits.{below}
use Rattle.trace.specs.declared.Block.TheVariants.{Label}
use Rattle.table.specs.Decimal.{digits_of, decimal, signed}
use Rattle.table.specs.Field.{special, any_special, doubled_byte, doubled, as_field, line}
use Rattle.table.specs.Lines.{row_fault, row_bytes}
use Rattle.table.specs.Theorems.{plain, all_plain}
use Rattle.walk.specs.Blocks as Blocks
use Rattle.walk.specs.Blocks.{blocks_of}
use Rattle.walk.specs.Programs.{onward, walk, walked}
use Rattle.walk.specs.Steps.{fault_in}
use Rattle.convert.specs.Runs.{next_of, sound_run, call_next, row_in, arrived, row_of}
use Rattle.mixed.specs.Places.{found_by, renewed_by, added_by}
use Rattle.mixed.specs.Blocks as lines
use Rattle.mixed.specs.Blocks.{settled}
use Rattle.mixed.specs.Tables.{ecnstreams}
use Rattle.mixed.specs.Witnesses.{trace as sources}
use Rattle.demands.specs.Calls.{run}
use Rattle.demands.specs.PrintedTable.{Holds}
use Rattle.demands.specs.Witnesses.{Met, c1_packets, text, label, c1_block, whole, cut, begun}
use Rattle.demands.proofs.ReadBack.{nothing_made_up}

-- ---- blocks, computed

-- what a block's bytes unfold to
label_reads : block_of label ≡ Ok (Label One (length text) 1)
unfolding label_block header filled checked bytes words ones_add ones_sum word block_of right_check contents_of label_body label_byte every
label_reads = refl

whole_held : Holds whole text 1 c1_packets
unfolding label_block arrivals_block records_of record_bytes records_bytes header filled checked bytes words ones_add ones_sum word block_of right_check contents_of label_body label_byte every arrivals_body count_ok good_records records_in record_at Blocks.cut blocks_of
whole_held = record { form = One; zeroth = refl; text = refl; others = (5, refl, tt); records = refl }

cut_held : Holds cut text 1 c1_packets
unfolding label_block arrivals_block records_of record_bytes records_bytes header filled checked bytes words ones_add ones_sum word block_of right_check contents_of label_body label_byte every arrivals_body count_ok good_records records_in record_at Blocks.cut blocks_of
cut_held = record { form = One; zeroth = refl; text = refl; others = (2, refl, (3, refl, tt)); records = refl }

some_blocks : 1 ≤ length (blocks_of whole).others
unfolding label_block arrivals_block records_of record_bytes records_bytes header filled checked bytes words ones_add ones_sum word Blocks.cut blocks_of
some_blocks = leb→le 1 _ tt

none_refused : (walked ecnstreams (blocks_of sources)).ended ≡ None
unfolding label_block arrivals_block records_of record_bytes records_bytes header filled checked bytes words ones_add ones_sum word block_of right_check contents_of label_body label_byte every arrivals_body count_ok good_records Blocks.cut blocks_of walk walked onward lines.next_of settled found_by renewed_by added_by
none_refused = refl

row_room : written (fault_in (call_next begun label c1_block)) (row_in label (call_next begun label c1_block)) (replicate 40 0) ≡ Err (Unwritten.Room 41)
unfolding label_block arrivals_block records_of record_bytes records_bytes header filled checked bytes words ones_add ones_sum word block_of right_check contents_of label_body label_byte every arrivals_body count_ok good_records call_next sound_run label_ok later_of next_of arrived block_count sound fresh has_counted packets count_all arrival first counted distance reach_of ahead behind pack marks place moved added row_of row_bytes as_field any_special special doubled doubled_byte decimal digits_of signed line lost places ones ones_in written
row_room = refl

-- ---- C1's record, computed

c1_sound : sound (run c1_packets) ≡ true
unfolding arrival first counted distance reach_of ahead behind pack marks place moved added sound fresh has_counted places ones ones_in
c1_sound = refl

room : written None (feedback_bytes 9 1 (run c1_packets)) (replicate 31 0) ≡ Err (Unwritten.Room 32)
unfolding written feedback_of counts_bytes bytes
room = refl

row_accepted : row_fault text (record { source = run c1_packets; jumped = 3; restarts = 2 }) ≡ None
unfolding row_fault label_ok label_byte every
row_accepted = rw c1_sound

rr_cut : reading (take 6 (receiver_report 5)) 1 Profile.Compound ≡ Err PacketSize
unfolding reading flat_map begins_in blocks header_at padding padding_right may_stand word bytes receiver_report
rr_cut = refl

-- ---- all

pub met : Met
unfolding label_block arrivals_block records_of record_bytes records_bytes header filled checked bytes words ones_add ones_sum word block_of right_check contents_of label_body label_byte every arrivals_body count_ok good_records walk onward later_of next_of label_ok retired retired_in arrivals_fault arrivals_ok plain all_plain special
met = record {
  described = record { few = omega arith; steady = (le_z_yes tt, le_z_yes tt, (le_z_yes tt, le_z_yes tt, (le_z_yes tt, le_z_yes tt, (le_z_yes tt, le_z_yes tt, tt)))) };
  again = (
    record { few = omega arith; steady = (le_z_yes tt, le_z_yes tt, (le_z_yes tt, le_z_yes tt, (le_z_yes tt, le_z_yes tt, (le_z_yes tt, le_z_yes tt, tt)))) },
    (λ p. omega arith),
    refl,
  );
  c1_described = record { few = omega arith; steady = (le_z_yes tt, le_z_yes tt, (le_z_yes tt, le_z_yes tt, (le_z_yes tt, le_z_yes tt, (le_z_yes tt, le_z_yes tt, (le_z_yes tt, le_z_yes tt, tt))))) };
  few_jumped = omega arith;
  few_restarts = omega arith;
  c1_seen = refl;
  held = whole_held;
  recut = cut_held;
  whole_bytes = below 256 whole (omega arith) refl;
  some_blocks = some_blocks;
  none_refused = none_refused;
  ends = refl;
  label_new = refl;
  label_bytes = below 256 label (omega arith) refl;
  label_reads = label_reads;
  label_right = refl;
  label_long = refl;
  label_ok_lem = refl;
  plain = refl;
  lists_fit = refl;
  numbers_fit_lem = below (2 ^ 16) (65534 ∷ 65535 ∷ []) (omega arith) refl;
  arrivals_bytes = below 256 c1_block (omega arith) refl;
  arrivals_read = refl;
  since = (le_z_yes tt, lt_z_yes tt);
  signed = (le_z_yes tt, lt_z_yes tt);
  c1_sound = c1_sound;
  ssrcs = (omega arith, omega arith);
  rr_read = nothing_made_up 5 1 Profile.Compound;
  rr_cut = rr_cut;
  row_accepted = row_accepted;
  room = room;
  row_room = row_room;
}
