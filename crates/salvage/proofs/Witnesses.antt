-- The witnesses, computed; each theorem is used with what meets its hypotheses. Assumes nothing.
use Rattle.std.specs.Prelude.{Some, Ok, Err}
use mathlib.Core.Path.{◌≡◌, refl, subst}
use mathlib.Core.List.{List, [], ◌++◌, append-nil}
use Prim.Native.Nat.{ℕ, ◌<◌}
use native.Mathlib.Omega.{arith}
use lib.ListN.{length, take, drop, replicate, length-append, length-drop}
use Rattle.answers.specs.Writers.{written}
use Rattle.answers.specs.Texts.{codes}
use Rattle.answers.specs.declared.Refusal.TheVariants.{Incomplete, Checksum, FormTwo}
use Rattle.answers.proofs.Stores.{wrote_all}
use Rattle.numbers.specs.BigEndian.{word, bytes}
use Rattle.format.specs.Blocks.{block_bytes}
use Rattle.format.specs.declared.Form.TheVariants.{One, Two}
use Rattle.table.specs.Decimal.{digits_of, decimal}
use Rattle.table.specs.Lines.{refused_line}
use Rattle.trace.specs.Checksum.{words, ones_add, ones_sum}
use Rattle.trace.specs.Contents.{every, label_byte, label_body, count_ok, good_records, arrivals_body}
use Rattle.trace.specs.Layout.{record_bytes, records_bytes, record_at, header, filled, checked, label_block, arrivals_block}
use Rattle.trace.specs.Places.{zeroth_of, later_of}
use Rattle.trace.specs.Reading.{right_check, contents_of, block_of}
use Rattle.trace.proofs.Limits.{below}
use Rattle.walk.specs.Blocks.{cut, blocks_of}
use Rattle.walk.specs.Programs.{Printed, both, onward, walk, walked, closed, printed_by}
use Rattle.walk.specs.Pieces.{Octets, wholes, whole_in}
use Rattle.walk.specs.Machines.{Gave, Rest, more, done, Session, began}
use Rattle.trace.specs.Theorems.{records_in, list_of}
use Rattle.source.specs.Totals.{fresh_totals}
use Rattle.forms.specs.Conversions.{timed, next_of}
use Rattle.forms.specs.Converted.{ecnforms}
use Rattle.copies.specs.Fronts.{fault_of, sound_in}
use Rattle.copies.specs.Witnesses.{label, arrival, whole, late}
use Rattle.copies.proofs.Witnesses as copies
use Rattle.salvage.specs.Salvaged.{turn_of, salvaged}
use Rattle.salvage.specs.Pieces.{begun_of, portion_of, moved_by, Takes, calls}
use Rattle.salvage.specs.Witnesses.{line_end, unread, damaged, tailed, begun, Met}
use Rattle.salvage.specs.declared.Progress.{Progress}
use Rattle.salvage.proofs.Followed.{trace_prints}
use Rattle.salvage.proofs.Sorting.{salvage_sorts, wrong_label}
use Rattle.salvage.proofs.Rooms.{line_has_room, end_has_room, blocks_go_on}
use Rattle.salvage.proofs.Theorems.{listed_is_refused, salvage_accepted, salvage_converts, label_is_kept, salvage_again, accepted_is_same}

saved : (salvaged damaged).out ≡ label ++ (arrival 1 7 ++ arrival 1 9)
unfolding label_block arrivals_block record_bytes records_bytes header filled checked bytes words ones_add ones_sum word block_of right_check contents_of label_body label_byte every arrivals_body count_ok good_records cut blocks_of zeroth_of later_of fault_of turn_of salvaged printed_by walked walk onward closed
saved = refl

listed : (salvaged damaged).err ≡ (codes "refused 13 block 2" ++ line_end) ++ (codes "refused 14 block 3" ++ line_end)
unfolding label_block arrivals_block record_bytes records_bytes header filled checked bytes words ones_add ones_sum word block_of right_check contents_of label_body label_byte every arrivals_body count_ok good_records cut blocks_of zeroth_of later_of fault_of turn_of salvaged printed_by walked walk onward closed refused_line decimal digits_of
listed = refl

tail_cut : (salvaged tailed).out ≡ label ++ arrival 1 7
unfolding label_block arrivals_block record_bytes records_bytes header filled checked bytes words ones_add ones_sum word block_of right_check contents_of label_body label_byte every arrivals_body count_ok good_records cut blocks_of zeroth_of later_of fault_of turn_of salvaged printed_by walked walk onward closed
tail_cut = refl

tail_listed : (salvaged tailed).err ≡ codes "refused 1 block 2" ++ line_end
unfolding label_block arrivals_block record_bytes records_bytes header filled checked bytes words ones_add ones_sum word block_of right_check contents_of label_body label_byte every arrivals_body count_ok good_records cut blocks_of zeroth_of later_of fault_of turn_of salvaged printed_by walked walk onward closed refused_line decimal digits_of
tail_listed = refl

empty_out : (salvaged []).out ≡ []
unfolding block_of cut blocks_of zeroth_of salvaged printed_by walked walk onward closed
empty_out = refl

empty_err : (salvaged []).err ≡ codes "refused 1 block 0" ++ line_end
unfolding block_of cut blocks_of zeroth_of salvaged printed_by walked walk onward closed refused_line decimal digits_of
empty_err = refl

labelled : zeroth_of (blocks_of damaged).zeroth ≡ Ok (record { form = One; length = 4; ssrc = 1 })
unfolding label_block header filled checked bytes words ones_add ones_sum word block_of right_check contents_of label_body label_byte every blocks_of zeroth_of
labelled = refl

late_labelled : zeroth_of (blocks_of late).zeroth ≡ Ok (record { form = Two; length = 0; ssrc = 1 })
unfolding label_block header filled checked bytes words ones_add ones_sum word block_of right_check contents_of label_body every blocks_of zeroth_of
late_labelled = refl

late_refused : (walked ecnforms (blocks_of (salvaged late).out)).ended ≡ Some (record { refusal = FormTwo; block = 1 })
unfolding label_block arrivals_block record_bytes records_bytes header filled checked bytes words ones_add ones_sum word block_of right_check contents_of label_body label_byte every arrivals_body count_ok good_records records_in record_at list_of cut blocks_of zeroth_of later_of fault_of turn_of salvaged printed_by walked walk onward closed timed next_of
late_refused = refl

wrong : zeroth_of (blocks_of []).zeroth ≡ Err Incomplete
unfolding block_of blocks_of zeroth_of
wrong = refl

zeros_read : later_of One 1 unread ≡ Err Checksum
unfolding word words ones_add ones_sum block_of right_check later_of
zeros_read = refl

arrival_long : length (arrival 1 7) ≡ 512
unfolding arrivals_block record_bytes records_bytes header filled checked bytes words ones_add ones_sum
arrival_long = refl

arrival_taken : portion_of begun (arrival 1 7) ≡ record { copied = 1; taken = 1; line = [] }
unfolding arrivals_block record_bytes records_bytes header filled checked bytes words ones_add ones_sum word block_of right_check contents_of every arrivals_body count_ok good_records cut wholes whole_in later_of fault_of sound_in portion_of
arrival_taken = refl

taken : Takes begun (arrival 1 7) (replicate 64 0) (record { copied = 512; bytes = 512; answer = Ok 0; progress = moved_by begun 1 }) (replicate 64 0)
taken = rw arrival_taken (record { wrote = wrote_all [] (replicate 64 0) refl (omega arith) refl refl; taken = refl })

octets : Octets tailed
unfolding label_block arrivals_block record_bytes records_bytes header filled checked bytes words ones_add ones_sum every
octets = below 256 tailed (omega arith) refl

long : length tailed ≡ 1026
unfolding label_block arrivals_block record_bytes records_bytes header filled checked bytes words ones_add ones_sum
long = refl

-- a session of one piece
abbrev piece : List ℕ
piece = drop block_bytes tailed

abbrev start : Progress
start = (calls.begin (take block_bytes tailed)).state

abbrev taking : Gave Progress
taking = calls.blocks start piece 64

abbrev rest_printed : Printed
rest_printed = both taking.printed (calls.end taking.state (drop taking.taken (piece ++ [])))

all_taken : taking.taken ≡ 512
unfolding label_block arrivals_block record_bytes records_bytes header filled checked bytes words ones_add ones_sum word block_of right_check contents_of label_body label_byte every arrivals_body count_ok good_records cut wholes whole_in zeroth_of later_of fault_of sound_in begun_of portion_of written
all_taken = refl

short_rest : length (drop taking.taken (piece ++ [])) < block_bytes
short_rest = omega (arith, length-drop taking.taken (piece ++ []), all_taken, length-append piece [], length-drop block_bytes tailed, long)

session : (q : Printed) × Session calls tailed q
session = (_, began rest_printed (subst (λ (l : List ℕ). Rest calls start l rest_printed) (append-nil piece) (more start piece [] 64 _ (done _ _ short_rest))))

pub met : Met
met = record {
  saved = saved;
  listed = listed;
  cut = tail_cut;
  tail = tail_listed;
  empty_out = empty_out;
  empty_err = empty_err;
  labelled = labelled;
  late_labelled = late_labelled;
  late_refused = late_refused;
  wrong = wrong;
  octets = octets;
  few = omega (arith, long);
  session = session;
  zeros = zeros_read;
  long = omega (arith, arrival_long);
  taken = taken;
}

used : Unit {0}
used =
    let sorts = salvage_sorts damaged One 4 1 met.labelled in
    let accepted = salvage_accepted damaged One 4 1 met.labelled in
    let converts = salvage_converts late Two 0 1 (record { refusal = FormTwo; block = 1 }) met.late_labelled met.late_refused in
    let kept = label_is_kept damaged One 4 1 met.labelled in
    let again = salvage_again damaged One 4 1 met.labelled in
    let wrong = wrong_label [] Incomplete met.wrong in
    let refused = listed_is_refused (record { form = One; length = 4; ssrc = 1; totals = fresh_totals }) unread Checksum met.zeros in
    let line-room = line_has_room begun (arrival 1 7) (omega arith) in
    let end-room = end_has_room begun [] (omega arith) in
    let goes_on_lem = blocks_go_on begun (arrival 1 7) (replicate 64 0) (record { copied = 512; bytes = 512; answer = Ok 0; progress = moved_by begun 1 }) (replicate 64 0) refl (omega arith) met.long (omega arith) met.taken in
    let same = accepted_is_same whole (copies.met).accepted in
    let prints = trace_prints tailed met.session.0 met.octets met.few met.session.1 in
    tt
