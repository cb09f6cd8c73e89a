-- The witnesses, computed; each theorem is used with what meets its hypotheses. Assumes nothing.
use Rattle.std.specs.Prelude.{Some, None, Ok, Err}
use mathlib.Core.Path.{◌≡◌, refl, subst}
use mathlib.Core.List.{List, [], ◌++◌, append-nil}
use Prim.Native.Nat.{ℕ, ◌<◌}
use native.Mathlib.Omega.{arith}
use lib.ListN.{length, take, drop, length-append, length-drop}
use Rattle.answers.specs.Texts.{codes}
use Rattle.answers.specs.declared.Refusal.TheVariants.{Incomplete, Checksum, FormTwo}
use Rattle.numbers.specs.BigEndian.{word, bytes}
use Rattle.format.specs.Blocks.{block_bytes}
use Rattle.format.specs.declared.Form.TheVariants.{One, Two}
use Rattle.table.specs.Decimal.{digits_of, decimal}
use Rattle.table.specs.Lines.{refused_line, number_line}
use Rattle.trace.specs.Checksum.{words, ones_add, ones_sum}
use Rattle.trace.specs.Contents.{every, label_byte, label_body, count_ok, good_records, arrivals_body}
use Rattle.trace.specs.Layout.{record_bytes, records_bytes, record_at, header, filled, checked, label_block, arrivals_block}
use Rattle.trace.specs.Places.{zeroth_of, later_of}
use Rattle.trace.specs.Reading.{right_check, contents_of, block_of}
use Rattle.trace.specs.Retired.{retired, retired_in, spaced_byte, spaced_label}
use Rattle.trace.specs.Theorems.{records_in, list_of}
use Rattle.trace.proofs.Limits.{below}
use Rattle.walk.specs.Blocks.{cut, blocks_of}
use Rattle.walk.specs.Programs.{Printed, both, onward, walk, walked, closed, printed_by}
use Rattle.walk.specs.Pieces.{Octets, wholes, whole_in}
use Rattle.walk.specs.Machines.{Gave, Rest, more, done, Session, began}
use Rattle.forms.specs.Conversions.{timed, next_of}
use Rattle.forms.specs.Converted.{ecnforms}
use Rattle.copies.specs.Fronts.{fault_of, sound_in}
use Rattle.copies.specs.Witnesses.{arrival, whole, late}
use Rattle.copies.proofs.Witnesses as copies
use Rattle.labels.specs.Labelled.{labelled}
use Rattle.labels.specs.Pieces.{started_of, taken_of, calls}
use Rattle.labels.specs.Theorems.{label_in}
use Rattle.labels.specs.Witnesses.{new, line_end, damaged, tailed, begun, Met}
use Rattle.labels.specs.declared.Progress.{Progress}
use Rattle.labels.proofs.Followed.{trace_prints}
use Rattle.labels.proofs.Copying.{refused_label_lem, refused_block}
use Rattle.labels.proofs.Theorems.{spaced_label_lem, table_takes, forms_take, none_retired, labelled_twice}
use Rattle.labels.proofs.Rooms.{end_has_room, blocks_go_on}
use Rattle.labels.proofs.SameRows.{same_rows}
use Rattle.labels.proofs.Unrefused.{sound_is_taken, taken_is_sound}

copied : (labelled whole).out ≡ new ++ arrival 1 7
unfolding label_block arrivals_block record_bytes records_bytes header filled checked bytes words ones_add ones_sum word block_of right_check contents_of label_body label_byte every arrivals_body count_ok good_records cut blocks_of zeroth_of later_of fault_of retired spaced_byte spaced_label labelled printed_by walked walk onward closed
copied = refl

number : (labelled whole).err ≡ codes "2" ++ line_end
unfolding label_block arrivals_block record_bytes records_bytes header filled checked bytes words ones_add ones_sum word block_of right_check contents_of label_body label_byte every arrivals_body count_ok good_records cut blocks_of zeroth_of later_of fault_of retired retired_in labelled printed_by walked walk onward closed number_line decimal digits_of
number = refl

before : (labelled damaged).out ≡ new ++ arrival 1 7
unfolding label_block arrivals_block record_bytes records_bytes header filled checked bytes words ones_add ones_sum word block_of right_check contents_of label_body label_byte every arrivals_body count_ok good_records cut blocks_of zeroth_of later_of fault_of retired spaced_byte spaced_label labelled printed_by walked walk onward closed
before = refl

refused : (labelled damaged).err ≡ codes "refused 13 block 2" ++ line_end
unfolding label_block arrivals_block record_bytes records_bytes header filled checked bytes words ones_add ones_sum word block_of right_check contents_of label_body label_byte every arrivals_body count_ok good_records cut blocks_of zeroth_of later_of fault_of labelled printed_by walked walk onward closed refused_line decimal digits_of
refused = refl

tail_cut : (labelled tailed).out ≡ new ++ arrival 1 7
unfolding label_block arrivals_block record_bytes records_bytes header filled checked bytes words ones_add ones_sum word block_of right_check contents_of label_body label_byte every arrivals_body count_ok good_records cut blocks_of zeroth_of later_of fault_of retired spaced_byte spaced_label labelled printed_by walked walk onward closed
tail_cut = refl

tail_refused : (labelled tailed).err ≡ codes "refused 1 block 2" ++ line_end
unfolding label_block arrivals_block record_bytes records_bytes header filled checked bytes words ones_add ones_sum word block_of right_check contents_of label_body label_byte every arrivals_body count_ok good_records cut blocks_of zeroth_of later_of fault_of labelled printed_by walked walk onward closed refused_line decimal digits_of
tail_refused = refl

empty_out : (labelled []).out ≡ []
unfolding block_of cut blocks_of zeroth_of labelled printed_by walked walk onward closed
empty_out = refl

empty_err : (labelled []).err ≡ codes "refused 1 block 0" ++ line_end
unfolding block_of cut blocks_of zeroth_of labelled printed_by walked walk onward closed refused_line decimal digits_of
empty_err = refl

octets : Octets whole
unfolding label_block arrivals_block record_bytes records_bytes header filled checked bytes words ones_add ones_sum every
octets = below 256 whole (omega arith) refl

late_octets : Octets late
unfolding label_block arrivals_block record_bytes records_bytes header filled checked bytes words ones_add ones_sum every
late_octets = below 256 late (omega arith) refl

late_refused : (walked ecnforms (blocks_of (labelled late).out)).ended ≡ Some (record { refusal = FormTwo; block = 1 })
unfolding label_block arrivals_block record_bytes records_bytes header filled checked bytes words ones_add ones_sum word block_of right_check contents_of label_body label_byte every arrivals_body count_ok good_records records_in record_at list_of cut blocks_of zeroth_of later_of fault_of retired spaced_byte spaced_label labelled printed_by walked walk onward closed timed next_of
late_refused = refl

late_none : retired_in (label_in 0 late) ≡ 0
unfolding retired_in
late_none = refl

wrong : zeroth_of (blocks_of []).zeroth ≡ Err Incomplete
unfolding block_of blocks_of zeroth_of
wrong = refl

damaged_label : zeroth_of (blocks_of damaged).zeroth ≡ Ok (record { form = One; length = 4; ssrc = 1 })
unfolding label_block header filled checked bytes words ones_add ones_sum word block_of right_check contents_of label_body label_byte every blocks_of zeroth_of
damaged_label = refl

next : (sound_in One 1 (blocks_of damaged).others).refusal ≡ Some Checksum
unfolding label_block arrivals_block record_bytes records_bytes header filled checked bytes words ones_add ones_sum word block_of right_check contents_of every arrivals_body count_ok good_records cut blocks_of later_of fault_of sound_in
next = refl

tailed_octets : Octets tailed
unfolding label_block arrivals_block record_bytes records_bytes header filled checked bytes words ones_add ones_sum every
tailed_octets = below 256 tailed (omega arith) refl

long : length tailed ≡ 1026
unfolding label_block arrivals_block record_bytes records_bytes header filled checked bytes words ones_add ones_sum
long = refl

arrival_long : length (arrival 1 7) ≡ 512
unfolding arrivals_block record_bytes records_bytes header filled checked bytes words ones_add ones_sum
arrival_long = refl

goes_on_lem : (taken_of begun (arrival 1 7)).progress.ended ≡ None
unfolding arrivals_block record_bytes records_bytes header filled checked bytes words ones_add ones_sum word block_of right_check contents_of every arrivals_body count_ok good_records cut wholes whole_in later_of fault_of sound_in taken_of
goes_on_lem = refl

-- a session of one piece
abbrev piece : List ℕ
piece = drop block_bytes tailed

abbrev start : Progress
start = (calls.begin (take block_bytes tailed)).state

abbrev taking : Gave Progress
taking = calls.blocks start piece 0

abbrev rest_printed : Printed
rest_printed = both taking.printed (calls.end taking.state (drop taking.taken (piece ++ [])))

all_taken : taking.taken ≡ 512
unfolding label_block arrivals_block record_bytes records_bytes header filled checked bytes words ones_add ones_sum word block_of right_check contents_of label_body label_byte every arrivals_body count_ok good_records cut wholes whole_in zeroth_of later_of fault_of sound_in started_of taken_of
all_taken = refl

short_rest : length (drop taking.taken (piece ++ [])) < block_bytes
short_rest = omega (arith, length-drop taking.taken (piece ++ []), all_taken, length-append piece [], length-drop block_bytes tailed, long)

session : (q : Printed) × Session calls tailed q
session = (_, began rest_printed (subst (λ (l : List ℕ). Rest calls start l rest_printed) (append-nil piece) (more start piece [] 0 _ (done _ _ short_rest))))

pub met : Met
met = record {
  copied = copied;
  number = number;
  before = before;
  refused = refused;
  cut = tail_cut;
  tail = tail_refused;
  empty_out = empty_out;
  empty_err = empty_err;
  octets = octets;
  late_octets = late_octets;
  late_refused = late_refused;
  none_retired = late_none;
  wrong = wrong;
  labelled = damaged_label;
  next = next;
  tailed_octets = tailed_octets;
  few = omega (arith, long);
  session = session;
  long = omega (arith, arrival_long);
  going = goes_on_lem;
}

used : Unit {0}
used =
    let spaced = spaced_label_lem whole One 4 1 met.octets (copies.met).sound in
    let table = table_takes whole One 4 1 met.octets (copies.met).sound in
    let forms = forms_take late Two 0 1 (record { refusal = FormTwo; block = 1 }) met.late_octets (copies.met).late_sound met.late_refused in
    let same = none_retired late Two 0 1 met.late_octets (copies.met).late_sound met.none_retired in
    let twice = labelled_twice whole One 4 1 met.octets (copies.met).sound in
    let rows = same_rows whole One 4 1 met.octets (copies.met).sound in
    let wrong = refused_label_lem [] Incomplete met.wrong in
    let block = refused_block damaged One 4 1 Checksum met.labelled met.next in
    let none_refused = sound_is_taken whole One 4 1 (copies.met).sound in
    let taken = taken_is_sound whole none_refused in
    let end-room = end_has_room begun [] (omega arith) (omega arith) in
    let blocks = blocks_go_on begun (arrival 1 7) refl met.long met.going in
    let prints = trace_prints tailed met.session.0 met.tailed_octets met.few met.session.1 in
    tt
