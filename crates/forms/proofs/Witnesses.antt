-- The hypotheses are met, and each theorem is used where they are. Assumes nothing.
use Rattle.std.specs.Prelude.{Some, None, Ok, Err}
use Rattle.answers.specs.declared.Unwritten.{Unwritten}
use mathlib.Core.Path.{◌≡◌, refl, subst}
use mathlib.Core.Bool.{true}
use mathlib.Core.List.{List, [], ◌++◌, append-nil}
use Prim.Native.Nat.{ℕ, ◌*◌, ◌<◌, ◌≤◌}
use native.Mathlib.Omega.{arith}
use lib.ListN.{length, take, drop, length-append, length-drop}
use Rattle.answers.specs.Writers.{written}
use Rattle.answers.specs.declared.Refusal.TheVariants.{Retired}
use Rattle.numbers.specs.BigEndian.{word, bytes}
use Rattle.format.specs.Blocks.{block_bytes}
use Rattle.format.specs.Forms.{shape_of}
use Rattle.format.specs.declared.Form.TheVariants.{One}
use Rattle.trace.specs.Checksum.{words, ones_add, ones_sum}
use Rattle.trace.specs.Contents.{every, label_byte, label_ok, label_body, count_ok, good_records, arrivals_body}
use Rattle.trace.specs.Layout.{record_bytes, records_bytes, record_at, header, filled, checked, label_block, arrivals_block}
use Rattle.trace.specs.Places.{zeroth_of, later_of}
use Rattle.trace.specs.Reading.{right_check, contents_of, block_of}
use Rattle.trace.specs.Retired.{retired, retired_in}
use Rattle.trace.specs.Theorems.{Below, records_in, list_of}
use Rattle.trace.specs.Writing.{label_fault}
use Rattle.trace.proofs.Limits.{below}
use Rattle.trace.specs.declared.Block.TheVariants.{Label}
use Rattle.walk.specs.Blocks.{cut, blocks_of}
use Rattle.walk.specs.Programs.{Printed, both, onward, walk, walked, closed, printed_by}
use Rattle.walk.specs.Pieces.{wholes, whole_in}
use Rattle.walk.specs.Fitting.{fitting}
use Rattle.walk.specs.Steps.{goes}
use Rattle.walk.specs.Machines.{Gave, Machine, Rest, more, done, Session, began}
use Rattle.walk.specs.Singles.{Held as Single, singly}
use Rattle.walk.proofs.Pieces.{wholes_fit}
use Rattle.forms.specs.Packing.{full_blocks}
use Rattle.forms.specs.Conversions.{timed, next_of, sound, call_next, Carried, holding, begin_of, answer_of, close_fault}
use Rattle.forms.specs.Converted.{converted}
use Rattle.forms.specs.Theorems.{block_calls, Convertible, FullButLast}
use Rattle.forms.specs.Pieces.{progress_of, took_of, Held, calls}
use Rattle.forms.specs.Witnesses.{text, fully, trace, fresh, begun, piece, zeros, Met}
use Rattle.forms.proofs.Whole.{packs}
use Rattle.forms.proofs.Calls.{calls_convert}
use Rattle.forms.proofs.Rooms.{label_room_is_exact, blocks_room_is_exact}
use Rattle.forms.proofs.Returns.{converts_whole, converted_reads, same_records}
use Rattle.forms.proofs.Repacked.{same_bytes}
use Rattle.forms.proofs.Followed.{trace_prints}
use Rattle.forms.proofs.Enough.{blocks_have_room, end_has_room}

octets : Below 256 trace
unfolding label_block arrivals_block record_bytes records_bytes header filled checked bytes words ones_add ones_sum every
octets = below 256 trace (omega arith) refl

label_reads : block_of (blocks_of trace).zeroth ≡ Ok (Label One 2 1)
unfolding label_block arrivals_block record_bytes records_bytes header filled checked bytes words ones_add ones_sum word block_of right_check contents_of label_body label_byte every cut blocks_of
label_reads = refl

retired_text : label_fault text ≡ Some Retired
unfolding label_fault label_ok label_byte every retired retired_in
retired_text = refl

taken : (converted trace).err ≡ []
unfolding label_block arrivals_block record_bytes records_bytes header filled checked bytes words ones_add ones_sum word block_of right_check contents_of label_body label_byte every arrivals_body count_ok good_records records_in record_at list_of cut blocks_of zeroth_of later_of timed next_of converted printed_by walked walk onward closed
taken = refl

convertible : Convertible One 1 (blocks_of trace).others
unfolding label_block arrivals_block record_bytes records_bytes header filled checked bytes words ones_add ones_sum word block_of right_check contents_of every arrivals_body count_ok good_records records_in record_at list_of cut blocks_of
convertible = (62, refl, refl, (1, refl, refl, tt))

full : FullButLast (shape_of One).most (blocks_of trace).others
unfolding label_block arrivals_block record_bytes records_bytes header filled checked bytes words ones_add ones_sum word cut blocks_of
full = (refl, tt)

some : 1 ≤ length (blocks_of trace).others
unfolding label_block arrivals_block record_bytes records_bytes header filled checked bytes words ones_add ones_sum word cut blocks_of
some = omega arith

label_short : begin_of (blocks_of trace).zeroth [] ≡ Err (Unwritten.Room 512)
unfolding label_block arrivals_block record_bytes records_bytes header filled checked bytes words ones_add ones_sum word block_of right_check contents_of label_body label_byte every cut blocks_of zeroth_of written
label_short = refl

short : answer_of fresh [] (goes fully) [] ≡ Err (Unwritten.Room 512)
unfolding arrivals_block record_bytes records_bytes header filled checked bytes words ones_add ones_sum records_in full_blocks written
short = refl

long : length trace ≡ 1536
unfolding label_block arrivals_block record_bytes records_bytes header filled checked bytes words ones_add ones_sum
long = refl

-- a session of one piece, which is taken whole
abbrev start : Held
start = ((calls (zeros 502)).begin (take block_bytes trace)).state

abbrev taking : Gave Held
taking = (calls (zeros 502)).blocks start piece 1024

abbrev rest_printed : Printed
rest_printed = both taking.printed ((calls (zeros 502)).end taking.state (drop taking.taken (piece ++ [])))

all_taken : taking.taken ≡ 1024
unfolding label_block arrivals_block record_bytes records_bytes header filled checked bytes words ones_add ones_sum word block_of right_check contents_of label_body label_byte every arrivals_body count_ok good_records records_in record_at list_of cut wholes whole_in zeroth_of later_of timed next_of full_blocks sound close_fault progress_of took_of fitting
all_taken = refl

short_rest : length (drop taking.taken (piece ++ [])) < block_bytes
short_rest = omega (arith, length-drop taking.taken (piece ++ []), all_taken, length-append piece [], length-drop block_bytes trace, long)

session : (q : Printed) × Session (calls (zeros 502)) trace q
session = (_, began rest_printed (subst (λ (l : List ℕ). Rest (calls (zeros 502)) start l rest_printed) (append-nil piece) (more start piece [] 1024 _ (done _ _ short_rest))))

-- and one of a block at a time
abbrev single : Machine (Single Carried)
single = singly (block_calls (zeros 502))

abbrev single_start : Single Carried
single_start = (single.begin (take block_bytes trace)).state

abbrev first : Gave (Single Carried)
first = single.blocks single_start piece 1024

abbrev first_left : List ℕ
first_left = drop first.taken (piece ++ [])

abbrev second : Gave (Single Carried)
second = single.blocks first.state first_left 1024

abbrev second_left : List ℕ
second_left = drop second.taken (first_left ++ [])

abbrev second_printed : Printed
second_printed = both second.printed (single.end second.state second_left)

abbrev first_printed : Printed
first_printed = both first.printed second_printed

one_each : (first.taken ≡ 512) × (second.taken ≡ 512)
unfolding label_block arrivals_block record_bytes records_bytes header filled checked bytes words ones_add ones_sum word block_of right_check contents_of label_body label_byte every arrivals_body count_ok good_records records_in record_at list_of cut wholes whole_in zeroth_of later_of timed next_of call_next full_blocks sound holding written
one_each = (refl, refl)

none_left : length second_left < block_bytes
none_left =
    omega (arith, length-drop second.taken (first_left ++ []), one_each.0, one_each.1, length-append first_left [], length-drop first.taken (piece ++ []), length-append piece [], length-drop block_bytes trace, long)

one_by_one : (q : Printed) × Session single trace q
one_by_one = (
  _,
  began first_printed
      (subst (λ (l : List ℕ). Rest single single_start l first_printed) (append-nil piece)
      (more single_start piece [] 1024 second_printed
      (subst (λ (l : List ℕ). Rest single first.state l second_printed) (append-nil first_left) (more first.state first_left [] 1024 _ (done _ _ none_left))))),
)

none_refused : (took_of begun (zeros 502) piece (320 * block_bytes)).refusal ≡ None
unfolding label_block arrivals_block record_bytes records_bytes header filled checked bytes words ones_add ones_sum word block_of right_check contents_of every arrivals_body count_ok good_records records_in record_at list_of cut wholes whole_in later_of timed next_of full_blocks took_of fitting
none_refused = refl

sound_fresh : sound fresh (zeros 502) ≡ true
unfolding sound good_records
sound_fresh = refl

blocks_few : wholes piece ≤ 256
blocks_few = omega (arith, wholes_fit piece, length-drop block_bytes trace, long)

pub met : Met
met = record {
  label = label_reads;
  octets = octets;
  retired = retired_text;
  taken = taken;
  convertible = convertible;
  some = some;
  full = full;
  part = omega arith;
  one_by_one = one_by_one;
  label_short = label_short;
  short = short;
  few = omega (arith, long);
  session = session;
  sound = sound_fresh;
  blocks = blocks_few;
  none_refused = none_refused;
}

used : Unit {0}
used =
    let packing = packs trace One 2 1 met.label in
    let converts = converts_whole trace One 2 1 met.label met.convertible in
    let calls = calls_convert (zeros 502) trace met.one_by_one.0 met.part met.octets met.few met.one_by_one.1 in
    let label-room = label_room_is_exact (blocks_of trace).zeroth [] 512 met.label_short in
    let label-given = label-room.given (zeros 512) refl in
    let label-changed = label-room.changed (zeros 512) refl in
    let label-fewer = label-room.fewer (zeros 511) (omega arith) in
    let room = blocks_room_is_exact fresh [] (goes fully) [] 512 met.short in
    let given = room.given (zeros 512) refl in
    let changed = room.changed (zeros 512) refl in
    let fewer = room.fewer (zeros 511) (omega arith) in
    let reads = converted_reads trace One 2 1 met.octets met.label in
    let returns = same_records trace One 2 1 met.octets met.label in
    let bytes = same_bytes trace One 2 1 met.octets met.label met.taken met.full in
    let prints = trace_prints (zeros 502) trace met.session.0 met.part met.octets met.few met.session.1 in
    let blocks-room = blocks_have_room begun (zeros 502) piece (320 * block_bytes) refl met.sound met.blocks (omega arith) met.none_refused in
    let end-room = end_has_room begun (zeros 502) [] met.sound (omega arith) in
    tt
