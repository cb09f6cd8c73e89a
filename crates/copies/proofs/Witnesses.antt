-- The hypotheses are met; each theorem is used with what meets its own. Assumes nothing.
use Rattle.std.specs.Prelude.{Some}
use mathlib.Core.Path.{◌≡◌, refl}
use Rattle.answers.specs.declared.Refusal.TheVariants.{FormTwo}
use Rattle.numbers.specs.BigEndian.{word, bytes}
use Rattle.format.specs.declared.Form.TheVariants.{One, Two}
use Rattle.trace.specs.Checksum.{words, ones_add, ones_sum}
use Rattle.trace.specs.Contents.{every, label_byte, label_body, count_ok, good_records, arrivals_body}
use Rattle.trace.specs.Layout.{record_bytes, records_bytes, record_at, header, filled, checked, label_block, arrivals_block}
use Rattle.trace.specs.Places.{zeroth_of, later_of}
use Rattle.trace.specs.Reading.{right_check, contents_of, block_of}
use Rattle.trace.specs.Theorems.{records_in, list_of}
use Rattle.walk.specs.Blocks.{cut, blocks_of}
use Rattle.walk.specs.Programs.{onward, walk, walked}
use Rattle.forms.specs.Conversions.{timed, next_of}
use Rattle.forms.specs.Converted.{ecnforms}
use Rattle.copies.specs.Fronts.{fault_of}
use Rattle.copies.specs.Theorems.{SoundTrace}
use Rattle.copies.specs.Witnesses.{whole, late, Met}
use Rattle.copies.proofs.Copied.{label_long, copy_is_cut}
use Rattle.copies.proofs.Accepted.{table_accepts, accepted_is_sound, forms_refuse_times}

sound : SoundTrace whole One 4 1
unfolding label_block arrivals_block record_bytes records_bytes header filled checked bytes words ones_add ones_sum word block_of right_check contents_of label_body label_byte every arrivals_body count_ok good_records cut blocks_of zeroth_of later_of fault_of
sound = record { label = refl; own = (refl, tt) }

late_sound : SoundTrace late Two 0 1
unfolding label_block arrivals_block record_bytes records_bytes header filled checked bytes words ones_add ones_sum word block_of right_check contents_of label_body label_byte every arrivals_body count_ok good_records cut blocks_of zeroth_of later_of fault_of
late_sound = record { label = refl; own = (refl, tt) }

late_refused : (walked ecnforms (blocks_of late)).ended ≡ Some (record { refusal = FormTwo; block = 1 })
unfolding label_block arrivals_block record_bytes records_bytes header filled checked bytes words ones_add ones_sum word block_of right_check contents_of label_body label_byte every arrivals_body count_ok good_records records_in record_at list_of cut blocks_of zeroth_of later_of walked walk onward timed next_of
late_refused = refl

pub met : Met
met = record { sound = sound; accepted = table_accepts whole One 4 1 sound; late_sound = late_sound; late_refused = late_refused }

used : Unit {0}
used =
    let cuts = copy_is_cut One 1 (blocks_of whole).zeroth (blocks_of whole).others (label_long (blocks_of whole).zeroth met.sound.label) met.sound.own in
    let table = table_accepts whole One 4 1 met.sound in
    let back = accepted_is_sound whole met.accepted in
    let times = forms_refuse_times late Two 0 1 (record { refusal = FormTwo; block = 1 }) met.late_sound met.late_refused in
    tt
