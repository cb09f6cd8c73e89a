-- The theorems on the converter of forms from C are applied to values: C1's trace, a label and one arrivals block, and a part of 502 zeros. Assumes nothing.
use mathlib.Core.Path.{refl}
use mathlib.Core.List.{List, []}
use Prim.Native.Nat.{ℕ}
use native.Mathlib.Omega.{arith}
use lib.ListN.{replicate}
use Rattle.answers.specs.Writers.{written}
use Rattle.numbers.specs.BigEndian.{word, bytes}
use Rattle.trace.specs.Checksum.{words, ones_add, ones_sum}
use Rattle.trace.specs.Contents.{every, label_byte, label_body, count_ok, good_records, arrivals_body}
use Rattle.trace.specs.Layout.{record_at, record_bytes, records_bytes, header, filled, checked, label_block, arrivals_block}
use Rattle.trace.specs.Places.{zeroth_of, later_of}
use Rattle.trace.specs.Reading.{right_check, contents_of, block_of}
use Rattle.trace.specs.Theorems.{records_in, list_of}
use Rattle.trace.specs.Writing.{records_of}
use Rattle.walk.specs.Blocks as Blocks
use Rattle.walk.specs.Pieces.{wholes, whole_in}
use Rattle.walk.specs.Programs.{Printed}
use Rattle.walk.specs.Machines.{Session, more, done, began}
use Rattle.walk.specs.Singles.{singly}
use Rattle.forms.specs.Packing.{full_blocks}
use Rattle.forms.specs.Conversions.{timed, next_of, call_next, holding, sound}
use Rattle.lent.specs.ConversionWords.{conversion_words}
use Rattle.capi.specs.Codes.{length_code}
use Rattle.capi.specs.FormsCalls.{forms_next}
use Rattle.demands.specs.Witnesses.{label, c1_block, whole}
use Rattle.demands.proofs.WitnessesPieces.{met_pieces}
use Rattle.callers.specs.FormsFromC.{forms_calls}
use Rattle.callers.proofs.FormsFromC.{forms_from_c_print, forms_start_is, forms_block_is}
use Rattle.callers.proofs.Values.{took}

abbrev part : List ℕ
part = replicate 502 0

-- block 0, the next block with an output of 512 bytes, and the end
forms_session : (q : Printed) × Session (singly (forms_calls part)) whole q
unfolding label_block arrivals_block records_of record_bytes records_bytes header filled checked bytes words ones_add ones_sum word block_of right_check contents_of label_body label_byte every arrivals_body count_ok good_records records_in record_at list_of Blocks.cut wholes whole_in zeroth_of later_of timed next_of call_next full_blocks sound holding written forms_next
forms_session = (_, began _ (more _ c1_block [] 512 _ (done _ [] (omega arith))))

used : Unit {0}
used =
    let m = met_pieces in
    let prints = forms_from_c_print part whole forms_session.0 (omega arith) m.whole_bytes m.whole_few forms_session.1 in
    let starts = forms_start_is (record { words = replicate 3 0; part = part }) label [] _ _ _ refl (record { answers = refl; keeps = refl; stores = refl }) in
    let block = forms_block_is (record { words = []; part = part }) c1_block [] _ _ _ _ (record { takes = took length_code (λ s. conversion_words s.conversion) [] _ _ _ []; holds = refl }) in
    tt
