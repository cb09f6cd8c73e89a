-- The hypotheses are met, and each theorem is used where they are. Assumes nothing.
use Rattle.std.specs.Prelude.{Ok}
use mathlib.Core.Path.{◌≡◌, refl}
use mathlib.Core.List.{List, [], ◌∷◌}
use Prim.Native.Nat.{ℕ}
use native.Mathlib.Omega.{arith}
use lib.Count.{ones, ones_in}
use lib.ListN.{take, drop}
use Rattle.answers.specs.Writers.{written}
use Rattle.numbers.specs.BigEndian.{word, bytes}
use Rattle.numbers.specs.Since.{signed as signedWord}
use Rattle.format.specs.Blocks.{block_bytes}
use Rattle.format.specs.declared.Form.TheVariants.{One}
use Rattle.source.specs.Arrivals.{arrival, first, counted, distance, ahead, behind, jumped, remembering}
use Rattle.source.specs.Blocks.{packets, count_all, block_count}
use Rattle.source.specs.Distances.{reach_of}
use Rattle.source.specs.Places.{pack, marks, place, places, moved, added}
use Rattle.source.specs.Record.{sound, fresh, has_counted, lost}
use Rattle.trace.specs.Checksum.{words, ones_add, ones_sum}
use Rattle.trace.specs.Contents.{every, label_byte, label_body, count_ok, good_records, arrivals_body}
use Rattle.trace.specs.Layout.{record_bytes, records_bytes, header, filled, checked, label_block, arrivals_block}
use Rattle.trace.specs.Reading.{right_check, contents_of, block_of}
use Rattle.trace.specs.Writing.{records_of}
use Rattle.trace.specs.declared.Block.TheVariants.{Label}
use Rattle.trace.proofs.Limits.{below}
use Rattle.table.specs.Decimal.{digits_of, decimal, signed}
use Rattle.table.specs.Field.{special, any_special, doubled_byte, doubled, as_field, line}
use Rattle.table.specs.Lines.{row_bytes}
use Rattle.lent.specs.SourceWords.{source_with, source_words}
use Rattle.walk.specs.Blocks.{cut, blocks_of}
use Rattle.walk.specs.Programs.{Printed}
use Rattle.walk.specs.Pieces.{wholes, whole_in}
use Rattle.walk.specs.Machines.{Gave, more, done, Session, began}
use Rattle.walk.specs.Singles.{Held}
use Rattle.mixed.specs.Places.{found_by, renewed_by, added_by}
use Rattle.mixed.specs.Lines.{lines_in, totals_in, line_words}
use Rattle.mixed.specs.Blocks.{counted as counted_in, settled, next_of}
use Rattle.mixed.specs.Runs.{start_of, sound_run, call_next}
use Rattle.mixed.specs.Rows.{row_of}
use Rattle.mixed.specs.Theorems.{Lent, OfSources}
use Rattle.mixed.specs.Witnesses as some
use Rattle.mixed.specs.Witnesses.{Met}
use Rattle.mixed.proofs.Whole.{calls_print}
use Rattle.mixed.proofs.Suffice.{sixteen_suffice}

abbrev blocks : List ℕ
blocks = drop block_bytes some.trace

abbrev begun : Held Lent
begun = ((some.single).begin (take block_bytes some.trace)).state

-- a call for the next block, and what it leaves
abbrev took_1 : Gave (Held Lent)
took_1 = (some.single).blocks begun blocks 0

abbrev took_2 : Gave (Held Lent)
took_2 = (some.single).blocks took_1.state (drop block_bytes blocks) 0

abbrev took_3 : Gave (Held Lent)
took_3 = (some.single).blocks took_2.state (drop block_bytes (drop block_bytes blocks)) 0

session : (q : Printed) × Session some.single some.trace q
unfolding label_block arrivals_block records_of record_bytes records_bytes header filled checked bytes words ones_add ones_sum word block_of right_check contents_of label_body label_byte every arrivals_body count_ok good_records cut start_of sound_run call_next next_of settled counted_in found_by renewed_by added_by lines_in totals_in line_words source_with source_words signedWord block_count sound fresh has_counted packets count_all arrival first counted distance reach_of ahead behind jumped remembering pack marks place moved added row_of row_bytes as_field any_special special doubled doubled_byte decimal digits_of signed line lost places ones ones_in wholes whole_in written
session = (
  _,
  began _ (more begun blocks [] 0 _ (more took_1.state (drop block_bytes blocks) [] 0 _
      (more took_2.state (drop block_bytes (drop block_bytes blocks)) [] 0 _ (done took_3.state [] (omega arith))))),
)

label_reads : block_of (blocks_of some.trace).zeroth ≡ Ok (Label One 1 9)
unfolding label_block arrivals_block records_of record_bytes records_bytes header filled checked bytes words ones_add ones_sum word block_of right_check contents_of label_body label_byte every cut blocks_of
label_reads = refl

sources : OfSources One (1 ∷ 2 ∷ []) (blocks_of some.trace).others
unfolding label_block arrivals_block records_of record_bytes records_bytes header filled checked bytes words ones_add ones_sum word block_of right_check contents_of every arrivals_body count_ok good_records cut blocks_of
sources = (2, 2, refl, refl, (2, 1, refl, refl, (1, 2, refl, refl, tt)))

pub met : Met
unfolding label_block arrivals_block records_of record_bytes records_bytes header filled checked bytes words ones_add ones_sum word every
met = record {
  bytes = below 256 some.trace (omega arith) refl;
  few = omega arith;
  room = omega arith;
  session = session;
  label = label_reads;
  sources = sources;
}

used : Unit {0}
used =
    let printed = calls_print some.trace some.words met.session.0 met.bytes met.few met.room met.session.1 in
    let whole = sixteen_suffice some.trace (1 ∷ 2 ∷ []) One 1 9 met.label met.sources (omega arith) in
    tt
