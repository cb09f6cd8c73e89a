-- What the functions of trace blocks and table rows give and leave (include/flasknib.h, "trace blocks and table rows").
use Rattle.answers.specs.declared.Unwritten.{Unwritten}
use Rattle.trace.specs.declared.Record.{Record}
use Rattle.std.specs.Prelude.{ℕ, ◌+◌, ◌*◌, cond, List, [], ◌∷◌, ℤ, pos, neg_ℤ, Option, Some, None, Result, Ok, Err}
use Rattle.answers.specs.Refusals.{number_of, room_number}
use Rattle.answers.specs.declared.Refusal.{Refusal}
use Rattle.answers.specs.declared.Refusal.TheVariants.{Limits}
use Rattle.format.specs.Forms.{shape_of}
use Rattle.source.specs.declared.Totals.{Totals}
use Rattle.trace.specs.declared.Block.{Block}
use Rattle.trace.specs.declared.Block.TheVariants.{Label, Arrivals}
use Rattle.trace.specs.Numbered.{later_as}
use Rattle.trace.specs.Layout.{label_block, arrivals_block, records_block}
use Rattle.trace.specs.Reading.{block_of, found_at}
use Rattle.trace.specs.Places.{zeroth_of, later_of}
use Rattle.trace.specs.Rewriting.{zeroth_fault, block_spaced, replaced_in, spaced_by}
use Rattle.trace.specs.Writing.{label_fault, records_of, arrivals_fault, body_fault}
use Rattle.table.specs.Lines.{head_bytes, row_fault, row_bytes, refused_line}
use Rattle.lent.specs.FormWords.{is_form, form_of}
use Rattle.lent.specs.SourceWords.{source_of}
use Rattle.capi.specs.Codes.{length_code, refusal_code, Gives}
use Rattle.capi.specs.OneSource.{record_fault}

-- ---- flasknib_read_block

-- the block's refusal
abbrev pub block_fault : Result Block Refusal → Option Refusal
block_fault (Ok (Label form length ssrc)) = None
block_fault (Ok (Arrivals form count ssrc)) = None
block_fault (Err refusal) = Some refusal

-- its kind, 1 to 4; the label's length or the number of records; the SSRC
abbrev pub found_words : Result Block Refusal → List ℕ
found_words (Ok (Label form length ssrc)) = (shape_of form).label ∷ length ∷ ssrc ∷ []
found_words (Ok (Arrivals form count ssrc)) = (shape_of form).arrivals ∷ count ∷ ssrc ∷ []
found_words (Err refusal) = []

-- "Trace file": 1, 13, 14, 12; or 0 and the three words
abbrev pub ReadsBlock : List ℕ → List ℕ → ℕ → List ℕ → Type 0
ReadsBlock block old r found =
    Gives refusal_code
    (block_fault (block_of block))
    (found_words (block_of block))
    old r found

-- ---- flasknib_read_own

-- 0, or what a later block is refused with: the paper's number
abbrev pub later_code : Result ℕ Refusal → ℕ
later_code answer = (later_as answer).number

-- "Trace file", a later block, by the label's form and SSRC: 10 for another form than 1 or 2; 1, 13, 14; or 0
abbrev pub own_code : ℕ → ℕ → List ℕ → ℕ
own_code form ssrc block = cond (is_form form) (later_code (later_of (form_of form) ssrc block)) (number_of Limits)

-- ---- flasknib_record_at

abbrev pub found_fault : Result Record Refusal → Option Refusal
found_fault (Ok r) = None
found_fault (Err refusal) = Some refusal

-- its time, its wire number and its mark
abbrev pub record_words : Result Record Refusal → List ℕ
record_words (Ok r) = r.time ∷ r.number.0 ∷ r.mark ∷ []
record_words (Err refusal) = []

-- "Trace file", the record i: 1, 14, 10, 12; or 0 and the three words
abbrev pub FindsRecord : List ℕ → ℕ → List ℕ → ℕ → List ℕ → Type 0
FindsRecord block i old r found =
    Gives refusal_code
    (found_fault (found_at block i))
    (record_words (found_at block i))
    old r found

-- ---- flasknib_write_label, flasknib_write_arrivals, flasknib_write_records

-- 10 for another form than 1 or 2
abbrev pub form_fault : ℕ → Option Refusal → Option Refusal
form_fault number fault = cond (is_form number) fault (Some Limits)

-- "Trace file", block 0 of a new label: 10, 19, 12; or the block's 512 bytes
abbrev pub WritesLabel : ℕ → List ℕ → ℕ → List ℕ → ℤ → List ℕ → Type 0
WritesLabel form label ssrc old r out =
    Gives length_code
    (form_fault form (label_fault label))
    (label_block (shape_of (form_of form)) label ssrc)
    old r out

-- "Trace file", the others: 10, 12; or the block's 512 bytes
abbrev pub WritesArrivals : ℕ → List ℕ → List ℕ → List ℕ → ℕ → List ℕ → ℤ → List ℕ → Type 0
WritesArrivals form times numbers marks ssrc old r out =
    Gives length_code
    (form_fault form (arrivals_fault (shape_of (form_of form)) times numbers marks))
    (arrivals_block (shape_of (form_of form)) (records_of times numbers marks) ssrc)
    old r out

-- the same block from the bytes of its records: 10, 12; or its 512 bytes
abbrev pub WritesRecords : ℕ → List ℕ → ℕ → List ℕ → ℤ → List ℕ → Type 0
WritesRecords form records ssrc old r out =
    Gives length_code
    (form_fault form (body_fault (shape_of (form_of form)) records))
    (records_block (shape_of (form_of form)) records ssrc)
    old r out

-- ---- flasknib_space_label

-- the number of bytes replaced, or minus the refusal; with 12 the bytes of the block, 256 times
abbrev pub spaced_code : Result ℕ Unwritten → ℤ
spaced_code (Ok number) = pos number
spaced_code (Err (Unwritten.Room size)) = neg_ℤ (pos (256 * size + room_number))
spaced_code (Err (Unwritten.Refused refusal)) = neg_ℤ (pos (number_of refusal))

abbrev pub spaced_size : Result ℕ Unwritten → ℕ
spaced_size (Ok number) = number
spaced_size (Err (Unwritten.Room size)) = size
spaced_size (Err (Unwritten.Refused refusal)) = 0

-- request L14, block 0 with its label spaced: 1, 13, 14, 12; or the number replaced, and the block's 512 bytes
abbrev pub SpacesLabel : List ℕ → List ℕ → ℤ → List ℕ → Type 0
SpacesLabel zeroth old r out =
    Gives (λ answer. spaced_code (spaced_by (replaced_in zeroth (zeroth_of zeroth)) answer))
    (zeroth_fault (zeroth_of zeroth))
    (block_spaced zeroth (zeroth_of zeroth))
    old r out

-- ---- flasknib_write_head, flasknib_write_row, flasknib_write_refused

-- "Table", the head line: 12; or its bytes
abbrev pub WritesHead : List ℕ → ℤ → List ℕ → Type 0
WritesHead old r out =
    Gives length_code
    None
    head_bytes
    old r out

-- what a row shows
abbrev pub totals_of : List ℕ → ℕ → ℕ → Totals
totals_of words jumped restarts = record { source = source_of words; jumped = jumped; restarts = restarts }

-- "Table", a row: 9, 10, 12; or its bytes
abbrev pub WritesRow : List ℕ → ℕ → List ℕ → ℕ → ℕ → List ℕ → ℤ → List ℕ → Type 0
WritesRow label ssrc words jumped restarts old r out =
    Gives length_code
    (record_fault words (row_fault label (totals_of words jumped restarts)))
    (row_bytes label ssrc (totals_of words jumped restarts))
    old r out

-- "Table", the line of a refused block: 12; or its bytes
abbrev pub WritesRefused : ℕ → ℕ → List ℕ → ℤ → List ℕ → Type 0
WritesRefused number block old r out =
    Gives length_code
    None
    (refused_line number block)
    old r out
