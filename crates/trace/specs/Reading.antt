-- Document 01, "Trace file" and "Refusal numbers": what reading a block finds, in the order of refusals 1, 13, 14.
use Rattle.trace.specs.declared.Record.{Record}
use Rattle.std.specs.Prelude.{ℕ, ◌*◌, Bool, cond, not, List, [], ◌∷◌, length, ◌==◌, nat_lt, Result, Ok, Err}
use Rattle.answers.specs.declared.Refusal.{Refusal}
use Rattle.answers.specs.declared.Refusal.TheVariants.{Incomplete, Checksum, Contents, Limits}
use Rattle.numbers.specs.BigEndian.{word}
use Rattle.answers.specs.Conditions.{all}
use Rattle.format.specs.Blocks.{block_bytes, check_at}
use Rattle.format.specs.Forms.{shape_of, width, kind_of}
use Rattle.format.specs.declared.Kind.{Kind}
use Rattle.format.specs.declared.Kind.TheVariants as kind
use Rattle.trace.specs.Checksum.{words, ones_sum}
use Rattle.trace.specs.Layout.{record_at, body_of}
use Rattle.trace.specs.Contents.{label_body, count_ok, arrivals_body}
use Rattle.trace.specs.declared.Block.{Block}
use Rattle.trace.specs.declared.Block.TheVariants.{Label, Arrivals}

-- the fields of the header, and the check word
abbrev pub kind_in : List ℕ → ℕ
kind_in b = word 2 b 0

abbrev pub count_in : List ℕ → ℕ
count_in b = word 2 b 2

abbrev pub ssrc_in : List ℕ → ℕ
ssrc_in b = word 4 b 4

abbrev pub check_in : List ℕ → ℕ
check_in b = word 2 b check_at

-- the ones' complement sum of the 256 words is 65,535, and the check word is not
unfoldable pub right_check : List ℕ → Bool
right_check b = all ((ones_sum (words b) == 65535) ∷ not (check_in b == 65535) ∷ [])

-- a block with a right check, by what its kind says: a label, or arrivals, or 14
abbrev pub contents_by : List ℕ → Kind → Result Block Refusal
contents_by b (kind.Label form) = cond (label_body (count_in b) (body_of b)) (Ok (Label form (count_in b) (ssrc_in b))) (Err Contents)
contents_by b (kind.Arrivals form) = cond (arrivals_body (shape_of form) (count_in b) (body_of b)) (Ok (Arrivals form (count_in b) (ssrc_in b))) (Err Contents)
contents_by b kind.Unknown = Err Contents

unfoldable pub contents_of : List ℕ → Result Block Refusal
contents_of b = contents_by b (kind_of (kind_in b))

-- what reading b finds: 1, 13, then by its contents
unfoldable pub block_of : List ℕ → Result Block Refusal
block_of b =
    cond (not (length b == block_bytes)) (Err Incomplete)
    (cond (not (right_check b)) (Err Checksum)
    (contents_of b))

-- the refusal of a block of the wrong kind for its place, 14, or of one that cannot be read
abbrev pub fault_of : Result Block Refusal → Refusal
fault_of (Ok (Label form n ssrc)) = Contents
fault_of (Ok (Arrivals form n ssrc)) = Contents
fault_of (Err refusal) = refusal

-- ---- the record i of b, in the order of refusals 1, 14, 10

-- 14 unless it is a block of arrivals with a right count, 10 for an index past it
abbrev pub found_by : List ℕ → ℕ → Kind → Result Record Refusal
found_by b i (kind.Arrivals form) =
    cond (not (count_ok (shape_of form) (count_in b))) (Err Contents)
    (cond (not (nat_lt i (count_in b))) (Err Limits)
    (Ok (record_at (shape_of form) (body_of b) (i * width (shape_of form)))))
found_by b i (kind.Label form) = Err Contents
found_by b i kind.Unknown = Err Contents

-- 1 unless it is whole
unfoldable pub found_at : List ℕ → ℕ → Result Record Refusal
found_at b i = cond (not (length b == block_bytes)) (Err Incomplete) (found_by b i (kind_of (kind_in b)))
