-- How long a block is that is not refused. Assumes nothing.
use Rattle.std.specs.Prelude.{Some, None, Result, Ok, Err}
use Rattle.answers.specs.declared.Unwritten.{Unwritten}
use Rattle.answers.specs.declared.Refusal.{Refusal}
use mathlib.Core.Path.{◌≡◌, refl, ap}
use mathlib.Core.Bool.{Bool, true, false, cond}
use mathlib.Core.List.{List}
use Prim.Native.Nat.{ℕ, ◌≤◌}
use native.Mathlib.Omega.{arith}
use lib.ListN.{length, take}
use Rattle.answers.specs.Writers.{written, size_in}
use Rattle.answers.specs.declared.Refusal.TheVariants.{Limits}
use Rattle.answers.proofs.Stores.{wrote_size}
use Rattle.format.specs.Forms.{Shape, shape_of}
use Rattle.format.specs.declared.Form.{Form}
use Rattle.format.proofs.Fits.{fits, records_fit}
use Rattle.trace.specs.Layout.{label_block, arrivals_block, records_block, body_of}
use Rattle.trace.specs.Places.{zeroth_of}
use Rattle.trace.specs.Retired.{retired_in, spaced_label}
use Rattle.trace.specs.Rewriting.{zeroth_fault, block_spaced, replaced_in, spaced_by, Spaces}
use Rattle.trace.specs.Writing.{label_fault, records_of, arrivals_ok, arrivals_fault, body_ok, body_fault}
use Rattle.trace.specs.declared.Zeroth.{Zeroth}
use Rattle.trace.proofs.Accepted.{accepted}
use Rattle.trace.proofs.Decisions.{label_short, taken_label, lists_taken, body_taken}
use Rattle.trace.proofs.Layouts.{length-label_block, length-arrivals_block, length-records_block, length-records_of}
use Rattle.trace.proofs.Placed.{zeroth_label}
use Rattle.trace.proofs.Spacing.{length-spaced, retired_few}
use Rattle.capi.specs.Codes.{length_code}
use Rattle.capi.specs.Blocks.{spaced_code, spaced_size}

-- values that are not refused with 10 have passed the test
passed : (t : Bool) → cond t None (Some Limits) ≡ None → t ≡ true
passed true e = refl
passed false e = let z : ◌≡◌ {A = ℕ} 0 1 = cc in absurd (omega arith)

pub label_length : (shape : Shape) (label : List ℕ) (ssrc : ℕ) → label_fault label ≡ None → length (label_block shape label ssrc) ≡ 512
label_length shape label ssrc e = length-label_block shape label ssrc (label_short label (taken_label label e).0)

pub arrivals_length : (form : Form) (times numbers marks : List ℕ) (ssrc : ℕ) → arrivals_fault (shape_of form) times numbers marks ≡ None
    → length (arrivals_block (shape_of form) (records_of times numbers marks) ssrc) ≡ 512
unfolding arrivals_fault
arrivals_length form times numbers marks ssrc e =
    let t = lists_taken (shape_of form) times numbers marks (passed (arrivals_ok (shape_of form) times numbers marks) e) in
    let many : length (records_of times numbers marks) ≡ length times = length-records_of times numbers marks t.numbers_long t.marks_long in
    length-arrivals_block (shape_of form) (records_of times numbers marks) ssrc (rw many (records_fit (fits form) t.most))

pub records_length : (form : Form) (s : List ℕ) (ssrc : ℕ) → body_fault (shape_of form) s ≡ None → length (records_block (shape_of form) s ssrc) ≡ 512
unfolding body_fault
records_length form s ssrc e =
    let t = body_taken (shape_of form) s (passed (body_ok (shape_of form) s) e) in
    length-records_block (shape_of form) s ssrc (omega (arith, t.whole, records_fit (fits form) t.most))

-- what is not written is told of a spaced label as of any other writer
pub spaced_as_length : (why : Unwritten) → length_code (Err why) ≡ spaced_code (Err why)
spaced_as_length (Unwritten.Room n) = refl
spaced_as_length (Unwritten.Refused refusal) = refl

pub spaced_as_size : (why : Unwritten) → size_in (Err why) ≡ spaced_size (Err why)
spaced_as_size (Unwritten.Room n) = refl
spaced_as_size (Unwritten.Refused refusal) = refl

-- block 0 with its label spaced, and the bytes replaced
pub spaced_size_lem : (b old : List ℕ) {s : Result ℕ Unwritten} {out : List ℕ} → Spaces b old s out → spaced_size s ≤ 512
unfolding written
spaced_size_lem b old w = omega (arith, ap spaced_size w.answers, go (zeroth_of b) refl)
  where
    by_answer : (number most : ℕ) (w : Result ℕ Unwritten) → number ≤ most → size_in w ≤ most → spaced_size (spaced_by number w) ≤ most
    by_answer number most (Ok n) k h = k
    by_answer number most (Err (Unwritten.Room n)) k h = h
    by_answer number most (Err (Unwritten.Refused refusal)) k h = omega arith

    go : (z : Result Zeroth Refusal) → zeroth_of b ≡ z → spaced_size (spaced_by (replaced_in b z) (written (zeroth_fault z) (block_spaced b z) old)) ≤ 512
    go (Err refusal) e = omega arith
    go (Ok label) e =
        let a = accepted b (zeroth_label b e) in
        let text : List ℕ = take label.length (body_of b) in
        let new : List ℕ = block_spaced b (Ok (record { form = label.form; length = label.length; ssrc = label.ssrc })) in
        let long : length new ≡ 512 = length-label_block (shape_of label.form) (spaced_label text) label.ssrc
        (omega (arith, length-spaced text, a.block.long, a.block.room)) in
        let short = wrote_size {fault = None} {new = new} {old = old} {answer = written None new old} 512 (λ _. omega (arith, long))
        (record { answers = refl; stores = refl }) in
        by_answer (retired_in text) 512 (written None new old) (omega (arith, retired_few text, a.block.long, a.block.room)) short
