use Rattle.std.specs.Prelude.{None, Ok}
use Rattle.std.proofs.Common.{◌≡◌, ℕ, ◌+◌, ◌≤◌, List, length, sym, refl, ap, ◌∙◌, arith}
use Rattle.answers.proofs.Stores.{wrote_short, wrote_all}
use Rattle.format.specs.Forms.{shape_of}
use Rattle.trace.specs.Layout.{label_block}
use Rattle.trace.specs.Retired.{retired_in, spaced_label}
use Rattle.trace.specs.Rewriting.{spaced_by}
use Rattle.trace.proofs.Layouts.{length-label_block, block_stored}
use Rattle.trace.proofs.Spacing.{length-spaced}
use Rattle.trace.proofs.parts.put_spaced_label.Goals.{Start}
use Rattle.trace.proofs.parts.put_spaced_label.Goals as goal

-- the block, its label's length and its own
module _ (s : Start) where
  abbrev new : List ℕ
  new = label_block (shape_of s.args.form) (spaced_label s.args.label.now) s.args.ssrc

  few : length (spaced_label s.args.label.now) ≤ 502
  few = omega (arith, length-spaced s.args.label.now, s.requires)

  whole : length new ≡ 512
  whole = length-label_block (shape_of s.args.form) (spaced_label s.args.label.now) s.args.ssrc few

pub returns-then-out-lt-BLOCK : goal.returns-then-out-lt-BLOCK
returns-then-out-lt-BLOCK c =
    let wrote = wrote_short {fault = None} (new (goal.at.returns-then-out-lt-BLOCK c).Start) c.args.out.now refl (omega (arith, whole (goal.at.returns-then-out-lt-BLOCK c).Start, c.if-out-lt-BLOCK.true)) (sym (whole (goal.at.returns-then-out-lt-BLOCK c).Start)) in
    record { value = ap (spaced_by (retired_in c.args.label.now)) wrote.answers; written = wrote.stores }

pub put_end-requires : goal.put_end-requires
put_end-requires c = (omega (arith, c.requires), omega (arith, c.if-out-lt-BLOCK.false))

pub returns : goal.returns
unfolding label_block
returns c =
    let a = c.args in
    let text : List ℕ = spaced_label a.label.now in
    let long : length a.label.now ≡ length text = sym (length-spaced a.label.now) in
    let large = c.if-out-lt-BLOCK.false in
    let out = block_stored a.out.now text (shape_of a.form).label (length text) a.ssrc (few (goal.at.returns c).Start) large c.label.ensures long c.put_header.ensures c.put_spaced.ensures (ap (λ (n : ℕ). 8 + n) long) c.put_end.ensures in
    let wrote = wrote_all {fault = None} (new (goal.at.returns c).Start) a.out.now refl (omega (arith, whole (goal.at.returns c).Start, large)) (sym (whole (goal.at.returns c).Start)) out in
    record { value = ap Ok c.retired_in.ensures ∙ ap (spaced_by (retired_in a.label.now)) wrote.answers; written = wrote.stores }
