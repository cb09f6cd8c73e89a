use Rattle.std.proofs.Common.{◌≡◌, length, sym, refl, arith}
use Rattle.answers.proofs.Stores.{wrote_short, wrote_all}
use Rattle.format.specs.Forms.{shape_of}
use Rattle.trace.specs.Layout.{label_block}
use Rattle.trace.proofs.Layouts.{length-label_block, block_stored}
use Rattle.trace.proofs.parts.put_label.Goals.{Start}
use Rattle.trace.proofs.parts.put_label.Goals as goal

whole : (s : Start) → length (label_block (shape_of s.args.form) s.args.label.now s.args.ssrc) ≡ 512
whole s = length-label_block (shape_of s.args.form) s.args.label.now s.args.ssrc s.requires

pub returns-then-out-lt-BLOCK : goal.returns-then-out-lt-BLOCK
returns-then-out-lt-BLOCK c =
    wrote_short (label_block (shape_of c.args.form) c.args.label.now c.args.ssrc) c.args.out.now refl (omega (arith, whole (goal.at.returns-then-out-lt-BLOCK c).Start)) (sym (whole (goal.at.returns-then-out-lt-BLOCK c).Start))

pub put_end-requires : goal.put_end-requires
put_end-requires c = (omega (arith, c.requires), omega (arith, c.if-out-lt-BLOCK.false))

pub returns : goal.returns
unfolding label_block
returns c =
    let a = c.args in
    let label = a.label.now in
    let large = c.if-out-lt-BLOCK.false in
    wrote_all (label_block (shape_of a.form) label a.ssrc) a.out.now refl (omega (arith, whole (goal.at.returns c).Start, large)) (sym (whole (goal.at.returns c).Start))
    (block_stored a.out.now label (shape_of a.form).label (length label) a.ssrc c.requires large c.label.ensures refl c.put_header.ensures c.put_bytes.ensures refl c.put_end.ensures)
