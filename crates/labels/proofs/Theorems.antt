-- The theorems on what ecnlabel prints. Assumes nothing.
use Rattle.std.specs.Prelude.{Ok}
use mathlib.Core.Path.{◌≡◌, sym, ap, ap₂, ◌∙◌, subst⁻¹}
use mathlib.Core.List.{List, ◌++◌}
use Prim.Native.Nat.{ℕ}
use lib.ListN.{take}
use Rattle.format.specs.Blocks.{block_bytes}
use Rattle.format.specs.Forms.{shape_of}
use Rattle.format.specs.declared.Form.{Form}
use Rattle.numbers.proofs.Octets.{octets_take}
use Rattle.table.specs.Lines.{number_line}
use Rattle.trace.specs.Layout.{label_block, body_of}
use Rattle.trace.specs.Places.{zeroth_of}
use Rattle.trace.specs.Retired.{retired_in, spaced_label}
use Rattle.trace.specs.Writing.{label_fault}
use Rattle.trace.specs.Theorems.{SpacedFrom}
use Rattle.trace.proofs.Placed.{zeroth_by_lem, zeroth_label}
use Rattle.trace.proofs.Rewritten.{spaced_reads}
use Rattle.trace.proofs.Spacing.{spaced_twice}
use Rattle.walk.specs.Blocks.{Blocks, blocks_of, joined}
use Rattle.walk.specs.Programs.{Printed}
use Rattle.walk.specs.Pieces.{Octets}
use Rattle.walk.proofs.Cuts.{blocks_join}
use Rattle.copies.specs.Theorems.{AllOwn, SoundTrace}
use Rattle.copies.proofs.Copied.{copy_is_cut}
use Rattle.copies.proofs.Accepted.{table_accepts, forms_refuse_times}
use Rattle.labels.specs.Labelled.{labelled}
use Rattle.labels.specs.Theorems.{label_in, Spaced, SpacedLabel, TableTakes, FormsTake, NoneRetired, LabelledTwice}
use Rattle.labels.proofs.Calls.{spaced_long}
use Rattle.labels.proofs.Copying.{labelled_sound}

module _ (trace : List ℕ) (form : Form) (n ssrc : ℕ) (s : SoundTrace trace form n ssrc) where
  abbrev zero : List ℕ
  zero = (blocks_of trace).zeroth

  abbrev new : List ℕ
  new = label_block (shape_of form) (spaced_label (take n (body_of zero))) ssrc

  prints : labelled trace ≡ record { out = new ++ joined (blocks_of trace).others; err = number_line (retired_in (label_in n trace)) }
  prints = labelled_sound trace s.label s.own

  -- the output's blocks are the new label block and the others
  pub output_blocks : blocks_of (labelled trace).out ≡ record { zeroth = new; others = (blocks_of trace).others }
  output_blocks =
      ap (λ (p : Printed). blocks_of p.out) prints ∙ copy_is_cut form ssrc new (blocks_of trace).others (spaced_long zero s.label) s.own

  -- if no byte is retired in the new block
  pub same_if : new ≡ zero → retired_in (label_in n trace) ≡ 0 → labelled trace ≡ record { out = trace; err = number_line 0 }
  same_if e r =
      let all : new ++ joined (blocks_of trace).others ≡ trace = ap (λ (b : List ℕ). b ++ joined (blocks_of trace).others) e ∙ (blocks_join trace).back in
      prints ∙ ap₂ (λ (out : List ℕ) (number : ℕ). record { out = out; err = number_line number }) all r

  module _ (o : Octets trace) where
    pub reads : SpacedFrom form zero n ssrc new
    unfolding blocks_of
    reads = spaced_reads form zero n ssrc (octets_take block_bytes trace o) (zeroth_label zero s.label)

    new_label : zeroth_of new ≡ Ok (record { form = form; length = n; ssrc = ssrc })
    new_label = zeroth_by_lem new reads.label

    pub output_sound : SoundTrace (labelled trace).out form n ssrc
    output_sound = record {
      label = ap (λ (bs : Blocks). zeroth_of bs.zeroth) output_blocks ∙ new_label;
      own = subst⁻¹ (λ (bs : Blocks). AllOwn form ssrc bs.others) output_blocks s.own;
    }

    pub output_text : label_in n (labelled trace).out ≡ spaced_label (label_in n trace)
    output_text = ap (λ (bs : Blocks). take n (body_of bs.zeroth)) output_blocks ∙ reads.text

    output_none : retired_in (label_in n (labelled trace).out) ≡ 0
    output_none = ap (λ (bs : Blocks). retired_in (take n (body_of bs.zeroth))) output_blocks ∙ reads.none_left

    spaced : Spaced trace form n ssrc
    spaced = record {
      label = output_sound.label;
      text = output_text;
      taken = ap (λ (bs : Blocks). label_fault (take n (body_of bs.zeroth))) output_blocks ∙ reads.taken;
      others = ap (λ (bs : Blocks). bs.others) output_blocks;
      number = ap (λ (p : Printed). p.err) prints;
    }

pub spaced_label_lem : SpacedLabel
spaced_label_lem trace form n ssrc o s = spaced trace form n ssrc s o

pub table_takes : TableTakes
table_takes trace form n ssrc o s = table_accepts (labelled trace).out form n ssrc (output_sound trace form n ssrc s o)

pub forms_take : FormsTake
forms_take trace form n ssrc e o s q = forms_refuse_times (labelled trace).out form n ssrc e (output_sound trace form n ssrc s o) q

pub none_retired : NoneRetired
none_retired trace form n ssrc o s r = same_if trace form n ssrc s ((reads trace form n ssrc s o).same r) r

pub labelled_twice : LabelledTwice
labelled_twice trace form n ssrc o s =
    let out = (labelled trace).out in
    let blocks = output_blocks trace form n ssrc s in
    let text : spaced_label (label_in n out) ≡ spaced_label (label_in n trace) = ap spaced_label (output_text trace form n ssrc s o) ∙ spaced_twice (label_in n trace) in
    let again : label_block (shape_of form) (spaced_label (label_in n out)) ssrc ≡ (blocks_of out).zeroth =
    ap (λ (l : List ℕ). label_block (shape_of form) l ssrc) text ∙ ap (λ (bs : Blocks). bs.zeroth) (sym blocks) in
    same_if out form n ssrc (output_sound trace form n ssrc s o) again (output_none trace form n ssrc s o)
