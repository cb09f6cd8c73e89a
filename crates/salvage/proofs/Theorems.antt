-- The theorems on what ecnsalvage prints. Assumes nothing.
use mathlib.Core.Path.{◌≡◌, ap, ◌∙◌, subst⁻¹}
use mathlib.Core.List.{List}
use Prim.Native.Nat.{ℕ}
use Rattle.format.specs.declared.Form.{Form}
use Rattle.trace.specs.Places.{zeroth_of}
use Rattle.walk.specs.Blocks.{Blocks, blocks_of}
use Rattle.walk.specs.Programs.{Printed, to_output, both}
use Rattle.walk.proofs.Cuts.{blocks_join}
use Rattle.convert.specs.Runs.{next_by, next_of}
use Rattle.copies.specs.Theorems.{AllOwn, SoundTrace}
use Rattle.copies.proofs.Copied.{label_long, copy_is_cut}
use Rattle.copies.proofs.Accepted.{table_accepts, accepted_is_sound, forms_refuse_times}
use Rattle.salvage.specs.Salvaged.{salvaged}
use Rattle.salvage.specs.Theorems.{ListedIsRefused, Labelled, SalvageAccepted, SalvageConverts, LabelIsKept, SalvageAgain, AcceptedIsSame}
use Rattle.salvage.proofs.Sorting.{salvaged_labelled, salvage_sorts, rest_copies, sorted_own}

pub listed_is_refused : ListedIsRefused
unfolding next_of
listed_is_refused run b refusal e = ap (next_by run b) e

-- ---- the output as a trace

module _ (trace : List ℕ) (form : Form) (n ssrc : ℕ) (label : Labelled trace form n ssrc) where
  -- its blocks are the label block and what was copied
  output_blocks : let s = salvage_sorts trace form n ssrc label in blocks_of (salvaged trace).out ≡ record { zeroth = (blocks_of trace).zeroth; others = s.copied }
  output_blocks =
      let s = salvage_sorts trace form n ssrc label in
      ap (λ (p : Printed). blocks_of p.out) s.prints
      ∙ copy_is_cut form ssrc (blocks_of trace).zeroth s.copied (label_long (blocks_of trace).zeroth label) (sorted_own s.sorted)

  -- and all of them are sound
  output_sound : SoundTrace (salvaged trace).out form n ssrc
  output_sound =
      let s = salvage_sorts trace form n ssrc label in
      record {
        label = ap (λ (bs : Blocks). zeroth_of bs.zeroth) output_blocks ∙ label;
        own = subst⁻¹ (λ (bs : Blocks). AllOwn form ssrc bs.others) output_blocks (sorted_own s.sorted);
      }

-- a trace whose blocks are all sound comes out the same
sound_is_same : (trace : List ℕ) (form : Form) (n ssrc : ℕ) → SoundTrace trace form n ssrc → salvaged trace ≡ to_output trace
sound_is_same trace form n ssrc s =
    salvaged_labelled trace s.label
    ∙ ap (both (to_output (blocks_of trace).zeroth)) (rest_copies 1 (blocks_of trace).others (record { form = form; ssrc = ssrc }) s.own)
    ∙ ap to_output (blocks_join trace).back

pub salvage_accepted : SalvageAccepted
salvage_accepted trace form n ssrc label = table_accepts (salvaged trace).out form n ssrc (output_sound trace form n ssrc label)

pub salvage_converts : SalvageConverts
salvage_converts trace form n ssrc e label q = forms_refuse_times (salvaged trace).out form n ssrc e (output_sound trace form n ssrc label) q

pub label_is_kept : LabelIsKept
label_is_kept trace form n ssrc label = ap (λ (bs : Blocks). bs.zeroth) (output_blocks trace form n ssrc label)

pub salvage_again : SalvageAgain
salvage_again trace form n ssrc label = sound_is_same (salvaged trace).out form n ssrc (output_sound trace form n ssrc label)

pub accepted_is_same : AcceptedIsSame
accepted_is_same trace e = let s = accepted_is_sound trace e in sound_is_same trace s.0 s.1 s.2 s.3
