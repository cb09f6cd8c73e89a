-- No row of a pass is longer than the longest. Assumes nothing.
use Rattle.std.specs.Prelude.{Option, Some, None, Result, Ok, Err}
use mathlib.Core.Path.{◌≡◌, refl, ap}
use mathlib.Core.List.{List, [], ◌∷◌}
use Prim.Native.Nat.{ℕ, zero, suc, ◌*◌, ◌^◌, ◌≤◌, ◌<◌}
use native.Mathlib.Omega.{arith}
use lib.ListN.{length, drop, length-append}
use Rattle.answers.specs.declared.Refusal.{Refusal}
use Rattle.format.specs.Blocks.{block_bytes}
use Rattle.numbers.proofs.BigEndian.{word_lt}
use Rattle.numbers.proofs.Octets.{octets_take, octets_drop}
use Rattle.table.specs.Theorems.{row_most}
use Rattle.trace.specs.Places.{zeroth_of}
use Rattle.trace.specs.declared.Zeroth.{Zeroth}
use Rattle.trace.proofs.Accepted.{accepted}
use Rattle.trace.proofs.Placed.{zeroth_label}
use Rattle.walk.specs.Pieces.{Octets, wholes, whole_in}
use Rattle.walk.specs.Fitting.{Took, one_more, front}
use Rattle.walk.proofs.Cuts.{Each}
use Rattle.walk.proofs.Pieces.{whole_many, octets_wholes}
use Rattle.convert.specs.declared.Run.{Run}
use Rattle.convert.specs.declared.feeds.Upload.{Upload}
use Rattle.convert.specs.Runs.{start_by, start_of}
use Rattle.convert.specs.Tables.{Kept, ecntable}
use Rattle.convert.specs.Feeds.{zeroth_in, part_in, feeding, through, held_by}
use Rattle.convert.specs.Passes.{Ready, done_by}
use Rattle.convert.proofs.Fitted.{kept}
use Rattle.convert.proofs.Followed.{Fit, turn_fits}
use Rattle.convert.proofs.Kept.{sound_good, start_good}
use Rattle.convert.proofs.Feeding.{through_later, label_goes, label_refused}

-- ---- no row is longer than the longest

through_few : (zeroth : List ℕ) (i : ℕ) (bs : List (List ℕ)) (k : Kept) → Fit zeroth k → Each Octets bs → length (through ecntable i bs k).printed.out ≤ row_most * length bs
unfolding front
through_few zeroth i [] k f o = omega arith
through_few zeroth i (b ∷ bs) k f o =
    let t = ecntable.step i k b in
    let h = turn_fits zeroth i k b f o.0 in
    go t.refusal (through ecntable (suc i) bs t.state) h.0 (through_few zeroth (suc i) bs t.state h.1 o.1)
  where
    go : (o : Option Refusal) (w : Took Kept) → length (ecntable.step i k b).printed.out ≤ row_most → length w.printed.out ≤ row_most * length bs
        → length (one_more (ecntable.step i k b) o w).printed.out ≤ row_most * suc (length bs)
    go None w h e = omega (arith, h, e, length-append (ecntable.step i k b).printed.out w.printed.out)
    go (Some refusal) w h e = omega (arith, h)

-- the SSRC of a label has 32 bits
start_ssrc : (b : List ℕ) (run : Run) → Octets b → start_of b ≡ Ok run → run.ssrc < 2 ^ 32
unfolding start_of
start_ssrc b run o e = go (zeroth_of b) refl e
  where
    go : (z : Result Zeroth Refusal) → zeroth_of b ≡ z → start_by z ≡ Ok run → run.ssrc < 2 ^ 32
    go (Ok label) q e =
        let is : label.ssrc ≡ run.ssrc = cc in
        omega (arith, (accepted b (zeroth_label b q)).block.its_ssrc, word_lt b 4 4 o, is)
    go (Err refusal) q e = let z : ◌≡◌ {A = ℕ} 0 1 = cc in absurd (omega arith)

pub done_few : (u : Upload) (lent rest : List ℕ) → Ready u lent rest → u.run.ssrc < 2 ^ 32 → Octets lent → Octets rest
    → length (done_by u lent rest).printed.out ≤ row_most * suc (wholes rest)
done_few u lent rest ready small ol or = go u.blocks refl
  where
    bs : List (List ℕ)
    bs = whole_in rest

    block_octets : Octets (part_in lent)
    block_octets = octets_take block_bytes (drop block_bytes lent) (octets_drop block_bytes lent ol)

    go : (n : ℕ) → u.blocks ≡ n → length (through feeding n (part_in lent ∷ whole_in rest) (held_by u lent)).printed.out ≤ row_most * suc (wholes rest)
    go (suc i) e =
        let few = through_few (zeroth_in lent) (suc i) (part_in lent ∷ whole_in rest) (held_by u lent) ((ready.sound (omega (arith, e)), refl), small) (block_octets, octets_wholes rest or) in
        omega (arith, few, whole_many rest, ap (λ (w : Took Kept). length w.printed.out) (through_later i (part_in lent ∷ whole_in rest) (held_by u lent)))
    go zero e = by (start_of (part_in lent)) refl
      where
        by : (r : Result Run Refusal) → start_of (part_in lent) ≡ r → length (through feeding 0 (part_in lent ∷ whole_in rest) (held_by u lent)).printed.out ≤ row_most * suc (wholes rest)
        by (Ok run) q =
            let k = kept run (part_in lent) in
            let few = through_few (part_in lent) 1 (whole_in rest) k ((sound_good (start_good (part_in lent) run q), refl), start_ssrc (part_in lent) run block_octets q) (octets_wholes rest or) in
            omega (arith, few, whole_many rest, ap (λ (w : Took Kept). length w.printed.out) (label_goes (held_by u lent) (part_in lent) (whole_in rest) q))
        by (Err refusal) q = omega (arith, ap (λ (w : Took Kept). length w.printed.out) (label_refused (held_by u lent) (part_in lent) (whole_in rest) q))
