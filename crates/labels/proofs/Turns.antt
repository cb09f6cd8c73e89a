-- What a block does in a run of ecnlabel, and the first blocks of some. Assumes nothing.
use Rattle.std.specs.Prelude.{Option, Some, None}
use mathlib.Core.Path.{◌≡◌, refl, ap, ◌∙◌}
use mathlib.Core.List.{List, append-nil}
use Prim.Native.Nat.{ℕ, ◌+◌}
use native.Mathlib.Omega.{arith}
use lib.ListN.{take, drop}
use Rattle.answers.specs.declared.Refusal.{Refusal}
use Rattle.walk.specs.Blocks.{joined}
use Rattle.walk.specs.Programs.{nothing, to_output, Turn}
use Rattle.walk.specs.Fitting.{none_taken, one_more, front}
use Rattle.copies.specs.Fronts.{fault_of, sound_in}
use Rattle.copies.specs.Theorems.{NextHas}
use Rattle.copies.proofs.Fronts.{front_is_sound}
use Rattle.copies.proofs.Copied.{behind, front_copies}
use Rattle.labels.specs.Labelled.{Kept, turn_by, ecnlabel}

-- ---- a block's turn

module _ (i : ℕ) (k : Kept) (b : List ℕ) where
  pub turn_by_lem : {o : Option Refusal} → fault_of k.form k.ssrc b ≡ o → ecnlabel.step i k b ≡ turn_by k b o
  turn_by_lem e = ap (turn_by k b) e

-- ---- the first blocks

module _ (i : ℕ) (k : Kept) (bs : List (List ℕ)) where
  -- the sound ones at the front
  abbrev many : ℕ
  many = (sound_in k.form k.ssrc bs).many

  abbrev copied : List ℕ
  copied = joined (take many bs)

  -- so many are asked for that the refused one is met
  abbrev pub asked : Option Refusal → ℕ
  asked None = 0
  asked (Some refusal) = 1

  -- what is met after them
  met_next : (o : Option Refusal) (rest : List (List ℕ)) → NextHas k.form k.ssrc o rest
      → front ecnlabel (i + many) (asked o) rest k ≡ record { state = k; taken = 0; printed = nothing; refusal = o }
  unfolding front
  met_next None rest h = refl
  met_next (Some refusal) rest h =
      ap (λ (bs : List (List ℕ)). front ecnlabel (i + many) 1 bs k) h.2
      ∙ ap (λ (t : Turn Kept). one_more t t.refusal (none_taken t.state)) (turn_by_lem (i + many) k h.0 h.3)

  pub took_front : front ecnlabel i (many + asked (sound_in k.form k.ssrc bs).refusal) bs k
      ≡ record { state = k; taken = many; printed = to_output copied; refusal = (sound_in k.form k.ssrc bs).refusal }
  took_front =
      let o = (sound_in k.form k.ssrc bs).refusal in
      let same : many + 0 ≡ many = omega arith in
      let nil = append-nil copied in
      front_copies ecnlabel k k.form k.ssrc (λ i b e. turn_by_lem i k b e) i (asked o) bs
      ∙ ap (behind copied many) (met_next o (drop many bs) (front_is_sound k.form k.ssrc bs).next)
      ∙ (λ j. record { state = k; taken = same j; printed = to_output (nil j); refusal = o })
