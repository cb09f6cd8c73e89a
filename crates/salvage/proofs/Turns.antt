-- What a block does in a run of ecnsalvage, and the first blocks of some. Assumes nothing.
use Rattle.std.specs.Prelude.{Option, Some, None}
use mathlib.Core.Path.{◌≡◌, sym, ap, ◌∙◌, subst}
use mathlib.Core.List.{List, [], ◌∷◌, append-nil}
use Prim.Native.Nat.{ℕ, zero, suc, ◌+◌}
use native.Mathlib.Omega.{arith}
use borrow.Author.Tests.{eq-eqb, ne_eqb}
use lib.ListN.{length, take, drop}
use Rattle.answers.specs.Refusals.{number_of}
use Rattle.answers.specs.declared.Refusal.{Refusal}
use Rattle.format.specs.Blocks.{block_bytes}
use Rattle.table.specs.Lines.{refused_line}
use Rattle.walk.specs.Blocks.{joined}
use Rattle.walk.specs.Programs.{to_output, Turn}
use Rattle.walk.specs.Fitting.{none_taken, one_more, front}
use Rattle.walk.proofs.Cuts.{Each}
use Rattle.copies.specs.Fronts.{fault_of, sound_in}
use Rattle.copies.specs.Theorems.{NextHas}
use Rattle.copies.proofs.Fronts.{front_is_sound}
use Rattle.copies.proofs.Copied.{own_long, behind, front_copies}
use Rattle.salvage.specs.Salvaged.{Kept, to_errors, whole_by, partly, turn_of, ecnsalvage}

-- ---- a block's turn

module _ (i : ℕ) (k : Kept) (b : List ℕ) where
  turn_whole : {o : Option Refusal} → length b ≡ block_bytes → fault_of k.form k.ssrc b ≡ o → turn_of i k b ≡ whole_by i k b o
  unfolding turn_of
  turn_whole long e = rw (eq-eqb (length b) block_bytes long, e)

  pub turn_own : fault_of k.form k.ssrc b ≡ None → turn_of i k b ≡ record { state = k; printed = to_output b; refusal = None }
  turn_own e = turn_whole (own_long k.form k.ssrc b e) e

  pub turn_listed : {refusal : Refusal} → length b ≡ block_bytes → fault_of k.form k.ssrc b ≡ Some refusal
      → turn_of i k b ≡ record { state = k; printed = to_errors (refused_line (number_of refusal) i); refusal = None }
  turn_listed long e = turn_whole long e

  pub turn_part : (length b ≡ block_bytes → ⊥) → turn_of i k b ≡ partly k
  unfolding turn_of
  turn_part short = rw (ne_eqb (length b) block_bytes short)

-- ---- the first blocks

whole_drop : (n : ℕ) (bs : List (List ℕ)) → Each (λ b. length b ≡ block_bytes) bs → Each (λ b. length b ≡ block_bytes) (drop n bs)
whole_drop zero bs h = h
whole_drop (suc n) [] h = tt
whole_drop (suc n) (b ∷ bs) h = whole_drop n bs h.1

module _ (i : ℕ) (k : Kept) (bs : List (List ℕ)) where
  -- the sound ones at the front
  abbrev many : ℕ
  many = (sound_in k.form k.ssrc bs).many

  abbrev copied : List ℕ
  copied = joined (take many bs)

  took_more : (more : ℕ) → front ecnsalvage i (many + more) bs k ≡ behind copied many (front ecnsalvage (i + many) more (drop many bs) k)
  took_more more = front_copies ecnsalvage k k.form k.ssrc (λ i b e. turn_own i k b e) i more bs

  pub took_sound : front ecnsalvage i many bs k ≡ record { state = k; taken = many; printed = to_output copied; refusal = None }
  unfolding front
  took_sound =
      let same : many ≡ many + 0 = omega arith in
      let nil = append-nil copied in
      ap (λ (n : ℕ). front ecnsalvage i n bs k) same
      ∙ took_more 0
      ∙ (λ j. record { state = k; taken = sym same j; printed = to_output (nil j); refusal = None })

  -- and the one after them
  module _ {refusal : Refusal} (whole : Each (λ b. length b ≡ block_bytes) bs) (r : (sound_in k.form k.ssrc bs).refusal ≡ Some refusal) where
    abbrev line : List ℕ
    line = refused_line (number_of refusal) (i + many)

    one_listed : (b : List ℕ) (rest : List (List ℕ)) → length b ≡ block_bytes → fault_of k.form k.ssrc b ≡ Some refusal
        → front ecnsalvage (i + many) 1 (b ∷ rest) k ≡ record { state = k; taken = 1; printed = to_errors line; refusal = None }
    unfolding front
    one_listed b rest long e =
        let nil = append-nil line in
        ap (λ (t : Turn Kept). one_more t t.refusal (none_taken t.state)) (turn_listed (i + many) k b long e)
        ∙ (λ j. record { state = k; taken = 1; printed = to_errors (nil j); refusal = None })

    pub took_listed : front ecnsalvage i (many + 1) bs k ≡ record { state = k; taken = many + 1; printed = record { out = copied; err = line }; refusal = None }
    took_listed =
        let next = subst (λ (o : Option Refusal). NextHas k.form k.ssrc o (drop many bs)) r (front_is_sound k.form k.ssrc bs).next in
        let long = subst (Each (λ b. length b ≡ block_bytes)) next.2 (whole_drop many bs whole) in
        let nil = append-nil copied in
        took_more 1
        ∙ ap (λ (bs : List (List ℕ)). behind copied many (front ecnsalvage (i + many) 1 bs k)) next.2
        ∙ ap (behind copied many) (one_listed next.0 next.1 long.0 next.3)
        ∙ (λ j. record { state = k; taken = many + 1; printed = record { out = nil j; err = line }; refusal = None })
