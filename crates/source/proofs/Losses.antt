-- What the answer of the call `lost` shows. Assumes nothing.
use Rattle.std.specs.Prelude.{Ok, Err}
use mathlib.Core.Path.{◌≡◌, refl}
use mathlib.Core.Bool.{Bool, true, false, not, cond}
use Prim.Native.Nat.{ℕ}
use native.Mathlib.Omega.{arith}
use lib.IntN.{ℤ}
use Rattle.answers.specs.declared.Refusal.{Refusal}
use Rattle.answers.specs.declared.Refusal.TheVariants.{Malformed}
use Rattle.source.specs.declared.Source.{Source}
use Rattle.source.specs.Record.{sound, lost, lost_answer}

module _ (s : Source) where
  pub lost_refused : {refusal : Refusal} → lost_answer s ≡ Err refusal → sound s ≡ false
  unfolding lost_answer
  lost_refused {refusal} e = go (sound s) e
    where
      go : (b : Bool) → cond (not b) (Err Malformed) (Ok (lost s)) ≡ Err refusal → b ≡ false
      go false e = refl
      go true e = let z : ◌≡◌ {A = ℕ} 0 1 = cc in absurd (omega arith)

  pub record Counted (n : ℤ) : Type 0 where
    pub good : sound s ≡ true
    pub is : n ≡ lost s

  pub lost_packets : {n : ℤ} → lost_answer s ≡ Ok n → Counted n
  unfolding lost_answer
  lost_packets {n} e = go (sound s) refl e
    where
      go : (b : Bool) → sound s ≡ b → cond (not b) (Err Malformed) (Ok (lost s)) ≡ Ok n → Counted n
      go true g e = record { good = g; is = cc }
      go false g e = let z : ◌≡◌ {A = ℕ} 0 1 = cc in absurd (omega arith)
