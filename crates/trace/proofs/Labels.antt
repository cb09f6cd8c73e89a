-- Laws of a label's bytes. Assumes nothing.
use Rattle.std.proofs.Common.{◌≡◌, ℕ, ◌<◌, ◌≤◌, ◌⊎◌, inl, inr, arith, ne_eqb, le-leb}
use borrow.Author.Tests.{lt-leb}
use Rattle.trace.specs.Contents.{label_byte}
use Rattle.trace.proofs.Tallies.{outside_of}

-- 10 and 13
pub byte_line : (c : ℕ) → (c ≡ 10) ⊎ (c ≡ 13) → outside_of c ≡ 0
unfolding label_byte
byte_line c (inl e) = rw e
byte_line c (inr e) = rw e

-- 32 to 126
pub byte_text : (c : ℕ) → 32 ≤ c → c ≤ 126 → outside_of c ≡ 0
unfolding label_byte
byte_text c l h = rw (le-leb 32 c l, le-leb c 126 h)

-- and no other
module _ (c : ℕ) (none : (c ≡ 10) ⊎ (c ≡ 13) → ⊥) where
  pub byte_low : c < 32 → outside_of c ≡ 1
  unfolding label_byte
  byte_low l = rw (lt-leb 32 c l, ne_eqb c 10 (λ e. none (inl e)), ne_eqb c 13 (λ e. none (inr e)))

  pub byte_high : 126 < c → outside_of c ≡ 1
  unfolding label_byte
  byte_high h = rw (le-leb 32 c (omega arith), lt-leb c 126 h, ne_eqb c 10 (λ e. none (inl e)), ne_eqb c 13 (λ e. none (inr e)))
