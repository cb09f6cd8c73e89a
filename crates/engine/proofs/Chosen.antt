-- What the tests on an arrival's distance choose. Assumes nothing.
use mathlib.Core.Path.{◌≡◌, refl, sym, ap, ◌∙◌}
use mathlib.Core.Bool.{Bool, cond}
use Prim.Native.Nat.{ℕ, zero, suc, ◌+◌, ◌-◌, ◌*◌, ◌%◌, ◌≤◌, ◌<◌}
use native.Mathlib.Nat.{add-zero}
use native.Mathlib.Omega.{arith}
use native.Mathlib.Decide.{dec_le}
use borrow.Author.Tests.{lt-leb, le-ltb, lt-ltb}
use lib.Dec.{ltb}
use Rattle.source.specs.declared.History.{History}
use Rattle.source.specs.Places.{bit, history, marks, moved, added}
use Rattle.source.specs.Distances.{reach_of}
use Rattle.source.proofs.Reached.{reach_level, reach_ahead, reach_behind, reach_jump}
use Rattle.source.proofs.Shifts.{moved_none}
use Rattle.engine.specs.declared.lean.Lean.{Lean}
use Rattle.engine.specs.Lean.{unit, raised, ahead, behind, jumped, TakenBy, above, taken}

-- states of equal parts
pub raised_same : (t : Lean) {h h' : ℕ} {past past' : History} {u u' : ℕ} → h ≡ h' → past ≡ past' → u ≡ u' → raised t h past u ≡ raised t h' past' u'
raised_same t a b e = λ i. raised t (a i) (b i) (e i)

-- by how many places the history moves, and which one is marked
abbrev pub rises : ℕ → ℕ
rises d = cond (ltb d 64) d 0

abbrev pub falls : ℕ → ℕ
falls d = cond (ltb d 64) 0 (65536 - d)

abbrev pub near_by : Lean → ℕ → ℕ → ℕ → Lean
near_by t up k mark = raised t (t.highest + up) (history (added k (moved up (marks t.history)))) (unit mark + bit (moved up (marks t.history) k) * 256)

module _ (t : Lean) (number mark : ℕ) where
  -- not above: no place moves
  level : (k : ℕ) → near_by t 0 k mark ≡ behind t k mark
  unfolding behind
  level k =
      let same : moved 0 (marks t.history) ≡ marks t.history = moved_none (marks t.history) in
      raised_same t (add-zero t.highest) (ap (λ (row : ℕ → Bool). history (added k row)) same) (ap (λ (row : ℕ → Bool). unit mark + bit (row k) * 256) same)

  -- above: place 0 is not marked yet
  risen : (d : ℕ) → 1 ≤ d → near_by t d 0 mark ≡ ahead t d mark
  unfolding ahead moved
  risen d p = raised_same t refl refl (rw (lt-leb d 0 p) (add-zero (unit mark)))

  pub near_taken : (d : ℕ) → d < 65536 → (d + 99) % 65536 < 163 → near_by t (rises d) (falls d) mark ≡ TakenBy t number mark (reach_of d)
  near_taken zero h n = level 0 ∙ ap (TakenBy t number mark) (sym reach_level)
  near_taken (suc e) h n = go (dec_le (suc (suc e)) 64)
    where
      go : Dec (suc e < 64) → near_by t (rises (suc e)) (falls (suc e)) mark ≡ TakenBy t number mark (reach_of (suc e))
      go (yes l) = rw (lt-ltb (suc e) 64 l, reach_ahead (suc e) (omega arith) (omega arith)) (risen (suc e) (omega arith))
      go (no l) = rw (le-ltb (suc e) 64 (omega arith), reach_behind (suc e) (omega arith) h) (level (65536 - suc e))

  -- the other tests
  pub jump_taken : (above t.highest number + 62536) % 65536 < 62437 → jumped t number mark ≡ taken t number mark
  unfolding taken
  jump_taken l = rw (reach_jump (above t.highest number) (omega arith) (omega arith)) refl

  pub far_ahead : (d : ℕ) → d < 65536 → ((d + 62536) % 65536 < 62437 → ⊥) → ((d + 99) % 65536 < 163 → ⊥) → (64 ≤ d) × (d ≤ 2999)
  far_ahead d l j n = (omega arith, omega arith)

  pub ahead_taken : 64 ≤ above t.highest number → above t.highest number ≤ 2999 → ahead t (above t.highest number) mark ≡ taken t number mark
  unfolding taken
  ahead_taken p q = rw (reach_ahead (above t.highest number) (omega arith) q) refl
