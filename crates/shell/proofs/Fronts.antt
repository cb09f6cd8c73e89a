-- Bytes at the front of a buffer: those that are printed, and those that are moved there one after another. Assumes nothing.
use mathlib.Core.Path.{◌≡◌, refl, sym, ap, ◌∙◌}
use mathlib.Core.Bool.{Bool, true, false, cond, ◌||◌}
use mathlib.Core.List.{List}
use Prim.Native.Nat.{ℕ, ◌+◌, ◌-◌, ◌≤◌, ◌<◌, min}
use native.Mathlib.Nat.{add_comm}
use native.Mathlib.Omega.{arith}
use borrow.Author.Tests.{leb-true, leb-false}
use lib.Dec.{leb}
use lib.ListN.{length, take, drop, set, get_or, length-drop}
use lib.Seq.{sets, drop-drop, drop-set-lt, get_or-drop, get_or-take, length-take-le}
use Rattle.answers.proofs.Stores.{sets-turn}
use Rattle.shell.specs.Writes.{Ended, has_failed}
use Rattle.shell.specs.Kept.{due_of, output_after, Printed}
use Rattle.shell.specs.declared.printing.Output.{Output}
use Rattle.shell.specs.declared.writing.Writing.{Writing}

-- a turn: the bytes from i on are still the old ones, so the one that is moved is
module _ (old buffer : List ℕ) (from n i : ℕ) (turn : i < n) (room : from + n ≤ length old) (same : drop i buffer ≡ drop i old) where
  abbrev run : List ℕ
  run = take n (drop from old)

  byte : get_or buffer (from + i) 0 ≡ get_or run i 0
  byte =
      ap (λ (k : ℕ). get_or buffer k 0) (add_comm from i)
      ∙ sym (get_or-drop i buffer from 0)
      ∙ ap (λ (l : List ℕ). get_or l from 0) same
      ∙ get_or-drop i old from 0
      ∙ ap (λ (k : ℕ). get_or old k 0) (add_comm i from)
      ∙ sym (get_or-take n (drop from old) i 0 turn ∙ get_or-drop from old i 0)

  pub front_same : drop (i + 1) (set buffer i (get_or buffer (from + i) 0)) ≡ drop (i + 1) old
  front_same =
      drop-set-lt (i + 1) buffer i (get_or buffer (from + i) 0) (omega arith)
      ∙ sym (drop-drop 1 i buffer)
      ∙ ap (drop 1) same
      ∙ drop-drop 1 i old

  pub front_turn : sets (set buffer i (get_or buffer (from + i) 0)) (i + 1) (drop (i + 1) run) ≡ sets buffer i (drop i run)
  front_turn =
      let long : length run ≡ n = length-take-le n (drop from old) (rw length-drop (omega arith)) in
      ap (λ (b : ℕ). sets (set buffer i b) (i + 1) (drop (i + 1) run)) byte ∙ sets-turn buffer i run i (omega (arith, long))

-- if fewer bytes are there than are asked for, none is after them
pub front_clipped : (old : List ℕ) (used bytes : ℕ) {end : ℕ} → end ≡ min bytes used → take (used - end) (drop end old) ≡ take (used - end) (drop bytes old)
front_clipped old used bytes {end} e = go (leb bytes used) refl
  where
    go : (t : Bool) → leb bytes used ≡ t → take (used - end) (drop end old) ≡ take (used - end) (drop bytes old)
    go true h = let all : end ≡ bytes = omega (arith, leb-true bytes used h) in ap (λ (k : ℕ). take (used - end) (drop k old)) all
    go false h =
        let none : used - end ≡ 0 = omega (arith, leb-false bytes used h) in
        ap (λ (k : ℕ). take k (drop end old)) none ∙ sym (ap (λ (k : ℕ). take k (drop bytes old)) none)

-- ---- printing

-- the first n of them, as code takes them
pub front_long : (s : List ℕ) (n : ℕ) → n ≤ length s → length (take (n - 0) s) ≡ n
front_long s n h = let same : n - 0 ≡ n = omega arith in length-take-le (n - 0) s (omega arith) ∙ same

-- no more is printed than there is
pub due_within : (out : Output) (n : ℕ) → due_of out n ≤ n
unfolding due_of
due_within out n = go out.failed
  where
    go : (t : Bool) → cond t 0 n ≤ n
    go true = omega arith
    go false = omega arith

or-false : (a b : Bool) → (a || b) ≡ false → (a ≡ false) × (b ≡ false)
or-false true b e = let z : ◌≡◌ {A = ℕ} 0 1 = cc in absurd (omega arith)
or-false false b e = (refl, e)

or-true : (a b : Bool) → b ≡ true → (a || b) ≡ true
or-true true b e = refl
or-true false b e = e

-- of n bytes so many were to be written
pub prints : (n : ℕ) (out : Output) (w : Writing) {r : Output} {due : ℕ} → due ≡ due_of out n → Ended due w → r ≡ output_after out w → Printed n out r
unfolding due_of
prints n out w d ended e =
    rw e
    record {
      same = refl;
      kept = refl;
      whole = λ f. let both = or-false (has_failed w) out.failed f in ended.all both.0 ∙ d ∙ rw both.1;
      still = λ f. or-true (has_failed w) out.failed f;
    }
