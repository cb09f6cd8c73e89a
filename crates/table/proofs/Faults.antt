-- When a row's values are refused, and what holds where they are not. Assumes nothing.
use Rattle.std.specs.Prelude.{Option, Some, None, Ok, Err}
use mathlib.Core.Path.{◌≡◌, refl, ap}
use mathlib.Core.Bool.{Bool, true, false, not, cond, ◌&&◌}
use mathlib.Core.List.{List}
use Prim.Native.Nat.{ℕ, ◌≤◌, ◌<◌}
use native.Mathlib.Omega.{arith}
use borrow.Author.Tests.{le-leb, lt-leb, leb-true}
use lib.Dec.{leb}
use lib.IntN.{nat_abs}
use Rattle.answers.specs.declared.Refusal.{Refusal}
use Rattle.answers.specs.declared.Refusal.TheVariants.{Malformed, Limits}
use Rattle.source.specs.declared.Source.{Source}
use Rattle.source.specs.declared.Totals.{Totals}
use Rattle.source.specs.Record.{sound, lost, lost_answer}
use Rattle.source.specs.Totals.{most_told}
use Rattle.source.proofs.Facts.{sound_highest}
use Rattle.trace.specs.Contents.{label_ok}
use Rattle.table.specs.Decimal.{decimal, signed}
use Rattle.table.specs.Lines.{row_fault}

module _ (label : List ℕ) (t : Totals) where
  pub fault_record : {r : Refusal} → lost_answer t.source ≡ Err r → row_fault label t ≡ Some r
  unfolding row_fault lost_answer
  fault_record {r} e = go (sound t.source) _ e
    where
      go : (b : Bool) (rest : Option Refusal) → cond (not b) (Err Malformed) (Ok (lost t.source)) ≡ Err r → cond (not b) (Some Malformed) rest ≡ Some r
      go false rest e = ap Some cc
      go true rest e = let z : ◌≡◌ {A = ℕ} 0 1 = cc in absurd (omega arith)

  pub fault_label : sound t.source ≡ true → label_ok label ≡ false → row_fault label t ≡ Some Limits
  unfolding row_fault
  fault_label e l = rw (e, l)

  pub fault_jumped : sound t.source ≡ true → label_ok label ≡ true → most_told < t.jumped → row_fault label t ≡ Some Limits
  unfolding row_fault
  fault_jumped e l h = rw (e, l, lt-leb t.jumped most_told h)

  pub fault_restarts : sound t.source ≡ true → label_ok label ≡ true → t.jumped ≤ most_told → most_told < t.restarts → row_fault label t ≡ Some Limits
  unfolding row_fault
  fault_restarts e l j h = rw (e, l, le-leb t.jumped most_told j, lt-leb t.restarts most_told h)

  pub fault_none : sound t.source ≡ true → label_ok label ≡ true → t.jumped ≤ most_told → t.restarts ≤ most_told → row_fault label t ≡ None
  unfolding row_fault
  fault_none e l j r = rw (e, l, le-leb t.jumped most_told j, le-leb t.restarts most_told r)

  -- what a row's values are that are not refused
  pub record Free : Type 0 where
    pub good : sound t.source ≡ true
    pub ok : label_ok label ≡ true
    pub jumped : t.jumped ≤ most_told
    pub restarts : t.restarts ≤ most_told

  pub fault_free : row_fault label t ≡ None → Free
  unfolding row_fault
  fault_free e = go (sound t.source) (label_ok label) (leb t.jumped most_told) (leb t.restarts most_told) refl refl refl refl e
    where
      go : (a b c d : Bool) → sound t.source ≡ a → label_ok label ≡ b → leb t.jumped most_told ≡ c → leb t.restarts most_told ≡ d
          → cond (not a) (Some Malformed) (cond (not (b && (c && d))) (Some Limits) None) ≡ None → Free
      go true true true true g o j r e =
          record { good = g; ok = o; jumped = leb-true t.jumped most_told j; restarts = leb-true t.restarts most_told r }
      go true true true false g o j r e = let z : ◌≡◌ {A = ℕ} 0 1 = cc in absurd (omega arith)
      go true true false d g o j r e = let z : ◌≡◌ {A = ℕ} 0 1 = cc in absurd (omega arith)
      go true false c d g o j r e = let z : ◌≡◌ {A = ℕ} 0 1 = cc in absurd (omega arith)
      go false b c d g o j r e = let z : ◌≡◌ {A = ℕ} 0 1 = cc in absurd (omega arith)

-- the highest number of a sound record is not negative
pub highest_decimal : (s : Source) → sound s ≡ true → signed s.highest.0 ≡ decimal (nat_abs s.highest.0)
unfolding signed
highest_decimal s e = rw (sound_highest s e).1
