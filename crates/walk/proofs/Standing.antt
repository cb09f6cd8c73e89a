-- How a run stands between its calls. Assumes nothing.
use Rattle.std.specs.Prelude.{Option, Some, None}
use mathlib.Core.Path.{◌≡◌, refl}
use Prim.Native.Nat.{ℕ, ◌+◌, ◌^◌, ◌<◌}
use native.Mathlib.Omega.{arith}
use Rattle.answers.specs.declared.Refusal.{Refusal}
use Rattle.walk.specs.Endings.{is_going, number_after}
use Rattle.walk.specs.Machines.{goes_on}

pub ended_back : (o : Option Refusal) → o ≡ o
ended_back None = refl
ended_back (Some refusal) = refl

pub going_of : (o : Option Refusal) → is_going o ≡ goes_on o
going_of None = refl
going_of (Some refusal) = refl

pub number_small : (block more : ℕ) → block + more < 2 ^ 64 → number_after block more ≡ block + more
number_small block more h = omega arith

pub ended_again : (e : Option Refusal) → e ≡ e
ended_again None = refl
ended_again (Some refusal) = refl
