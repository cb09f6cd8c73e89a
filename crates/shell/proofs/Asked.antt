-- What a turn says of the tests that led to it. Assumes nothing.
use mathlib.Core.Path.{◌≡◌, refl, sym, ap}
use mathlib.Core.Logic.{◌⊎◌, inl, inr}
use mathlib.Core.Bool.{Bool, true, false, cond, not, false≢true}
use Prim.Native.Nat.{ℕ}
use native.Mathlib.Omega.{arith}
use lib.Dec.{eqb}
use Rattle.shell.specs.Fills.{is_more}
use Rattle.shell.specs.Turns.{last_of}
use Rattle.shell.specs.declared.reading.Ahead.{Ahead}
use Rattle.shell.specs.declared.reading.Ahead.TheVariants.{More, End, Failure}
use Rattle.shell.specs.declared.turns.Turn.{Turn}
use Rattle.shell.specs.declared.turns.Turn.TheVariants.{Take, Print, Read, Finish, Stop}

pub none_of : {A : Type 0} → ◌≡◌ {A = ℕ} 0 1 → A
none_of z = absurd (omega arith)

-- no two turns are the same
abbrev place : Turn → ℕ
place Take = 0
place Print = 1
place Read = 2
place Finish = 3
place Stop = 4

abbrev is : ℕ → Turn → Bool
is n t = eqb (place t) n

abbrev chosen : Bool → Bool → Bool → Bool → Ahead → Turn
chosen failed due going long a = cond failed Stop (cond due Print (cond (not going) Finish (cond long Take (last_of a))))

-- blocks are taken only if nothing is to be printed, the run goes on and a block is left
pub take-asks : (failed due going long : Bool) (a : Ahead) → chosen failed due going long a ≡ Take
    → (due ≡ false) × (going ≡ true) × (long ≡ true)
take-asks true due going long a e = absurd (false≢true (ap (is 0) e))
take-asks false true going long a e = absurd (false≢true (ap (is 0) e))
take-asks false false false long a e = absurd (false≢true (ap (is 0) e))
take-asks false false true true a e = (refl, refl, refl)
take-asks false false true false More e = absurd (false≢true (ap (is 0) e))
take-asks false false true false End e = absurd (false≢true (ap (is 0) e))
take-asks false false true false Failure e = absurd (false≢true (ap (is 0) e))

-- pieces are printed only if some are due
pub print_asks : (failed due going long : Bool) (a : Ahead) → chosen failed due going long a ≡ Print → due ≡ true
print_asks true due going long a e = absurd (false≢true (ap (is 1) e))
print_asks false true going long a e = refl
print_asks false false false long a e = absurd (false≢true (ap (is 1) e))
print_asks false false true true a e = absurd (false≢true (ap (is 1) e))
print_asks false false true false More e = absurd (false≢true (ap (is 1) e))
print_asks false false true false End e = absurd (false≢true (ap (is 1) e))
print_asks false false true false Failure e = absurd (false≢true (ap (is 1) e))

-- it is read only if no write has failed, nothing is to be printed, the run goes on, no block is left and more may come
pub read_asks : (failed due going long : Bool) (a : Ahead) → chosen failed due going long a ≡ Read
    → (going ≡ true) × (long ≡ false) × (a ≡ More) × (failed ≡ false) × (due ≡ false)
read_asks true due going long a e = absurd (false≢true (ap (is 2) e))
read_asks false true going long a e = absurd (false≢true (ap (is 2) e))
read_asks false false false long a e = absurd (false≢true (ap (is 2) e))
read_asks false false true true a e = absurd (false≢true (ap (is 2) e))
read_asks false false true false More e = (refl, refl, refl, refl, refl)
read_asks false false true false End e = absurd (false≢true (ap (is 2) e))
read_asks false false true false Failure e = absurd (false≢true (ap (is 2) e))

-- it is ended if no write has failed, nothing is to be printed, no block is left and nothing more comes
pub ends_if : (failed due going long : Bool) (a : Ahead) → failed ≡ false → due ≡ false → going ≡ true → long ≡ false → is_more a ≡ false
    → chosen failed due going long a ≡ Finish
ends_if failed due going long More f d g l m = absurd (false≢true (sym m))
ends_if failed due going long End f d g l m = rw (f, d, g, l)
ends_if failed due going long Failure f d g l m = rw (f, d, g, l)

-- the run is ended only after a refusal, or if no block is left and nothing more comes
pub finish_asks : (failed due going long : Bool) (a : Ahead) → chosen failed due going long a ≡ Finish
    → (going ≡ false) ⊎ ((long ≡ false) × (is_more a ≡ false))
finish_asks true due going long a e = absurd (false≢true (ap (is 3) e))
finish_asks false true going long a e = absurd (false≢true (ap (is 3) e))
finish_asks false false false long a e = inl refl
finish_asks false false true true a e = absurd (false≢true (ap (is 3) e))
finish_asks false false true false More e = absurd (false≢true (ap (is 3) e))
finish_asks false false true false End e = inr (refl, refl)
finish_asks false false true false Failure e = inr (refl, refl)
