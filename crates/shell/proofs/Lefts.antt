-- What is left of a piece, from its places, and what a step leaves of it. Assumes nothing.
use Rattle.std.specs.Prelude.{Option}
use Rattle.answers.specs.declared.Refusal.{Refusal}
use mathlib.Core.Path.{◌≡◌, refl, sym, ap, ◌∙◌}
use mathlib.Core.Bool.{Bool, true, false, ◌&&◌}
use mathlib.Core.List.{List}
use Prim.Native.Nat.{ℕ, ◌+◌, ◌-◌, ◌≤◌, min}
use native.Mathlib.Omega.{arith}
use borrow.Author.Tests.{leb-true, leb-false, lt-ltb}
use lib.Dec.{leb, ltb}
use lib.ListN.{length, take, drop, length-take, length-drop, drop_of_length-le}
use lib.Seq.{take_all, take-add, drop_at, length-take-le}
use Rattle.walk.specs.Endings.{is_going}
use Rattle.shell.specs.Transfers.{left_of, taken_of}
use Rattle.shell.specs.declared.transfers.Transfer.{Transfer}

-- so many bytes of a list, or all
pub take-clipped : (s : List ℕ) (bytes : ℕ) → take (min bytes (length s)) s ≡ take bytes s
take-clipped s bytes = go (leb bytes (length s)) refl
  where
    go : (t : Bool) → leb bytes (length s) ≡ t → take (min bytes (length s)) s ≡ take bytes s
    go true e = let same : min bytes (length s) ≡ bytes = omega (arith, leb-true bytes (length s) e) in ap (λ (k : ℕ). take k s) same
    go false e =
        let past = leb-false bytes (length s) e in
        take_all (min bytes (length s)) s (omega arith) ∙ sym (take_all bytes s (omega arith))

-- all but so many, or none
drop-clipped : (s : List ℕ) (from to : ℕ) → length s ≤ to → drop (min from to) s ≡ drop from s
drop-clipped s from to h = go (leb from to) refl
  where
    go : (t : Bool) → leb from to ≡ t → drop (min from to) s ≡ drop from s
    go true e = let same : min from to ≡ from = omega (arith, leb-true from to e) in ap (λ (k : ℕ). drop k s) same
    go false e =
        let past = leb-false from to e in
        drop_of_length-le s {i = min from to} (omega arith) ∙ sym (drop_of_length-le s {i = from} (omega arith))

-- from one place to another
between : (s : List ℕ) (at to : ℕ) → at ≤ to → to ≤ length s → take (to - at) (drop at s) ≡ drop at (take to s)
between s at to h k =
    let sum : at + (to - at) ≡ to = omega arith in
    sym
    (ap (λ (n : ℕ). drop at (take n s)) (sym sum)
    ∙ ap (drop at) (take-add at (to - at) s)
    ∙ drop_at (take at s) (take (to - at) (drop at s)) at (length-take-le at s (omega arith)))

-- the part between two places that are held to the list's length
pub part_is : (s : List ℕ) (from bytes : ℕ) {at to : ℕ} → to ≡ min bytes (length s) → at ≡ min from to → take (to - at) (drop at s) ≡ drop from (take bytes s)
part_is s from bytes {at} {to} e f =
    let long : length (take to s) ≤ to = rw length-take (omega arith) in
    between s at to (omega arith) (omega arith)
    ∙ ap (λ (k : ℕ). drop k (take to s)) f
    ∙ drop-clipped (take to s) from to long
    ∙ ap (λ (k : ℕ). drop from (take k s)) e
    ∙ ap (drop from) (take-clipped s bytes)

pub front_is : (s : List ℕ) (bytes : ℕ) {to : ℕ} → to ≡ min bytes (length s) → take (to - 0) s ≡ take bytes s
front_is s bytes {to} e = let same : to - 0 ≡ min bytes (length s) = omega arith in ap (λ (k : ℕ). take k s) same ∙ take-clipped s bytes

and_never : (b : Bool) → false ≡ (b && false)
and_never true = refl
and_never false = refl

and_ever : (b : Bool) → b ≡ (b && true)
and_ever true = refl
and_ever false = refl

-- how many bytes are left
pub left_long : (t : Transfer) (s : List ℕ) → length (left_of t s) ≡ min t.input.bytes (length s) - t.from
left_long t s = rw (length-drop, length-take)

-- ---- a call that took so many bytes

module _ (t : Transfer) (ended : Option Refusal) (bytes : ℕ) (s : List ℕ) {left : List ℕ} {n : ℕ} (e : left ≡ left_of t s) (m : n ≡ min bytes (length left)) where
  place : t.from + n ≡ t.from + min bytes (length (left_of t s))
  place = rw (m, e)

  pub none_taken_lem : bytes ≡ 0 → record { input = t.input; from = t.from + n; going = false; prompt = t.prompt; out = t.out; err = t.err } ≡ taken_of t ended bytes s
  none_taken_lem z = λ i. record { input = t.input; from = place i; going = going i; prompt = t.prompt; out = t.out; err = t.err }
    where
      going : false ≡ (is_going ended && ltb 0 bytes)
      going = rw z (and_never (is_going ended))

  pub some_taken : {going : Bool} → (bytes ≡ 0 → ⊥) → going ≡ is_going ended
      → record { input = t.input; from = t.from + n; going = going; prompt = t.prompt; out = t.out; err = t.err } ≡ taken_of t ended bytes s
  some_taken {going} z g = λ i. record { input = t.input; from = place i; going = goes i; prompt = t.prompt; out = t.out; err = t.err }
    where
      goes : going ≡ (is_going ended && ltb 0 bytes)
      goes = rw (lt-ltb 0 bytes (omega arith)) (g ∙ and_ever (is_going ended))
