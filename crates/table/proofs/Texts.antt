-- Laws of a text as a field. Assumes nothing.
use mathlib.Core.Path.{◌≡◌, refl, sym, ap, ◌∙◌}
use mathlib.Core.Bool.{Bool, true, false, ◌||◌}
use mathlib.Core.List.{List, [], ◌∷◌, ◌++◌}
use Prim.Native.Nat.{ℕ, suc, ◌+◌, ◌*◌, ◌≤◌, ◌<◌}
use native.Mathlib.Decide.{ℕ_discrete}
use native.Mathlib.Numerals.{add-one}
use native.Mathlib.Omega.{arith}
use borrow.Author.Tests.{ne_eqb}
use lib.ListN.{length, drop, get_or, set, length-append, drop_of_length-le}
use lib.Seq.{sets, drop-cons}
use Rattle.std.specs.List.{list_any}
use Rattle.answers.proofs.Stores.{sets-append}
use Rattle.table.specs.Field.{special, any_special, doubled_byte, doubled, as_field}

-- ---- a byte

pub byte_quote : (c : ℕ) → c ≡ 34 → doubled_byte c ≡ c ∷ c ∷ []
unfolding doubled_byte
byte_quote c e = rw e

pub byte_other : (c : ℕ) → (c ≡ 34 → ⊥) → doubled_byte c ≡ c ∷ []
unfolding doubled_byte
byte_other c e = rw (ne_eqb c 34 e)

pub byte_length : (c : ℕ) → (1 ≤ length (doubled_byte c)) × (length (doubled_byte c) ≤ 2)
byte_length c = pick (ℕ_discrete c 34)
  where
    pick : Dec (c ≡ 34) → (1 ≤ length (doubled_byte c)) × (length (doubled_byte c) ≤ 2)
    pick (yes e) = rw (byte_quote c e) (omega arith, omega arith)
    pick (no e) = rw (byte_other c e) (omega arith, omega arith)

-- ---- a loop over the bytes: what is left begins with the byte at i

module _ (s : List ℕ) (i : ℕ) (h : i < length s) where
  next : drop i s ≡ get_or s i 0 ∷ drop (i + 1) s
  next = rw (add-one i, drop-cons s i 0)

  pub doubled_turn : doubled (drop i s) ≡ doubled_byte (get_or s i 0) ++ doubled (drop (i + 1) s)
  unfolding doubled
  doubled_turn = ap doubled next

  pub length-turn : length (doubled (drop i s)) ≡ length (doubled_byte (get_or s i 0)) + length (doubled (drop (i + 1) s))
  length-turn = ap length doubled_turn ∙ length-append (doubled_byte (get_or s i 0)) (doubled (drop (i + 1) s))

module _ (s : List ℕ) (i : ℕ) (h : length s ≤ i) where
  pub doubled_done : doubled (drop i s) ≡ []
  unfolding doubled
  doubled_done = rw (drop_of_length-le s h)

-- the test of each byte, as std has it
pub any_is : (s : List ℕ) → list_any special s ≡ any_special s
unfolding any_special
any_is [] = refl
any_is (c ∷ s) = ap (λ (t : Bool). special c || t) (any_is s)

-- ---- the two forms of a field

module _ (s : List ℕ) where
  pub field_quoted : any_special s ≡ true → as_field s ≡ 34 ∷ (doubled s ++ (34 ∷ []))
  unfolding as_field
  field_quoted e = rw e

  pub field_bare : any_special s ≡ false → as_field s ≡ s
  unfolding as_field
  field_bare e = rw e

  pub length-quoted : any_special s ≡ true → length (as_field s) ≡ length (doubled s) + 2
  length-quoted e = ap length (field_quoted e) ∙ simp length-append (omega arith)

  pub length-bare : any_special s ≡ false → length (as_field s) ≡ length s
  length-bare e = ap length (field_bare e)

-- a quote, the bytes, a quote
pub quoted_stored : (out : List ℕ) (at : ℕ) (s : List ℕ) {new : List ℕ} {end : ℕ} → any_special s ≡ true
    → new ≡ sets (set out at 34) (at + 1) (doubled s) → end ≡ at + 1 + length (doubled s) → set new end 34 ≡ sets out at (as_field s)
quoted_stored out at s q eo ee =
    rw (eo, ee, field_quoted s q, add-one at) (sym (sets-append (set out at 34) (suc at) (doubled s) (34 ∷ [])))

-- ---- how long

pub doubled_length : (s : List ℕ) → (length s ≤ length (doubled s)) × (length (doubled s) ≤ 2 * length s)
unfolding doubled
doubled_length [] = (omega arith, omega arith)
doubled_length (c ∷ s) =
    let rest = doubled_length s in
    let one = byte_length c in
    let sum = length-append (doubled_byte c) (doubled s) in
    (omega arith, omega arith)

-- a text of at most 502 bytes takes at most 1,006
pub field_most : (s : List ℕ) → length s ≤ 502 → length (as_field s) ≤ 1006
field_most s h = go (any_special s) refl
  where
    go : (b : Bool) → any_special s ≡ b → length (as_field s) ≤ 1006
    go true e = omega (arith, length-quoted s e, doubled_length s)
    go false e = omega (arith, length-bare s e)

-- a field as long as its text is bare
pub same_bare : (s : List ℕ) → length (as_field s) ≡ length s → as_field s ≡ s
same_bare s h = go (any_special s) refl
  where
    go : (b : Bool) → any_special s ≡ b → as_field s ≡ s
    go true e = absurd (omega (arith, length-quoted s e, doubled_length s))
    go false e = field_bare s e

pub other_quoted : (s : List ℕ) → (length (as_field s) ≡ length s → ⊥) → any_special s ≡ true
other_quoted s h = go (any_special s) refl
  where
    go : (b : Bool) → any_special s ≡ b → b ≡ true
    go true e = refl
    go false e = absurd (h (length-bare s e))
