-- Laws of a row's parts: numbers behind commas, the end of a row, a whole row. Assumes nothing.
use mathlib.Core.Path.{◌≡◌, refl, sym, ap, ap₂, ◌∙◌}
use mathlib.Core.Bool.{Bool, true, false}
use mathlib.Core.List.{List, [], ◌∷◌, ◌++◌, append_assoc, reverse}
use Prim.Native.Nat.{ℕ, zero, suc, ◌+◌, ◌-◌, ◌^◌, ◌≤◌, ◌<◌}
use native.Mathlib.Numerals.{add-one}
use native.Mathlib.Omega.{arith}
use lib.ListN.{length, drop, get_or, length-append, drop_of_length-le}
use lib.Seq.{drop-cons}
use Rattle.std.proofs.lemmas.List.{get_or-reverse, get_or_default, length-reverse}
use Rattle.source.specs.declared.Source.{Source}
use Rattle.source.specs.declared.Totals.{Totals}
use Rattle.source.specs.Record.{lost}
use Rattle.table.specs.Decimal.{decimal, signed}
use Rattle.table.specs.Field.{as_field, line}
use Rattle.table.specs.Lines.{row_bytes}
use Rattle.table.specs.Parts.{behind_commas, minus, tail, whole}
use Rattle.table.proofs.Digits.{length-u64}

-- ---- numbers behind commas, those from i on

module _ (ns : List ℕ) (i : ℕ) (h : i < length ns) where
  pub commas_turn : behind_commas (drop i ns) ≡ (44 ∷ decimal (get_or ns i 0)) ++ behind_commas (drop (i + 1) ns)
  unfolding behind_commas
  commas_turn = ap behind_commas next
    where
      next : drop i ns ≡ get_or ns i 0 ∷ drop (i + 1) ns
      next = rw (add-one i, drop-cons ns i 0)

  pub commas_length : length (behind_commas (drop i ns)) ≡ length (decimal (get_or ns i 0)) + 1 + length (behind_commas (drop (i + 1) ns))
  commas_length = ap length commas_turn ∙ simp length-append (omega arith)

pub commas_done : (ns : List ℕ) (i : ℕ) → length ns ≤ i → behind_commas (drop i ns) ≡ []
unfolding behind_commas
commas_done ns i h = rw (drop_of_length-le ns h)

pub commas_rest : (ns : List ℕ) (i : ℕ) → i ≤ length ns → length (behind_commas (drop i ns)) ≤ length (behind_commas ns)
unfolding behind_commas
commas_rest ns zero h = omega arith
commas_rest [] (suc i) h = absurd (omega arith)
commas_rest (n ∷ ns) (suc i) h =
    omega (arith, commas_rest ns i (omega arith), length-append (44 ∷ decimal n) (behind_commas ns))

-- the number n before the last k, and those
backwards : (ns : List ℕ) (k n : ℕ) → (k < length (reverse ns)) × (n ≡ get_or (reverse ns) k n) → (k < length ns) × (n ≡ get_or ns (length ns - (k + 1)) 0)
backwards ns k n t =
    let h : k < length ns = omega (arith, length-reverse ns, t.0) in
    (h, t.1 ∙ get_or-reverse ns k n h ∙ get_or_default ns (length ns - 1 - k) n 0 (omega arith) ∙ ap (λ (i : ℕ). get_or ns i 0) (omega arith))

module _ (ns : List ℕ) (k n : ℕ) (t : (k < length (reverse ns)) × (n ≡ get_or (reverse ns) k n)) where
  pub commas_back : behind_commas (drop (length ns - (k + 1)) ns) ≡ (44 ∷ decimal n) ++ behind_commas (drop (length ns - k) ns)
  commas_back =
      let b = backwards ns k n t in
      commas_turn ns (length ns - (k + 1)) (omega (arith, b.0))
      ∙ ap₂ (λ (m i : ℕ). (44 ∷ decimal m) ++ behind_commas (drop i ns)) (sym b.1) (omega (arith, b.0))

  pub commas_fit : length (decimal n) + 1 + length (behind_commas (drop (length ns - k) ns)) ≤ length (behind_commas ns)
  commas_fit =
      let whole = commas_rest ns (length ns - (k + 1)) (omega arith) in
      let one = length-append (44 ∷ decimal n) (behind_commas (drop (length ns - k) ns)) in
      omega (arith, ap length commas_back)

-- ---- the lengths

module _ (below : Bool) (size : ℕ) (back : List ℕ) where
  pub length-tail : length (tail below size back) ≡ length (minus below size) + length (behind_commas back) + 3
  unfolding tail
  length-tail = simp length-append (omega arith)

  pub length_whole : (label front : List ℕ)
      → length (whole label front below size back) ≡ length (as_field label) + length (behind_commas front) + length (tail below size back)
  unfolding whole
  length_whole label front = simp length-append (omega arith)

-- a number takes at most 21 bytes
pub minus_most : (below : Bool) (size : ℕ) → size < 2 ^ 64 → length (minus below size) ≤ 21
unfolding minus
minus_most true size h = omega (arith, length-u64 size h)
minus_most false size h = omega (arith, length-u64 size h)

-- ---- a row is its parts

-- the numbers before lost, and behind it
abbrev pub front_of : ℕ → ℕ → Source → List ℕ
front_of ssrc high s = ssrc ∷ high ∷ s.ect0 ∷ s.ect1 ∷ s.ce ∷ s.notect ∷ []

abbrev pub back_of : Totals → List ℕ
back_of t = t.source.duplicates ∷ t.jumped ∷ t.restarts ∷ []

commas_cons : (n : ℕ) (ns x : List ℕ) → behind_commas (n ∷ ns) ++ x ≡ 44 ∷ (decimal n ++ (behind_commas ns ++ x))
unfolding behind_commas
commas_cons n ns x = ap (λ (l : List ℕ). 44 ∷ l) (append_assoc (decimal n) (behind_commas ns) x)

commas_nil : (x : List ℕ) → behind_commas [] ++ x ≡ x
unfolding behind_commas
commas_nil x = refl

pub row_parts : (label : List ℕ) (ssrc : ℕ) (t : Totals) (high : ℕ) (below : Bool) (size : ℕ)
    → signed t.source.highest.0 ≡ decimal high → signed (lost t.source) ≡ minus below size
    → row_bytes label ssrc t ≡ whole label (front_of ssrc high t.source) below size (back_of t)
unfolding row_bytes line whole tail
row_parts label ssrc t high below size e m = rw (e, m) (simp (commas_cons, commas_nil))
