use native.Mathlib.Omega.{arith}
use Prim.Native.Nat.{ℕ, ◌+◌, ◌-◌, ◌*◌, ◌/◌, ◌%◌, ◌<◌}
use mathlib.Core.Path.{◌≡◌, sym, ap, ap₂, ◌∙◌}
use lib.ListN.{get_or}
use Rattle.numbers.specs.BigEndian.{word}
use Rattle.numbers.proofs.BigEndian.{word_two}
use Rattle.engine.specs.Windows.{turned}
use Rattle.engine.proofs.records.ending.Goals as goal

-- four bytes in one word
module _ (a b m z : ℕ) (ha : a < 256) (hb : b < 256) (hm : m < 256) (hz : z < 256) where
  low : (a + b * 256 + m * 65536 + z * 16777216) % 65536 ≡ (a * 256 + b) / 256 + (a * 256 + b) % 256 * 256
  low =
      let first : (a * 256 + b) / 256 ≡ a = omega arith in
      let second : (a * 256 + b) % 256 ≡ b = omega arith in
      let sum : a + b * 256 + m * 65536 + z * 16777216 ≡ (a + b * 256) + (m + z * 256) * 65536 = omega arith in
      ap (λ (x : ℕ). x % 65536) sum ∙ over (a + b * 256) (m + z * 256) (omega arith) ∙ ap₂ (λ (x y : ℕ). x + y * 256) (sym first) (sym second)
    where
      over : (x y : ℕ) → x < 65536 → (x + y * 65536) % 65536 ≡ x
      over x y h = omega arith

  third : (a + b * 256 + m * 65536 + z * 16777216) / 65536 % 256 ≡ m
  third =
      let sum : a + b * 256 + m * 65536 + z * 16777216 ≡ (a + b * 256) + (m + z * 256) * 65536 = omega arith in
      ap (λ (x : ℕ). x / 65536 % 256) sum ∙ ap (λ (x : ℕ). x % 256) (over (a + b * 256) (m + z * 256) (omega arith)) ∙ omega arith
    where
      over : (x y : ℕ) → x < 65536 → (x + y * 65536) / 65536 ≡ y
      over x y h = omega arith

pub returns : goal.returns
returns c =
    let a = c.args in
    let s = a.records.now in
    let place = a.at + (a.width - 4) in
    let one = c.wide.ensures in
    let two = c.wide-2.ensures in
    let three = c.wide-3.ensures in
    let four = c.wide-4.ensures in
    let number : word 2 s place ≡ c.wide.result * 256 + c.wide-2.result =
    word_two s place ∙ ap₂ (λ (x y : ℕ). x * 256 + y) (sym one.0) (sym two.0) in
    let mark : place + 2 ≡ a.at + (a.width - 2) = omega (arith, c.requires.0) in
    record {
      number = low _ _ _ _ one.1 two.1 three.1 four.1 ∙ sym (ap turned number);
      mark = third _ _ _ _ one.1 two.1 three.1 four.1 ∙ three.0 ∙ ap (λ (i : ℕ). get_or s i 0) mark;
    }
