use mathlib.Core.Path.{◌≡◌, sym, ap, ap₂, ◌∙◌}
use native.Mathlib.Omega.{arith}
use Prim.Native.Nat.{ℕ, ◌+◌, ◌*◌, ◌<◌}
use mir.Syntax.{w32}
use mir.ValLaws.{to_z_pos}
use Rattle.numbers.specs.BigEndian.{word}
use Rattle.numbers.specs.Since.{signed}
use Rattle.numbers.proofs.Differences.{signed_low, signed_high}
use Rattle.rtcp.proofs.Narrow.{narrow_fits, narrow_is}
use Rattle.rtcp.proofs.reports.signed24.Goals.{After-byte}
use Rattle.rtcp.proofs.reports.signed24.Goals as goal

abbrev number : (c : After-byte) → ℕ
number c = c.number16.result * 256 + c.byte.result

number_is : (c : After-byte) → number c ≡ word 3 c.args.b.now c.args.at
unfolding word
number_is c = ap₂ (λ (x y : ℕ). x * 256 + y) c.number16.ensures c.byte.ensures

number_lt : (c : After-byte) → number c < 16777216
number_lt c = omega (arith, c.number16.type_inv, c.byte.type_inv)

pub returns-then-n-lt8388608 : goal.returns-then-n-lt8388608
returns-then-n-lt8388608 c =
    let n = number (goal.at.returns-then-n-lt8388608 c).After-byte in
    to_z_pos w32 n (omega (arith, c.if-n-lt8388608.true)) ∙ sym (signed_low 23 n c.if-n-lt8388608.true) ∙ ap (signed 24) (number_is (goal.at.returns-then-n-lt8388608 c).After-byte)

pub overflow_sub-result : goal.overflow_sub-result
overflow_sub-result c = narrow_fits 16777216 (number (goal.at.overflow_sub-result c).After-byte) (number_lt (goal.at.overflow_sub-result c).After-byte) (omega arith)

pub returns : goal.returns
returns c =
    let n = number (goal.at.returns c).After-byte in
    narrow_is 16777216 n (number_lt (goal.at.returns c).After-byte) (omega arith) ∙ sym (signed_high 23 n c.if-n-lt8388608.false) ∙ ap (signed 24) (number_is (goal.at.returns c).After-byte)
