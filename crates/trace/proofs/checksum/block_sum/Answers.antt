use Rattle.std.proofs.Common.{◌≡◌, ℕ, ◌+◌, ◌-◌, ◌*◌, ◌/◌, ◌%◌, ◌<◌, ◌≤◌, get_or, refl, ap, ◌∙◌, zero-add, arith}
use Rattle.numbers.proofs.BigEndian.{Octets}
use Rattle.trace.proofs.Sums.{halves_turn, halves_lowers, halves_done, carried, carried_twice, ones-swapped, low_total}
use Rattle.trace.proofs.checksum.block_sum.Goals.{After-loop-i}
use Rattle.trace.proofs.checksum.block_sum.Goals as goal

pub loop-i-init : goal.loop-i-init
loop-i-init c =
    (0, record { inside = omega arith; whole = refl; few_uppers = omega arith; few_lowers = omega arith; wrapped = refl; left = zero-add _ })

pub low32-pair-requires : goal.low32-pair-requires
low32-pair-requires c = omega (arith, c.loop-i.invariant.1)

pub overflow_add-uppers : goal.overflow_add-uppers
overflow_add-uppers c = omega (arith, c.loop-i.invariant.1, c.low32-pair.type_inv)

pub loop-i-preserved : goal.loop-i-preserved
loop-i-preserved c =
    let loop = c.loop-i in
    let s = c.args.s.now in
    let octets : Octets s = λ j. (c.shared_slice_known-1.given j).fits in
    (loop.invariant.0 + (get_or s (loop.i + 1) 0 * 256 + get_or s loop.i 0), rw c.wrapping_add_u32-pairs.ensures.value (halves_turn s loop.i loop.pairs loop.uppers loop.invariant.0 loop.invariant.1 c.low32-pair.result octets (rw c.requires) c.loop-i-test.true c.low32-pair.ensures))

-- after the loop the code's sum is that of all words
module _ (c : After-loop-i) where
  few : c.loop-i.i ≤ 512
  few = omega (arith, c.loop-i.invariant.1.inside, c.requires)

  lowers-are : (c.loop-i.pairs + 1099511627776 - c.loop-i.uppers * 65536) % 4294967296 ≡ c.loop-i.invariant.0
  lowers-are = halves_lowers c.args.s.now c.loop-i.i c.loop-i.pairs c.loop-i.uppers c.loop-i.invariant.0 c.loop-i.invariant.1 few

  small : c.loop-i.uppers ≤ 8388480
  small = omega (arith, few, c.loop-i.invariant.1.few_uppers)

  small-lowers : c.loop-i.invariant.0 ≤ 8388480
  small-lowers = omega (arith, few, c.loop-i.invariant.1.few_lowers)

  bound : (c.loop-i.pairs + 1099511627776 - c.loop-i.uppers * 65536) % 4294967296 + c.loop-i.uppers ≤ 4294836224
  bound = rw lowers-are (omega (arith, small, small-lowers))

-- two carries leave a word
folds : (t : ℕ) → t ≤ 4294836224 → (t % 65536 + t / 65536) % 65536 + (t % 65536 + t / 65536) / 65536 < 65536
folds t h = omega arith

pub overflow_cast-once : goal.overflow_cast-once
overflow_cast-once c = record { fits = folds _ (bound (goal.at.overflow_cast-once c).After-loop-i) }

pub returns : goal.returns
returns c =
    let s = c.args.s.now in
    let loop = c.loop-i in
    let whole : (loop.pairs + 1099511627776 - loop.uppers * 65536) % 4294967296 + loop.uppers ≡ low_total s =
    ap (λ (n : ℕ). n + loop.uppers) (lowers-are (goal.at.returns c).After-loop-i) ∙ halves_done s loop.i loop.pairs loop.uppers loop.invariant.0 loop.invariant.1 c.loop-i-test.false in
    c.swapped.ensures
    ∙ ap (λ (n : ℕ). n % 256 * 256 + n / 256) (carried_twice _ _ (bound (goal.at.returns c).After-loop-i) refl ∙ ap carried whole)
    ∙ ones-swapped s (λ j. (c.shared_slice_known-1.given j).fits)

pub overflow_add-i : goal.overflow_add-i
overflow_add-i c = omega (arith, c.loop-i.invariant.1.inside, c.requires)

pub overflow_mul-lowers : goal.overflow_mul-lowers
overflow_mul-lowers c = omega (arith, small (goal.at.overflow_mul-lowers c).After-loop-i)

pub overflow_sub-lowers : goal.overflow_sub-lowers
overflow_sub-lowers c = omega (arith, small (goal.at.overflow_sub-lowers c).After-loop-i)

pub overflow_add-sum : goal.overflow_add-sum
overflow_add-sum c = omega (arith, small (goal.at.overflow_add-sum c).After-loop-i)

pub overflow_add-once : goal.overflow_add-once
overflow_add-once c = omega (arith, small (goal.at.overflow_add-once c).After-loop-i)

pub overflow_add-once-2 : goal.overflow_add-once-2
overflow_add-once-2 c = omega (arith, small (goal.at.overflow_add-once-2 c).After-loop-i)
