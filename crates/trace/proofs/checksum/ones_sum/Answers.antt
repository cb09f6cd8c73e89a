use Rattle.std.proofs.Common.{◌≡◌, ℕ, ◌+◌, ◌*◌, ◌/◌, ◌%◌, [], ◌∷◌, get_or, drop, sym, refl, ap, ◌∙◌, add_assoc, zero-add, arith, rules}
use Rattle.trace.proofs.Sums.{low_total, carried, carried_twice, ones-swapped, low_turn, low_done}
use Rattle.numbers.proofs.BigEndian.{word_two}
use Rattle.trace.proofs.checksum.ones_sum.Goals as goal

pub loop-i-init : goal.loop-i-init
loop-i-init c = (search rules, refl, search rules, zero-add _)

pub overflow_add-sum : goal.overflow_add-sum
overflow_add-sum c = omega (arith, c.join16.type_inv)

pub loop-i-preserved : goal.loop-i-preserved
loop-i-preserved c =
    let loop = c.loop-i in
    let s = c.args.s.now in
    let low = get_or s loop.i 0 in
    let high = get_or s (loop.i + 1) 0 in
    let word : c.join16.result ≡ high * 256 + low = c.join16.ensures ∙ word_two (high ∷ low ∷ []) 0 in
    let left : low_total (drop loop.i s) ≡ c.join16.result + low_total (drop (loop.i + 2) s) =
    rw (low_turn s loop.i (omega arith), word) in (
      omega arith,
      omega arith,
      omega (arith, c.join16.type_inv),
      add_assoc loop.sum c.join16.result (low_total (drop (loop.i + 2) s)) ∙ ap (λ (n : ℕ). loop.sum + n) (sym left) ∙ loop.invariant.3,
    )

pub returns : goal.returns
returns c =
    let s = c.args.s.now in
    let loop = c.loop-i in
    let all : loop.sum ≡ low_total s = sym (low_done s loop.i loop.sum c.loop-i-test.false) ∙ loop.invariant.3 in
    let folded = carried_twice loop.sum _ (omega arith) refl ∙ ap carried all in
    c.swapped.ensures
    ∙ ap (λ (n : ℕ). n % 256 * 256 + n / 256) folded
    ∙ ones-swapped s (λ j. (c.shared_slice_known-1.given j).fits)
