use Rattle.std.proofs.Common.{◌+◌, ◌<◌, get_or, arith}
use Rattle.trace.proofs.checksum.low32.Goals.{After-shared_slice_known-4-1}
use Rattle.trace.proofs.checksum.low32.Goals as goal

-- the four bytes
record Bytes (c : After-shared_slice_known-4-1) : Type 0 where
  lowest : get_or c.args.s.now c.args.at 0 < 256
  low : get_or c.args.s.now (c.args.at + 1) 0 < 256
  high : get_or c.args.s.now (c.args.at + 2) 0 < 256
  highest : get_or c.args.s.now (c.args.at + 3) 0 < 256

bytes : (c : After-shared_slice_known-4-1) → Bytes c
bytes c =
    let at = c.args.at in
    let given = c.shared_slice_known-1.given in
    record { lowest = (given at).fits; low = (given (at + 1)).fits; high = (given (at + 2)).fits; highest = (given (at + 3)).fits }

pub overflow_cast-a : goal.overflow_cast-a
overflow_cast-a c = omega (arith, c.shared_slice_known-1.given c.args.at)

pub overflow_cast-b : goal.overflow_cast-b
overflow_cast-b c = omega (arith, c.shared_slice_known-2-1.given (c.args.at + 1))

pub overflow_cast-c : goal.overflow_cast-c
overflow_cast-c c = omega (arith, c.shared_slice_known-3-1.given (c.args.at + 2))

pub overflow_cast-d : goal.overflow_cast-d
overflow_cast-d c = omega (arith, bytes (goal.at.overflow_cast-d c).After-shared_slice_known-4-1)

pub overflow_mul-result : goal.overflow_mul-result
overflow_mul-result c = omega (arith, bytes (goal.at.overflow_mul-result c).After-shared_slice_known-4-1)

pub overflow_mul-result-2 : goal.overflow_mul-result-2
overflow_mul-result-2 c = omega (arith, bytes (goal.at.overflow_mul-result-2 c).After-shared_slice_known-4-1)

pub overflow_add-result : goal.overflow_add-result
overflow_add-result c = omega (arith, bytes (goal.at.overflow_add-result c).After-shared_slice_known-4-1)

pub overflow_mul-result-3 : goal.overflow_mul-result-3
overflow_mul-result-3 c = omega (arith, bytes (goal.at.overflow_mul-result-3 c).After-shared_slice_known-4-1)

pub overflow_add-result-2 : goal.overflow_add-result-2
overflow_add-result-2 c = omega (arith, bytes (goal.at.overflow_add-result-2 c).After-shared_slice_known-4-1)

pub overflow_add-result-3 : goal.overflow_add-result-3
overflow_add-result-3 c = omega (arith, bytes (goal.at.overflow_add-result-3 c).After-shared_slice_known-4-1)
