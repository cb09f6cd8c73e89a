-- The line of a refused block is short. Assumes nothing.
use Prim.Native.Nat.{ℕ, ◌^◌, ◌≤◌, ◌<◌}
use native.Mathlib.Omega.{arith}
use lib.ListN.{length}
use Rattle.answers.specs.Refusals.{number_of}
use Rattle.answers.specs.declared.Refusal.{Refusal}
use Rattle.answers.specs.declared.Refusal.TheVariants.{Incomplete, Version, FirstPacket, PacketSize, Padding, BlockSize, Jump, Full, Malformed, Limits, Time, Checksum, Contents, Places, Rules, FormTwo, Attribute, Retired}
use Rattle.table.specs.Lines.{refused_line}
use Rattle.table.proofs.Digits.{length-u64}
use Rattle.table.proofs.RefusedLines.{length-refused}

number_small : (r : Refusal) → number_of r < 2 ^ 64
number_small Incomplete = omega arith
number_small Version = omega arith
number_small FirstPacket = omega arith
number_small PacketSize = omega arith
number_small Padding = omega arith
number_small BlockSize = omega arith
number_small Jump = omega arith
number_small Full = omega arith
number_small Malformed = omega arith
number_small Limits = omega arith
number_small Time = omega arith
number_small Checksum = omega arith
number_small Contents = omega arith
number_small Places = omega arith
number_small Rules = omega arith
number_small FormTwo = omega arith
number_small Attribute = omega arith
number_small Retired = omega arith

pub line_small : (refusal : Refusal) (block : ℕ) → block < 2 ^ 64 → length (refused_line (number_of refusal) block) ≤ 64
line_small refusal block h =
    omega (arith, length-refused (number_of refusal) block, length-u64 (number_of refusal) (number_small refusal), length-u64 block h)
