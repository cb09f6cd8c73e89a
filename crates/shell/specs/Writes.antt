-- How bytes are written, with as many calls as that takes. Assumes nothing.
use Rattle.std.specs.Prelude.{◌≡◌, Bool, false, not, ◌&&◌, ℕ, ◌+◌, ◌/◌, eqb, ltb, ℤ, pos}
use Rattle.numbers.specs.Integers.{eq_z}
use Rattle.shell.specs.Tries.{tries}
use Rattle.shell.specs.declared.writing.Writing.{Writing}
use Rattle.shell.specs.declared.retries.Outcome.{Outcome}
use Rattle.shell.specs.declared.retries.Outcome.TheVariants.{Bytes, Nothing, Again, Failed}

-- before the first write
abbrev pub unwritten : Writing
unwritten = record { at = 0; left = tries }

-- no try is left
abbrev pub has_failed : Writing → Bool
has_failed w = eqb w.left 0

-- a failed write is told if it was to standard output (1)
unfoldable pub is_told : ℤ → Writing → Bool
is_told fd w = has_failed w && eq_z fd (pos 1)

-- whether more of n bytes is written
unfoldable pub is_unwritten : Writing → ℕ → Bool
is_unwritten w n = not (has_failed w) && ltb w.at n

-- after a write: bytes were taken, and the next one has all tries again; none was taken, which halves the tries; it is made again; or it has failed
abbrev pub writing_after : Writing → Outcome → Writing
writing_after w (Bytes n) = record { at = w.at + n; left = tries }
writing_after w Nothing = record { at = w.at; left = w.left / 2 }
writing_after w (Again left) = record { at = w.at; left = left }
writing_after w Failed = record { at = w.at; left = 0 }

-- n bytes were written to the last, unless a write has failed
pub record Ended (n : ℕ) (w : Writing) : Type 0 where
  pub all : has_failed w ≡ false → w.at ≡ n
