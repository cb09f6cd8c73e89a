-- What a call of `read` or `write` did (POSIX): it answers how many bytes it moved, or -1 with an error in errno. Assumes nothing.
use Rattle.std.specs.Prelude.{Bool, cond, ◌||◌, ℕ, ◌-◌, min, eqb, ℤ, pos, negsuc}
use Rattle.numbers.specs.Integers.{eq_z}
use Rattle.shell.specs.declared.retries.Outcome.{Outcome}
use Rattle.shell.specs.declared.retries.Outcome.TheVariants.{Bytes, Nothing, Again, Failed}

-- a call is made at most so often, 2^32 - 1 times, before it counts as failed
abbrev pub tries : ℕ
tries = 4294967295

-- after such an error the call is made again: a signal interrupted it (4, EINTR), or its file was not ready (11, EAGAIN)
unfoldable pub is_passing : ℤ → Bool
is_passing error = eq_z error (pos 4) || eq_z error (pos 11)

-- the tries left after one that failed with an error
unfoldable pub tries_after : ℕ → ℤ → ℕ
tries_after left error = cond (is_passing error) (left - 1) 0

-- the call is made again while a try is left
unfoldable pub retried_of : ℕ → Outcome
retried_of left = cond (eqb left 0) Failed (Again left)

-- what a call did that was to move n bytes and had so many tries left
unfoldable pub judged_of : ℤ → ℤ → ℕ → ℕ → Outcome
judged_of (pos answer) error left n = cond (eqb answer 0) Nothing (Bytes (min answer n))
judged_of (negsuc answer) error left n = retried_of (tries_after left error)

-- the bytes that a call moved
abbrev pub bytes_in : Outcome → ℕ
bytes_in (Bytes n) = n
bytes_in Nothing = 0
bytes_in (Again left) = 0
bytes_in Failed = 0
