-- What is kept at the front of a lent buffer for an output, and printed. Assumes nothing.
use Rattle.std.specs.Prelude.{◌≡◌, true, false, cond, ◌||◌, List, ℕ, ◌+◌, ◌-◌, min, ℤ, length, take, drop}
use Rattle.std.proofs.lemmas.List.Edits.{sets}
use Rattle.shell.specs.Writes.{has_failed}
use Rattle.shell.specs.declared.printing.Output.{Output}
use Rattle.shell.specs.declared.writing.Writing.{Writing}

-- nothing is kept or written yet for a file descriptor
abbrev pub empty_of : ℤ → Output
empty_of fd = record { fd = fd; used = 0; wrote = 0; failed = false }

-- so many bytes more are kept, as far as a buffer of n bytes has them
abbrev pub kept_of : ℕ → ℕ → Output → Output
kept_of n bytes out = record { fd = out.fd; used = min (out.used + bytes) n; wrote = out.wrote; failed = out.failed }

-- how many of n bytes are to be printed: none after a failure
unfoldable pub due_of : Output → ℕ → ℕ
due_of out n = cond out.failed 0 n

-- after a print: what was written, and whether a write has failed, now or before
abbrev pub output_after : Output → Writing → Output
output_after out w = record { fd = out.fd; used = out.used; wrote = w.at; failed = has_failed w || out.failed }

-- n bytes were printed: all of them were written, unless a write has failed; and a failure is not forgotten
pub record Printed (n : ℕ) (out r : Output) : Type 0 where
  pub same : r.fd ≡ out.fd
  pub kept : r.used ≡ out.used
  pub whole : r.failed ≡ false → r.wrote ≡ n
  pub still : out.failed ≡ true → r.failed ≡ true

-- the first bytes of what is kept were printed, at most so many, and are not kept any more: those after them stand at the front of the buffer now
pub record Moved (bytes : ℕ) (out : Output) (old : List ℕ) (r : Output) (new : List ℕ) : Type 0 where
  pub same : r.fd ≡ out.fd
  pub fewer : r.used ≡ min out.used (length old) - bytes
  pub front : new ≡ sets old 0 (take r.used (drop bytes old))
  pub whole : r.failed ≡ false → r.wrote ≡ min bytes (min out.used (length old))
  pub still : out.failed ≡ true → r.failed ≡ true
