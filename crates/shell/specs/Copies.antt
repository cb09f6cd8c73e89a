-- How bytes of a piece are copied to standard output. Assumes nothing.
use Rattle.std.specs.Prelude.{◌≡◌, List, ℕ, length, take}
use Rattle.shell.specs.Kept.{Printed, Moved}
use Rattle.shell.specs.Transfers.{left_of, put_of}
use Rattle.shell.specs.declared.printing.Output.{Output}
use Rattle.shell.specs.declared.transfers.Transfer.{Transfer}

-- the first bytes of what is left, at most so many
abbrev pub front_of : ℕ → Transfer → List ℕ → List ℕ
front_of bytes t piece = take bytes (left_of t piece)

-- what is kept was printed, and so many bytes of what is left after it
pub record Copied (bytes : ℕ) (t : Transfer) (piece old : List ℕ) (r : Transfer) (new : List ℕ) : Type 0 where
  pub between : Output
  pub kept : Moved t.out.used t.out old between new
  pub printed : Printed (length (front_of bytes t piece)) between r.out
  pub other : r ≡ put_of t r.out t.err
