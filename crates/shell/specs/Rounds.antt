-- A program's turns cannot go round for ever: each that takes or prints lessens what is to be done before the next read, a read that is not the last brings a
-- byte, and after the last the run is ended. Assumes nothing.
use Rattle.answers.specs.declared.Refusal.{Refusal}
use Rattle.std.specs.Prelude.{◌≡◌, Bool, false, cond, List, ℕ, ◌+◌, ◌*◌, ◌≤◌, ◌<◌, length, Option}
use Rattle.format.specs.Blocks.{block_bytes}
use Rattle.shell.specs.Fills.{is_more}
use Rattle.shell.specs.Transfers.{left_of, taken_of, put_of, ready_of, Brought, Flushed}
use Rattle.shell.specs.Turns.{is_due, turn_of}
use Rattle.shell.specs.declared.printing.Output.{Output}
use Rattle.shell.specs.declared.reading.Ahead.TheVariants.{More}
use Rattle.shell.specs.declared.transfers.Transfer.{Transfer}
use Rattle.shell.specs.declared.turns.Turn.TheVariants.{Take, Print, Read, Finish}

abbrev pub one : Bool → ℕ
one b = cond b 1 0

-- what is to be done before the next read: the bytes that are left, whether the run goes on, and whether something is to be printed
unfoldable pub to_do : Transfer → List ℕ → ℕ
to_do t piece = 2 * (length (left_of t piece) + one t.going) + one (is_due t)

-- whatever a call takes, and whatever is kept or printed for it
abbrev pub TakeLessens : Type 0
TakeLessens =
    (t : Transfer) (piece : List ℕ) (ended : Option Refusal) (bytes : ℕ) (out err : Output)
    → turn_of t piece ≡ Take → to_do (put_of (taken_of t ended bytes piece) out err) piece < to_do t piece

abbrev pub PrintLessens : Type 0
PrintLessens =
    (t r : Transfer) (piece lines told lines' told' : List ℕ)
    → turn_of t piece ≡ Print → Flushed (ready_of t t.out.used) (ready_of t t.err.used) t lines told r lines' told' → to_do r piece < to_do t piece

-- in a piece that has room for a block
abbrev pub ReadBrings : Type 0
ReadBrings =
    (t r : Transfer) (piece next : List ℕ)
    → block_bytes ≤ length piece → turn_of t piece ≡ Read → Brought t piece r next → r.input.ahead ≡ More → length (left_of t piece) < length (left_of r next)

-- the end of the input, or a failed read: nothing is taken or printed before the run is ended, and the read reported
abbrev pub LastFinishes : Type 0
LastFinishes =
    (t r : Transfer) (piece next : List ℕ) → turn_of t piece ≡ Read → Brought t piece r next → is_more r.input.ahead ≡ false → turn_of r next ≡ Finish
