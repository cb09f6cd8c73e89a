-- What a program over a trace does next, from what it has read and what it keeps for its two outputs. Assumes nothing.
use Rattle.std.specs.Prelude.{Bool, cond, not, ◌&&◌, ◌||◌, List, ℕ, leb, ltb, length}
use Rattle.format.specs.Blocks.{block_bytes}
use Rattle.shell.specs.Fills.{is_failure}
use Rattle.shell.specs.Transfers.{left_of, ready_of}
use Rattle.shell.specs.declared.reading.Ahead.{Ahead}
use Rattle.shell.specs.declared.reading.Ahead.TheVariants.{More, End, Failure}
use Rattle.shell.specs.declared.transfers.Transfer.{Transfer}
use Rattle.shell.specs.declared.turns.Turn.{Turn}
use Rattle.shell.specs.declared.turns.Turn.TheVariants.{Take, Print, Read, Finish, Stop}

-- something is to be printed now, and no read has failed
unfoldable pub is_due : Transfer → Bool
is_due t = not (is_failure t.input.ahead) && (ltb 0 (ready_of t t.out.used) || ltb 0 (ready_of t t.err.used))

-- if no whole block is left more is read, or the run is ended
abbrev pub last_of : Ahead → Turn
last_of More = Read
last_of End = Finish
last_of Failure = Finish

-- nothing follows a failed write; then output is printed, also before a refused block ends the run; then whole blocks are taken; then more is read
unfoldable pub turn_of : Transfer → List ℕ → Turn
turn_of t piece =
    cond t.out.failed Stop
    (cond (is_due t) Print
    (cond (not t.going) Finish
    (cond (leb block_bytes (length (left_of t piece))) Take (last_of t.input.ahead))))
