-- A program as three calls over a lent trace: `begin` takes block 0; `blocks` takes whole blocks of a piece, as many as it does, from its front on;
-- `end` takes what is left, under 512 bytes, and closes the run. What the calls print, joined, is what the program prints.
use Rattle.std.specs.Prelude.{◌≡◌, Bool, true, false, List, [], ◌∷◌, ◌++◌, ℕ, ◌+◌, ◌*◌, ◌^◌, ◌≤◌, ◌<◌, length, take, drop, Option, Some, None}
use Rattle.answers.specs.declared.Refusal.{Refusal}
use Rattle.answers.specs.declared.Refusal.TheVariants.{Incomplete}
use Rattle.format.specs.Blocks.{block_bytes}
use Rattle.walk.specs.Blocks.{blocks_of}
use Rattle.walk.specs.Programs.{Printed, nothing, both, Turn, Ending, Program, ending_at, printed_by}
use Rattle.walk.specs.Pieces.{Octets, wholes, whole_in}
use Rattle.walk.specs.Fitting.{Took, front, fitting}

-- what a call gives: the next state, how many bytes of the piece it took, and what is printed of them
pub record Gave (H : Type 0) : Type 0 where
  pub state : H
  pub taken : ℕ
  pub printed : Printed

-- the calls, where the outputs of the first and the last have room; `blocks` is lent an output of some length; `going` says of a state that no block was refused
pub record Machine (H : Type 0) : Type 0 where
  pub begin : List ℕ → Gave H
  pub blocks : H → List ℕ → ℕ → Gave H
  pub end : H → List ℕ → Printed
  pub going : H → Bool

-- ---- every way to make the calls

-- what the calls on the bytes behind block 0 print: pieces of any length, each from where the one before stopped, with any room; then the end, with
-- what is left where that is no whole block, or with anything after a refusal
pub data Rest {H : Type 0} (m : Machine H) : H → List ℕ → Printed → Type 0 where
  more : (h : H) (piece behind : List ℕ) (room : ℕ) (q : Printed)
      → Rest m (m.blocks h piece room).state (drop (m.blocks h piece room).taken (piece ++ behind)) q
      → Rest m h (piece ++ behind) (both (m.blocks h piece room).printed q)
  done : (h : H) (rest : List ℕ) → length rest < block_bytes → Rest m h rest (m.end h rest)
  over : (h : H) (left rest : List ℕ) → m.going h ≡ false → Rest m h left (m.end h rest)

-- the calls on a trace: block 0, and the bytes behind it
pub data Session {H : Type 0} (m : Machine H) (trace : List ℕ) : Printed → Type 0 where
  began : (q : Printed) → Rest m (m.begin (take block_bytes trace)).state (drop block_bytes trace) q
      → Session m trace (both (m.begin (take block_bytes trace)).printed q)

-- ---- what ties the calls to a program

-- how a program's run stands between two calls: its state, the number of its next block, and the refusal that this has, if it ended the run
pub record Standing (S : Type 0) : Type 0 where
  pub state : S
  pub block : ℕ
  pub refusal : Option Refusal

-- behind block 0
abbrev pub next_behind : Option Refusal → ℕ
next_behind None = 1
next_behind (Some refusal) = 0

abbrev pub begun_by : {S : Type 0} → Turn S → Standing S
begun_by t = record { state = t.state; block = next_behind t.refusal; refusal = t.refusal }

-- nothing is taken after a refusal
abbrev pub no_more : {S : Type 0} → Standing S → Refusal → Took S
no_more s refusal = record { state = s.state; taken = 0; printed = nothing; refusal = Some refusal }

-- the first whole blocks of a piece, at most so many
abbrev pub took_by : {S : Type 0} → Program S → Standing S → Option Refusal → List ℕ → ℕ → Took S
took_by p s None piece most = front p s.block most (whole_in piece) s.state
took_by p s (Some refusal) piece most = no_more s refusal

-- those for which standard output has so much room
abbrev pub fitting_by : {S : Type 0} → Program S → Standing S → Option Refusal → List ℕ → ℕ → Took S
fitting_by p s None piece room = fitting p s.block (whole_in piece) s.state room
fitting_by p s (Some refusal) piece room = no_more s refusal

abbrev pub stood_by : {S : Type 0} → Standing S → Took S → Standing S
stood_by s w = record { state = w.state; block = s.block + w.taken; refusal = w.refusal }

-- how the run ends: by the refusal that it has, or by 1 where a part of a block is left
abbrev pub ending_by : ℕ → Option Refusal → List ℕ → Option Ending
ending_by block (Some refusal) rest = ending_at block (Some refusal)
ending_by block None [] = None
ending_by block None (c ∷ rest) = ending_at block (Some Incomplete)

-- whether it goes on
abbrev pub goes_on : Option Refusal → Bool
goes_on None = true
goes_on (Some refusal) = false

-- what `blocks` gives is what the program's turns give of the blocks that it took
pub record Gives {H S : Type 0} (Stands : H → Standing S → Type 0) (s : Standing S) (w : Took S) (g : Gave H) : Type 0 where
  pub stands : Stands g.state (stood_by s w)
  pub taken : g.taken ≡ block_bytes * w.taken
  pub printed : g.printed ≡ w.printed

-- the calls follow the program: their states stand for its own, and a part of a block is refused with 1, printing nothing
pub record Follows {H S : Type 0} (m : Machine H) (p : Program S) : Type 1 where
  pub Stands : H → Standing S → Type 0
  pub going : (h : H) (s : Standing S) → Stands h s → m.going h ≡ goes_on s.refusal
  pub begins : (b : List ℕ) → Octets b → Stands (m.begin b).state (begun_by (p.begin b)) × ((m.begin b).printed ≡ (p.begin b).printed)
  pub takes : (h : H) (s : Standing S) (piece : List ℕ) (room : ℕ) → Stands h s → Octets piece → s.block + wholes piece < 2 ^ 64
      → (most : ℕ) × Gives Stands s (took_by p s s.refusal piece most) (m.blocks h piece room)
  pub ends : (h : H) (s : Standing S) (rest : List ℕ) → Stands h s → m.end h rest ≡ p.close s.state (ending_by s.block s.refusal rest)
  pub parts : (i : ℕ) (s : S) (b : List ℕ) → 1 ≤ length b → length b < block_bytes → p.step i s b ≡ record { state = s; printed = nothing; refusal = Some Incomplete }

-- however a trace of fewer than 2^64 blocks is cut into pieces, what was given for them, joined, is what the program prints on both outputs
abbrev pub SessionPrints : Type 1
SessionPrints =
    (H S : Type 0) (m : Machine H) (p : Program S) (trace : List ℕ) (q : Printed)
    → Follows m p → Octets trace → length trace < block_bytes * 2 ^ 64 → Session m trace q → q ≡ printed_by p (blocks_of trace)
