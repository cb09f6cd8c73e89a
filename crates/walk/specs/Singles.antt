-- A program's calls for one block each: block 0; each later block, by a writer that has room or not (specs/Steps); the end. They are one way to make the
-- three calls of specs/Machines: of a piece, its first block is taken, if the output has room for what that prints.
use Rattle.answers.specs.declared.Unwritten.{Unwritten}
use Rattle.std.specs.Prelude.{◌≡◌, List, [], ◌∷◌, ℕ, suc, ◌*◌, ◌^◌, ◌≤◌, ◌<◌, length, replicate, Option, Some, None, Result, Ok, Err}
use Rattle.answers.specs.Writers.{written}
use Rattle.answers.specs.declared.Refusal.{Refusal}
use Rattle.answers.specs.declared.Refusal.TheVariants.{Incomplete}
use Rattle.format.specs.Blocks.{block_bytes}
use Rattle.walk.specs.Blocks.{blocks_of}
use Rattle.walk.specs.Programs.{Printed, nothing, to_output, Turn, Ending, Program, ending_at, printed_by}
use Rattle.walk.specs.Pieces.{Octets, whole_in}
use Rattle.walk.specs.Steps.{Next, goes, refuses, fault_in, state_after}
use Rattle.walk.specs.Machines.{Gave, Machine, Session, ending_by, goes_on}

-- the calls, over what they hand on: what block 0 brings and prints, what a later block brings and prints, what the end prints, and what is printed at the
-- end if block 0 was refused
pub record Singles (A : Type 0) : Type 0 where
  pub start : List ℕ → Next A
  pub head : List ℕ → List ℕ
  pub next : A → List ℕ → Next A
  pub bytes : A → List ℕ → List ℕ
  pub end : A → Option Ending → Printed
  pub over : Refusal → Printed

-- between two calls: what was handed on, if block 0 was not refused; the number of the next block; its refusal, if it ended the run
pub record Held (A : Type 0) : Type 0 where
  pub state : Option A
  pub block : ℕ
  pub refusal : Option Refusal

-- ---- the calls as a machine

abbrev pub started_by : {A : Type 0} → Next A → Held A
started_by (goes a) = record { state = Some a; block = 1; refusal = None }
started_by (refuses refusal) = record { state = None; block = 0; refusal = Some refusal }

abbrev pub none_given : {A : Type 0} → Held A → Gave (Held A)
none_given h = record { state = h; taken = 0; printed = nothing }

-- the call on a block that brings `next` and prints `bytes`, by the writer's answer: 12 takes nothing, so that the call is made again with more room
abbrev pub gave_by : {A : Type 0} → Held A → A → Next A → List ℕ → Result ℕ Unwritten → Gave (Held A)
gave_by h a next bytes (Ok n) = record {
  state = record { state = Some (state_after a next (Ok n)); block = suc h.block; refusal = None };
  taken = block_bytes;
  printed = to_output bytes;
}
gave_by h a next bytes (Err (Unwritten.Room n)) = none_given h
gave_by h a next bytes (Err (Unwritten.Refused refusal)) = record {
  state = record { state = Some a; block = h.block; refusal = Some refusal };
  taken = 0;
  printed = nothing;
}

-- the first of the whole blocks of a piece, with an output of so many bytes; nothing after a refusal
abbrev pub given_for : {A : Type 0} → Singles A → Held A → Option A → Option Refusal → List (List ℕ) → ℕ → Gave (Held A)
given_for c h (Some a) None (b ∷ bs) room = gave_by h a (c.next a b) (c.bytes a b) (written (fault_in (c.next a b)) (c.bytes a b) (replicate room 0))
given_for c h (Some a) None [] room = none_given h
given_for c h (Some a) (Some refusal) bs room = none_given h
given_for c h None o bs room = none_given h

abbrev pub end_for : {A : Type 0} → Singles A → Held A → Option A → Option Refusal → List ℕ → Printed
end_for c h (Some a) o rest = c.end a (ending_by h.block o rest)
end_for c h None (Some refusal) rest = c.over refusal
end_for c h None None rest = nothing

abbrev pub singly : {A : Type 0} → Singles A → Machine (Held A)
singly c = record {
  begin = λ b. record { state = started_by (c.start b); taken = 0; printed = to_output (c.head b) };
  blocks = λ h piece room. given_for c h h.state h.refusal (whole_in piece) room;
  end = λ h rest. end_for c h h.state h.refusal rest;
  going = λ h. goes_on h.refusal;
}

-- ---- what ties them to a program

-- block 0
abbrev pub Starts : {A S : Type 0} → (A → S → Type 0) → Singles A → Program S → Turn S → Next A → Type 0
Starts Stands c p t (goes a) = Stands a t.state × (t.refusal ≡ None)
Starts Stands c p t (refuses refusal) = (p.close t.state (ending_at 0 (Some refusal)) ≡ c.over refusal) × (t.refusal ≡ Some refusal)

-- a later block: one that is refused prints nothing and leaves the state as it was
abbrev pub Turns : {A S : Type 0} → (A → S → Type 0) → A → S → List ℕ → Turn S → Next A → Type 0
Turns Stands a s bytes t (goes next) = Stands next t.state × (t.printed ≡ to_output bytes) × (t.refusal ≡ None)
Turns Stands a s bytes t (refuses refusal) = t ≡ record { state = s; printed = nothing; refusal = Some refusal }

-- the calls follow the program: what they hand on stands for its state; a part of a block is refused with 1, printing nothing
pub record Mirrors {A S : Type 0} (c : Singles A) (p : Program S) : Type 1 where
  pub Stands : A → S → Type 0
  pub starts : (b : List ℕ) → Octets b → Starts Stands c p (p.begin b) (c.start b) × ((p.begin b).printed ≡ to_output (c.head b))
  pub turns : (i : ℕ) (a : A) (s : S) (b : List ℕ) → Stands a s → Octets b → Turns Stands a s (c.bytes a b) (p.step i s b) (c.next a b)
  pub ends : (a : A) (s : S) (e : Option Ending) → Stands a s → c.end a e ≡ p.close s e
  pub parts : (i : ℕ) (s : S) (b : List ℕ) → 1 ≤ length b → length b < block_bytes → p.step i s b ≡ record { state = s; printed = nothing; refusal = Some Incomplete }

-- what the calls for one block each give over a trace, joined, is what the program prints on both outputs
abbrev pub SinglesPrint : Type 1
SinglesPrint =
    (A S : Type 0) (c : Singles A) (p : Program S) (trace : List ℕ) (q : Printed)
    → Mirrors c p → Octets trace → length trace < block_bytes * 2 ^ 64 → Session (singly c) trace q → q ≡ printed_by p (blocks_of trace)
