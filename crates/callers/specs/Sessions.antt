-- The same of calls for one block each (walk/specs/Singles): what a C function leaves in lent words is read by the next as the state that the call on the state
-- itself hands on, so that they print the same.
use Rattle.std.specs.Prelude.{◌≡◌, List, ℕ, ℤ, Option}
use Rattle.answers.specs.Writers.{written, stored}
use Rattle.answers.specs.declared.Refusal.{Refusal}
use Rattle.walk.specs.Programs.{Printed, Ending}
use Rattle.walk.specs.Pieces.{Octets}
use Rattle.walk.specs.Steps.{Next, goes, refuses, fault_in, state_after}
use Rattle.walk.specs.Machines.{Session}
use Rattle.walk.specs.Singles.{Singles, singly}
use Rattle.capi.specs.Codes.{length_code}

-- a block is taken by both, and what is handed on is read as the other's, or it is refused by both with the same number
abbrev pub BothBring : {A B : Type 0} → (A → B → Type 0) → Next A → Next B → Type 0
BothBring Reads (goes a) (goes b) = Reads a b
BothBring Reads (goes a) (refuses refusal) = ⊥
BothBring Reads (refuses refusal) (goes b) = ⊥
BothBring Reads (refuses refusal) (refuses other) = refusal ≡ other

pub record ReadsAs {A B : Type 0} (c : Singles A) (d : Singles B) : Type 1 where
  pub Reads : A → B → Type 0
  pub starts : (b : List ℕ) → Octets b → BothBring Reads (c.start b) (d.start b) × (c.head b ≡ d.head b)
  pub turns : (x : A) (y : B) (b : List ℕ) → Reads x y → Octets b → BothBring Reads (c.next x b) (d.next y b) × (c.bytes x b ≡ d.bytes y b)
  pub ends : (x : A) (y : B) (e : Option Ending) → Reads x y → c.end x e ≡ d.end y e
  pub over : (refusal : Refusal) → c.over refusal ≡ d.over refusal

-- whatever is printed by calls of the first kind over a trace can be printed by those of the second
abbrev pub SessionReads : Type 1
SessionReads =
    (A B : Type 0) (c : Singles A) (d : Singles B) (trace : List ℕ) (q : Printed) → ReadsAs c d → Octets trace → Session (singly c) trace q → Session (singly d) trace q

-- a C function's answer, and what it leaves in the words and in the output, are those of such a call: `k` is what is kept, of which `words_of` are the words, `next`
-- what the block brings and `bytes` what it prints
pub record CallIs {A : Type 0} (words_of : A → List ℕ) (k : A) (next : Next A) (bytes old : List ℕ) (r : ℤ) (left out : List ℕ) : Type 0 where
  pub answers : r ≡ length_code (written (fault_in next) bytes old)
  pub keeps : left ≡ words_of (state_after k next (written (fault_in next) bytes old))
  pub stores : out ≡ stored (fault_in next) bytes old
