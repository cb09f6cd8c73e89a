-- The blocks of a piece in turn: to the last, to one that is refused, or to one where a call stops, as where its output has no room for the next block's bytes.
use Rattle.std.specs.Prelude.{◌≡◌, cond, List, [], ◌∷◌, ◌++◌, ℕ, zero, suc, ◌+◌, ◌-◌, ◌*◌, ◌≤◌, ltb, length, drop, Option, Some, None}
use Rattle.std.proofs.lemmas.List.Edits.{sets}
use Rattle.answers.specs.declared.Refusal.{Refusal}
use Rattle.format.specs.Blocks.{block_bytes}
use Rattle.walk.specs.Pieces.{Octets, wholes, whole_in}
use Rattle.walk.specs.Programs.{Printed, nothing, both, Turn, Program, Run, ending_at, onward, walk}

-- the state behind the blocks that were taken, how many they are, what they printed, and the refusal of the block behind them, if it has one
pub record Took (S : Type 0) : Type 0 where
  pub state : S
  pub taken : ℕ
  pub printed : Printed
  pub refusal : Option Refusal

abbrev pub none_taken : {S : Type 0} → S → Took S
none_taken s = record { state = s; taken = 0; printed = nothing; refusal = None }

-- a block's turn, and what follows it: nothing follows a refusal
abbrev pub one_more : {S : Type 0} → Turn S → Option Refusal → Took S → Took S
one_more t None w = record { state = w.state; taken = suc w.taken; printed = both t.printed w.printed; refusal = w.refusal }
one_more t (Some refusal) w = record { state = t.state; taken = 0; printed = t.printed; refusal = Some refusal }

-- the first of the blocks from i on, at most so many
unfoldable pub front : {S : Type 0} → Program S → ℕ → ℕ → List (List ℕ) → S → Took S
front p i zero bs s = none_taken s
front p i (suc most) [] s = none_taken s
front p i (suc most) (b ∷ bs) s = let t = p.step i s b in one_more t t.refusal (front p (suc i) most bs t.state)

-- the blocks from i on, where standard output has so much room
unfoldable pub fitting : {S : Type 0} → Program S → ℕ → List (List ℕ) → S → ℕ → Took S
fitting p i [] s room = none_taken s
fitting p i (b ∷ bs) s room =
    let t = p.step i s b in
    let n = length t.printed.out in
    cond (ltb room n) (none_taken s) (one_more t t.refusal (fitting p (suc i) bs t.state (room - n)))

-- what was taken from block i on, as a run
abbrev pub run_of : {S : Type 0} → ℕ → Took S → Run S
run_of i w = record { state = w.state; printed = w.printed; ended = ending_at (i + w.taken) w.refusal }

-- a loop that takes them has come to its end: `s` is the state, `o` the refusal, `at` the bytes of the piece that it took, `used` those that it wrote at the
-- front of a lent output, `old` and `out` that output before and after it
pub record Reached {S : Type 0} (all : Took S) (s : S) (o : Option Refusal) (at : ℕ) (old out : List ℕ) (used : ℕ) : Type 0 where
  pub state : all.state ≡ s
  pub taken : block_bytes * all.taken ≡ at
  pub refusal : all.refusal ≡ o
  pub long : length all.printed.out ≡ used
  pub stores : out ≡ sets old 0 all.printed.out

-- the walk over the blocks is what was taken, and then the walk from there
abbrev pub FrontWalks : Type 1
FrontWalks =
    (S : Type 0) (p : Program S) (i most : ℕ) (bs others : List (List ℕ)) (s : S)
    → let w = front p i most bs s in
    walk p i (bs ++ others) s ≡ onward (run_of i w) (walk p (i + w.taken) (drop w.taken (bs ++ others)))

-- the blocks that fit are the first ones
abbrev pub FittingIsFront : Type 1
FittingIsFront =
    (S : Type 0) (p : Program S) (i : ℕ) (bs : List (List ℕ)) (s : S) (room : ℕ) → (most : ℕ) × (fitting p i bs s room ≡ front p i most bs s)

-- they fit, and are no more than there are
abbrev pub FittingFits : Type 1
FittingFits =
    (S : Type 0) (p : Program S) (i : ℕ) (bs : List (List ℕ)) (s : S) (room : ℕ)
    → let w = fitting p i bs s room in
    (length w.printed.out ≤ room) × (w.taken ≤ length bs)

-- where no turn prints more than `most` bytes, room for as many bytes a block is enough: all whole blocks are taken, unless one is refused. `P` is
-- what the turns ask of a state and keep
abbrev pub RoomIsEnough : Type 1
RoomIsEnough =
    (S : Type 0) (p : Program S) (P : S → Type 0) (most : ℕ)
    → ((i : ℕ) (s : S) (b : List ℕ) → P s → Octets b → (length (p.step i s b).printed.out ≤ most) × P (p.step i s b).state)
    → (i : ℕ) (piece : List ℕ) (s : S) (room : ℕ) → P s → Octets piece → wholes piece * most ≤ room
    → let w = fitting p i (whole_in piece) s room in
    w.refusal ≡ None → w.taken ≡ wholes piece
