-- Document 01, "Trace file" and "Table": a program takes a trace's blocks in turn, each on the state that the block before left, and prints
-- on standard output and standard error. The first refused block may end it; what is printed then is the program's to say.
use Rattle.std.specs.Prelude.{ℕ, suc, List, [], ◌∷◌, ◌++◌, Option, Some, None}
use Rattle.answers.specs.declared.Refusal.{Refusal}
use Rattle.walk.specs.Blocks.{Blocks}

-- bytes for both outputs
pub record Printed : Type 0 where
  pub out : List ℕ
  pub err : List ℕ

abbrev pub nothing : Printed
nothing = record { out = []; err = [] }

abbrev pub to_output : List ℕ → Printed
to_output bytes = record { out = bytes; err = [] }

abbrev pub both : Printed → Printed → Printed
both p q = record { out = p.out ++ q.out; err = p.err ++ q.err }

-- what a block does: the next state, what is printed, and the refusal that ends the run, or none to go on
pub record Turn (S : Type 0) : Type 0 where
  pub state : S
  pub printed : Printed
  pub refusal : Option Refusal

-- a refusal that ended a run, with its block
pub record Ending : Type 0 where
  pub refusal : Refusal
  pub block : ℕ

-- block 0; a later block, with its number; and the end, with the refusal that ended the run, if one did
pub record Program (S : Type 0) : Type 0 where
  pub begin : List ℕ → Turn S
  pub step : ℕ → S → List ℕ → Turn S
  pub close : S → Option Ending → Printed

-- how far a run has come: its state, what it has printed, and the refusal that ended it, if one did
pub record Run (S : Type 0) : Type 0 where
  pub state : S
  pub printed : Printed
  pub ended : Option Ending

-- ---- the walk over the blocks

-- what follows a run so far: nothing follows an end
abbrev pub more : {S : Type 0} → Run S → (S → Run S) → Option Ending → Run S
more r rest None = record { state = (rest r.state).state; printed = both r.printed (rest r.state).printed; ended = (rest r.state).ended }
more r rest (Some ending) = r

unfoldable pub onward : {S : Type 0} → Run S → (S → Run S) → Run S
onward r rest = more r rest r.ended

-- a turn at block i as a run
abbrev pub ending_at : ℕ → Option Refusal → Option Ending
ending_at i None = None
ending_at i (Some refusal) = Some (record { refusal = refusal; block = i })

abbrev pub turned : {S : Type 0} → ℕ → Turn S → Run S
turned i t = record { state = t.state; printed = t.printed; ended = ending_at i t.refusal }

-- the blocks from i on
unfoldable pub walk : {S : Type 0} → Program S → ℕ → List (List ℕ) → S → Run S
walk p i [] s = record { state = s; printed = nothing; ended = None }
walk p i (b ∷ bs) s = onward (turned i (p.step i s b)) (walk p (suc i) bs)

-- all blocks
unfoldable pub walked : {S : Type 0} → Program S → Blocks → Run S
walked p bs = onward (turned 0 (p.begin bs.zeroth)) (walk p 1 bs.others)

-- a run with what its end prints
unfoldable pub closed : {S : Type 0} → Program S → Run S → Printed
closed p r = both r.printed (p.close r.state r.ended)

-- the whole run: the blocks, and then the end
unfoldable pub printed_by : {S : Type 0} → Program S → Blocks → Printed
printed_by p bs = closed p (walked p bs)
