-- A refusal of a block is 1, 13 or 14. Assumes nothing.
use Rattle.std.specs.Prelude.{Option, Some, None, Result, Ok, Err}
use mathlib.Core.Path.{◌≡◌, refl}
use mathlib.Core.Bool.{Bool, true, false, cond, not, ◌&&◌}
use mathlib.Core.List.{List, [], ◌∷◌}
use Prim.Native.Nat.{ℕ, zero, suc}
use lib.Dec.{eqb}
use lib.ListN.{length}
use Rattle.answers.specs.declared.Refusal.{Refusal}
use Rattle.answers.specs.declared.Refusal.TheVariants.{Incomplete, Checksum, Contents}
use Rattle.format.specs.Blocks.{block_bytes}
use Rattle.format.specs.Forms.{shape_of, same_form, kind_of}
use Rattle.format.specs.declared.Form.{Form}
use Rattle.format.specs.declared.Kind.{Kind}
use Rattle.format.specs.declared.Kind.TheVariants as kind
use Rattle.trace.specs.Contents.{label_body, arrivals_body}
use Rattle.trace.specs.Layout.{body_of}
use Rattle.trace.specs.Reading.{kind_in, count_in, ssrc_in, right_check, contents_by, contents_of, block_of}
use Rattle.trace.specs.Places.{zeroth_by, zeroth_of, later_by, later_of}
use Rattle.trace.specs.declared.Block.{Block}
use Rattle.trace.specs.declared.Block.TheVariants as read
use Rattle.walk.specs.Programs.{Turn}
use Rattle.walk.specs.Fitting.{Took, one_more, front}
use Rattle.convert.specs.Runs.{start_by, start_of, next_by, next_of}
use Rattle.convert.specs.Tables.{Kept, taken}
use Rattle.convert.specs.Feeds.{is_fault, labelled, turn_at, feeding, through}

-- ---- a block

abbrev BlockFault : Result Block Refusal → Type 0
BlockFault (Ok (read.Label form n ssrc)) = Unit {0}
BlockFault (Ok (read.Arrivals form n ssrc)) = Unit {0}
BlockFault (Err refusal) = is_fault refusal ≡ true

block_fault_lem : (b : List ℕ) → BlockFault (block_of b)
unfolding block_of contents_of
block_fault_lem b = go (eqb (length b) block_bytes) (right_check b)
  where
    text : (form : Form) (t : Bool) → BlockFault (cond t (Ok (read.Label form (count_in b) (ssrc_in b))) (Err Contents))
    text form true = tt
    text form false = refl

    records : (form : Form) (t : Bool) → BlockFault (cond t (Ok (read.Arrivals form (count_in b) (ssrc_in b))) (Err Contents))
    records form true = tt
    records form false = refl

    contents : (k : Kind) → BlockFault (contents_by b k)
    contents (kind.Label form) = text form (label_body (count_in b) (body_of b))
    contents (kind.Arrivals form) = records form (arrivals_body (shape_of form) (count_in b) (body_of b))
    contents kind.Unknown = refl

    go : (w r : Bool) → BlockFault (cond (not w) (Err Incomplete) (cond (not r) (Err Checksum) (contents_by b (kind_of (kind_in b)))))
    go false r = refl
    go true false = refl
    go true true = contents (kind_of (kind_in b))

abbrev pub FaultOf : Option Refusal → Type 0
FaultOf None = Unit {0}
FaultOf (Some refusal) = is_fault refusal ≡ true

label_fault_lem : (k : Kept) (b : List ℕ) → FaultOf (labelled k b (start_of b)).refusal
unfolding start_of zeroth_of
label_fault_lem k b = go (block_of b) (block_fault_lem b)
  where
    go : (r : Result Block Refusal) → BlockFault r → FaultOf (labelled k b (start_by (zeroth_by r))).refusal
    go (Ok (read.Label form n ssrc)) h = tt
    go (Ok (read.Arrivals form n ssrc)) h = refl
    go (Err refusal) h = h

row_fault_lem : (k : Kept) (b : List ℕ) → FaultOf (taken k (next_of k.run b)).refusal
unfolding next_of later_of
row_fault_lem k b = go (block_of b) (block_fault_lem b)
  where
    own : (n : ℕ) (t : Bool) → FaultOf (taken k (next_by k.run b (cond t (Ok n) (Err Contents)))).refusal
    own n true = tt
    own n false = refl

    go : (r : Result Block Refusal) → BlockFault r → FaultOf (taken k (next_by k.run b (later_by k.run.form k.run.ssrc r))).refusal
    go (Ok (read.Label form n ssrc)) h = refl
    go (Ok (read.Arrivals form n ssrc)) h = own n (same_form form k.run.form && eqb ssrc k.run.ssrc)
    go (Err refusal) h = h

turn_fault : (i : ℕ) (k : Kept) (b : List ℕ) → FaultOf (turn_at i k b).refusal
turn_fault zero k b = label_fault_lem k b
turn_fault (suc i) k b = row_fault_lem k b

pub through_fault : (i : ℕ) (bs : List (List ℕ)) (k : Kept) → FaultOf (through feeding i bs k).refusal
unfolding front
through_fault i [] k = tt
through_fault i (b ∷ bs) k =
    let t = turn_at i k b in
    go t t.refusal (through feeding (suc i) bs t.state) (turn_fault i k b) (through_fault (suc i) bs t.state)
  where
    go : (t : Turn Kept) (o : Option Refusal) (w : Took Kept) → FaultOf o → FaultOf w.refusal → FaultOf (one_more t o w).refusal
    go t None w h e = e
    go t (Some refusal) w h e = h
