-- The blocks of a piece whose SSRCs have places, one by one: what the loop over them does.
use Rattle.std.specs.Prelude.{◌≡◌, true, List, ℕ, ◌+◌, ◌≤◌, length, take, drop, Option, Some, None, Ok}
use Rattle.format.specs.Blocks.{block_bytes}
use Rattle.format.specs.Forms.{shape_of, width}
use Rattle.format.specs.declared.Form.{Form}
use Rattle.source.specs.Blocks.{block_count}
use Rattle.source.specs.declared.BlockCount.TheVariants.{Counted}
use Rattle.trace.specs.Reading.{block_of}
use Rattle.trace.specs.declared.Block.TheVariants.{Arrivals}
use Rattle.walk.specs.Steps.{goes}
use Rattle.sources.specs.declared.Place.{Place}
use Rattle.sources.specs.declared.runs.Tally.{Tally}
use Rattle.sources.specs.declared.runs.Run.{Run}
use Rattle.sources.specs.Places.{held}
use Rattle.sources.specs.Tallies.{raised}
use Rattle.sources.specs.Runs.{records_in, next_of}

-- the n arrivals of a block are counted in a place and its tally
pub record IsCounted (form : Form) (p : Place) (t : Tally) (n : ℕ) (b : List ℕ) (place : Place) (tally : Tally) : Type 0 where
  pub jumps : ℕ
  pub restarts : ℕ
  pub counts : block_count p.source (width (shape_of form)) (records_in form n b) ≡ Counted place.source jumps restarts
  pub ssrc : place.ssrc ≡ p.ssrc
  pub raises : tally ≡ raised t jumps restarts

abbrev pub CountsHere : Form → Place → Tally → ℕ → List ℕ → Option (Place × Tally) → Type 0
CountsHere form p t n b (Some (place, tally)) = IsCounted form p t n b place tally
CountsHere form p t n b None = Unit {0}

-- they are arrivals of that form and of the place's SSRC, and the place is held
pub record IsRenewed (form : Form) (p : Place) (t : Tally) (b : List ℕ) (place : Place) (tally : Tally) : Type 0 where
  pub many : ℕ
  pub is : block_of b ≡ Ok (Arrivals form many p.ssrc)
  pub stands : held p ≡ true
  pub counted : IsCounted form p t many b place tally

abbrev pub Renews : Form → Place → Tally → List ℕ → Option (Place × Tally) → Type 0
Renews form p t b (Some (place, tally)) = IsRenewed form p t b place tally
Renews form p t b None = Unit {0}

-- from one run and place of a piece to another, block by block
pub data Onward (piece : List ℕ) (start : Run) (from : ℕ) : Run → ℕ → Type 0 where
  here : Onward piece start from start from
  then : (run next : Run) (at : ℕ) → Onward piece start from run at → at + block_bytes ≤ length piece → next_of run (take block_bytes (drop at piece)) ≡ goes next
      → Onward piece start from next (at + block_bytes)
