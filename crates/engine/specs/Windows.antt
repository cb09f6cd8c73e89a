-- The packets of a part of a block against a window of 64 numbers (document 02, L8): place k of the window stands for the number k below its top.
-- For the contracts of private functions alone: what the crate promises is source's `block_count`.
use Rattle.std.specs.Prelude.{ℕ, ◌+◌, ◌-◌, ◌*◌, ◌/◌, ◌%◌, min, ◌≡◌, Bool, true, false, not, ◌&&◌, ◌||◌, cond, List, [], ◌∷◌, map, eqb, leb, ltb, length, Option, Some, None}
use Rattle.answers.specs.Conditions.{all}
use Rattle.source.specs.Places.{bit, pack}
use Rattle.source.specs.Blocks.{Packet, packets}
use Rattle.engine.specs.declared.window.Seen.{Seen}

-- how far the window's top lies above the highest number, and how many numbers it holds
abbrev pub lead : ℕ
lead = 40

abbrev pub wide : ℕ
wide = 64

-- the packets of whole records
abbrev pub held : ℕ → List ℕ → List Packet
held width s = packets width (length s / width) s

-- how many numbers a packet lies below the top, modulo 65,536
abbrev pub below : ℕ → Packet → ℕ
below top p = (top + 65536 - p.wire.0) % 65536

-- whether every packet lies in the window
abbrev pub within : ℕ → List Packet → Bool
within top ps = all (map (λ p. ltb (below top p) wide) ps)

-- the places at which packets lie
unfoldable pub hits : ℕ → List Packet → ℕ → Bool
hits top [] k = false
hits top (p ∷ ps) k = eqb k (below top p) || hits top ps k

-- the place of the highest number, from a place on: the least at which a packet lies
unfoldable pub least : ℕ → ℕ → List Packet → ℕ
least top a [] = a
least top a (p ∷ ps) = least top (min a (below top p)) ps

-- a number of 16 bits with its two bytes turned
abbrev pub turned : ℕ → ℕ
turned number = number / 256 + number % 256 * 256

-- the last four bytes of a record as one word, the first the lowest
pub record Ending (word n m : ℕ) : Type 0 where
  pub number : word % 65536 ≡ turned n
  pub mark : word / 65536 % 256 ≡ m

-- how many packets have another number, its bytes turned, than n, n + 256, and so on
unfoldable pub strays : ℕ → List Packet → ℕ
strays n [] = 0
strays n (p ∷ ps) = bit (not (eqb (turned p.wire.0) n)) + strays (n + 256) ps

-- wire numbers of 16 bits
abbrev pub wired : List Packet → Bool
wired ps = all (map (λ p. ltb p.wire.0 65536) ps)

-- the places, or that some packet lies outside
abbrev pub found_in : ℕ → List Packet → Option ℕ
found_in top ps = cond (within top ps) (Some (pack wide (hits top ps))) None

-- what a look at each packet shows of that
pub record SeenIn (top : ℕ) (ps : List Packet) (r : Seen) : Type 0 where
  pub joined : ltb r.joined wide ≡ within top ps
  pub bits : within top ps ≡ true → r.bits ≡ pack wide (hits top ps)

-- n numbers in a row, of which the first lies at a place
abbrev pub row_from : ℕ → ℕ → Option ℕ
row_from n place = cond (leb n (place + 1)) (Some (pack wide (λ k. leb k place && leb (place + 1) (k + n)))) None
