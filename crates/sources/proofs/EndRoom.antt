-- What the end of a run prints is no longer than 16 of the longest rows. Assumes nothing.
use Rattle.std.specs.Prelude.{Option, Some, None}
use mathlib.Core.Path.{◌≡◌, refl, ap}
use mathlib.Core.List.{List, [], ◌∷◌}
use Prim.Native.Nat.{ℕ, zero, suc, ◌+◌, ◌*◌, ◌^◌, ◌≤◌, ◌<◌}
use native.Mathlib.Omega.{arith}
use lib.ListN.{length, get_or, drop, length-append}
use Rattle.answers.specs.Refusals.{number_of}
use Rattle.answers.specs.declared.Refusal.{Refusal}
use Rattle.answers.specs.declared.Refusal.TheVariants.{Incomplete, Version, FirstPacket, PacketSize, Padding, BlockSize, Jump, Full, Malformed, Limits, Time, Checksum, Contents, Places, Rules, FormTwo, Attribute, Retired}
use Rattle.table.specs.Lines.{refused_line}
use Rattle.table.specs.Theorems.{row_most}
use Rattle.table.proofs.RefusedLines.{refused_fits}
use Rattle.walk.specs.Machines.{ending_by}
use Rattle.sources.specs.declared.Place.{Place}
use Rattle.sources.specs.declared.runs.Run.{Run}
use Rattle.sources.specs.Places.{empty_place, held_of}
use Rattle.sources.specs.Tables.{lent}
use Rattle.sources.specs.Rows.{lines_of, label_of, rows_of, row_of, Judged}
use Rattle.sources.specs.Streams.{closing}
use Rattle.sources.specs.Pieces.{end_of, end_fault, Narrow, EndHasRoom}
use Rattle.sources.proofs.LineLaws.{most, rows_next, rows_over, row_long}

narrow_at : (ps : List Place) (i : ℕ) → Narrow ps → (get_or ps i empty_place).ssrc < 2 ^ 32
narrow_at [] i h = omega arith
narrow_at (p ∷ ps) zero h = h.0
narrow_at (p ∷ ps) (suc i) h = narrow_at ps i h.1

module _ (run : Run) (zeroth : List ℕ) (n : ℕ) (j : Judged run zeroth n) (narrow : Narrow run.table.places) where
  abbrev label : List ℕ
  label = label_of run zeroth

  -- those of k lines from i on
  rows_long : (k i : ℕ) → i + k ≡ n → length (rows_of label (drop i (lines_of run))) ≤ k * row_most
  rows_long zero i e = omega (arith, ap length (rows_over run zeroth n j i (omega arith)))
  rows_long (suc k) i e =
      let h : i < n = omega arith in
      let next = rows_next run zeroth n j i h in
      let rest = rows_long k (i + 1) (omega arith) in
      let here = row_long run zeroth n j i h (narrow_at run.table.places i narrow) in
      omega (arith, ap length next, length-append (row_of run i zeroth) (rows_of label (drop (i + 1) (lines_of run))), rest, here)

  pub all_long : length (rows_of label (lines_of run)) ≤ 16 * row_most
  all_long = let r = rows_long n 0 (omega arith) in let m = most run zeroth n j in omega arith

-- ---- the line of a refused block

number_few : (r : Refusal) → number_of r < 256
number_few Incomplete = omega arith
number_few Version = omega arith
number_few FirstPacket = omega arith
number_few PacketSize = omega arith
number_few Padding = omega arith
number_few BlockSize = omega arith
number_few Jump = omega arith
number_few Full = omega arith
number_few Malformed = omega arith
number_few Limits = omega arith
number_few Time = omega arith
number_few Checksum = omega arith
number_few Contents = omega arith
number_few Places = omega arith
number_few Rules = omega arith
number_few FormTwo = omega arith
number_few Attribute = omega arith
number_few Retired = omega arith

line_few : (r : Refusal) (block : ℕ) → block < 2 ^ 64 → length (refused_line (number_of r) block) ≤ 16 * row_most
line_few r block h = let l = refused_fits (number_of r) block (number_few r) h in omega arith

pub end_has_room : EndHasRoom
unfolding end_of
end_has_room p zeroth rest small narrow e = go p.ended rest e
  where
    go : (o : Option Refusal) (rest : List ℕ) → end_fault p zeroth o rest ≡ None → length (closing (record { run = p.run; zeroth = zeroth }) (ending_by p.block o rest)).out ≤ 16 * row_most
    go None [] e = all_long p.run zeroth (length (held_of (lent p.run.table))) (record { good = e; count = refl }) narrow
    go None (c ∷ rest) e = line_few Incomplete p.block small
    go (Some refusal) rest e = line_few refusal p.block small
