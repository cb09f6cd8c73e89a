-- 64 bytes are enough for the end's line, and a call takes a block or more. Assumes nothing.
use Rattle.std.specs.Prelude.{Option, Some, None}
use mathlib.Core.Path.{◌≡◌, sym, ap, ◌∙◌, subst, subst⁻¹}
use mathlib.Core.List.{List, [], ◌∷◌}
use Prim.Native.Nat.{ℕ, ◌*◌, ◌≤◌}
use native.Mathlib.Omega.{arith}
use lib.ListN.{length, drop, length-drop}
use Rattle.answers.specs.declared.Refusal.TheVariants.{Incomplete}
use Rattle.table.proofs.NumberLines.{number_fits_lem}
use Rattle.walk.specs.Machines.{ending_by}
use Rattle.walk.specs.Pieces.{whole_in}
use Rattle.walk.proofs.Pieces.{whole_many, wholes_small}
use Rattle.answers.specs.declared.Refusal.{Refusal}
use Rattle.format.specs.Blocks.{block_bytes}
use Rattle.copies.specs.Fronts.{sound_in}
use Rattle.copies.specs.Theorems.{NextHas}
use Rattle.copies.proofs.Fronts.{front_is_sound}
use Rattle.copies.proofs.Listed.{line_small}
use Rattle.labels.specs.Labelled.{closing}
use Rattle.labels.specs.declared.Taken.{Taken}
use Rattle.labels.specs.Pieces.{kept_of, TakenBy, taken_of, end_of, EndHasRoom, BlocksGoOn}

pub end_has_room : EndHasRoom
unfolding end_of
end_has_room p rest n h = go p.ended rest
  where
    go : (e : Option Refusal) (rest : List ℕ) → length (closing (kept_of p) (ending_by p.block e rest)).err ≤ 64
    go (Some refusal) rest = line_small refusal p.block h
    go None [] = omega (arith, number_fits_lem p.replaced n)
    go None (c ∷ rest) = line_small Incomplete p.block h

-- all whole blocks are sound, if the run goes on
pub blocks_go_on : BlocksGoOn
unfolding taken_of
blocks_go_on p piece e h going =
    let s = sound_in p.form p.ssrc (whole_in piece) in
    let is : TakenBy p s p.ended ≡ TakenBy p s None = ap (TakenBy p s) e in
    let refused : s.refusal ≡ None = ap (λ (r : Taken). r.progress.ended) (sym is) ∙ going in
    let next = subst (λ (o : Option Refusal). NextHas p.form p.ssrc o (drop s.many (whole_in piece))) refused (front_is_sound p.form p.ssrc (whole_in piece)).next in
    let many : block_bytes ≤ block_bytes * s.many = omega (arith, ap length next, length-drop s.many (whole_in piece), whole_many piece, wholes_small piece) in
    subst⁻¹ (λ (r : Taken). block_bytes ≤ r.bytes) is many
