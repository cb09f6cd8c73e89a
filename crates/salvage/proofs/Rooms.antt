-- 64 bytes are enough for a line, and then a call takes a block or more. Assumes nothing.
use Rattle.std.specs.Prelude.{Option, Some, None, Ok}
use mathlib.Core.Path.{◌≡◌, refl, ap, ◌∙◌, subst⁻¹}
use mathlib.Core.List.{List, [], ◌∷◌}
use Prim.Native.Nat.{ℕ, ◌*◌, ◌≤◌}
use native.Mathlib.Omega.{arith}
use borrow.Author.Tests.{le-ltb}
use lib.ListN.{length, drop, length-drop}
use Rattle.answers.specs.Writers.{written}
use Rattle.answers.specs.declared.Refusal.{Refusal}
use Rattle.answers.specs.declared.Refusal.TheVariants.{Incomplete}
use Rattle.format.specs.Blocks.{block_bytes}
use Rattle.walk.specs.Pieces.{whole_in}
use Rattle.walk.specs.Machines.{ending_by}
use Rattle.walk.specs.Endings.{number_after}
use Rattle.walk.proofs.Pieces.{whole_many, wholes_small}
use Rattle.copies.specs.Fronts.{Sound, sound_in}
use Rattle.copies.specs.Theorems.{NextHas}
use Rattle.copies.proofs.Fronts.{front_is_sound}
use Rattle.copies.proofs.Listed.{line_small}
use Rattle.salvage.specs.declared.Progress.{Progress}
use Rattle.salvage.specs.declared.Taken.{Taken}
use Rattle.salvage.specs.Salvaged.{closing}
use Rattle.salvage.specs.Pieces.{Portion, portion_by, portion_in, portion_of, TakenBy, end_of, LineHasRoom, EndHasRoom, BlocksGoOn}
use Rattle.salvage.proofs.Calls.{portion_going}

pub line_has_room : LineHasRoom
unfolding portion_of
line_has_room p piece h = go p.ended
  where
    by_refusal : (many : ℕ) (o : Option Refusal) → length (portion_by p.block many o).line ≤ 64
    by_refusal many None = omega arith
    by_refusal many (Some refusal) = line_small refusal (number_after p.block many) (omega arith)

    go : (e : Option Refusal) → let s = sound_in p.form p.ssrc (whole_in piece) in length (portion_in p s e).line ≤ 64
    go None = let s = sound_in p.form p.ssrc (whole_in piece) in by_refusal s.many s.refusal
    go (Some refusal) = omega arith

pub end_has_room : EndHasRoom
unfolding end_of
end_has_room p rest h = go p.ended rest
  where
    go : (e : Option Refusal) (rest : List ℕ) → length (closing (ending_by p.block e rest)).err ≤ 64
    go (Some refusal) rest = line_small refusal p.block h
    go None [] = omega arith
    go None (c ∷ rest) = line_small Incomplete p.block h

-- ---- a block or more is taken

-- all whole blocks are sound, or the one after the front is left out
some_taken : (p : Progress) (piece : List ℕ) → p.ended ≡ None → block_bytes ≤ length piece → 1 ≤ (portion_of p piece).taken
some_taken p piece e h =
    let s = sound_in p.form p.ssrc (whole_in piece) in
    subst⁻¹ (λ (q : Portion). 1 ≤ q.taken) (portion_going p piece e refl refl) (go s s.refusal (front_is_sound p.form p.ssrc (whole_in piece)).next)
  where
    go : (s : Sound) (o : Option Refusal) → NextHas p.form p.ssrc o (drop s.many (whole_in piece)) → 1 ≤ (portion_by p.block s.many o).taken
    go s None next = omega (arith, ap length next, length-drop s.many (whole_in piece), whole_many piece, wholes_small piece)
    go s (Some refusal) next = omega arith

pub blocks_go_on : BlocksGoOn
unfolding written
blocks_go_on p piece old r err e small h room t =
    let q = portion_of p piece in
    let wide : length q.line ≤ length old = omega (arith, line_has_room p piece small, room) in
    let answer : r.answer ≡ Ok (length q.line) = t.wrote.answers ∙ rw (le-ltb (length old) (length q.line) wide) in
    let bytes : r.bytes ≡ q.taken * block_bytes = ap (λ (r : Taken). r.bytes) (t.taken ∙ ap (TakenBy p q) answer) in
    omega (arith, bytes, some_taken p piece e h)
