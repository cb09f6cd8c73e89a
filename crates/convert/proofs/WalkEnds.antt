-- How the walk over all blocks of a piece ends. Assumes nothing.
use Rattle.std.specs.Prelude.{Option, Some, None}
use mathlib.Core.Path.{◌≡◌, refl, sym, ap, ap₂, ◌∙◌}
use mathlib.Core.List.{List, [], ◌∷◌, ◌++◌, append-nil}
use Prim.Native.Nat.{ℕ, suc, ◌+◌, ◌*◌, ◌<◌}
use native.Mathlib.Omega.{arith}
use lib.ListN.{length, drop, length-drop, drop_of_length-le}
use lib.Seq.{take_all, drop_at}
use Rattle.answers.specs.declared.Refusal.{Refusal}
use Rattle.answers.specs.declared.Refusal.TheVariants.{Incomplete}
use Rattle.format.specs.Blocks.{block_bytes}
use Rattle.walk.specs.Pieces.{blocks_in, wholes, whole_in}
use Rattle.walk.specs.Programs.{Printed, nothing, both, Turn, Ending, Run as Walked, ending_at, turned, onward, walk}
use Rattle.walk.specs.Fitting.{Took, one_more, front, run_of}
use Rattle.walk.proofs.Fits.{front_walks}
use Rattle.walk.proofs.Pieces.{blocks_none, blocks_first, piece_blocks, wholes_small}
use Rattle.walk.proofs.Walks.{onward_ended}
use Rattle.convert.specs.Tables.{Kept, ecntable}
use Rattle.convert.specs.Feeds.{through, rest_in}
use Rattle.convert.proofs.Cutting.{all_taken}
use Rattle.convert.proofs.Followed.{short_turn, turn_quiet}

-- ---- the end of the walk: a part of a block is refused with 1

abbrev pub last_of : ℕ → List ℕ → Option Ending
last_of n [] = None
last_of n (c ∷ rest) = Some (record { refusal = Incomplete; block = n })

walk_rest : (n : ℕ) (k : Kept) (rest : List ℕ) → length rest < block_bytes → walk ecntable n (blocks_in rest) k ≡ record { state = k; printed = nothing; ended = last_of n rest }
unfolding walk onward
walk_rest n k [] h = ap (λ (bs : List (List ℕ)). walk ecntable n bs k) blocks_none
walk_rest n k (c ∷ rest) h =
    ap (λ (bs : List (List ℕ)). walk ecntable n bs k)
    (blocks_first (c ∷ rest) (omega arith)
    ∙ ap₂ (λ (b l : List ℕ). b ∷ blocks_in l) (take_all block_bytes (c ∷ rest) (omega arith)) (drop_of_length-le (c ∷ rest) {i = block_bytes} (omega arith)))
    ∙ ap (λ (t : Turn Kept). onward (turned n t) (walk ecntable (suc n) (blocks_in []))) (short_turn n k (c ∷ rest) h)

-- how a walk over a piece's blocks ends
abbrev pub end_of : ℕ → Option Refusal → List ℕ → Option Ending
end_of n (Some refusal) rest = Some (record { refusal = refusal; block = n })
end_of n None rest = last_of n rest

both_nothing : (q : Printed) → both q nothing ≡ q
both_nothing q = λ i. record { out = append-nil q.out i; err = append-nil q.err i }

-- the walk over all blocks of a piece, by what its whole blocks do
module _ (i : ℕ) (d : List ℕ) (k : Kept) where
  abbrev whole_part : Took Kept
  whole_part = through ecntable i (whole_in d) k

  abbrev behind : List (List ℕ)
  behind = blocks_in (drop (block_bytes * wholes d) d)

  abbrev more : Kept → Walked Kept
  more = walk ecntable (i + whole_part.taken) (drop whole_part.taken (whole_in d ++ behind))

  whole_walk : walk ecntable i (blocks_in d) k ≡ onward (run_of i whole_part) more
  whole_walk =
      ap (λ (bs : List (List ℕ)). walk ecntable i bs k)
      (ap blocks_in (sym (append-nil d)) ∙ piece_blocks d [] ∙ ap (λ (l : List ℕ). whole_in d ++ blocks_in (drop (block_bytes * wholes d) l)) (append-nil d))
      ∙ front_walks Kept ecntable i (length (whole_in d)) (whole_in d) behind k

  walk_by : (o : Option Refusal) → whole_part.refusal ≡ o
      → onward (run_of i whole_part) more ≡ record { state = whole_part.state; printed = whole_part.printed; ended = end_of (i + whole_part.taken) o (rest_in d) }
  unfolding rest_in onward
  walk_by (Some refusal) e =
      onward_ended (run_of i whole_part) more (record { refusal = refusal; block = i + whole_part.taken }) (ap (ending_at (i + whole_part.taken)) e)
      ∙ (λ j. record { state = whole_part.state; printed = whole_part.printed; ended = ending_at (i + whole_part.taken) (e j) })
  walk_by None e =
      let w = whole_part in
      let n = i + w.taken in
      let many = all_taken ecntable i (whole_in d) k e in
      let rest = drop (block_bytes * wholes d) d in
      let last = walk_rest n w.state rest (omega (arith, length-drop (block_bytes * wholes d) d, wholes_small d)) in
      ap (λ (o : Option Refusal). onward (record { state = w.state; printed = w.printed; ended = ending_at n o }) more) e
      ∙ ap (λ (bs : List (List ℕ)). onward (record { state = w.state; printed = w.printed; ended = None }) (walk ecntable n bs)) (drop_at (whole_in d) behind w.taken (sym many))
      ∙ ap (λ (r : Walked Kept). record { state = r.state; printed = both w.printed r.printed; ended = r.ended }) last
      ∙ ap (λ (q : Printed). record { state = w.state; printed = q; ended = last_of n rest }) (both_nothing w.printed)

  pub walk_piece : walk ecntable i (blocks_in d) k ≡ record { state = whole_part.state; printed = whole_part.printed; ended = end_of (i + whole_part.taken) whole_part.refusal (rest_in d) }
  walk_piece = whole_walk ∙ walk_by whole_part.refusal refl

-- nothing is printed on standard error
pub through_quiet : (i : ℕ) (bs : List (List ℕ)) (k : Kept) → (through ecntable i bs k).printed.err ≡ []
unfolding front
through_quiet i [] k = refl
through_quiet i (b ∷ bs) k =
    let t = ecntable.step i k b in
    go t.refusal (through ecntable (suc i) bs t.state) (turn_quiet i k b) (through_quiet (suc i) bs t.state)
  where
    go : (o : Option Refusal) (w : Took Kept) → (ecntable.step i k b).printed.err ≡ [] → w.printed.err ≡ [] → (one_more (ecntable.step i k b) o w).printed.err ≡ []
    go None w h e = ap (λ (l : List ℕ). l ++ w.printed.err) h ∙ e
    go (Some refusal) w h e = h
