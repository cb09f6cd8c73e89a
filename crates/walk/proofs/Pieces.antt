-- A trace that comes in pieces. Assumes nothing.
use mathlib.Core.Path.{◌≡◌, refl, sym, ap, ap₂, ◌∙◌}
use mathlib.Core.List.{List, [], ◌∷◌, ◌++◌, append-nil}
use Prim.Native.Nat.{ℕ, zero, suc, ◌+◌, ◌*◌, ◌/◌, ◌≤◌, ◌<◌}
use native.Mathlib.Omega.{arith}
use lib.ListN.{length, take, drop, length-drop, length-take}
use lib.Seq.{drop_at, drop-drop, take-append-le, drop-append-le}
use Rattle.format.specs.Blocks.{block_bytes}
use Rattle.numbers.proofs.Octets.{octets_take, octets_drop}
use Rattle.walk.specs.Blocks.{cut, blocks_of}
use Rattle.walk.specs.Pieces.{Octets, blocks_in, wholes, whole_in, BlocksInPieces, TraceInPieces}
use Rattle.walk.proofs.Cuts.{Each, cut_each}

-- ---- any bound that is no less than the length gives the same blocks

same_cut : (m n : ℕ) (s : List ℕ) → length s ≤ m → length s ≤ n → cut m s ≡ cut n s
unfolding cut
same_cut zero zero s h k = refl
same_cut zero (suc n) [] h k = refl
same_cut (suc m) zero [] h k = refl
same_cut (suc m) (suc n) [] h k = refl
same_cut zero (suc n) (c ∷ s) h k = absurd (omega arith)
same_cut (suc m) zero (c ∷ s) h k = absurd (omega arith)
same_cut (suc m) (suc n) (c ∷ s) h k =
    let d = length-drop block_bytes (c ∷ s) in
    ap (λ (rest : List (List ℕ)). take block_bytes (c ∷ s) ∷ rest) (same_cut m n (drop block_bytes (c ∷ s)) (omega arith) (omega arith))

pub cut_free : (most : ℕ) (s : List ℕ) → length s ≤ most → cut most s ≡ blocks_in s
unfolding blocks_in
cut_free most s h = same_cut most (length s) s h (omega arith)

-- ---- the first block, and the others

pub blocks_none : blocks_in [] ≡ []
unfolding blocks_in cut
blocks_none = refl

pub blocks_first : (s : List ℕ) → 1 ≤ length s → blocks_in s ≡ take block_bytes s ∷ blocks_in (drop block_bytes s)
unfolding blocks_in cut
blocks_first [] h = absurd (omega arith)
blocks_first (c ∷ s) h =
    let d = length-drop block_bytes (c ∷ s) in
    ap (λ (rest : List (List ℕ)). take block_bytes (c ∷ s) ∷ rest) (same_cut (length s) (length (drop block_bytes (c ∷ s))) (drop block_bytes (c ∷ s)) (omega arith) (omega arith))

-- whole blocks in front, and the blocks behind them
pub blocks_front : (k : ℕ) (s t : List ℕ) → block_bytes * k ≤ length s → blocks_in (s ++ t) ≡ cut k s ++ blocks_in (drop (block_bytes * k) (s ++ t))
unfolding cut
blocks_front zero s t h = refl
blocks_front (suc k) [] t h = absurd (omega arith)
blocks_front (suc k) (c ∷ s) t h =
    let long : block_bytes ≤ length (c ∷ s) = omega arith in
    let d = length-drop block_bytes (c ∷ s) in
    let f = drop-append-le block_bytes (c ∷ s) t long in
    let e : block_bytes + block_bytes * k ≡ block_bytes * suc k = omega arith in
    blocks_first ((c ∷ s) ++ t) (omega arith)
    ∙ ap₂ (λ (first : List ℕ) (rest : List (List ℕ)). first ∷ rest) (take-append-le block_bytes (c ∷ s) t long)
    (ap blocks_in f
    ∙ blocks_front k (drop block_bytes (c ∷ s)) t (omega arith)
    ∙ ap (λ (u : List ℕ). cut k (drop block_bytes (c ∷ s)) ++ blocks_in u)
    (ap (drop (block_bytes * k)) (sym f) ∙ drop-drop (block_bytes * k) block_bytes ((c ∷ s) ++ t) ∙ ap (λ (n : ℕ). drop n ((c ∷ s) ++ t)) e))

pub blocks_behind : (k : ℕ) (s : List ℕ) → block_bytes * k ≤ length s → drop k (blocks_in s) ≡ blocks_in (drop (block_bytes * k) s)
blocks_behind zero s h = refl
blocks_behind (suc k) s h =
    let d = length-drop block_bytes s in
    let e : block_bytes + block_bytes * k ≡ block_bytes * suc k = omega arith in
    ap (drop (suc k)) (blocks_first s (omega arith))
    ∙ blocks_behind k (drop block_bytes s) (omega arith)
    ∙ ap blocks_in (drop-drop (block_bytes * k) block_bytes s ∙ ap (λ (n : ℕ). drop n s) e)

-- ---- the whole blocks of a piece

pub wholes_fit : (s : List ℕ) → block_bytes * wholes s ≤ length s
unfolding wholes
wholes_fit s = omega arith

pub wholes_small : (s : List ℕ) → length s < block_bytes * wholes s + block_bytes
unfolding wholes
wholes_small s = omega arith

cut_many : (k : ℕ) (s : List ℕ) → block_bytes * k ≤ length s → length (cut k s) ≡ k
unfolding cut
cut_many zero s e = refl
cut_many (suc k) [] e = absurd (omega arith)
cut_many (suc k) (c ∷ s) e = ap suc (cut_many k (drop block_bytes (c ∷ s)) (omega (arith, length-drop block_bytes (c ∷ s))))

pub whole_many : (s : List ℕ) → length (whole_in s) ≡ wholes s
unfolding whole_in
whole_many s = cut_many (wholes s) s (wholes_fit s)

cut_long : (k : ℕ) (s : List ℕ) → block_bytes * k ≤ length s → Each (λ b. length b ≡ block_bytes) (cut k s)
unfolding cut
cut_long zero s h = tt
cut_long (suc k) [] h = absurd (omega arith)
cut_long (suc k) (c ∷ s) h =
    let t = length-take block_bytes (c ∷ s) in
    let d = length-drop block_bytes (c ∷ s) in
    (omega arith, cut_long k (drop block_bytes (c ∷ s)) (omega arith))

pub whole_long : (s : List ℕ) → Each (λ b. length b ≡ block_bytes) (whole_in s)
unfolding whole_in
whole_long s = cut_long (wholes s) s (wholes_fit s)

pub octets_wholes : (s : List ℕ) → Octets s → Each Octets (whole_in s)
unfolding whole_in
octets_wholes s h = cut_each Octets octets_take octets_drop (wholes s) s h

pub octets_blocks : (trace : List ℕ) → Octets (drop block_bytes trace) → Each Octets (blocks_of trace).others
unfolding blocks_of
octets_blocks trace o = cut_each Octets octets_take octets_drop (length trace) (drop block_bytes trace) o

-- the first of them, and the others
pub whole_none : (s : List ℕ) → length s < block_bytes → whole_in s ≡ []
unfolding whole_in wholes cut
whole_none s h = let e : length s / block_bytes ≡ 0 = omega arith in ap (λ (n : ℕ). cut n s) e

pub whole_first : (s : List ℕ) → block_bytes ≤ length s → whole_in s ≡ take block_bytes s ∷ whole_in (drop block_bytes s)
unfolding whole_in wholes cut
whole_first [] h = absurd (omega arith)
whole_first (c ∷ s) h =
    let e : length (c ∷ s) / block_bytes ≡ suc (length (drop block_bytes (c ∷ s)) / block_bytes) = omega (arith, length-drop block_bytes (c ∷ s)) in
    ap (λ (n : ℕ). cut n (c ∷ s)) e

pub piece_blocks : (s t : List ℕ) → blocks_in (s ++ t) ≡ whole_in s ++ blocks_in (drop (block_bytes * wholes s) (s ++ t))
unfolding whole_in
piece_blocks s t = blocks_front (wholes s) s t (wholes_fit s)

-- ---- the law of pieces

whole_blocks : (s : List ℕ) → length s ≡ block_bytes * wholes s → blocks_in s ≡ whole_in s
unfolding blocks_in cut
whole_blocks s e =
    ap blocks_in (sym (append-nil s)) ∙ piece_blocks s []
    ∙ ap (λ (rest : List ℕ). whole_in s ++ blocks_in rest) (drop_at s [] (block_bytes * wholes s) e) ∙ append-nil (whole_in s)

pub blocks_in_pieces : BlocksInPieces
blocks_in_pieces s t e =
    piece_blocks s t
    ∙ ap (λ (rest : List ℕ). whole_in s ++ blocks_in rest) (drop_at s t (block_bytes * wholes s) e)
    ∙ ap (λ (front : List (List ℕ)). front ++ blocks_in t) (sym (whole_blocks s e))

pub trace_blocks : (trace : List ℕ) → (blocks_of trace).others ≡ blocks_in (drop block_bytes trace)
unfolding blocks_of
trace_blocks trace = cut_free (length trace) (drop block_bytes trace) (omega (arith, length-drop block_bytes trace))

pub trace_in_pieces : TraceInPieces
unfolding blocks_of wholes
trace_in_pieces s t e h =
    let long : block_bytes ≤ length s = omega arith in
    let d = length-drop block_bytes s in (
      take-append-le block_bytes s t long,
      trace_blocks (s ++ t) ∙ ap blocks_in (drop-append-le block_bytes s t long) ∙ blocks_in_pieces (drop block_bytes s) t (omega arith)
          ∙ ap (λ (front : List (List ℕ)). front ++ blocks_in t) (sym (trace_blocks s)),
    )
