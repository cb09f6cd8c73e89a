-- The lent bytes and the upload after a pass over the blocks that a feed completes. Assumes nothing.
use Rattle.std.specs.Prelude.{Option, Some, None, Result, Ok, Err}
use mathlib.Core.Path.{◌≡◌, refl, sym, ap, ◌∙◌}
use mathlib.Core.List.{List, [], ◌∷◌}
use Prim.Native.Nat.{ℕ, zero, suc, ◌+◌, ◌-◌, ◌*◌, ◌/◌, ◌≤◌, ◌<◌}
use native.Mathlib.Omega.{arith}
use borrow.Author.Tests.{lt-ltb, le-ltb}
use lib.ListN.{length, replicate, length-drop}
use lib.Seq.{sets}
use Rattle.answers.specs.declared.Refusal.{Refusal}
use Rattle.answers.proofs.Stores.{sets-front}
use Rattle.format.specs.Blocks.{block_bytes}
use Rattle.walk.specs.Steps.{Next, goes, refuses}
use Rattle.walk.specs.Pieces.{wholes, whole_in}
use Rattle.walk.specs.Fitting.{Took, one_more, front}
use Rattle.walk.proofs.Fits.{front_few}
use Rattle.walk.proofs.Pieces.{whole_many, wholes_fit, wholes_small}
use Rattle.convert.specs.declared.Run.{Run}
use Rattle.convert.specs.declared.feeds.Upload.{Upload}
use Rattle.convert.specs.declared.feeds.FeedAnswer.TheVariants as answer
use Rattle.convert.specs.declared.feeds.Fed.{Fed}
use Rattle.convert.specs.declared.feed_passes.Passed.{Passed}
use Rattle.convert.specs.Runs.{start_of, next_of}
use Rattle.convert.specs.Tables.{Kept, taken, ecntable}
use Rattle.convert.specs.Feeds.{lent_bytes, zeroth_in, part_in, padded, lent_of, feeding, through, held_by, rest_in, answer_by, left_by, Feeds}
use Rattle.convert.specs.Passes.{Passes, label_moved, Settled, done_by, added_by}
use Rattle.convert.proofs.Fitted.{kept}
use Rattle.convert.proofs.Lents.{stored_is, stored_there, part_long}
use Rattle.convert.proofs.Feeding.{through_later, label_goes, label_refused}

-- ---- block 0 after the blocks

turn_zeroth : (i : ℕ) (k : Kept) (b : List ℕ) → (ecntable.step i k b).state.zeroth ≡ k.zeroth
turn_zeroth i k b = go (next_of k.run b)
  where
    go : (n : Next Run) → (taken k n).state.zeroth ≡ k.zeroth
    go (goes next) = refl
    go (refuses refusal) = refl

pub through_zeroth : (i : ℕ) (bs : List (List ℕ)) (k : Kept) → (through ecntable i bs k).state.zeroth ≡ k.zeroth
unfolding front
through_zeroth i [] k = refl
through_zeroth i (b ∷ bs) k =
    let t = ecntable.step i k b in
    go t.refusal (through ecntable (suc i) bs t.state) (through_zeroth (suc i) bs t.state)
  where
    go : (o : Option Refusal) (w : Took Kept) → w.state.zeroth ≡ (ecntable.step i k b).state.zeroth → (one_more (ecntable.step i k b) o w).state.zeroth ≡ k.zeroth
    go None w e = e ∙ turn_zeroth i k b
    go (Some refusal) w e = turn_zeroth i k b

-- where it is stored
module _ (lent : List ℕ) where
  pub moved_later : (i n : ℕ) → 1 ≤ i → label_moved i n lent ≡ lent
  moved_later zero n h = absurd (omega arith)
  moved_later (suc i) n h = refl

  pub moved_none : (i n : ℕ) → n ≡ 0 → label_moved i n lent ≡ lent
  moved_none (suc i) n h = refl
  moved_none zero zero h = refl
  moved_none zero (suc n) h = absurd (omega arith)

  pub moved_some : (i n : ℕ) → i ≡ 0 → 1 ≤ n → label_moved i n lent ≡ sets lent 0 (part_in lent)
  moved_some (suc i) n e h = absurd (omega arith)
  moved_some zero zero e h = absurd (omega arith)
  moved_some zero (suc n) e h = refl

-- the lent bytes after a pass
module _ (lent : List ℕ) (h : lent_bytes ≤ length lent) (left : List ℕ) (short : length left ≤ block_bytes) where
  settles_by : (i : ℕ) (run : Run) (bs : List (List ℕ)) (bytes : ℕ)
      → let w = through feeding i (part_in lent ∷ bs) (record { run = run; zeroth = zeroth_in lent }) in
      block_bytes * w.taken ≡ bytes → sets (label_moved i bytes lent) block_bytes (padded left) ≡ lent_of w.state.zeroth left lent
  settles_by (suc i) run bs bytes e =
      let k : Kept = record { run = run; zeroth = zeroth_in lent } in
      let z : (through feeding (suc i) (part_in lent ∷ bs) k).state.zeroth ≡ zeroth_in lent =
      ap (λ (w : Took Kept). w.state.zeroth) (through_later i (part_in lent ∷ bs) k) ∙ through_zeroth (suc i) (part_in lent ∷ bs) k in
      stored_there lent h left short ∙ ap (λ (z : List ℕ). lent_of z left lent) (sym z)
  settles_by zero run bs bytes e = go (start_of (part_in lent)) refl
    where
      go : (r : Result Run Refusal) → start_of (part_in lent) ≡ r → sets (label_moved 0 bytes lent) block_bytes (padded left) ≡ lent_of (through feeding 0 (part_in lent ∷ bs) (record { run = run; zeroth = zeroth_in lent })).state.zeroth left lent
      go (Ok started) q =
          let k : Kept = record { run = run; zeroth = zeroth_in lent } in
          let is = label_goes k (part_in lent) bs q in
          let some : 1 ≤ bytes = omega (arith, e, ap (λ (w : Took Kept). w.taken) is) in
          let z : (through feeding 0 (part_in lent ∷ bs) k).state.zeroth ≡ part_in lent =
          ap (λ (w : Took Kept). w.state.zeroth) is ∙ through_zeroth 1 bs (kept started (part_in lent)) in
          ap (λ (l : List ℕ). sets l block_bytes (padded left)) (moved_some lent 0 bytes refl some)
          ∙ stored_is (part_in lent) left lent h (part_long lent h) short
          ∙ ap (λ (z : List ℕ). lent_of z left lent) (sym z)
      go (Err refusal) q =
          let k : Kept = record { run = run; zeroth = zeroth_in lent } in
          let is = label_refused k (part_in lent) bs q in
          let nothing-taken : bytes ≡ 0 = omega (arith, e, ap (λ (w : Took Kept). w.taken) is) in
          ap (λ (l : List ℕ). sets l block_bytes (padded left)) (moved_none lent 0 bytes nothing-taken)
          ∙ stored_there lent h left short
          ∙ ap (λ (w : Took Kept). lent_of w.state.zeroth left lent) (sym is)

-- ---- how much is taken and left

pub done_taken : (u : Upload) (lent rest : List ℕ) → block_bytes * (done_by u lent rest).taken ≤ block_bytes + length rest
done_taken u lent rest =
    let bs = part_in lent ∷ whole_in rest in
    omega (arith, front_few feeding u.blocks (length bs) bs (held_by u lent), whole_many rest, wholes_fit rest)

pub left_short : (rest : List ℕ) (e : Option Refusal) → length (left_by (rest_in rest) e) ≤ block_bytes
unfolding rest_in
left_short rest None = omega (arith, length-drop (block_bytes * wholes rest) rest, wholes_small rest)
left_short rest (Some refusal) = omega arith

-- ---- what a pass writes and leaves is what is given

pub added_room : (u : Upload) (lent rest old : List ℕ) {n : ℕ} → lent_bytes ≤ length lent → u.kept ≤ block_bytes → length old < n → n ≡ length (done_by u lent rest).printed.out
    → Feeds (added_by u lent rest (length old)) old (record { answer = answer.Room n; upload = u }) (sets lent (block_bytes + u.kept) (replicate (lent_bytes - (block_bytes + u.kept)) 0)) old
added_room u lent rest old {n} h k small e =
    let t = lt-ltb (length old) (length (done_by u lent rest).printed.out) (omega (arith, small, e)) in
    let w : lent_bytes - (block_bytes + u.kept) ≡ block_bytes - u.kept = omega arith in
    rw t (record { answer = ap answer.Room e; upload = refl; keeps = ap (λ (m : ℕ). sets lent (block_bytes + u.kept) (replicate m 0)) w; stores = refl })

pub added_fits : (u : Upload) (lent rest old : List ℕ) {p : Passed} {r : Fed} {after out : List ℕ} → lent_bytes ≤ length lent
    → length (done_by u lent rest).printed.out ≤ length old → Passes (done_by u lent rest) old p out → length (left_by (rest_in rest) p.ended) ≤ block_bytes → Settled u lent rest p r after
    → Feeds (added_by u lent rest (length old)) old r after out
added_fits u lent rest old {p} {r} {after} {out} h fits passes short settled =
    let w = done_by u lent rest in
    let t = le-ltb (length old) (length w.printed.out) fits in
    let many : p.bytes / block_bytes ≡ w.taken = omega (arith, passes.taken) in
    let how : p.ended ≡ w.refusal = sym passes.refusal in
    let left : left_by (rest_in rest) p.ended ≡ left_by (rest_in rest) w.refusal = ap (left_by (rest_in rest)) (sym passes.refusal) in
    let keeps = settled.keeps ∙ settles_by lent h (left_by (rest_in rest) p.ended) short u.blocks u.run (whole_in rest) p.bytes passes.taken
    ∙ ap (λ (l : List ℕ). lent_of w.state.zeroth l lent) left in
    rw t
    (record {
      answer = settled.answer ∙ (λ i. answer_by (u.blocks + many i) (sym passes.long i) (sym passes.refusal i));
      upload = settled.upload ∙ (λ i. record { run = sym passes.run i; blocks = u.blocks + many i; kept = length (left i); ended = how i });
      keeps = keeps;
      stores = passes.stores (omega (arith, passes.long)) ∙ sets-front old w.printed.out fits;
    })
