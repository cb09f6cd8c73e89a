-- What the three calls print, joined, is what the program prints. Assumes nothing.
use Rattle.std.specs.Prelude.{Option, Some, None}
use mathlib.Core.Path.{◌≡◌, refl, sym, ap, ap₂, ◌∙◌, subst}
use mathlib.Core.Bool.{false}
use mathlib.Core.List.{List, [], ◌∷◌, ◌++◌}
use Prim.Native.Nat.{ℕ, suc, ◌+◌, ◌*◌, ◌^◌, ◌≤◌, ◌<◌}
use native.Mathlib.Nat.{add-zero}
use native.Mathlib.Omega.{arith}
use lib.ListN.{length, take, drop, length-append, length-drop, drop_of_length-le}
use lib.Seq.{take_all, take_at}
use Rattle.answers.specs.declared.Refusal.{Refusal}
use Rattle.answers.specs.declared.Refusal.TheVariants.{Incomplete}
use Rattle.format.specs.Blocks.{block_bytes}
use Rattle.numbers.proofs.Octets.{octets_take, octets_drop}
use Rattle.walk.specs.Blocks.{blocks_of}
use Rattle.walk.specs.Programs.{Printed, nothing, both, Turn, Program, Run, ending_at, turned, onward, walk, walked, closed, printed_by}
use Rattle.walk.specs.Pieces.{Octets, blocks_in, wholes, whole_in}
use Rattle.walk.specs.Fitting.{Took, front, run_of}
use Rattle.walk.specs.Machines.{Gave, Machine, Rest, more, done, over, began, Standing, next_behind, begun_by, took_by, fitting_by, stood_by, ending_by, goes_on, Gives, Follows, SessionPrints}
use Rattle.walk.proofs.Pieces.{blocks_none, blocks_first, blocks_behind, wholes_fit, whole_many, piece_blocks, trace_blocks}
use Rattle.walk.proofs.Walks.{closed_goes, closed_ends}
use Rattle.walk.proofs.Fits.{onward_here, front_walks, front_few, fitting_is_front}

module _ {S : Type 0} (p : Program S) where
  -- what is printed from where a run stands, with so many bytes left of the trace
  unfoldable left_by : S → ℕ → Option Refusal → List ℕ → Printed
  left_by s i o left = closed p (onward (record { state = s; printed = nothing; ended = ending_at i o }) (walk p i (blocks_in left)))

  abbrev left : Standing S → List ℕ → Printed
  left s bytes = left_by s.state s.block s.refusal bytes

  left_goes : (s : S) (i : ℕ) (bytes : List ℕ) → left_by s i None bytes ≡ closed p (walk p i (blocks_in bytes) s)
  unfolding left_by
  left_goes s i bytes = ap (closed p) (onward_here s (walk p i (blocks_in bytes)))

  left_over : (s : S) (i : ℕ) (refusal : Refusal) (bytes : List ℕ) → left_by s i (Some refusal) bytes ≡ p.close s (ending_at i (Some refusal))
  unfolding left_by closed onward
  left_over s i refusal bytes = refl

  closed_both : (r : Run S) → closed p r ≡ both r.printed (p.close r.state r.ended)
  unfolding closed
  closed_both r = refl

  -- behind a run that has ended, or goes on at block `next`
  module _ (s : S) (q : Printed) (bytes : List ℕ) where
    behind_goes : (next : ℕ) → closed p (onward (record { state = s; printed = q; ended = None }) (walk p next (blocks_in bytes))) ≡ both q (left_by s next None bytes)
    behind_goes next = closed_goes p (record { state = s; printed = q; ended = None }) (walk p next (blocks_in bytes)) refl ∙ ap (both q) (sym (left_goes s next bytes))

    behind_over : (i next : ℕ) (refusal : Refusal) → closed p (onward (record { state = s; printed = q; ended = ending_at i (Some refusal) }) (walk p next (blocks_in bytes)))
        ≡ both q (left_by s i (Some refusal) bytes)
    behind_over i next refusal =
        let r : Run S = record { state = s; printed = q; ended = ending_at i (Some refusal) } in
        closed_ends p r (walk p next (blocks_in bytes)) (record { refusal = refusal; block = i }) refl ∙ closed_both r ∙ ap (both q) (sym (left_over s i refusal bytes))

  -- behind what was taken
  after_by : (i : ℕ) (w : Took S) (bytes : List ℕ) → closed p (onward (run_of i w) (walk p (i + w.taken) (blocks_in bytes)))
      ≡ both w.printed (left_by w.state (i + w.taken) w.refusal bytes)
  after_by i w bytes = go w.refusal
    where
      go : (o : Option Refusal) → closed p (onward (record { state = w.state; printed = w.printed; ended = ending_at (i + w.taken) o }) (walk p (i + w.taken) (blocks_in bytes)))
          ≡ both w.printed (left_by w.state (i + w.taken) o bytes)
      go None = behind_goes w.state w.printed bytes (i + w.taken)
      go (Some refusal) = behind_over w.state w.printed bytes (i + w.taken) (i + w.taken) refusal

  -- behind block 0
  begun_by_lem : (t : Turn S) (o : Option Refusal) (bytes : List ℕ)
      → both t.printed (left_by t.state (next_behind o) o bytes)
      ≡ closed p (onward (record { state = t.state; printed = t.printed; ended = ending_at 0 o }) (walk p 1 (blocks_in bytes)))
  begun_by_lem t None bytes = sym (behind_goes t.state t.printed bytes 1)
  begun_by_lem t (Some refusal) bytes = sym (behind_over t.state t.printed bytes 0 1 refusal)

  -- no more is taken than the piece has
  took_few : (s : Standing S) (o : Option Refusal) (piece : List ℕ) (most : ℕ) → block_bytes * (took_by p s o piece most).taken ≤ length piece
  took_few s None piece most =
      let few = front_few p s.block most (whole_in piece) s.state in
      omega (arith, few, whole_many piece, wholes_fit piece)
  took_few s (Some refusal) piece most = omega arith

  -- a piece
  took_left : (s : Standing S) (o : Option Refusal) (piece behind : List ℕ) (most : ℕ)
      → let w = took_by p s o piece most in
      left_by s.state s.block o (piece ++ behind)
      ≡ both w.printed (left_by w.state (s.block + w.taken) w.refusal (drop (block_bytes * w.taken) (piece ++ behind)))
  took_left s None piece behind most =
      let i = s.block in
      let w = front p i most (whole_in piece) s.state in
      let all = piece ++ behind in
      let cuts = piece_blocks piece behind in
      let inside : block_bytes * w.taken ≤ length all = omega (arith, took_few s None piece most, length-append piece behind) in
      left_goes s.state i all
      ∙ ap (λ (bs : List (List ℕ)). closed p (walk p i bs s.state)) cuts
      ∙ ap (closed p) (front_walks S p i most (whole_in piece) (blocks_in (drop (block_bytes * wholes piece) all)) s.state)
      ∙ ap (λ (bs : List (List ℕ)). closed p (onward (run_of i w) (walk p (i + w.taken) bs))) (ap (drop w.taken) (sym cuts) ∙ blocks_behind w.taken all inside)
      ∙ after_by i w (drop (block_bytes * w.taken) all)
  took_left s (Some refusal) piece behind most =
      left_over s.state s.block refusal (piece ++ behind)
      ∙ ap (λ (n : ℕ). p.close s.state (ending_at n (Some refusal))) (sym (add-zero s.block))
      ∙ sym (left_over s.state (s.block + 0) refusal (drop (block_bytes * 0) (piece ++ behind)))

  -- the end
  part_left : (s : S) (i : ℕ) (b : List ℕ) → 1 ≤ length b → length b < block_bytes → p.step i s b ≡ record { state = s; printed = nothing; refusal = Some Incomplete }
      → left_by s i None b ≡ p.close s (ending_at i (Some Incomplete))
  unfolding walk onward closed
  part_left s i b some_left short e =
      left_goes s i b
      ∙ ap (λ (bs : List (List ℕ)). closed p (walk p i bs s)) (blocks_first b some_left ∙ ap₂ (λ (first : List ℕ) (rest : List ℕ). first ∷ blocks_in rest) (take_all block_bytes b (omega arith)) (drop_of_length-le b {i = block_bytes} (omega arith)))
      ∙ ap (λ (t : Turn S). closed p (onward (turned i t) (walk p (suc i) (blocks_in [])))) e

  ends_left : (s : Standing S) (o : Option Refusal) (rest : List ℕ) → length rest < block_bytes
      → ((b : List ℕ) → 1 ≤ length b → length b < block_bytes → p.step s.block s.state b ≡ record { state = s.state; printed = nothing; refusal = Some Incomplete })
      → left_by s.state s.block o rest ≡ p.close s.state (ending_by s.block o rest)
  unfolding walk closed
  ends_left s None [] h parts = left_goes s.state s.block [] ∙ ap (λ (bs : List (List ℕ)). closed p (walk p s.block bs s.state)) blocks_none
  ends_left s None (c ∷ rest) h parts = part_left s.state s.block (c ∷ rest) (omega arith) h (parts (c ∷ rest) (omega arith) h)
  ends_left s (Some refusal) rest h parts = left_over s.state s.block refusal rest

  -- after a refusal
  over_left : (s : Standing S) (o : Option Refusal) (bytes rest : List ℕ) → goes_on o ≡ false
      → left_by s.state s.block o bytes ≡ p.close s.state (ending_by s.block o rest)
  over_left s None bytes rest e = let z : ◌≡◌ {A = ℕ} 0 1 = cc in absurd (omega arith)
  over_left s (Some refusal) bytes rest e = left_over s.state s.block refusal bytes

-- the blocks that fit are the first ones
pub fitting_gives : {H S : Type 0} {Stands : H → Standing S → Type 0} (p : Program S) (s : Standing S) (o : Option Refusal) (piece : List ℕ) (room : ℕ) {g : Gave H}
    → Gives Stands s (fitting_by p s o piece room) g → (most : ℕ) × Gives Stands s (took_by p s o piece most) g
fitting_gives {H} {S} {Stands} p s None piece room {g} h =
    let f = fitting_is_front S p s.block (whole_in piece) s.state room in
    (f.0, subst (λ (w : Took S). Gives Stands s w g) f.1 h)
fitting_gives p s (Some refusal) piece room h = (0, h)

octets_front : (s t : List ℕ) → Octets (s ++ t) → Octets s
octets_front s t o = subst Octets (take_at s t (length s) refl) (octets_take (length s) (s ++ t) o)

module _ {H S : Type 0} {m : Machine H} {p : Program S} (f : Follows m p) where
  rest_prints : {h : H} {bytes : List ℕ} {q : Printed} (s : Standing S) → f.Stands h s → Octets bytes → block_bytes * s.block + length bytes < block_bytes * 2 ^ 64
      → Rest m h bytes q → q ≡ left p s bytes
  rest_prints s stands o few (more h piece behind room q r) =
      let long = length-append piece behind in
      let gave = f.takes h s piece room stands (octets_front piece behind o) (omega (arith, few, long, wholes_fit piece)) in
      let most = gave.0 in
      let g = gave.1 in
      let w = took_by p s s.refusal piece most in
      let within = took_few p s s.refusal piece most in
      let d = length-drop (block_bytes * w.taken) (piece ++ behind) in
      let same : drop (m.blocks h piece room).taken (piece ++ behind) ≡ drop (block_bytes * w.taken) (piece ++ behind) = ap (λ (n : ℕ). drop n (piece ++ behind)) g.taken in
      ap₂ both g.printed
      (rest_prints (stood_by s w) g.stands (octets_drop (m.blocks h piece room).taken (piece ++ behind) o) (omega (arith, few, long, within, d, ap length same)) r
      ∙ ap (left p (stood_by s w)) same)
      ∙ sym (took_left p s s.refusal piece behind most)
  rest_prints s stands o few (done h rest short) = f.ends h s rest stands ∙ sym (ends_left p s s.refusal rest short (f.parts s.block s.state))
  rest_prints s stands o few (over h bytes rest e) = f.ends h s rest stands ∙ sym (over_left p s s.refusal bytes rest (sym (f.going h s stands) ∙ e))

begun_few : (o : Option Refusal) (trace : List ℕ) → length trace < block_bytes * 2 ^ 64 → block_bytes * next_behind o + length (drop block_bytes trace) < block_bytes * 2 ^ 64
begun_few None trace h = omega (arith, length-drop block_bytes trace)
begun_few (Some refusal) trace h = omega (arith, length-drop block_bytes trace)

pub session_prints : SessionPrints
unfolding printed_by walked blocks_of
session_prints H S m p trace q f o few (began r rest) =
    let t = p.begin (take block_bytes trace) in
    let b = f.begins (take block_bytes trace) (octets_take block_bytes trace o) in
    ap₂ both b.1 (rest_prints f (begun_by t) b.0 (octets_drop block_bytes trace o) (begun_few t.refusal trace few) rest)
    ∙ begun_by_lem p t t.refusal (drop block_bytes trace)
    ∙ ap (λ (bs : List (List ℕ)). closed p (onward (turned 0 t) (walk p 1 bs))) (sym (trace_blocks trace))
