-- Full blocks are packed as they were, so that all bytes come back. Assumes nothing.
use mathlib.Core.Path.{◌≡◌, refl, sym, ap, ap₂, ◌∙◌}
use mathlib.Core.List.{List, [], ◌∷◌, ◌++◌, append-nil}
use Prim.Native.Nat.{ℕ, ◌*◌, ◌/◌, ◌≤◌, ◌<◌}
use native.Mathlib.Nat.{div_self}
use native.Mathlib.Omega.{arith}
use native.Mathlib.Decide.{dec_lt}
use lib.ListN.{length, take, drop, drop_of_length-le}
use lib.Seq.{take_all}
use Rattle.numbers.proofs.BigEndian.{Octets}
use Rattle.format.specs.Blocks.{block_bytes}
use Rattle.format.specs.Forms.{Shape, shape_of}
use Rattle.format.specs.declared.Form.{Form}
use Rattle.trace.specs.Layout.{arrivals_block}
use Rattle.trace.specs.Reading.{count_in}
use Rattle.trace.specs.declared.Record.{Record}
use Rattle.trace.proofs.Accepted.{accepted}
use Rattle.numbers.proofs.Octets.{octets_drop}
use Rattle.trace.proofs.Theorems.{arrivals_are_written}
use Rattle.walk.specs.Blocks.{blocks_of, joined}
use Rattle.walk.specs.Programs.{Printed}
use Rattle.walk.proofs.Cuts.{Each, blocks_join}
use Rattle.forms.specs.Packing.{full_blocks, full, left, last_block, packed}
use Rattle.walk.specs.Steps.{Next}
use Rattle.forms.specs.Theorems.{taken_from, records_taken, FullButLast, SameBytes}
use Rattle.forms.proofs.Packed.{most_some, packed_parts, packed_short}
use Rattle.forms.proofs.Whole.{Brings, brings, many_brought, few_brought, converted_started}
use Rattle.walk.proofs.Pieces.{octets_blocks}
use Rattle.forms.proofs.Traces.{Goes}
use Rattle.forms.proofs.Returns.{going_on, label_written, back}

-- ---- a packing, block by block

-- a packing whose first block is full
packed_first : (shape : Shape) (ssrc : ℕ) (rs more : List Record) → 0 < shape.most → length rs ≡ shape.most
    → packed shape ssrc (rs ++ more) ≡ arrivals_block shape rs ssrc ++ packed shape ssrc more
unfolding full_blocks
packed_first shape ssrc rs more some e =
    let once : full shape rs ≡ 1 = ap (λ (n : ℕ). n / shape.most) e ∙ div_self some in
    let front : full_blocks shape ssrc (full shape rs) rs ≡ arrivals_block shape rs ssrc =
    ap (λ (n : ℕ). full_blocks shape ssrc n rs) once ∙ append-nil (arrivals_block shape (take shape.most rs) ssrc) ∙ ap (λ (l : List Record). arrivals_block shape l ssrc) (take_all shape.most rs (omega arith)) in
    let none_left : left shape rs ≡ [] = ap (λ (n : ℕ). drop (n * shape.most) rs) once ∙ drop_of_length-le rs {i = 1 * shape.most} (omega arith) in
    packed_parts shape ssrc some rs more
    ∙ ap₂ (λ (s : List ℕ) (l : List Record). s ++ packed shape ssrc (l ++ more)) front none_left

-- and one of a single block
packed_one : (form : Form) (ssrc : ℕ) (rs : List Record) → 1 ≤ length rs → length rs ≤ (shape_of form).most → packed (shape_of form) ssrc rs ≡ arrivals_block (shape_of form) rs ssrc
packed_one form ssrc rs some few = go (dec_lt (length rs) (shape_of form).most)
  where
    shape : Shape
    shape = shape_of form

    last : (rs : List Record) → 1 ≤ length rs → last_block shape ssrc rs ≡ arrivals_block shape rs ssrc
    last [] h = absurd (omega arith)
    last (r ∷ rs) h = refl

    go : Dec (length rs < shape.most) → packed shape ssrc rs ≡ arrivals_block shape rs ssrc
    go (yes h) = packed_short shape ssrc rs h ∙ last rs some
    go (no h) =
        ap (packed shape ssrc) (sym (append-nil rs)) ∙ packed_first shape ssrc rs [] (most_some form) (omega arith)
        ∙ ap (λ (s : List ℕ). arrivals_block shape rs ssrc ++ s) (packed_short shape ssrc [] (most_some form)) ∙ append-nil (arrivals_block shape rs ssrc)

module _ (form : Form) (ssrc : ℕ) where
  -- a block that goes is that of its records
  module _ (b : List ℕ) (o : Octets b) (g : Goes form ssrc b) where
    its_own : Brings form ssrc b g.records
    its_own = brings form ssrc b g.goes_on_lem

    block_own : b ≡ arrivals_block (shape_of form) g.records ssrc
    block_own = (arrivals_are_written form b its_own.count ssrc o its_own.block).2 ∙ ap (λ (l : List Record). arrivals_block (shape_of form) l ssrc) (sym its_own.are)

    own_some : 1 ≤ length g.records
    own_some = omega (arith, many_brought its_own, (accepted b its_own.block).least)

    -- its count is that of its records
    own_many : length g.records ≡ count_in b
    own_many = many_brought its_own ∙ sym (accepted b its_own.block).block.its_count

  joined_packed : (bs : List (List ℕ)) → Each Octets bs → Each (Goes form ssrc) bs → FullButLast (shape_of form).most bs → joined bs ≡ packed (shape_of form) ssrc (records_taken form ssrc bs)
  unfolding records_taken
  joined_packed [] o g f = sym (packed_short (shape_of form) ssrc [] (most_some form))
  joined_packed (b ∷ []) o g f =
      let rs = g.0.records in
      append-nil b ∙ block_own b o.0 g.0 ∙ sym (packed_one form ssrc rs (own_some b o.0 g.0) (few_brought (its_own b o.0 g.0)))
      ∙ ap (packed (shape_of form) ssrc) (sym (ap (λ (n : Next (List Record)). taken_from n []) g.0.goes_on_lem ∙ append-nil rs))
  joined_packed (b ∷ c ∷ bs) o g f =
      let rs = g.0.records in
      let more = records_taken form ssrc (c ∷ bs) in
      ap₂ (λ (s t : List ℕ). s ++ t) (block_own b o.0 g.0) (joined_packed (c ∷ bs) o.1 g.1 f.1)
      ∙ sym (packed_first (shape_of form) ssrc rs more (most_some form) (own_many b o.0 g.0 ∙ f.0))
      ∙ ap (λ (n : Next (List Record)). packed (shape_of form) ssrc (taken_from n more)) (sym g.0.goes_on_lem)

pub same_bytes : SameBytes
same_bytes trace form n ssrc o e h f =
    let bs = (blocks_of trace).others in
    let going = going_on 1 bs (record { form = form; ssrc = ssrc; held = [] }) (sym (ap (λ (p : Printed). p.err) (converted_started trace e)) ∙ h) in
    back trace form n ssrc o e
    ∙ ap₂ (λ (s t : List ℕ). s ++ t) (sym (label_written trace form n ssrc o e).2) (sym (joined_packed form ssrc bs (octets_blocks trace (octets_drop block_bytes trace o)) going f))
    ∙ (blocks_join trace).back
