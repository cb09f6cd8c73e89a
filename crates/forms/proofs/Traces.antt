-- A label and packed records as a trace: its blocks, and what they bring. Assumes nothing.
use Rattle.std.specs.Prelude.{None, Ok}
use mathlib.Core.Path.{◌≡◌, refl, sym, ap, ◌∙◌, subst}
use mathlib.Core.Bool.{true}
use mathlib.Core.List.{List, [], ◌∷◌, ◌++◌, append_assoc, append-nil}
use Prim.Native.Nat.{ℕ, zero, suc, ◌+◌, ◌-◌, ◌*◌, ◌^◌, ◌≤◌, ◌<◌}
use native.Mathlib.Nat.{zero-mul, suc-mul, add_comm}
use native.Mathlib.Omega.{arith}
use lib.ListN.{length, take, drop, length-drop, take-append-drop}
use lib.Seq.{take_at, drop_at, take_all, drop-drop, length-take-le}
use Rattle.format.specs.Blocks.{block_bytes, body_bytes}
use Rattle.format.specs.Forms.{Shape, shape_of, width, other_form}
use Rattle.format.specs.declared.Form.{Form}
use Rattle.format.proofs.Fits.{fits, records_fit}
use Rattle.trace.specs.Contents.{is_time, good_records}
use Rattle.trace.specs.Layout.{records_bytes, header, filled, checked, arrivals_block, body_of}
use Rattle.trace.specs.Reading.{block_of}
use Rattle.trace.specs.Theorems.{Below, records_in, list_of, records_fault}
use Rattle.trace.specs.Writing.{records_of, body_fault}
use Rattle.trace.specs.declared.Block.TheVariants.{Arrivals}
use Rattle.trace.specs.declared.Record.{Record}
use Rattle.trace.proofs.Layouts.{length-records, length-header, length-filled, length-arrivals_block}
use Rattle.trace.proofs.Records.{AllOfShape, length-list, records_bytes_lem, good_bytes, octets_records, body_records}
use Rattle.trace.proofs.Theorems.{arrivals_read_back}
use Rattle.walk.specs.Blocks.{joined}
use Rattle.walk.specs.Steps.{Next, goes}
use Rattle.walk.proofs.Cuts.{Each}
use Rattle.forms.specs.Packing.{full_blocks, full, last_block, packed}
use Rattle.forms.specs.Conversions.{all_times, next_of}
use Rattle.forms.specs.Theorems.{taken_from, records_taken}
use Rattle.forms.proofs.Packed.{most_some, full_fits, length-left, left_short}
use Rattle.forms.proofs.Blocks.{no_fault}
use Rattle.forms.proofs.Steps.{next_goes}
use Rattle.forms.proofs.Gathered.{Fine, every_take, every_drop, fine_take, fine_drop}

-- ---- a block of records brings them

lists_are : (rs : List Record) → records_of (list_of (λ r. r.time) rs) (list_of (λ r. r.number.0) rs) (list_of (λ r. r.mark) rs) ≡ rs
unfolding records_of list_of
lists_are [] = refl
lists_are (r ∷ rs) = ap (λ (l : List Record). r ∷ l) (lists_are rs)

numbers_below : (shape : Shape) (rs : List Record) → AllOfShape shape rs → Below (2 ^ 16) (list_of (λ r. r.number.0) rs)
unfolding list_of
numbers_below shape [] h i = omega arith
numbers_below shape (r ∷ rs) h zero = h.0.number
numbers_below shape (r ∷ rs) h (suc i) = numbers_below shape rs h.1 i

module _ (form : Form) (rs : List Record) (fine : Fine (shape_of form) rs) (some : 1 ≤ length rs) (few : length rs ≤ (shape_of form).most) where
  abbrev shape : Shape
  shape = shape_of form

  size : length (records_bytes shape rs) ≡ length rs * width shape
  size = length-records shape rs

  inside : length (records_bytes shape rs) ≤ body_bytes
  inside = rw size (records_fit (fits form) few)

  not_refused : records_fault shape rs ≡ None
  not_refused =
      let good : good_records shape (length rs) (records_bytes shape rs) ≡ true = (rw (append-nil (records_bytes shape rs)) at (good_bytes shape rs [])) ∙ fine.marked in
      sym (body_records shape rs fine.shaped)
      ∙ ap (body_fault shape) (sym (take_all (length rs * width shape) (records_bytes shape rs) (omega (arith, size))))
      ∙ no_fault form (length rs) (records_bytes shape rs) (octets_records shape rs fine.marked) (omega (arith, size)) good some few

  module _ (ssrc : ℕ) (small : ssrc < 2 ^ 32) where
    block_reads : block_of (arrivals_block shape rs ssrc) ≡ Ok (Arrivals form (length rs) ssrc)
    block_reads =
        let back = arrivals_read_back form (list_of (λ r. r.time) rs) (list_of (λ r. r.number.0) rs) (list_of (λ r. r.mark) rs) ssrc not_refused (numbers_below shape rs fine.shaped) small in
        ap (λ (l : List Record). block_of (arrivals_block shape l ssrc)) (sym (lists_are rs)) ∙ back.0 ∙ ap (λ (n : ℕ). Ok (Arrivals form n ssrc)) (length-list (λ r. r.time) rs)

    body_is : body_of (arrivals_block shape rs ssrc) ≡ filled (records_bytes shape rs)
    unfolding arrivals_block checked
    body_is =
        let head = header shape.arrivals (length rs) ssrc in
        rw (append_assoc head (filled (records_bytes shape rs)), drop_at head _ 8 (length-header shape.arrivals (length rs) ssrc))
        (take_at (filled (records_bytes shape rs)) _ 502 (length-filled (records_bytes shape rs) inside))

    records_read : records_in shape (length rs) (body_of (arrivals_block shape rs ssrc)) ≡ rs
    unfolding filled
    records_read = ap (records_in shape (length rs)) body_is ∙ records_bytes_lem shape rs _ fine.shaped

    pub next_is : all_times (shape_of (other_form form)) rs ≡ true → next_of form ssrc (arrivals_block shape rs ssrc) ≡ goes rs
    next_is h = let its = records_read in next_goes form ssrc (arrivals_block shape rs ssrc) block_reads (rw its h) ∙ ap goes its

-- ---- the blocks of a packing

abbrev last_of : Shape → ℕ → List Record → List (List ℕ)
last_of _ ssrc [] = []
last_of shape ssrc (r ∷ rs) = arrivals_block shape (r ∷ rs) ssrc ∷ []

-- n full blocks and the last
unfoldable pub blocks_in : Shape → ℕ → ℕ → List Record → List (List ℕ)
blocks_in shape ssrc zero rs = last_of shape ssrc rs
blocks_in shape ssrc (suc n) rs = arrivals_block shape (take shape.most rs) ssrc ∷ blocks_in shape ssrc n (drop shape.most rs)

last_joined : (shape : Shape) (ssrc : ℕ) (rs : List Record) → last_block shape ssrc rs ≡ joined (last_of shape ssrc rs)
last_joined _ ssrc [] = refl
last_joined shape ssrc (r ∷ rs) = sym (append-nil (arrivals_block shape (r ∷ rs) ssrc))

module _ (shape : Shape) (ssrc : ℕ) where
  joined_are : (n : ℕ) (rs : List Record) → full_blocks shape ssrc n rs ++ last_block shape ssrc (drop (n * shape.most) rs) ≡ joined (blocks_in shape ssrc n rs)
  unfolding full_blocks blocks_in
  joined_are zero rs = rw (zero-mul shape.most) (last_joined shape ssrc rs)
  joined_are (suc n) rs =
      let first = arrivals_block shape (take shape.most rs) ssrc in
      let place : shape.most + n * shape.most ≡ suc n * shape.most = add_comm shape.most (n * shape.most) ∙ sym (suc-mul n shape.most) in
      append_assoc first (full_blocks shape ssrc n (drop shape.most rs)) (last_block shape ssrc (drop (suc n * shape.most) rs))
      ∙ ap (λ (s : List ℕ). first ++ s)
      (ap (λ (l : List Record). full_blocks shape ssrc n (drop shape.most rs) ++ last_block shape ssrc l) (sym (drop-drop (n * shape.most) shape.most rs ∙ ap (λ (k : ℕ). drop k rs) place))
      ∙ joined_are n (drop shape.most rs))

  pub packed_joined : (rs : List Record) → packed shape ssrc rs ≡ joined (blocks_in shape ssrc (full shape rs) rs)
  unfolding packed
  packed_joined rs = joined_are (full shape rs) rs

-- ---- what they bring

-- a block that goes
pub record Goes (form : Form) (ssrc : ℕ) (b : List ℕ) : Type 0 where
  pub records : List Record
  pub goes_on_lem : next_of form ssrc b ≡ goes records

-- all blocks have 512 bytes and go, and they bring the records
pub record Brought (form : Form) (ssrc : ℕ) (bs : List (List ℕ)) (rs : List Record) : Type 0 where
  pub whole : Each (λ b. length b ≡ block_bytes) bs
  pub going : Each (Goes form ssrc) bs
  pub bring : records_taken form ssrc bs ≡ rs

module _ (form : Form) (ssrc : ℕ) (small : ssrc < 2 ^ 32) where
  abbrev own : Shape
  own = shape_of form

  abbrev other : Shape
  other = shape_of (other_form form)

  first_brought : (rs : List Record) (bs : List (List ℕ)) (more : List Record) → Fine own rs → all_times other rs ≡ true → 1 ≤ length rs → length rs ≤ own.most
      → Brought form ssrc bs more → Brought form ssrc (arrivals_block own rs ssrc ∷ bs) (rs ++ more)
  unfolding records_taken
  first_brought rs bs more fine h some few later =
      let goes_on_lem = next_is form rs fine some few ssrc small h in
      record {
        whole = (length-arrivals_block own rs ssrc (records_fit (fits form) few), later.whole);
        going = (record { records = rs; goes_on_lem = goes_on_lem }, later.going);
        bring = ap (λ (n : Next (List Record)). taken_from n (records_taken form ssrc bs)) goes_on_lem ∙ ap (λ (l : List Record). rs ++ l) later.bring;
      }

  none_brought : Brought form ssrc [] []
  unfolding records_taken
  none_brought = record { whole = tt; going = tt; bring = refl }

  last_brought : (rs : List Record) → Fine own rs → all_times other rs ≡ true → length rs ≤ own.most → Brought form ssrc (last_of own ssrc rs) rs
  last_brought [] fine h few = none_brought
  last_brought (r ∷ rs) fine h few =
      subst (Brought form ssrc (arrivals_block own (r ∷ rs) ssrc ∷ [])) (append-nil (r ∷ rs)) (first_brought (r ∷ rs) [] [] fine h (omega arith) few none_brought)

  blocks_brought : (n : ℕ) (rs : List Record) → Fine own rs → all_times other rs ≡ true → n * own.most ≤ length rs → length rs - n * own.most ≤ own.most
      → Brought form ssrc (blocks_in own ssrc n rs) rs
  unfolding blocks_in
  blocks_brought zero rs fine h full few = last_brought rs fine h (omega (arith, zero-mul own.most))
  blocks_brought (suc n) rs fine h full few =
      let size : suc n * own.most ≡ n * own.most + own.most = suc-mul n own.most in
      let rest = drop own.most rs in
      let many : length rest ≡ length rs - own.most = length-drop own.most rs in
      let first : length (take own.most rs) ≡ own.most = length-take-le own.most rs (omega arith) in
      subst (Brought form ssrc (blocks_in own ssrc (suc n) rs)) (take-append-drop own.most rs)
      (first_brought (take own.most rs) (blocks_in own ssrc n rest) rest (fine_take own own.most fine) (every_take (is_time other) (λ r. r.time) own.most rs h) (omega (arith, first, most_some form)) (omega (arith, first))
      (blocks_brought n rest (fine_drop own own.most fine) (every_drop (is_time other) (λ r. r.time) own.most rs h) (omega arith) (omega arith)))

  pub packed_brought : (rs : List Record) → Fine own rs → all_times other rs ≡ true → Brought form ssrc (blocks_in own ssrc (full own rs) rs) rs
  packed_brought rs fine h =
      blocks_brought (full own rs) rs fine h (full_fits own rs) (omega (arith, length-left own rs, left_short own (most_some form) rs))
