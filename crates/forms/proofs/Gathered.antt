-- Records stored at the front of a list, and what a part of them is. Assumes nothing.
use mathlib.Core.Path.{◌≡◌, refl, sym, ap, ◌∙◌}
use mathlib.Core.Bool.{Bool, true, ◌&&◌}
use mathlib.Core.List.{List, [], ◌∷◌, ◌++◌}
use Prim.Native.Nat.{ℕ, zero, suc, ◌+◌, ◌-◌, ◌*◌, ◌≤◌}
use native.Mathlib.Omega.{arith}
use lib.ListN.{length, take, drop}
use lib.Seq.{sets, take_at}
use Rattle.answers.proofs.Conditions.{and_left, and_right}
use Rattle.answers.proofs.Stores.{sets-front}
use Rattle.numbers.proofs.BigEndian.{Octets}
use Rattle.format.specs.Forms.{Shape, width}
use Rattle.trace.specs.Contents.{every, is_mark, good_records}
use Rattle.trace.specs.Layout.{records_bytes}
use Rattle.trace.specs.Theorems.{records_in, list_of}
use Rattle.trace.specs.declared.Record.{Record}
use Rattle.trace.proofs.Layouts.{length-records}
use Rattle.trace.proofs.Records.{AllOfShape, marks, of_shape_append, of_shape_take, of_shape_drop, of_shape_in, of_shape_other, marks_in, list_append, records_bytes_lem, good_bytes, records_add, good_add, length-records_in}
use Rattle.forms.specs.Conversions.{all_times}

-- ---- records that a block of a form may have

pub record Fine (shape : Shape) (rs : List Record) : Type 0 where
  pub shaped : AllOfShape shape rs
  pub marked : every is_mark (marks rs) ≡ true

pub every_append : (rule : ℕ → Bool) (s t : List ℕ) → every rule s ≡ true → every rule t ≡ true → every rule (s ++ t) ≡ true
unfolding every
every_append rule [] t h k = k
every_append rule (c ∷ s) t h k = rw (and_left (rule c) (every rule s) h) (every_append rule s t (and_right (rule c) (every rule s) h) k)

-- a rule on a field of records holds of the first of them, and of the others
module _ (rule : ℕ → Bool) (field : Record → ℕ) where
  pub every_take : (n : ℕ) (rs : List Record) → every rule (list_of field rs) ≡ true → every rule (list_of field (take n rs)) ≡ true
  unfolding every list_of
  every_take zero rs h = refl
  every_take (suc n) [] h = h
  every_take (suc n) (r ∷ rs) h =
      rw (and_left (rule (field r)) (every rule (list_of field rs)) h) (every_take n rs (and_right (rule (field r)) (every rule (list_of field rs)) h))

  pub every_drop : (n : ℕ) (rs : List Record) → every rule (list_of field rs) ≡ true → every rule (list_of field (drop n rs)) ≡ true
  unfolding every list_of
  every_drop zero rs h = h
  every_drop (suc n) [] h = h
  every_drop (suc n) (r ∷ rs) h = every_drop n rs (and_right (rule (field r)) (every rule (list_of field rs)) h)

module _ (shape : Shape) where
  pub fine_append : {xs ys : List Record} → Fine shape xs → Fine shape ys → Fine shape (xs ++ ys)
  fine_append {xs} {ys} f g = record {
    shaped = of_shape_append shape xs ys f.shaped g.shaped;
    marked = rw (list_append (λ r. r.mark) xs ys) (every_append is_mark (marks xs) (marks ys) f.marked g.marked);
  }

  pub fine_take : (n : ℕ) {rs : List Record} → Fine shape rs → Fine shape (take n rs)
  fine_take n {rs} f = record { shaped = of_shape_take shape n rs f.shaped; marked = every_take is_mark (λ r. r.mark) n rs f.marked }

  pub fine_drop : (n : ℕ) {rs : List Record} → Fine shape rs → Fine shape (drop n rs)
  fine_drop n {rs} f = record { shaped = of_shape_drop shape n rs f.shaped; marked = every_drop is_mark (λ r. r.mark) n rs f.marked }

  -- those that are read
  pub fine_in : (n : ℕ) (s : List ℕ) → Octets s → good_records shape n s ≡ true → Fine shape (records_in shape n s)
  fine_in n s o g = record { shaped = of_shape_in shape n s o; marked = marks_in shape n s g }

  -- in another form that has bytes for their times
  pub fine_other : (other : Shape) {rs : List Record} → Fine shape rs → all_times other rs ≡ true → Fine other rs
  fine_other other {rs} f e = record { shaped = of_shape_other shape other rs f.shaped e; marked = f.marked }

-- ---- their bytes at the front of a list

module _ (shape : Shape) (rs : List Record) (fine : Fine shape rs) (old : List ℕ) (room : length rs * width shape ≤ length old) {all : List ℕ} (e : all ≡ sets old 0 (records_bytes shape rs)) where
  abbrev wide : ℕ
  wide = width shape

  abbrev rest : List ℕ
  rest = drop (length (records_bytes shape rs)) old

  all_is : all ≡ records_bytes shape rs ++ rest
  all_is = e ∙ sets-front old (records_bytes shape rs) (omega (arith, length-records shape rs))

  module _ (k : ℕ) (few : k ≤ length rs) where
    parts : k + (length rs - k) ≡ length rs
    parts = omega arith

    -- the first k are good, and they are what is read
    pub good_first : good_records shape k all ≡ true
    good_first =
        let both : (good_records shape k all && good_records shape (length rs - k) (drop (k * wide) all)) ≡ true =
        sym (good_add shape k (length rs - k) all) ∙ ap (λ (n : ℕ). good_records shape n all) parts ∙ ap (good_records shape (length rs)) all_is ∙ good_bytes shape rs rest ∙ fine.marked in
        and_left (good_records shape k all) (good_records shape (length rs - k) (drop (k * wide) all)) both

    pub read_first : records_in shape k all ≡ take k rs
    read_first =
        let both : records_in shape k all ++ records_in shape (length rs - k) (drop (k * wide) all) ≡ rs =
        sym (records_add shape k (length rs - k) all) ∙ ap (λ (n : ℕ). records_in shape n all) parts ∙ ap (records_in shape (length rs)) all_is ∙ records_bytes_lem shape rs rest fine.shaped in
        sym (take_at (records_in shape k all) (records_in shape (length rs - k) (drop (k * wide) all)) k (length-records_in shape k all)) ∙ ap (take k) both
