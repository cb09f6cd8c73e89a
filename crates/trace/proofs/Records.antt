-- Laws of the bytes of records and of the records in bytes, over the shape: each is got back from the other, and both go piece by piece. Assumes nothing.
use Rattle.std.proofs.Common.{◌≡◌, ℕ, zero, suc, ◌+◌, ◌-◌, ◌*◌, ◌/◌, ◌%◌, ◌<◌, ◌≤◌, Bool, true, false, ◌&&◌, List, [], ◌∷◌, ◌++◌, length, get_or, take, drop, sym, refl, ap, ◌∙◌, ap₂, append_assoc, append-nil, add-zero, add_assoc, suc-mul, add_comm, suc-add, div-add-mod', zero-add, zero-mul, mul-div_cancel, arith, length-append, length-drop, get_or-drop, drop-drop, get_or-append-add, take-add, drop_at, ltb-true, lt-ltb, eq-eqb, eqb-true, leb-true}
use mathlib.Core.Bool.{and_assoc}
use lib.ListN.{get_or-append}
use lib.Seq.{take-nil, drop-nil, take-append-add, drop-append-add, drop-append-le}
use Rattle.numbers.specs.BigEndian.{word, bytes}
use Rattle.numbers.proofs.BigEndian.{Octets, length-bytes, word_drop, word_left, word_lt}
use Rattle.answers.proofs.Conditions.{and_left, and_right}
use Rattle.format.specs.Forms.{Shape, width, time_limit}
use Rattle.trace.specs.Layout.{record_at, record_bytes, records_bytes}
use Rattle.trace.specs.Contents.{every, is_zero, is_mark, is_time, good_records}
use Rattle.trace.specs.Writing.{arrivals_ok, arrivals_fault, body_ok, body_fault}
use Rattle.trace.specs.Theorems.{records_in, list_of, records_fault}
use Rattle.trace.specs.declared.Record.{Record}
use Rattle.numbers.proofs.Octets.{octets_nil, octets_cons, octets_append, octets_drop, octets_bytes, bytes_word, read_field}
use Rattle.trace.proofs.Layouts.{length-record, length-records}

-- ---- the record at a place

-- in a list without its first octets
record_drop : (shape : Shape) (n : ℕ) (s : List ℕ) (at : ℕ) → record_at shape (drop n s) at ≡ record_at shape s (n + at)
unfolding record_at
record_drop shape n s at = λ i. record {
  time = word_drop shape.time n s at i;
  number = record { 0 = (word_drop 2 n s (at + shape.time) ∙ ap (word 2 s) (sym (add_assoc n at shape.time))) i };
  mark = (get_or-drop n s (at + (shape.time + 2)) 0 ∙ ap (λ (k : ℕ). get_or s k 0) (sym (add_assoc n at (shape.time + 2)))) i;
}

-- behind the first
pub record_next : (shape : Shape) (s : List ℕ) (i : ℕ) → record_at shape (drop (width shape) s) (i * width shape) ≡ record_at shape s (suc i * width shape)
record_next shape s i = record_drop shape (width shape) s (i * width shape) ∙ ap (record_at shape s) (add_comm (width shape) (i * width shape) ∙ sym (suc-mul i (width shape)))

-- whatever follows it
record_left : (shape : Shape) (s t : List ℕ) → width shape ≤ length s → record_at shape (s ++ t) 0 ≡ record_at shape s 0
unfolding record_at
record_left shape s t h = λ i. record {
  time = word_left s t 0 shape.time (omega arith) i;
  number = record { 0 = word_left s t (0 + shape.time) 2 (omega arith) i };
  mark = get_or-append s t 0 (0 + (shape.time + 2)) (omega arith) i;
}

-- the record i
pub record_at_lem : (shape : Shape) (n : ℕ) (s : List ℕ) (i : ℕ) (d : Record) → i < n → get_or (records_in shape n s) i d ≡ record_at shape s (i * width shape)
unfolding records_in
record_at_lem shape zero s i d h = absurd (omega arith)
record_at_lem shape (suc n) s zero d h = ap (record_at shape s) (sym (zero-mul (width shape)))
record_at_lem shape (suc n) s (suc i) d h = record_at_lem shape n (drop (width shape) s) i d (omega arith) ∙ record_next shape s i

-- ---- a record's bytes at the front

module _ (shape : Shape) (r : Record) (rest : List ℕ) where
  parted : record_bytes shape r ++ rest ≡ bytes shape.time r.time ++ (bytes 2 r.number.0 ++ (r.mark ∷ 0 ∷ rest))
  unfolding record_bytes
  parted = simp append_assoc

  -- the octets behind time and number
  end_of : (i : ℕ) → get_or (record_bytes shape r ++ rest) (shape.time + (2 + i)) 0 ≡ get_or (r.mark ∷ 0 ∷ rest) i 0
  end_of i =
      let two : List ℕ = bytes shape.time r.time ++ bytes 2 r.number.0 in
      let long : length two ≡ shape.time + 2 = simp (length-append, length-bytes) in
      let place : shape.time + (2 + i) ≡ length two + i = omega (arith, long) in
      rw (place, parted, ← append_assoc (bytes shape.time r.time) (bytes 2 r.number.0) (r.mark ∷ 0 ∷ rest)) (get_or-append-add two (r.mark ∷ 0 ∷ rest) i 0)

  past_first : drop (width shape) (record_bytes shape r ++ rest) ≡ rest
  past_first = drop_at (record_bytes shape r) rest (width shape) (length-record shape r)

-- ---- records that a shape has bytes for

pub record OfShape (shape : Shape) (r : Record) : Type 0 where
  pub time : r.time < time_limit shape
  pub number : r.number.0 < 65536

abbrev pub AllOfShape : Shape → List Record → Type 0
AllOfShape shape [] = Unit {0}
AllOfShape shape (r ∷ rs) = OfShape shape r × AllOfShape shape rs

abbrev pub times : List Record → List ℕ
times rs = list_of (λ r. r.time) rs

abbrev pub marks : List Record → List ℕ
marks rs = list_of (λ r. r.mark) rs

pub length-list : (field : Record → ℕ) (rs : List Record) → length (list_of field rs) ≡ length rs
unfolding list_of
length-list field [] = refl
length-list field (r ∷ rs) = ap suc (length-list field rs)

module _ (shape : Shape) where
  pub of_shape_append : (rs qs : List Record) → AllOfShape shape rs → AllOfShape shape qs → AllOfShape shape (rs ++ qs)
  of_shape_append [] qs h k = k
  of_shape_append (r ∷ rs) qs h k = (h.0, of_shape_append rs qs h.1 k)

  pub of_shape_take : (n : ℕ) (rs : List Record) → AllOfShape shape rs → AllOfShape shape (take n rs)
  of_shape_take zero rs h = tt
  of_shape_take (suc n) [] h = tt
  of_shape_take (suc n) (r ∷ rs) h = (h.0, of_shape_take n rs h.1)

  pub of_shape_drop : (n : ℕ) (rs : List Record) → AllOfShape shape rs → AllOfShape shape (drop n rs)
  of_shape_drop zero rs h = h
  of_shape_drop (suc n) [] h = tt
  of_shape_drop (suc n) (r ∷ rs) h = of_shape_drop n rs h.1

  -- those in bytes
  pub of_shape_in : (n : ℕ) (s : List ℕ) → Octets s → AllOfShape shape (records_in shape n s)
  unfolding records_in record_at
  of_shape_in zero s o = tt
  of_shape_in (suc n) s o = (
    record { time = word_lt s 0 shape.time o; number = word_lt s (0 + shape.time) 2 o },
    of_shape_in n (drop (width shape) s) (octets_drop (width shape) s o),
  )

  -- their times
  pub of_shape_times : (rs : List Record) → AllOfShape shape rs → every (is_time shape) (times rs) ≡ true
  unfolding every list_of
  of_shape_times [] h = refl
  of_shape_times (r ∷ rs) h = rw (lt-ltb r.time (time_limit shape) h.0.time) (of_shape_times rs h.1)

  -- in another shape that has bytes for their times
  pub of_shape_other : (other : Shape) (rs : List Record) → AllOfShape shape rs → every (is_time other) (times rs) ≡ true → AllOfShape other rs
  unfolding every list_of
  of_shape_other other [] h e = tt
  of_shape_other other (r ∷ rs) h e = (
    record { time = ltb-true r.time (time_limit other) (and_left (is_time other r.time) (every (is_time other) (times rs)) e); number = h.0.number },
    of_shape_other other rs h.1 (and_right (is_time other r.time) (every (is_time other) (times rs)) e),
  )

  -- and in one with as many bytes or more
  pub of_shape_more : (other : Shape) → time_limit shape ≤ time_limit other → (rs : List Record) → AllOfShape shape rs → AllOfShape other rs
  of_shape_more other more [] h = tt
  of_shape_more other more (r ∷ rs) h = (record { time = omega (arith, h.0.time, more); number = h.0.number }, of_shape_more other more rs h.1)

-- ---- records, from their bytes

module _ (shape : Shape) where
  record_first : (r : Record) (rest : List ℕ) → OfShape shape r → record_at shape (record_bytes shape r ++ rest) 0 ≡ r
  unfolding record_at
  record_first r rest h = λ i. record {
    time = (ap (λ (s : List ℕ). word shape.time s 0) (parted shape r rest) ∙ read_field shape.time r.time h.time [] refl _) i;
    number = record { 0 = (ap₂ (λ (s : List ℕ) (at : ℕ). word 2 s at) (parted shape r rest) (zero-add shape.time) ∙ read_field 2 r.number.0 h.number (bytes shape.time r.time) (length-bytes shape.time r.time) _) i };
    mark = (ap (λ (at : ℕ). get_or (record_bytes shape r ++ rest) at 0) (zero-add (shape.time + 2)) ∙ end_of shape r rest 0) i;
  }

  pub records_bytes_lem : (rs : List Record) (rest : List ℕ) → AllOfShape shape rs → records_in shape (length rs) (records_bytes shape rs ++ rest) ≡ rs
  unfolding records_bytes records_in
  records_bytes_lem [] rest h = refl
  records_bytes_lem (r ∷ rs) rest h =
      let next : List ℕ = records_bytes shape rs ++ rest in
      rw (append_assoc (record_bytes shape r) (records_bytes shape rs) rest, past_first shape r next, record_first r next h.0, records_bytes_lem rs rest h.1)

  -- they are good just where their marks are
  pub good_bytes : (rs : List Record) (rest : List ℕ) → good_records shape (length rs) (records_bytes shape rs ++ rest) ≡ every is_mark (marks rs)
  unfolding records_bytes good_records every list_of
  good_bytes [] rest = refl
  good_bytes (r ∷ rs) rest =
      let next : List ℕ = records_bytes shape rs ++ rest in
      rw (append_assoc (record_bytes shape r) (records_bytes shape rs) rest, end_of shape r next 0, end_of shape r next 1, past_first shape r next, good_bytes rs rest)

  pub octets_records : (rs : List Record) → every is_mark (marks rs) ≡ true → Octets (records_bytes shape rs)
  unfolding records_bytes record_bytes every list_of
  octets_records [] h = octets_nil
  octets_records (r ∷ rs) h =
      let mark : r.mark ≤ 3 = leb-true r.mark 3 (and_left (is_mark r.mark) (every is_mark (marks rs)) h) in
      octets_append (record_bytes shape r) (records_bytes shape rs)
      (octets_append (bytes shape.time r.time) (bytes 2 r.number.0 ++ (r.mark ∷ 0 ∷ [])) (octets_bytes shape.time r.time)
      (octets_append (bytes 2 r.number.0) (r.mark ∷ 0 ∷ []) (octets_bytes 2 r.number.0)
      (octets_cons r.mark (0 ∷ []) (omega (arith, mark)) (octets_cons 0 [] (omega arith) octets_nil))))
      (octets_records rs (and_right (is_mark r.mark) (every is_mark (marks rs)) h))

  pub many_records : (rs : List Record) → length (records_bytes shape rs) / width shape ≡ length rs
  many_records rs = rw (length-records shape rs) (mul-div_cancel (length rs) (omega arith))

  whole_records : (rs : List Record) → length (records_bytes shape rs) % width shape ≡ 0
  whole_records rs =
      let size = length-records shape rs in
      let parts = rw (many_records rs) at (div-add-mod' (length (records_bytes shape rs)) (width shape)) in
      omega (arith, size, parts)

  -- the writer of bytes refuses them just where that of lists does
  pub body_records : (rs : List Record) → AllOfShape shape rs → body_fault shape (records_bytes shape rs) ≡ records_fault shape rs
  unfolding body_fault body_ok arrivals_fault arrivals_ok
  body_records rs h =
      let good : good_records shape (length rs) (records_bytes shape rs) ≡ every is_mark (marks rs) = rw (append-nil (records_bytes shape rs)) at (good_bytes rs []) in
      rw (whole_records rs, many_records rs, good, length-list (λ r. r.time) rs, length-list (λ r. r.number.0) rs, length-list (λ r. r.mark) rs, eq-eqb (length rs) (length rs) refl, of_shape_times shape rs h)

-- ---- bytes, from their records

take-two : (s : List ℕ) → 2 ≤ length s → take 2 s ≡ get_or s 0 0 ∷ get_or s 1 0 ∷ []
take-two [] h = absurd (omega arith)
take-two (a ∷ []) h = absurd (omega arith)
take-two (a ∷ b ∷ s) h = refl

module _ (shape : Shape) where
  bytes_record : (s : List ℕ) → Octets s → width shape ≤ length s → get_or s (shape.time + 3) 0 ≡ 0 → record_bytes shape (record_at shape s 0) ≡ take (width shape) s
  unfolding record_bytes record_at
  bytes_record s o long z =
      let t = shape.time in
      let next : t + 2 + 1 ≡ t + 3 = omega arith in
      let last : take 2 (drop (t + 2) s) ≡ get_or s (t + 2) 0 ∷ 0 ∷ [] =
      take-two (drop (t + 2) s) (rw length-drop (omega arith)) ∙ rw (get_or-drop (t + 2) s 0 0, get_or-drop (t + 2) s 1 0, add-zero (t + 2), next, z) in
      let four : take 4 (drop t s) ≡ take 2 (drop t s) ++ take 2 (drop (t + 2) s) = take-add 2 2 (drop t s) ∙ ap (λ (l : List ℕ). take 2 (drop t s) ++ take 2 l) (drop-drop 2 t s) in
      rw (zero-add t, zero-add (t + 2), bytes_word t s 0 o (omega arith), bytes_word 2 s t o (omega arith), take-add t 4 s, four, last)

  pub bytes_records : (n : ℕ) (s : List ℕ) → Octets s → n * width shape ≤ length s → good_records shape n s ≡ true → records_bytes shape (records_in shape n s) ≡ take (n * width shape) s
  unfolding records_bytes records_in good_records
  bytes_records zero s o long g = rw (zero-mul (width shape))
  bytes_records (suc n) s o long g =
      let w = width shape in
      let m : Bool = is_mark (get_or s (shape.time + 2) 0) in
      let z : Bool = is_zero (get_or s (shape.time + 3) 0) in
      let rest : Bool = good_records shape n (drop w s) in
      let size : suc n * w ≡ w + n * w = suc-mul n w ∙ add_comm (n * w) w in
      let both = and_right m (z && rest) g in
      rw (size, take-add w (n * w) s, bytes_record s o (omega (arith, size)) (eqb-true (get_or s (shape.time + 3) 0) 0 (and_left z rest both)), bytes_records n (drop w s) (octets_drop w s o) (rw length-drop (omega (arith, size))) (and_right z rest both))

  pub length-records_in : (n : ℕ) (s : List ℕ) → length (records_in shape n s) ≡ n
  unfolding records_in
  length-records_in zero s = refl
  length-records_in (suc n) s = ap suc (length-records_in n (drop (width shape) s))

  pub marks_in : (n : ℕ) (s : List ℕ) → good_records shape n s ≡ true → every is_mark (marks (records_in shape n s)) ≡ true
  unfolding list_of records_in good_records every record_at
  marks_in zero s g = refl
  marks_in (suc n) s g =
      let m : Bool = is_mark (get_or s (shape.time + 2) 0) in
      let z : Bool = is_zero (get_or s (shape.time + 3) 0) in
      let rest : Bool = good_records shape n (drop (width shape) s) in
      rw (zero-add (shape.time + 2), and_left m (z && rest) g) (marks_in n (drop (width shape) s) (and_right z rest (and_right m (z && rest) g)))

-- ---- piece by piece

pub list_append : (field : Record → ℕ) (rs qs : List Record) → list_of field (rs ++ qs) ≡ list_of field rs ++ list_of field qs
unfolding list_of
list_append field [] qs = refl
list_append field (r ∷ rs) qs = ap (λ (l : List ℕ). field r ∷ l) (list_append field rs qs)

module _ (shape : Shape) where
  pub bytes_append : (rs qs : List Record) → records_bytes shape (rs ++ qs) ≡ records_bytes shape rs ++ records_bytes shape qs
  unfolding records_bytes
  bytes_append [] qs = refl
  bytes_append (r ∷ rs) qs = rw (bytes_append rs qs) (sym (append_assoc (record_bytes shape r) (records_bytes shape rs) (records_bytes shape qs)))

  bytes_more : (r : Record) (n : ℕ) → suc n * width shape ≡ length (record_bytes shape r) + n * width shape
  bytes_more r n = rw (length-record shape r) (suc-mul n (width shape) ∙ add_comm (n * width shape) (width shape))

  -- of the first n records, and of those behind them
  pub bytes_take : (n : ℕ) (rs : List Record) → take (n * width shape) (records_bytes shape rs) ≡ records_bytes shape (take n rs)
  unfolding records_bytes
  bytes_take zero rs = rw (zero-mul (width shape))
  bytes_take (suc n) [] = take-nil (suc n * width shape)
  bytes_take (suc n) (r ∷ rs) =
      rw (bytes_more r n, take-append-add (record_bytes shape r) (records_bytes shape rs) (n * width shape), bytes_take n rs)

  pub bytes_drop : (n : ℕ) (rs : List Record) → drop (n * width shape) (records_bytes shape rs) ≡ records_bytes shape (drop n rs)
  unfolding records_bytes
  bytes_drop zero rs = rw (zero-mul (width shape))
  bytes_drop (suc n) [] = drop-nil (suc n * width shape)
  bytes_drop (suc n) (r ∷ rs) =
      rw (bytes_more r n, drop-append-add (record_bytes shape r) (records_bytes shape rs) (n * width shape), bytes_drop n rs)

  -- one record passed, and m more
  behind : (m : ℕ) (s : List ℕ) → drop (m * width shape) (drop (width shape) s) ≡ drop (suc m * width shape) s
  behind m s = drop-drop (m * width shape) (width shape) s ∙ ap (λ (k : ℕ). drop k s) (add_comm (width shape) (m * width shape) ∙ sym (suc-mul m (width shape)))

  pub records_add : (m n : ℕ) (s : List ℕ) → records_in shape (m + n) s ≡ records_in shape m s ++ records_in shape n (drop (m * width shape) s)
  unfolding records_in
  records_add zero n s = rw (zero-add n, zero-mul (width shape))
  records_add (suc m) n s = rw (suc-add m n, records_add m n (drop (width shape) s), behind m s)

  pub good_add : (m n : ℕ) (s : List ℕ) → good_records shape (m + n) s ≡ (good_records shape m s && good_records shape n (drop (m * width shape) s))
  unfolding good_records
  good_add zero n s = rw (zero-add n, zero-mul (width shape))
  good_add (suc m) n s =
      let mark : Bool = is_mark (get_or s (shape.time + 2) 0) in
      let nil : Bool = is_zero (get_or s (shape.time + 3) 0) in
      let first : Bool = good_records shape m (drop (width shape) s) in
      let last : Bool = good_records shape n (drop (suc m * width shape) s) in
      rw (suc-add m n, good_add m n (drop (width shape) s), behind m s)
      (sym (and_assoc mark (nil && first) last ∙ ap (λ (t : Bool). mark && t) (and_assoc nil first last)))

  -- n records whose first m are good, from a place on, or not good
  module _ (m n : ℕ) (h : m ≤ n) where
    good_parts : (s : List ℕ) → good_records shape n s ≡ (good_records shape m s && good_records shape (n - m) (drop (m * width shape) s))
    good_parts s = let e : m + (n - m) ≡ n = omega arith in sym (ap (λ (k : ℕ). good_records shape k s) e) ∙ good_add m (n - m) s

    pub part_good : (s : List ℕ) (at : ℕ) {next : ℕ} → next ≡ at + m * width shape → good_records shape m (drop at s) ≡ true
        → good_records shape (n - m) (drop next s) ≡ good_records shape n (drop at s)
    part_good s at {next} en e =
        let rest : drop (m * width shape) (drop at s) ≡ drop next s = drop-drop (m * width shape) at s ∙ ap (λ (k : ℕ). drop k s) (sym en) in
        sym (good_parts (drop at s) ∙ ap (λ (t : Bool). t && good_records shape (n - m) (drop (m * width shape) (drop at s))) e ∙ ap (good_records shape (n - m)) rest)

    pub part_bad : (s : List ℕ) → good_records shape m s ≡ false → false ≡ good_records shape n s
    part_bad s e = sym (good_parts s ∙ ap (λ (t : Bool). t && good_records shape (n - m) (drop (m * width shape) s)) e)

  -- what follows the records does not matter
  module _ (n : ℕ) (s : List ℕ) (h : suc n * width shape ≤ length s) where
    first_fits : width shape ≤ length s
    first_fits = omega (arith, suc-mul n (width shape))

    rest_fits : n * width shape ≤ length (drop (width shape) s)
    rest_fits = rw length-drop (omega (arith, suc-mul n (width shape)))

  pub records_left : (n : ℕ) (s t : List ℕ) → n * width shape ≤ length s → records_in shape n (s ++ t) ≡ records_in shape n s
  unfolding records_in
  records_left zero s t h = refl
  records_left (suc n) s t h =
      rw (record_left shape s t (first_fits n s h), drop-append-le (width shape) s t (first_fits n s h), records_left n (drop (width shape) s) t (rest_fits n s h))

  pub good_left : (n : ℕ) (s t : List ℕ) → n * width shape ≤ length s → good_records shape n (s ++ t) ≡ good_records shape n s
  unfolding good_records
  good_left zero s t h = refl
  good_left (suc n) s t h =
      let room = first_fits n s h in
      rw (get_or-append s t 0 (shape.time + 2) (omega (arith, room)), get_or-append s t 0 (shape.time + 3) (omega (arith, room)), drop-append-le (width shape) s t room, good_left n (drop (width shape) s) t (rest_fits n s h))

  module _ (m n : ℕ) (s t : List ℕ) (long : length s ≡ m * width shape) where
    pub records_append : records_in shape (m + n) (s ++ t) ≡ records_in shape m s ++ records_in shape n t
    records_append = rw (records_add m n (s ++ t), records_left m s t (omega (arith, long)), drop_at s t (m * width shape) long)

    pub good_append : good_records shape (m + n) (s ++ t) ≡ (good_records shape m s && good_records shape n t)
    good_append = rw (good_add m n (s ++ t), good_left m s t (omega (arith, long)), drop_at s t (m * width shape) long)
