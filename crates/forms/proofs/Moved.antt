-- A record in the other form. Assumes nothing.
use mathlib.Core.Path.{◌≡◌, refl, sym, ap, ap₂, ◌∙◌}
use mathlib.Core.Bool.{Bool, true, false, ◌&&◌, and_assoc, and-true}
use mathlib.Core.List.{List, [], ◌∷◌, ◌++◌, append_assoc}
use Prim.Native.Nat.{ℕ, zero, suc, ◌+◌, ◌-◌, ◌*◌, ◌/◌, ◌≤◌, ◌<◌}
use native.Mathlib.Nat.{add-zero, div-eq_of_lt}
use native.Mathlib.Numerals.{add-one}
use native.Mathlib.Omega.{arith}
use borrow.Author.Tests.{lt-ltb, le-ltb, eq-eqb, ne_eqb, eqb-true, eqb-false}
use lib.Dec.{eqb, ltb}
use lib.ListN.{length, take, drop, get_or, set, length-drop}
use lib.Seq.{sets, take-add, take_at, drop_at, drop-drop, get_or-drop, length-take-le}
use Rattle.numbers.specs.BigEndian.{word, bytes}
use Rattle.numbers.proofs.BigEndian.{Octets, length-bytes, bytes_add, word_add, word_lt, word_two}
use Rattle.answers.proofs.Conditions.{and_left, and_right}
use Rattle.answers.proofs.Stores.{sets-front}
use Rattle.format.specs.Forms.{Shape, shape_of, width, time_limit, other_form}
use Rattle.format.specs.declared.Form.{Form}
use Rattle.format.specs.declared.Form.TheVariants.{One, Two}
use Rattle.trace.specs.Contents.{every, is_time, good_records}
use Rattle.trace.specs.Layout.{record_at, record_bytes, records_bytes}
use Rattle.trace.specs.Theorems.{records_in, list_of}
use Rattle.trace.specs.declared.Record.{Record}
use Rattle.numbers.proofs.Octets.{octets_drop}
use Rattle.trace.proofs.Records.{AllOfShape, of_shape_in, of_shape_times, bytes_records, records_add, good_add}
use Rattle.trace.proofs.Tallies.{zero_sum}
use Rattle.forms.specs.Conversions.{all_times}

abbrev one : Shape
one = shape_of One

abbrev two : Shape
two = shape_of Two

-- ---- a record's bytes: form 2 has two more in front

wider : (r : Record) → records_bytes two (r ∷ []) ≡ bytes 2 (r.time / time_limit one) ++ records_bytes one (r ∷ [])
unfolding records_bytes record_bytes
wider r = rw (bytes_add 2 4 r.time) (simp append_assoc)

module _ (s : List ℕ) (o : Octets s) where
  -- from form 1: two zeros
  pub to_two : good_records one 1 s ≡ true → 8 ≤ length s → records_bytes two (records_in one 1 s) ≡ 0 ∷ 0 ∷ take 8 s
  unfolding records_in bytes
  to_two g h =
      let r : Record = record_at one s 0 in
      let small : r.time < time_limit one = (of_shape_in one 1 s o).0.time in
      wider r ∙ ap₂ (λ (n : ℕ) (t : List ℕ). bytes 2 n ++ t) (div-eq_of_lt small) (bytes_records one 1 s o h g)

  -- from form 2: without its first two
  pub to_one : good_records two 1 s ≡ true → 10 ≤ length s → records_bytes one (records_in two 1 s) ≡ take 8 (drop 2 s)
  unfolding records_in
  to_one g h =
      let r : Record = record_at two s 0 in
      sym (drop_at (bytes 2 (r.time / time_limit one)) (records_bytes one (r ∷ [])) 2 (length-bytes 2 (r.time / time_limit one)))
      ∙ ap (drop 2) (sym (wider r) ∙ bytes_records two 1 s o h g ∙ take-add 2 8 s)
      ∙ drop_at (take 2 s) (take 8 (drop 2 s)) 2 (length-take-le 2 s (omega arith))

-- ---- times

-- form 2 has bytes for the times of form 1
pub times_fit : (n : ℕ) (s : List ℕ) → Octets s → all_times two (records_in one n s) ≡ true
times_fit n s o = of_shape_times two (records_in one n s) (go (records_in one n s) (of_shape_in one n s o))
  where
    go : (rs : List Record) → AllOfShape one rs → AllOfShape two rs
    go [] h = tt
    go (r ∷ rs) h = (record { time = omega (arith, h.0.time); number = h.0.number }, go rs h.1)

-- form 1 has bytes for a time whose upper two bytes are zero
short : (s : List ℕ) → Octets s → is_time one (word 6 s 0) ≡ eqb (word 2 s 0) 0
short s o = go (eqb (word 2 s 0) 0) refl
  where
    parts : word 6 s 0 ≡ word 2 s 0 * time_limit one + word 4 s 2
    parts = word_add s 0 2 4

    go : (t : Bool) → eqb (word 2 s 0) 0 ≡ t → ltb (word 6 s 0) (time_limit one) ≡ t
    go true e = lt-ltb (word 6 s 0) (time_limit one) (omega (arith, parts, eqb-true (word 2 s 0) 0 e, word_lt s 2 4 o))
    go false e = le-ltb (word 6 s 0) (time_limit one) (omega (arith, parts, eqb-false (word 2 s 0) 0 e))

-- two bytes are zero in either order
either : (a b : ℕ) → eqb (b * 256 + a) 0 ≡ eqb (a * 256 + b) 0
either a b = go (eqb (a * 256 + b) 0) refl
  where
    go : (t : Bool) → eqb (a * 256 + b) 0 ≡ t → eqb (b * 256 + a) 0 ≡ t
    go true e = eq-eqb (b * 256 + a) 0 (omega (arith, eqb-true (a * 256 + b) 0 e))
    go false e = ne_eqb (b * 256 + a) 0 (λ q. eqb-false (a * 256 + b) 0 e (omega arith))

-- a turn of a loop over the records
pub times_turn : (left at sum pair : ℕ) (body : List ℕ) {next : ℕ} → 0 < left → next ≡ at + 10 → Octets body
    → pair ≡ word 2 (get_or body (at + 1) 0 ∷ get_or body at 0 ∷ []) 0
    → (eqb (sum + pair) 0 && all_times one (records_in two (left - 1) (drop next body))) ≡ (eqb sum 0 && all_times one (records_in two left (drop at body)))
unfolding records_in record_at every list_of
times_turn zero at sum pair body h en o e = absurd (omega arith)
times_turn (suc k) at sum pair body {next} h en o e =
    let less : suc k - 1 ≡ k = omega arith in
    let rest : Bool = all_times one (records_in two k (drop next body)) in
    let low : ℕ = get_or body at 0 in
    let high : ℕ = get_or body (at + 1) 0 in
    let number : word 2 (drop at body) 0 ≡ low * 256 + high = word_two (drop at body) 0 ∙ rw (get_or-drop at body 0 0, get_or-drop at body (0 + 1) 0, add-zero at) in
    let same : eqb pair 0 ≡ eqb (word 2 (drop at body) 0) 0 =
    ap (λ (k : ℕ). eqb k 0) (e ∙ word_two (high ∷ low ∷ []) 0) ∙ either low high ∙ ap (λ (k : ℕ). eqb k 0) (sym number) in
    rw (less, zero_sum sum pair, same, ← short (drop at body) (octets_drop at body o), drop-drop 10 at body, ← en)
    (and_assoc (eqb sum 0) (is_time one (word 6 (drop at body) 0)) rest)

pub times_done : (left sum n : ℕ) (s body : List ℕ) → left ≤ 0 → (eqb sum 0 && all_times one (records_in two left s)) ≡ all_times one (records_in two n body)
    → eqb sum 0 ≡ all_times one (records_in two n body)
unfolding records_in every list_of
times_done zero sum n s body h e = sym (and-true (eqb sum 0)) ∙ e
times_done (suc left) sum n s body h e = absurd (omega arith)

-- ---- a record stored

-- eight bytes by way of a buffer of eight
pub by_buffer : (buffer run : List ℕ) {eight : List ℕ} → length buffer ≡ 8 → length run ≡ 8 → eight ≡ sets buffer 0 run → take 8 eight ≡ run
by_buffer buffer run eb er e = ap (take 8) (e ∙ sets-front buffer run (omega arith)) ∙ take_at run (drop (length run) buffer) 8 er

module _ (body old : List ℕ) (from at : ℕ) (o : Octets body) where
  abbrev Stored : Form → List ℕ → Type 0
  Stored form out = out ≡ sets old at (records_bytes (shape_of (other_form form)) (records_in (shape_of form) 1 (drop from body)))

  room : (form : Form) → from + width (shape_of form) ≤ length body → width (shape_of form) ≤ length (drop from body)
  room form h = rw length-drop (omega arith)

  pub two_stored : (form : Form) {out : List ℕ} → form ≡ One → good_records (shape_of form) 1 (drop from body) ≡ true → from + width (shape_of form) ≤ length body
      → out ≡ sets (set (set old at 0) (at + 1) 0) (at + 2) (take 8 (drop from body)) → Stored form out
  two_stored One e g h k =
      let next : at + 2 ≡ suc (suc at) = omega arith in
      k ∙ rw (to_two (drop from body) (octets_drop from body o) g (room One h), add-one at, next)
  two_stored Two e g h k = let z : ◌≡◌ {A = ℕ} 0 1 = cc in absurd (omega arith)

  pub one_stored : (form : Form) {out : List ℕ} → form ≡ Two → good_records (shape_of form) 1 (drop from body) ≡ true → from + width (shape_of form) ≤ length body
      → out ≡ sets old at (take 8 (drop (from + 2) body)) → Stored form out
  one_stored Two e g h k =
      k ∙ ap (sets old at) (sym (to_one (drop from body) (octets_drop from body o) g (room Two h) ∙ ap (take 8) (drop-drop 2 from body)))
  one_stored One e g h k = let z : ◌≡◌ {A = ℕ} 0 1 = cc in absurd (omega arith)

-- ---- a turn of a loop over records: m of those that are left

module _ (shape : Shape) (body : List ℕ) (m n at : ℕ) {left next : ℕ} (el : left ≡ m + n) (en : next ≡ at + m * width shape) where
  rest_is : drop (m * width shape) (drop at body) ≡ drop next body
  rest_is = drop-drop (m * width shape) at body ∙ ap (λ (k : ℕ). drop k body) (sym en)

  pub good_turn : good_records shape left (drop at body) ≡ true → (good_records shape m (drop at body) ≡ true) × (good_records shape n (drop next body) ≡ true)
  good_turn g =
      let first = good_records shape m (drop at body) in
      let rest = good_records shape n (drop next body) in
      let parts : (first && rest) ≡ true =
      sym (ap (λ (k : ℕ). good_records shape k (drop at body)) el ∙ good_add shape m n (drop at body) ∙ ap (λ (s : List ℕ). first && good_records shape n s) rest_is) ∙ g in
      (and_left first rest parts, and_right first rest parts)

  pub records_turn : records_in shape left (drop at body) ≡ records_in shape m (drop at body) ++ records_in shape n (drop next body)
  records_turn = ap (λ (k : ℕ). records_in shape k (drop at body)) el ∙ records_add shape m n (drop at body) ∙ ap (λ (s : List ℕ). records_in shape m (drop at body) ++ records_in shape n s) rest_is

-- and after the last of them nothing is left to store
pub none_left : (from to : Shape) (s : List ℕ) (left : ℕ) → left ≤ 0 → (out : List ℕ) (at : ℕ) → out ≡ sets out at (records_bytes to (records_in from left s))
unfolding records_in records_bytes
none_left from to s zero h out at = refl
none_left from to s (suc left) h out at = absurd (omega arith)
