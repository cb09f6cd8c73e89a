-- What an accepted block is, and that it is the one that its contents make. Assumes nothing.
use Rattle.std.specs.Prelude.{None, Result, Ok, Err}
use Rattle.answers.specs.declared.Refusal.{Refusal}
use Rattle.std.proofs.Common.{◌≡◌, ℕ, zero, suc, ◌+◌, ◌-◌, ◌*◌, ◌<◌, ◌≤◌, Bool, true, false, cond, not, eqb, List, [], ◌∷◌, ◌++◌, length, get_or, take, drop, replicate, sym, refl, ap, ◌∙◌, subst, ap₂, zero-add, zero-mul, arith, length-drop, take-append-drop, length-take-le, take-take, drop-drop, take-add, eqb-true, leb-true}
use Rattle.answers.specs.declared.Refusal.TheVariants.{Incomplete, Checksum, Contents}
use Rattle.numbers.proofs.BigEndian.{Octets}
use Rattle.answers.proofs.Conditions.{all_true, and_left, and_right}
use Rattle.format.specs.Forms.{Shape, shape_of, width, kind_of}
use Rattle.format.specs.declared.Kind.{Kind}
use Rattle.format.specs.declared.Kind.TheVariants as kind
use Rattle.format.proofs.Fits.{Numbered, numbered, fits, records_fit}
use Rattle.trace.specs.Layout.{record_at, records_bytes, header, filled, checked, label_block, arrivals_block, body_of}
use Rattle.trace.specs.Contents.{every, is_zero, is_mark, is_time, label_conditions, label_body, count_ok, good_records, arrivals_conditions, arrivals_body}
use Rattle.trace.specs.Reading.{kind_in, count_in, ssrc_in, right_check, contents_by, contents_of, block_of}
use Rattle.trace.specs.Accepted.{Holds, Accepted}
use Rattle.trace.specs.Theorems.{records_in, list_of, records_fault, LabelIsWritten, ArrivalsAreWritten}
use Rattle.trace.specs.declared.Block.{Block}
use Rattle.trace.specs.declared.Block.TheVariants.{Label, Arrivals}
use Rattle.trace.specs.declared.Record.{Record}
use Rattle.trace.proofs.Decisions.{count_right, found_there, label_retired, label_rest, lists_taken, lists_rest}
use Rattle.numbers.proofs.Octets.{octets_take, octets_drop, bytes_word}
use Rattle.trace.proofs.Records.{record_next, record_at_lem, of_shape_in, of_shape_times, bytes_records, length-list, length-records_in, marks_in}
use Rattle.trace.proofs.Checks.{right_checked}

-- ---- a record

mark_at : (shape : Shape) (n : ℕ) (s : List ℕ) (i : ℕ) → good_records shape n s ≡ true → i < n → (record_at shape s (i * width shape)).mark ≤ 3
unfolding good_records record_at
mark_at shape zero s i g h = absurd (omega arith)
mark_at shape (suc n) s zero g h = rw (zero-mul (width shape), zero-add (shape.time + 2)) (leb-true _ 3 (and_left (is_mark (get_or s (shape.time + 2) 0)) _ g))
mark_at shape (suc n) s (suc i) g h =
    let rest = and_right (is_zero (get_or s (shape.time + 3) 0)) _ (and_right (is_mark (get_or s (shape.time + 2) 0)) _ g) in
    subst (λ (r : Record). r.mark ≤ 3) (record_next shape s i) (mark_at shape n (drop (width shape) s) i rest (omega arith))

-- ---- what an accepted block is

module _ (b : List ℕ) (whole : length b ≡ 512) (right : right_check b ≡ true) where
  length-body : length (body_of b) ≡ 502
  length-body = length-take-le 502 (drop 8 b) (rw length-drop (omega arith))

  block_holds : {kind : ℕ} (used : ℕ) → kind_in b ≡ kind → used ≤ 502 → every is_zero (drop used (body_of b)) ≡ true → Holds b kind (count_in b) (ssrc_in b) used
  block_holds used k h z =
      let long = length-take-le used (body_of b) (omega (arith, length-body)) in
      record { whole = whole; right = right; its_kind = k; its_count = refl; its_ssrc = refl; room = h; long = long; place = take-take used 502 (drop 8 b) h; unused = z }

  by_kind : (k : Kind) → Numbered (kind_in b) k → Accepted b (contents_by b k)
  unfolding label_body arrivals_body
  by_kind kind.Unknown k = tt
  by_kind (kind.Label form) k = go (label_body (count_in b) (body_of b)) refl
    where
      go : (t : Bool) → label_body (count_in b) (body_of b) ≡ t → Accepted b (cond t (Ok (Label form (count_in b) (ssrc_in b))) (Err Contents))
      go false e = tt
      go true e =
          let n = count_in b in
          let tests = label_conditions n (body_of b) in
          let block = block_holds n k (leb-true n 502 (all_true tests 0 e)) (all_true tests 2 e) in
          record { block = block; label = sym (label_rest (take n (body_of b)) (omega (arith, block.long, block.room)) (sym (all_true tests 1 e))) }
  by_kind (kind.Arrivals form) k = go (arrivals_body (shape_of form) (count_in b) (body_of b)) refl
    where
      go : (t : Bool) → arrivals_body (shape_of form) (count_in b) (body_of b) ≡ t → Accepted b (cond t (Ok (Arrivals form (count_in b) (ssrc_in b))) (Err Contents))
      go false e = tt
      go true e =
          let n = count_in b in
          let tests = arrivals_conditions (shape_of form) n (body_of b) in
          let range = count_right (shape_of form) n (all_true tests 0 e) in
          let block = block_holds (n * width (shape_of form)) k (records_fit (fits form) range.1) (all_true tests 2 e) in
          record { block = block; count = all_true tests 0 e; least = range.0; most = range.1; records = all_true tests 1 e; marks = λ i h. mark_at (shape_of form) n (body_of b) i (all_true tests 1 e) h }

read_as_lem : (b : List ℕ) → Accepted b (block_of b)
unfolding block_of contents_of
read_as_lem b = go (eqb (length b) 512) (right_check b) refl refl
  where
    go : (w r : Bool) → eqb (length b) 512 ≡ w → right_check b ≡ r
        → Accepted b (cond (not w) (Err Incomplete) (cond (not r) (Err Checksum) (contents_by b (kind_of (kind_in b)))))
    go false r ew er = tt
    go true false ew er = tt
    go true true ew er = by_kind b (eqb-true (length b) 512 ew) er (kind_of (kind_in b)) (numbered (kind_in b))

-- all that a user of `block_of` asks: `(accepted b e).label`, `(accepted b e).block.whole`
pub accepted : (b : List ℕ) {r : Result Block Refusal} → block_of b ≡ r → Accepted b r
accepted b e = subst (Accepted b) e (read_as_lem b)

-- ---- header and body

module _ (b : List ℕ) (o : Octets b) (whole : length b ≡ 512) where
  header_is : header (kind_in b) (count_in b) (ssrc_in b) ≡ take 8 b
  unfolding header
  header_is =
      let four : take 6 (drop 2 b) ≡ take 2 (drop 2 b) ++ take 4 (drop 4 b) = take-add 2 4 (drop 2 b) ∙ ap (λ (s : List ℕ). take 2 (drop 2 b) ++ take 4 s) (drop-drop 2 2 b) in
      rw (bytes_word 2 b 0 o (omega arith), bytes_word 2 b 2 o (omega arith), bytes_word 4 b 4 o (omega arith))
      (sym (take-add 2 6 b ∙ ap (λ (s : List ℕ). take 2 b ++ s) four))

  octets_body : Octets (body_of b)
  octets_body = octets_take 502 (drop 8 b) (octets_drop 8 b o)

  block_is : right_check b ≡ true → (contents : List ℕ) → filled contents ≡ body_of b → b ≡ checked (header (kind_in b) (count_in b) (ssrc_in b) ++ filled contents)
  block_is right contents ec =
      right_checked b o whole right
      ∙ ap checked (take-add 8 502 b ∙ ap₂ (λ (s t : List ℕ). s ++ t) (sym header_is) (sym ec))

zeros_are : (s : List ℕ) → every is_zero s ≡ true → replicate (length s) 0 ≡ s
unfolding every
zeros_are [] e = refl
zeros_are (c ∷ s) e =
    let first : c ≡ 0 = eqb-true c 0 (and_left (eqb c 0) (every is_zero s) e) in
    rw first (ap (λ (t : List ℕ). 0 ∷ t) (zeros_are s (and_right (eqb c 0) (every is_zero s) e)))

-- contents with zeros behind them
filled_is : (body : List ℕ) (n : ℕ) → length body ≡ 502 → n ≤ 502 → every is_zero (drop n body) ≡ true → filled (take n body) ≡ body
unfolding filled
filled_is body n long few e =
    let rest : 502 - n ≡ length (drop n body) = rw length-drop (omega arith) in
    rw (length-take-le n body (omega arith), rest, zeros_are (drop n body) e) (take-append-drop n body)

-- ---- a label

pub label_is_written : LabelIsWritten
unfolding label_block
label_is_written form b n ssrc o e =
    let a = accepted b e in
    let k = a.block in (
      a.label,
      k.long,
      block_is b o k.whole k.right (take n (body_of b)) (filled_is (body_of b) n (length-body b k.whole k.right) k.room k.unused)
          ∙ rw (k.its_kind, k.its_count, k.its_ssrc, k.long),
      label_retired (take n (body_of b)) a.label,
    )

-- ---- records

-- lists that are made of records
lists_are : (shape : Shape) (rs : List Record) → count_ok shape (length rs) ≡ true → every (is_time shape) (list_of (λ r. r.time) rs) ≡ true → every is_mark (list_of (λ r. r.mark) rs) ≡ true
    → records_fault shape rs ≡ None
lists_are shape rs count t g =
    let times = length-list (λ r. r.time) rs in
    let numbers = length-list (λ r. r.number.0) rs in
    let marks = length-list (λ r. r.mark) rs in
    (lists_taken shape _ _ _ (sym (lists_rest shape (list_of (λ r. r.time) rs) (list_of (λ r. r.number.0) rs) (list_of (λ r. r.mark) rs) (numbers ∙ sym times) (marks ∙ sym times) (rw times count) t (sym g)))).no_fault

-- ---- arrivals

pub arrivals_are_written : ArrivalsAreWritten
unfolding arrivals_block
arrivals_are_written form b n ssrc o e =
    let a = accepted b e in
    let k = a.block in
    let shape : Shape = shape_of form in
    let s : List ℕ = body_of b in
    let rs : List Record = records_in shape n s in
    let many = length-records_in shape n s in
    let back : records_bytes shape rs ≡ take (n * width shape) s =
    bytes_records shape n s (octets_body b o k.whole) (omega (arith, length-body b k.whole k.right, k.room)) a.records in (
      lists_are shape rs (rw many a.count) (of_shape_times shape rs (of_shape_in shape n s (octets_body b o k.whole))) (marks_in shape n s a.records),
      λ i other h. found_there b i form (sym k.its_count) a.count k.whole k.its_kind h ∙ ap Ok (sym (record_at_lem shape n s i other h)),
      block_is b o k.whole k.right (records_bytes shape rs) (ap filled back ∙ filled_is s (n * width shape) (length-body b k.whole k.right) k.room k.unused)
          ∙ rw (k.its_kind, k.its_count, k.its_ssrc, many),
    )
