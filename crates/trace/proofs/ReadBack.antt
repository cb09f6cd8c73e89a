-- What a writer wrote reads back. Assumes nothing.
use Rattle.std.specs.Prelude.{Some, None, Ok}
use Rattle.std.proofs.Common.{◌≡◌, ℕ, zero, suc, ◌-◌, ◌*◌, ◌^◌, ◌<◌, ◌≤◌, Bool, true, false, cond, leb, List, [], ◌∷◌, ◌++◌, length, get_or, take, drop, replicate, sym, refl, ap, ◌∙◌, append_assoc, arith, length-append, take_at, drop_at, ltb-true, ne_eqb, le-leb, leb-false, leb-true}
use mathlib.Core.Bool.{false≢true}
use Rattle.answers.specs.declared.Refusal.TheVariants.{Limits}
use Rattle.numbers.specs.BigEndian.{bytes}
use Rattle.numbers.proofs.BigEndian.{Octets, length-bytes}
use Rattle.answers.proofs.Conditions.{and_left, and_right}
use Rattle.trace.specs.Checksum.{words, ones_sum}
use Rattle.format.specs.Forms.{Shape, shape_of, width, time_limit}
use Rattle.format.proofs.Fits.{fits, kind_label, kind_arrivals, records_fit}
use Rattle.trace.specs.Layout.{record_at, records_bytes, header, filled, checked, label_block, arrivals_block, body_of}
use Rattle.trace.specs.Contents.{every, is_zero, is_mark, is_time, label_byte, label_body, good_records, arrivals_body}
use Rattle.trace.specs.Reading.{kind_in, count_in, ssrc_in, right_check, contents_of, block_of}
use Rattle.trace.specs.Writing.{records_of, arrivals_ok, arrivals_fault}
use Rattle.trace.specs.Theorems.{Below, records_in, list_of, LabelReadsBack, ArrivalsReadBack}
use Rattle.trace.specs.declared.Record.{Record}
use Rattle.trace.proofs.Tallies.{tally}
use Rattle.trace.proofs.Sums.{total}
use Rattle.trace.proofs.Decisions.{found_there, label_short, label_bytes, lists_taken}
use Rattle.trace.proofs.Layouts.{length-records, length-header, length-filled, length_front, length-checked, length-records_of}
use Rattle.numbers.proofs.Octets.{octets_nil, octets_cons, octets_append, octets_bytes, octets_zeros, read_field}
use Rattle.trace.proofs.Checks.{check_right}
use Rattle.trace.proofs.Records.{AllOfShape, marks, record_at_lem, records_bytes_lem, good_bytes, octets_records}

-- ---- a written block, whatever its contents

module _ (kind count ssrc : ℕ) (contents : List ℕ) (k : kind < 256 ^ 2) (n : count < 256 ^ 2) (s : ssrc < 256 ^ 4) (few : length contents ≤ 502) where
  abbrev front : List ℕ
  front = header kind count ssrc ++ filled contents

  abbrev block : List ℕ
  block = checked front

  abbrev check : List ℕ
  check = bytes 2 (65535 - ones_sum (words front))

  -- the block, with what stands before a field and behind it
  parts : (check : List ℕ) → front ++ check ≡ bytes 2 kind ++ (bytes 2 count ++ (bytes 4 ssrc ++ (filled contents ++ check)))
  unfolding header
  parts check = simp append_assoc

  kind_is : kind_in block ≡ kind
  unfolding checked
  kind_is = rw (parts check) (read_field 2 kind k [] refl _)

  count_is : count_in block ≡ count
  unfolding checked
  count_is = rw (parts check) (read_field 2 count n (bytes 2 kind) (length-bytes 2 kind) _)

  ssrc_is : ssrc_in block ≡ ssrc
  unfolding checked
  ssrc_is =
      let long : length (bytes 2 kind ++ bytes 2 count) ≡ 4 = simp (length-append, length-bytes) in
      rw (parts check, ← append_assoc (bytes 2 kind) (bytes 2 count)) (read_field 4 ssrc s (bytes 2 kind ++ bytes 2 count) long _)

  body_is : body_of block ≡ filled contents
  unfolding checked
  body_is =
      rw (append_assoc (header kind count ssrc) (filled contents) check, drop_at (header kind count ssrc) (filled contents ++ check) 8 (length-header kind count ssrc))
      (take_at (filled contents) check 502 (length-filled contents few))

  octets_front : Octets contents → Octets front
  unfolding header filled
  octets_front o =
      octets_append (header kind count ssrc) (filled contents)
      (octets_append (bytes 2 kind) (bytes 2 count ++ bytes 4 ssrc) (octets_bytes 2 kind) (octets_append (bytes 2 count) (bytes 4 ssrc) (octets_bytes 2 count) (octets_bytes 4 ssrc)))
      (octets_append contents (replicate (502 - length contents) 0) o (octets_zeros (502 - length contents)))

  front_some : 1 ≤ kind → 1 ≤ total (words front)
  unfolding header words tally bytes
  front_some h = omega arith

  -- what is read of it
  record Read : Type 0 where
    pub whole : length block ≡ 512
    pub right : right_check block ≡ true
    pub its_kind : kind_in block ≡ kind
    pub its_count : count_in block ≡ count
    pub its_ssrc : ssrc_in block ≡ ssrc
    pub its_body : body_of block ≡ filled contents

  read_of : Octets contents → 1 ≤ kind → Read
  read_of o h =
      let long = length_front kind count ssrc contents few in
      record {
        whole = length-checked front long;
        right = check_right front (octets_front o) long (front_some h);
        its_kind = kind_is;
        its_count = count_is;
        its_ssrc = ssrc_is;
        its_body = body_is;
      }

zeros_every : (n : ℕ) → every is_zero (replicate n 0) ≡ true
unfolding every
zeros_every zero = refl
zeros_every (suc n) = zeros_every n

module _ (contents : List ℕ) where
  filled_parts : filled contents ≡ contents ++ replicate (502 - length contents) 0
  unfolding filled
  filled_parts = refl

  filled_front : take (length contents) (filled contents) ≡ contents
  filled_front = rw filled_parts (take_at contents (replicate (502 - length contents) 0) (length contents) refl)

  filled_rest : {n : ℕ} → length contents ≡ n → every is_zero (drop n (filled contents)) ≡ true
  filled_rest {n} e = rw (filled_parts, drop_at contents (replicate (502 - length contents) 0) n e) (zeros_every (502 - length contents))

-- ---- a label

label_small : (c : ℕ) → label_byte c ≡ true → c < 256
unfolding label_byte
label_small c e = go (leb c 126) refl
  where
    go : (t : Bool) → leb c 126 ≡ t → c < 256
    go true h = omega (arith, leb-true c 126 h)
    go false h =
        let high = leb-false c 126 h in
        absurd (false≢true (rw (le-leb 32 c (omega (arith, high)), h, ne_eqb c 10 (λ z. omega (arith, high)), ne_eqb c 13 (λ z. omega (arith, high))) at e))

label_octets : (s : List ℕ) → every label_byte s ≡ true → Octets s
unfolding every
label_octets [] e = octets_nil
label_octets (c ∷ s) e =
    octets_cons c s (label_small c (and_left (label_byte c) (every label_byte s) e)) (label_octets s (and_right (label_byte c) (every label_byte s) e))

pub label_reads_back : LabelReadsBack
unfolding label_block block_of contents_of label_body
label_reads_back form label ssrc good small =
    let few = label_short label good in
    let fit = fits form in
    let r = read_of (shape_of form).label (length label) ssrc label fit.label_most (omega (arith, few)) small few (label_octets label (label_bytes label good)) fit.label_least in
    let text = filled_front label in (
      rw (r.whole, r.right, r.its_kind, kind_label form, r.its_count, r.its_ssrc, r.its_body, le-leb (length label) 502 few, text, label_bytes label good, filled_rest label refl),
      rw r.its_body text,
    )

-- ---- the records of three lists

lists_of_shape : (shape : Shape) (ts numbers ms : List ℕ) → every (is_time shape) ts ≡ true → Below (2 ^ 16) numbers → AllOfShape shape (records_of ts numbers ms)
unfolding records_of every
lists_of_shape shape [] numbers ms ht hn = tt
lists_of_shape shape (t ∷ ts) [] ms ht hn = tt
lists_of_shape shape (t ∷ ts) (n ∷ numbers) [] ht hn = tt
lists_of_shape shape (t ∷ ts) (n ∷ numbers) (m ∷ ms) ht hn = (
  record { time = ltb-true t (time_limit shape) (and_left (is_time shape t) (every (is_time shape) ts) ht); number = hn 0 },
  lists_of_shape shape ts numbers ms (and_right (is_time shape t) (every (is_time shape) ts) ht) (λ i. hn (suc i)),
)

lists_marks : (ts numbers ms : List ℕ) → every is_mark ms ≡ true → every is_mark (marks (records_of ts numbers ms)) ≡ true
unfolding records_of every list_of
lists_marks [] numbers ms h = refl
lists_marks (t ∷ ts) [] ms h = refl
lists_marks (t ∷ ts) (n ∷ numbers) [] h = refl
lists_marks (t ∷ ts) (n ∷ numbers) (m ∷ ms) h =
    rw (and_left (is_mark m) (every is_mark ms) h) (lists_marks ts numbers ms (and_right (is_mark m) (every is_mark ms) h))

list_at : (times numbers marks : List ℕ) (i : ℕ) (d : Record) → length numbers ≡ length times → length marks ≡ length times → i < length times
    → get_or (records_of times numbers marks) i d ≡ record { time = get_or times i 0; number = record { 0 = get_or numbers i 0 }; mark = get_or marks i 0 }
unfolding records_of
list_at [] numbers marks i d en em h = absurd (omega arith)
list_at (t ∷ times) [] marks i d en em h = absurd (omega arith)
list_at (t ∷ times) (n ∷ numbers) [] i d en em h = absurd (omega arith)
list_at (t ∷ times) (n ∷ numbers) (m ∷ marks) zero d en em h = refl
list_at (t ∷ times) (n ∷ numbers) (m ∷ marks) (suc i) d en em h = list_at times numbers marks i d (omega arith) (omega arith) (omega arith)

-- what a fault says that is none
no_fault : (t : Bool) → cond t None (Some Limits) ≡ None → t ≡ true
no_fault true e = refl
no_fault false e = let z : ◌≡◌ {A = ℕ} 0 1 = cc in absurd (omega arith)

pub arrivals_read_back : ArrivalsReadBack
unfolding arrivals_fault arrivals_block block_of contents_of arrivals_body
arrivals_read_back form ts numbers ms ssrc taken hn small =
    let shape : Shape = shape_of form in
    let fit = fits form in
    let t = lists_taken shape ts numbers ms (no_fault (arrivals_ok shape ts numbers ms) taken) in
    let rs : List Record = records_of ts numbers ms in
    let contents : List ℕ = records_bytes shape rs in
    let many : length rs ≡ length ts = length-records_of ts numbers ms t.numbers_long t.marks_long in
    let size : length contents ≡ length rs * width shape = length-records shape rs in
    let few : length contents ≤ 502 = rw (size, many) (records_fit fit t.most) in
    let all = lists_of_shape shape ts numbers ms t.timed hn in
    let good = lists_marks ts numbers ms t.good in
    let zeros : List ℕ = replicate (502 - length contents) 0 in
    let r = read_of shape.arrivals (length rs) ssrc contents fit.arrivals_most (omega (arith, many, t.most, fit.few)) small few (octets_records shape rs good) fit.arrivals_least in
    let records : good_records shape (length rs) (filled contents) ≡ true = rw (filled_parts contents, good_bytes shape rs zeros) good in (
      rw (r.whole, r.right, r.its_kind, kind_arrivals form, r.its_count, r.its_ssrc, r.its_body, records, filled_rest contents size, many, t.count),
      λ i k.
          let there : i < length rs = rw many k in
          let d : Record = record { time = 0; number = record { 0 = 0 }; mark = 0 } in
          let back : records_in shape (length rs) (filled contents) ≡ rs = rw (filled_parts contents) (records_bytes_lem shape rs zeros all) in
          found_there _ i form (sym r.its_count) (rw many t.count) r.whole r.its_kind there
          ∙ ap Ok (ap (λ (s : List ℕ). record_at shape s (i * width shape)) r.its_body ∙ sym (record_at_lem shape (length rs) (filled contents) i d there) ∙ ap (λ (l : List Record). get_or l i d) back
          ∙ list_at ts numbers ms i d t.numbers_long t.marks_long k),
    )
