-- Laws of a block's layout: its lengths, and its parts stored one after another. Assumes nothing.
use Rattle.std.proofs.Common.{◌≡◌, ℕ, suc, ◌+◌, ◌-◌, ◌*◌, ◌<◌, ◌≤◌, List, [], ◌∷◌, ◌++◌, length, get_or, take, drop, set, replicate, sym, refl, ap, ◌∙◌, append_assoc, suc-mul, zero-add, zero-mul, add-one, arith, length-append, length-drop, take-append-drop, drop_of_length-le, length-take-le, drop-cons, take_at, take-add, drop_at}
use lib.ListN.{length-replicate}
use lib.Seq.{sets, sets-eq, length-sets}
use Rattle.numbers.specs.BigEndian.{bytes}
use Rattle.numbers.proofs.BigEndian.{length-bytes}
use Rattle.answers.proofs.Stores.{sets-step, sets-front}
use Rattle.trace.specs.Checksum.{words, ones_sum}
use Rattle.format.specs.Forms.{Shape, width}
use Rattle.trace.specs.Layout.{record_bytes, records_bytes, header, filled, checked, label_block, arrivals_block, records_block}
use Rattle.trace.specs.Writing.{records_of}
use Rattle.trace.specs.declared.Record.{Record}

-- ---- lengths

pub length-record : (shape : Shape) (r : Record) → length (record_bytes shape r) ≡ width shape
unfolding record_bytes
length-record shape r = simp (length-append, length-bytes) (omega arith)

pub length-records : (shape : Shape) (rs : List Record) → length (records_bytes shape rs) ≡ length rs * width shape
unfolding records_bytes
length-records shape [] = sym (zero-mul (width shape))
length-records shape (r ∷ rs) = rw (length-append, length-record, length-records shape rs, suc-mul (length rs) (width shape)) (omega arith)

pub length-header : (kind count ssrc : ℕ) → length (header kind count ssrc) ≡ 8
unfolding header
length-header kind count ssrc = simp (length-append, length-bytes)

pub length-filled : (contents : List ℕ) → length contents ≤ 502 → length (filled contents) ≡ 502
unfolding filled
length-filled contents h = simp (length-append, length-replicate) (omega arith)

pub length_front : (kind count ssrc : ℕ) (contents : List ℕ) → length contents ≤ 502 → length (header kind count ssrc ++ filled contents) ≡ 510
length_front kind count ssrc contents h = rw (length-append, length-header kind count ssrc, length-filled contents h)

pub length-checked : (front : List ℕ) → length front ≡ 510 → length (checked front) ≡ 512
unfolding checked
length-checked front h = rw (length-append, h, length-bytes)

pub length-label_block : (shape : Shape) (label : List ℕ) (ssrc : ℕ) → length label ≤ 502 → length (label_block shape label ssrc) ≡ 512
unfolding label_block
length-label_block shape label ssrc h = length-checked _ (length_front shape.label (length label) ssrc label h)

pub length-arrivals_block : (shape : Shape) (rs : List Record) (ssrc : ℕ) → length rs * width shape ≤ 502 → length (arrivals_block shape rs ssrc) ≡ 512
unfolding arrivals_block
length-arrivals_block shape rs ssrc h =
    length-checked _ (length_front shape.arrivals (length rs) ssrc (records_bytes shape rs) (rw (length-records shape rs) h))

pub length-records_block : (shape : Shape) (s : List ℕ) (ssrc : ℕ) → length s ≤ 502 → length (records_block shape s ssrc) ≡ 512
unfolding records_block
length-records_block shape s ssrc h = length-checked _ (length_front shape.arrivals _ ssrc s h)

-- ---- the records of three lists

module _ (times numbers marks : List ℕ) (en : length numbers ≡ length times) (em : length marks ≡ length times) where
  pub records_next : (i : ℕ) → i < length times
      → records_of (drop i times) (drop i numbers) (drop i marks)
      ≡ record { time = get_or times i 0; number = record { 0 = get_or numbers i 0 }; mark = get_or marks i 0 } ∷ records_of (drop (i + 1) times) (drop (i + 1) numbers) (drop (i + 1) marks)
  unfolding records_of
  records_next i h =
      rw (drop-cons times i 0 h, drop-cons numbers i 0 (omega arith), drop-cons marks i 0 (omega arith), add-one i)

pub records_end : (times numbers marks : List ℕ) (i : ℕ) → length times ≤ i → records_of (drop i times) (drop i numbers) (drop i marks) ≡ []
unfolding records_of
records_end times numbers marks i h = rw (drop_of_length-le times h)

pub length-records_of : (times numbers marks : List ℕ) → length numbers ≡ length times → length marks ≡ length times
    → length (records_of times numbers marks) ≡ length times
unfolding records_of
length-records_of [] numbers marks en em = refl
length-records_of (t ∷ times) [] marks en em = absurd (omega arith)
length-records_of (t ∷ times) (n ∷ numbers) [] en em = absurd (omega arith)
length-records_of (t ∷ times) (n ∷ numbers) (m ∷ marks) en em = ap suc (length-records_of times numbers marks (omega arith) (omega arith))

-- ---- stores

pub header_stored : (old : List ℕ) (kind count ssrc : ℕ) {out₁ out₂ out₃ : List ℕ}
    → out₁ ≡ sets old 0 (bytes 2 kind) → out₂ ≡ sets out₁ 2 (bytes 2 count) → out₃ ≡ sets out₂ 4 (bytes 4 ssrc)
    → out₃ ≡ sets old 0 (header kind count ssrc)
unfolding header
header_stored old kind count ssrc {out₁} e₁ e₂ e₃ =
    e₃
    ∙ sets-step out₁ 2 (bytes 2 count) (bytes 4 ssrc) refl e₂ (omega (arith, length-bytes 2 count))
    ∙ sets-step old 0 (bytes 2 kind) (bytes 2 count ++ bytes 4 ssrc) refl e₁ (omega (arith, length-bytes 2 kind))

pub record_stored : (shape : Shape) (old : List ℕ) (at behind : ℕ) (r : Record) {out₁ out₂ : List ℕ} → behind ≡ at + shape.time
    → out₁ ≡ sets old at (bytes shape.time r.time) → out₂ ≡ sets out₁ behind (bytes 2 r.number.0)
    → set (set out₂ (behind + 2) r.mark) (behind + 3) 0 ≡ sets old at (record_bytes shape r)
unfolding record_bytes
record_stored shape old at behind r {out₁} {out₂} eb e₁ e₂ =
    let last : behind + 3 ≡ suc (behind + 2) = omega arith in
    ap (λ (k : ℕ). set (set out₂ (behind + 2) r.mark) k 0) last
    ∙ sets-step out₁ behind (bytes 2 r.number.0) (r.mark ∷ 0 ∷ []) refl e₂ (omega (arith, length-bytes 2 r.number.0))
    ∙ sets-step old at (bytes shape.time r.time) (bytes 2 r.number.0 ++ (r.mark ∷ 0 ∷ [])) refl e₁ (omega (arith, length-bytes shape.time r.time))

-- a turn of the loop over zeros
pub zeros_turn : (out : List ℕ) (at : ℕ) → at < 510 → sets (set out at 0) (at + 1) (replicate (510 - (at + 1)) 0) ≡ sets out at (replicate (510 - at) 0)
zeros_turn out at h = let more : 510 - at ≡ suc (510 - (at + 1)) = omega arith in rw (more, add-one at)

-- zeros up to the check word, and the check word
module _ (old : List ℕ) (from : ℕ) (h : from ≤ 510) (room : 512 ≤ length old) where
  abbrev zeros : List ℕ
  zeros = replicate (510 - from) 0

  front_is : take 510 (sets old from zeros) ≡ take from old ++ zeros
  front_is =
      let many : length zeros ≡ 510 - from = length-replicate (510 - from) 0 in
      let long : length (take from old ++ zeros) ≡ 510 = rw (length-append, length-take-le from old (omega arith), many) (omega arith) in
      rw (sets-eq zeros old from (omega (arith, many)))
      (take_at (take from old ++ zeros) (drop (from + length zeros) old) 510 long)

  pub end_stored : {out₁ out₂ : List ℕ} → out₁ ≡ sets old from zeros → out₂ ≡ sets out₁ 510 (bytes 2 (65535 - ones_sum (words (take 510 out₁))))
      → out₂ ≡ sets old from (zeros ++ bytes 2 (65535 - ones_sum (words (take from old ++ zeros))))
  end_stored {out₁} e₁ e₂ =
      let many : length zeros ≡ 510 - from = length-replicate (510 - from) 0 in
      let front : take 510 out₁ ≡ take from old ++ zeros = ap (take 510) e₁ ∙ front_is in
      e₂
      ∙ ap (λ (s : List ℕ). sets out₁ 510 (bytes 2 (65535 - ones_sum (words s)))) front
      ∙ sets-step old from zeros _ refl e₁ (omega (arith, many))

-- header, contents and end make a block
pub block_stored : (old contents : List ℕ) (kind count ssrc : ℕ) {out₁ out₂ out₃ : List ℕ} {at k n : ℕ} → length contents ≤ 502 → 512 ≤ length old
    → k ≡ kind → n ≡ count → out₁ ≡ sets old 0 (header k n ssrc) → out₂ ≡ sets out₁ 8 contents → at ≡ 8 + length contents
    → out₃ ≡ sets out₂ at (replicate (510 - at) 0 ++ bytes 2 (65535 - ones_sum (words (take at out₂ ++ replicate (510 - at) 0))))
    → out₃ ≡ sets old 0 (checked (header kind count ssrc ++ filled contents))
unfolding checked filled
block_stored old contents kind count ssrc {out₁} {out₂} {out₃} {at} few room ek en eh e₂ ea e₃ =
    let head : List ℕ = header kind count ssrc in
    let e₁ : out₁ ≡ sets old 0 head = rw (← ek, ← en) eh in
    let zeros : List ℕ = replicate (502 - length contents) 0 in
    let less : 510 - at ≡ 502 - length contents = omega arith in
    let eight = length-header kind count ssrc in
    let long : length (head ++ contents) ≡ at = rw (length-append, eight) (sym ea) in
    let both : out₂ ≡ sets old 0 (head ++ contents) = e₂ ∙ sets-step old 0 head contents refl e₁ (omega (arith, eight)) in
    let front : take at out₂ ≡ head ++ contents =
    ap (take at) (both ∙ sets-front old (head ++ contents) (omega (arith, long))) ∙ take_at (head ++ contents) (drop (length (head ++ contents)) old) at long in
    let whole : take at out₂ ++ replicate (510 - at) 0 ≡ head ++ (contents ++ zeros) = rw (front, less) (append_assoc head contents zeros) in
    let check : List ℕ = bytes 2 (65535 - ones_sum (words (head ++ (contents ++ zeros)))) in
    let parts : (head ++ (contents ++ zeros)) ++ check ≡ (head ++ contents) ++ (zeros ++ check) = simp append_assoc in
    e₃
    ∙ ap (λ (s : List ℕ). sets out₂ at (replicate (510 - at) 0 ++ bytes 2 (65535 - ones_sum (words s)))) whole
    ∙ ap (λ (k : ℕ). sets out₂ at (replicate k 0 ++ check)) less
    ∙ sets-step old 0 (head ++ contents) (zeros ++ check) parts both (sym long ∙ sym (zero-add (length (head ++ contents))))

-- a run that stands there already
pub sets_same : (l : List ℕ) (i n : ℕ) → i + n ≤ length l → sets l i (take n (drop i l)) ≡ l
sets_same l i n h =
    let run : List ℕ = take n (drop i l) in
    let many : length run ≡ n = length-take-le n (drop i l) (rw length-drop (omega arith)) in
    sets-eq run l i (omega (arith, many)) ∙ rw (many, ← take-add i n l) (take-append-drop (i + n) l)

-- header and end make a block of contents that stand in the output already
pub block_sealed : (old : List ℕ) (size kind count ssrc : ℕ) {out₁ out₂ : List ℕ} {at k n : ℕ} → size ≤ 502 → 512 ≤ length old
    → k ≡ kind → n ≡ count → out₁ ≡ sets old 0 (header k n ssrc) → at ≡ 8 + size
    → out₂ ≡ sets out₁ at (replicate (510 - at) 0 ++ bytes 2 (65535 - ones_sum (words (take at out₁ ++ replicate (510 - at) 0))))
    → out₂ ≡ sets old 0 (checked (header kind count ssrc ++ filled (take size (drop 8 old))))
block_sealed old size kind count ssrc {out₁} {out₂} {at} {k} {n} few room ek en eh ea e₂ =
    let head : List ℕ = header k n ssrc in
    let contents : List ℕ = take size (drop 8 old) in
    let long : length contents ≡ size = length-take-le size (drop 8 old) (rw length-drop (omega arith)) in
    let eight : length head ≡ 8 = length-header k n ssrc in
    let same : length out₁ ≡ length old = ap length eh ∙ length-sets old 0 head in
    let behind : drop 8 out₁ ≡ drop 8 old =
    ap (drop 8) (eh ∙ sets-front old head (omega (arith, eight))) ∙ drop_at head (drop (length head) old) 8 eight ∙ ap (λ (j : ℕ). drop j old) eight in
    let stands : out₁ ≡ sets out₁ 8 contents = sym (ap (λ (s : List ℕ). sets out₁ 8 (take size s)) (sym behind) ∙ sets_same out₁ 8 size (omega (arith, same))) in
    let end : at ≡ 8 + length contents = omega (arith, long, ea) in
    block_stored old contents kind count ssrc (omega (arith, long)) room ek en eh stands end e₂
