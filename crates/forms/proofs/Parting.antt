-- What a block's records and those that are held give: the full blocks, and the others. Assumes nothing.
use mathlib.Core.Path.{◌≡◌, sym, ap, ap₂, ◌∙◌}
use mathlib.Core.Bool.{true}
use mathlib.Core.List.{List, ◌++◌, append_assoc}
use Prim.Native.Nat.{ℕ, ◌+◌, ◌-◌, ◌*◌, ◌/◌, ◌≤◌, ◌<◌}
use native.Mathlib.Nat.{zero-mul, add-mul, div-mul-le_self, div-add-mod', mod-lt}
use native.Mathlib.Omega.{arith}
use lib.ListN.{length, take, drop, length-append, length-drop}
use lib.Seq.{sets, drop_at, length-take-le}
use Rattle.answers.proofs.Stores.{sets-step}
use Rattle.numbers.proofs.BigEndian.{Octets}
use Rattle.format.specs.Forms.{Shape, shape_of, width, other_form}
use Rattle.format.proofs.Fits.{fits, records_fit}
use Rattle.trace.specs.Contents.{good_records}
use Rattle.trace.specs.Layout.{records_bytes}
use Rattle.trace.specs.Theorems.{records_in}
use Rattle.trace.specs.declared.Record.{Record}
use Rattle.trace.proofs.Layouts.{sets_same}
use Rattle.trace.proofs.Records.{bytes_append, bytes_records, length-records_in}
use Rattle.trace.proofs.Tallies.{mul_turn}
use Rattle.forms.specs.Packing.{full_blocks, full, left}
use Rattle.forms.specs.Conversions.{to_shape, held_in}
use Rattle.forms.specs.Steps.{Joinable, joined, Packable}
use Rattle.forms.specs.declared.Conversion.{Conversion}
use Rattle.forms.proofs.Held.{is_sound_lem, held_fits}
use Rattle.forms.proofs.Moved.{good_turn, records_turn}
use Rattle.forms.proofs.Packed.{most_some, left_short, left_all, full_front}
use Rattle.forms.proofs.Blocks.{full_done}

module _ {c : Conversion} {part body : List ℕ} {n : ℕ} (ready : Packable c part n body) where
  abbrev own : Shape
  own = shape_of c.form

  abbrev to : Shape
  to = to_shape c

  abbrev records : List Record
  records = held_in c part ++ records_in own n body

  pub many_records : length records ≡ c.held + n
  many_records =
      length-append (held_in c part) (records_in own n body)
      ∙ ap₂ (λ (a b : ℕ). a + b) (length-records_in to c.held part) (length-records_in own n body)

  held_long : c.held * width to ≤ length part
  held_long = let s = is_sound_lem ready.whole in held_fits c part s.room s.few

  -- by the most records of a block as the code has found them
  module _ {most : ℕ} (em : most ≡ to.most) where
    abbrev blocks : ℕ
    blocks = (c.held + n) / most

    blocks_are : blocks ≡ full to records
    blocks_are = rw (em, many_records)

    -- no block is full: all stay in the part
    module _ (none : blocks ≡ 0) where
      few : c.held + n < to.most
      few =
          let zero : (c.held + n) / most * most ≡ 0 = ap (λ (k : ℕ). k * most) none ∙ zero-mul most in
          let some : 0 < most = omega (arith, em, most_some (other_form c.form)) in
          omega (arith, em, zero, div-add-mod' (c.held + n) most, mod-lt (c.held + n) some)

      pub all_fit : c.held * width to + n * width to ≤ length part
      all_fit = omega (arith, add-mul c.held n (width to), records_fit (fits (other_form c.form)) {n = c.held + n} (omega (arith, few)), (is_sound_lem ready.whole).room)

      pub none_stored : (ssrc : ℕ) (old : List ℕ) → old ≡ sets old 0 (full_blocks to ssrc (full to records) records)
      none_stored ssrc old = full_done to ssrc records (full to records) (omega (arith, blocks_are, none)) old 0

      pub all_kept : Octets part → {at : ℕ} {kept : List ℕ} → at ≡ c.held * width to → kept ≡ sets part at (records_bytes to (records_in own n body))
          → kept ≡ sets part 0 (records_bytes to (left to records))
      all_kept o {at} ea e =
          let held : List ℕ = records_bytes to (held_in c part) in
          let back : held ≡ take (c.held * width to) part = bytes_records to c.held part o held_long (is_sound_lem ready.whole).good in
          let stands : part ≡ sets part 0 held = sym (ap (sets part 0) back ∙ sets_same part 0 (c.held * width to) (omega (arith, held_long))) in
          let size : length held ≡ c.held * width to = ap length back ∙ length-take-le (c.held * width to) part held_long in
          let short : length records < to.most = omega (arith, many_records, few) in
          e
          ∙ sets-step part 0 held (records_bytes to (records_in own n body)) (ap (records_bytes to) (left_all to records short) ∙ bytes_append to (held_in c part) (records_in own n body)) stands
          (omega (arith, ea, size))

    -- some are: they take so many of the body's records
    module _ (some : 0 < blocks) where
      abbrev taken : ℕ
      taken = blocks * most - c.held

      pub taken_is : blocks * to.most - c.held ≡ taken
      taken_is = ap (λ (k : ℕ). blocks * k - c.held) (sym em)

      pub blocks_hold : c.held ≤ blocks * most
      blocks_hold = omega (arith, mul_turn blocks most some, em, (is_sound_lem ready.whole).few)

      pub blocks_most : blocks * most ≤ c.held + n
      blocks_most = div-mul-le_self (c.held + n) most

      parts : n ≡ taken + (n - taken)
      parts = omega (arith, blocks_hold, blocks_most)

      place : taken * width own ≡ 0 + taken * width own
      place = omega arith

      sizes : n * width own ≡ taken * width own + (n - taken) * width own
      sizes = ap (λ (k : ℕ). k * width own) parts ∙ add-mul taken (n - taken) (width own)

      pub taken_fit : taken * width own ≤ length body
      taken_fit = omega (arith, sizes, ready.long)

      pub front_ready : Joinable c.form c.held part taken body
      front_ready = record {
        held_long = held_long;
        held_good = (is_sound_lem ready.whole).good;
        long = taken_fit;
        good = (good_turn own body taken (n - taken) 0 parts place ready.good).0;
      }

      pub rest_good : good_records own (n - taken) (drop (taken * width own) body) ≡ true
      rest_good = (good_turn own body taken (n - taken) 0 parts place ready.good).1

      pub rest_long : (n - taken) * width own ≤ length (drop (taken * width own) body)
      rest_long = rw length-drop (omega (arith, sizes, ready.long))

      abbrev front : List Record
      front = joined c.form c.held part taken body

      abbrev rest : List Record
      rest = records_in own (n - taken) (drop (taken * width own) body)

      records_are : records ≡ front ++ rest
      records_are =
          ap (λ (s : List Record). held_in c part ++ s) (records_turn own body taken (n - taken) 0 parts place)
          ∙ sym (append_assoc (held_in c part) (records_in own taken body) rest)

      front_long : length front ≡ blocks * to.most
      front_long =
          length-append (held_in c part) (records_in own taken body)
          ∙ ap₂ (λ (a b : ℕ). a + b) (length-records_in to c.held part) (length-records_in own taken body)
          ∙ omega (arith, blocks_hold, ap (λ (k : ℕ). blocks * k) em)

      pub full_stored : (ssrc : ℕ) → full_blocks to ssrc blocks front ≡ full_blocks to ssrc (full to records) records
      full_stored ssrc =
          sym (full_front to ssrc blocks front rest (omega (arith, front_long)))
          ∙ ap (full_blocks to ssrc blocks) (sym records_are)
          ∙ ap (λ (k : ℕ). full_blocks to ssrc k records) blocks_are

      pub rest_left : rest ≡ left to records
      rest_left = sym (ap (λ (k : ℕ). drop (k * to.most) records) (sym blocks_are) ∙ ap (drop (blocks * to.most)) records_are ∙ drop_at front rest (blocks * to.most) front_long)

      pub rest_fit : (n - taken) * width to ≤ length part
      rest_fit =
          let many : n - taken ≡ length (left to records) = sym (length-records_in own (n - taken) (drop (taken * width own) body)) ∙ ap length rest_left in
          let short = left_short to (most_some (other_form c.form)) records in
          omega (arith, records_fit (fits (other_form c.form)) {n = n - taken} (omega (arith, many, short)), (is_sound_lem ready.whole).room)
