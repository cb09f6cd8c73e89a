-- What a packing writes are bytes. Assumes nothing.
use mathlib.Core.List.{List, [], ◌∷◌, ◌++◌}
use Prim.Native.Nat.{ℕ, zero, suc, ◌-◌, ◌*◌}
use lib.ListN.{length, take, drop, replicate}
use Rattle.numbers.specs.BigEndian.{bytes}
use Rattle.numbers.proofs.BigEndian.{Octets}
use Rattle.format.specs.Forms.{Shape}
use Rattle.trace.specs.Checksum.{words, ones_sum}
use Rattle.trace.specs.Layout.{records_bytes, header, filled, checked, arrivals_block}
use Rattle.trace.specs.declared.Record.{Record}
use Rattle.numbers.proofs.Octets.{octets_nil, octets_append, octets_bytes, octets_zeros}
use Rattle.trace.proofs.Records.{octets_records}
use Rattle.forms.specs.Packing.{full_blocks, full, left, last_block, packed}
use Rattle.forms.proofs.Gathered.{Fine, fine_take, fine_drop}

module _ (shape : Shape) (ssrc : ℕ) where
  octets_header : (count : ℕ) → Octets (header shape.arrivals count ssrc)
  unfolding header
  octets_header count = octets_append (bytes 2 shape.arrivals) (bytes 2 count ++ bytes 4 ssrc) (octets_bytes 2 shape.arrivals) (octets_append (bytes 2 count) (bytes 4 ssrc) (octets_bytes 2 count) (octets_bytes 4 ssrc))

  octets_block : (rs : List Record) → Fine shape rs → Octets (arrivals_block shape rs ssrc)
  unfolding arrivals_block checked filled
  octets_block rs f =
      let contents = records_bytes shape rs in
      let front = header shape.arrivals (length rs) ssrc ++ (contents ++ replicate (502 - length contents) 0) in
      octets_append front (bytes 2 (65535 - ones_sum (words front)))
      (octets_append (header shape.arrivals (length rs) ssrc) (contents ++ replicate (502 - length contents) 0) (octets_header (length rs))
      (octets_append contents (replicate (502 - length contents) 0) (octets_records shape rs f.marked) (octets_zeros (502 - length contents))))
      (octets_bytes 2 (65535 - ones_sum (words front)))

  octets_full : (n : ℕ) (rs : List Record) → Fine shape rs → Octets (full_blocks shape ssrc n rs)
  unfolding full_blocks
  octets_full zero rs f = octets_nil
  octets_full (suc n) rs f =
      octets_append (arrivals_block shape (take shape.most rs) ssrc) (full_blocks shape ssrc n (drop shape.most rs))
      (octets_block (take shape.most rs) (fine_take shape shape.most f)) (octets_full n (drop shape.most rs) (fine_drop shape shape.most f))

  octets_last : (rs : List Record) → Fine shape rs → Octets (last_block shape ssrc rs)
  octets_last [] f = octets_nil
  octets_last (r ∷ rs) f = octets_block (r ∷ rs) f

  pub octets_packed : (rs : List Record) → Fine shape rs → Octets (packed shape ssrc rs)
  unfolding packed
  octets_packed rs f =
      octets_append (full_blocks shape ssrc (full shape rs) rs) (last_block shape ssrc (left shape rs)) (octets_full (full shape rs) rs f)
      (octets_last (left shape rs) (fine_drop shape (full shape rs * shape.most) f))
