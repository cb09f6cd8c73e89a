-- Block 0 written again: what its writers give, and what its block with a spaced label is. Assumes nothing.
use Rattle.std.specs.Prelude.{None, Result, Ok, Err}
use Rattle.answers.specs.declared.Unwritten.{Unwritten}
use Rattle.std.proofs.Common.{◌≡◌, ℕ, ◌+◌, ◌-◌, ◌≤◌, List, length, take, drop, sym, ap, ◌∙◌, arith}
use Rattle.answers.specs.Writers.{Wrote, written, stored}
use Rattle.answers.specs.declared.Refusal.{Refusal}
use Rattle.answers.proofs.Stores.{wrote_refused, wrote_same}
use Rattle.numbers.proofs.BigEndian.{word_lt}
use Rattle.format.specs.Forms.{shape_of}
use Rattle.format.specs.declared.Form.{Form}
use Rattle.trace.specs.Layout.{label_block, body_of}
use Rattle.trace.specs.Places.{zeroth_of}
use Rattle.trace.specs.Retired.{retired_in, spaced_label}
use Rattle.trace.specs.Writing.{label_fault}
use Rattle.trace.specs.Rewriting.{zeroth_fault, block_as, spaced_by, spaced_of, Spaces}
use Rattle.trace.specs.Numbered.{spaced_as}
use Rattle.trace.specs.Theorems.{SpacedReads}
use Rattle.trace.specs.declared.Block.TheVariants as block
use Rattle.trace.proofs.Accepted.{accepted, label_is_written}
use Rattle.trace.proofs.ReadBack.{label_reads_back}
use Rattle.trace.proofs.Placed.{zeroth_label}
use Rattle.trace.proofs.Spacing.{length-spaced, none_left, spaced_same, spaced_ok, spaced_taken}

-- ---- by what block 0 reads as

module _ (b : List ℕ) where
  -- refused
  module _ {refusal : Refusal} (e : zeroth_of b ≡ Err refusal) (old : List ℕ) where
    pub as_refused : (form : Form) → Wrote (zeroth_fault (zeroth_of b)) (block_as form b (zeroth_of b)) old (Err (Unwritten.Refused refusal)) old
    as_refused form = wrote_refused (block_as form b (zeroth_of b)) old (ap zeroth_fault e)

    pub spaces_refused : Spaces b old (Err (Unwritten.Refused refusal)) old
    unfolding written stored
    spaces_refused = record { answers = rw e; stores = rw e }

  -- a label of n bytes
  module _ {form : Form} {n ssrc : ℕ} (e : zeroth_of b ≡ Ok (record { form = form; length = n; ssrc = ssrc })) where
    -- it lies in the block
    pub label_fits : 8 + n ≤ length b
    label_fits = let k = (accepted b (zeroth_label b e)).block in omega (arith, k.whole, k.room)

    -- and is the part of it that is lent
    abbrev part : List ℕ
    part = take (8 + n - 8) (drop 8 b)

    label_there : part ≡ take n (body_of b)
    label_there =
        let same : 8 + n - 8 ≡ n = omega arith in
        ap (λ (m : ℕ). take m (drop 8 b)) same ∙ sym (accepted b (zeroth_label b e)).block.place

    pub part_short : length part ≤ 502
    part_short = let k = (accepted b (zeroth_label b e)).block in omega (arith, ap length label_there, k.long, k.room)

    pub as_label : (to : Form) {old : List ℕ} {r : Result ℕ Unwritten} {out : List ℕ} → Wrote None (label_block (shape_of to) part ssrc) old r out
        → Wrote (zeroth_fault (zeroth_of b)) (block_as to b (zeroth_of b)) old r out
    as_label to w = wrote_same (sym (ap zeroth_fault e)) (ap (λ (l : List ℕ). label_block (shape_of to) l ssrc) label_there ∙ sym (ap (block_as to b) e)) w

    pub spaces_label : {old : List ℕ} {r : Result ℕ Unwritten} {out : List ℕ}
        → r ≡ spaced_by (retired_in part) (written None (label_block (shape_of form) (spaced_label part) ssrc) old)
        → out ≡ stored None (label_block (shape_of form) (spaced_label part) ssrc) old → Spaces b old r out
    spaces_label a s = record { answers = rw (e, ← label_there) a; stores = rw (e, ← label_there) s }

-- the same in the paper's terms
pub spaces_numbered : {b old : List ℕ} {r : Result ℕ Unwritten} {out : List ℕ} → Spaces b old r out → Spaces b old r out × (spaced_as r ≡ spaced_as (spaced_of b old))
spaces_numbered w = (w, ap spaced_as w.answers)

-- ---- the block with its label spaced

pub spaced_reads : SpacedReads
spaced_reads form b n ssrc o e =
    let text : List ℕ = take n (body_of b) in
    let was = label_is_written form b n ssrc o e in
    let long : length (spaced_label text) ≡ n = length-spaced text ∙ was.1 in
    let small = word_lt b 4 4 o in
    let its = (accepted b e).block.its_ssrc in
    let back = label_reads_back form (spaced_label text) ssrc (spaced_ok text was.0) (omega (arith, small, its)) in
    let new : List ℕ = label_block (shape_of form) (spaced_label text) ssrc in
    let there : take n (body_of new) ≡ spaced_label text = ap (λ (k : ℕ). take k (body_of new)) (sym long) ∙ back.1 in
    record {
      label = back.0 ∙ ap (λ (k : ℕ). Ok (block.Label form k ssrc)) long;
      text = there;
      none_left = ap retired_in there ∙ none_left text;
      taken = ap label_fault there ∙ spaced_taken text was.0;
      same = λ z. ap (λ (l : List ℕ). label_block (shape_of form) l ssrc) (spaced_same text z) ∙ sym was.2;
    }
