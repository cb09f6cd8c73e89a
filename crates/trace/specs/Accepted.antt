-- What an accepted block is: whatever a user of `block_of` may need to know, without looking into it again.
use Rattle.answers.specs.declared.Refusal.{Refusal}
use Rattle.std.specs.Prelude.{◌≡◌, ℕ, ◌*◌, ◌<◌, ◌≤◌, true, List, length, take, drop, Result, Ok, Err}
use Rattle.format.specs.Blocks.{block_bytes, body_at, body_bytes}
use Rattle.format.specs.Forms.{shape_of, width}
use Rattle.format.specs.declared.Form.{Form}
use Rattle.trace.specs.Layout.{record_at, body_of}
use Rattle.trace.specs.Contents.{every, is_zero, label_ok, count_ok, good_records}
use Rattle.trace.specs.Reading.{kind_in, count_in, ssrc_in, right_check}
use Rattle.trace.specs.declared.Block.{Block}
use Rattle.trace.specs.declared.Block.TheVariants.{Label, Arrivals}

-- a block of a kind with a count and an SSRC, whose contents are the first `used` bytes of its body
pub record Holds (b : List ℕ) (kind count ssrc used : ℕ) : Type 0 where
  pub whole : length b ≡ block_bytes
  pub right : right_check b ≡ true
  pub its_kind : kind_in b ≡ kind
  pub its_count : count_in b ≡ count
  pub its_ssrc : ssrc_in b ≡ ssrc
  pub room : used ≤ body_bytes
  pub long : length (take used (body_of b)) ≡ used
  pub place : take used (body_of b) ≡ take used (drop body_at b)
  pub unused : every is_zero (drop used (body_of b)) ≡ true

pub record HoldsLabel (b : List ℕ) (form : Form) (n ssrc : ℕ) : Type 0 where
  pub block : Holds b (shape_of form).label n ssrc n
  pub label : label_ok (take n (body_of b)) ≡ true

pub record HoldsArrivals (b : List ℕ) (form : Form) (n ssrc : ℕ) : Type 0 where
  pub block : Holds b (shape_of form).arrivals n ssrc (n * width (shape_of form))
  pub count : count_ok (shape_of form) n ≡ true
  pub least : 1 ≤ n
  pub most : n ≤ (shape_of form).most
  pub records : good_records (shape_of form) n (body_of b) ≡ true
  pub marks : (i : ℕ) → i < n → (record_at (shape_of form) (body_of b) (i * width (shape_of form))).mark ≤ 3

-- by what it reads as
abbrev pub Accepted : List ℕ → Result Block Refusal → Type 0
Accepted b (Ok (Label form n ssrc)) = HoldsLabel b form n ssrc
Accepted b (Ok (Arrivals form n ssrc)) = HoldsArrivals b form n ssrc
Accepted b (Err refusal) = Unit {0}
